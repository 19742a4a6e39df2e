-- The law, by what is decoded.
use Rattle.std.proofs.Common.{sym, ap, ◌∙◌}
use Rattle.bpf_asm.specs.Assembly.{assembly}
use Rattle.bpf_asm.proofs.Programs.{Decodes, program_listed, listed_program}
use Rattle.bpf_asm.proofs.RoundTrip.{program_assembles}
use Rattle.bpf_asm.specs.Listing.{listing}
use Rattle.bpf_asm.proofs.laws.disassembly_assembles.Goals as goal

pub returns-clause-program : goal.returns-clause-program
returns-clause-program c placed program =
    let decodes : Decodes c.args.code.now = record {
      stands = c.decoded_is_code.ensures.stands;
      inside = c.decoded_is_code.ensures.inside;
      only = c.decoded_is_code.ensures.only;
    } in
    (listing placed, program_listed c.args.code.now placed decodes program, program_assembles c.args.code.now placed program)

pub returns-clause-text : goal.returns-clause-text
returns-clause-text c text is =
    let decodes : Decodes c.args.code.now = record {
      stands = c.decoded_is_code.ensures.stands;
      inside = c.decoded_is_code.ensures.inside;
      only = c.decoded_is_code.ensures.only;
    } in
    let listed = listed_program c.args.code.now text decodes is in
    (ap assembly (sym listed.2) ∙ program_assembles c.args.code.now listed.0 listed.1, (listed.0, listed.1))

use Rattle.std.proofs.Common.{◌≡◌, ◌+◌, List, ℕ, Some, length, take, subst, ap, sym, ◌∙◌, arith}
use Rattle.std.proofs.lemmas.List.{take-take}
use Rattle.past_model.specs.Past.{graph_of}
use Rattle.bpf_model.specs.Run.{number_for}
use Rattle.map_model.specs.EdgeMap.{record_of, with_ends, input_record}
use Rattle.map_model.specs.declared.limits.TheConstants.{EDGE_BYTES}
use Rattle.verifier.specs.Walks.{longest}
use Rattle.bpf_runs.proofs.Ending.{table_beside}
use Rattle.edge_fold.specs.Inputs.{inputs_of, edge_bytes}
use Rattle.edge_fold.proofs.EndBytes.{front_of_record}
use Rattle.edge_fold.proofs.counted.run_edge_counted.Goals as goal

pub run_counted-requires : goal.run_counted-requires
run_counted-requires c = table_beside c.args.mapped.now.program.now.table c.args.memory.now.bytes c.prepare.new.memory.bytes c.prepare.ensures.rest c.requires.table

pub returns-clause-number : goal.returns-clause-number
returns-clause-number c =
    let p = c.args.mapped.now.program.now in
    let g = graph_of c.args.mapped.now.version.now in
    let e = c.args.edge in
    let inputs = inputs_of c.args.mapped.now in
    let record_is : take p.record_length c.prepare.new.memory.bytes ≡ input_record g e.source e.target e.place inputs =
    c.prepare.ensures.record ∙ ap (λ (n : ℕ). record_of e.source e.target e.place n (with_ends inputs.columns inputs.argument e.source e.target)) c.requires.degree in
    subst (λ (xs : List ℕ). number_for p (longest p) g xs ≡ Some c.run_counted.result.number) record_is c.run_counted.ensures.exit

pub returns-clause-kept : goal.returns-clause-kept
returns-clause-kept c = λ keeps.
    let m = c.args.mapped.now in
    let front = length m.argument.now + EDGE_BYTES in
    let whole : take m.program.now.record_length c.run_counted.new.memory.bytes ≡ edge_bytes c.args.edge (inputs_of m) =
    c.run_counted.ensures.kept keeps ∙ c.prepare.ensures.record in
    sym (take-take front m.program.now.record_length c.run_counted.new.memory.bytes (omega (arith, m.fits))) ∙ ap (take front) whole ∙ front_of_record c.args.edge (inputs_of m)

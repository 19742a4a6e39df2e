use Rattle.std.proofs.Common.{sym, ap, ◌∙◌, arith}
use Rattle.bpf_isa.specs.Encoding.{spelling}
use Rattle.bpf_asm.specs.Assembly.{spelling_of}
use Rattle.bpf_asm.proofs.CodeOfLines.{goes_bytes, unless}
use Rattle.bpf_asm.proofs.reading.coding.put_item.Goals as goal

pub returns-in-Err-jump_instruction : goal.returns-in-Err-jump_instruction
returns-in-Err-jump_instruction c = λ all places.
    let bytes = goes_bytes all c.args.pc c.in-Goes.jumping c.in-Goes.name.now c.place_of.result c.jump_instruction.result (c.place_of.ensures ∙ places c.in-Goes.name.now) c.jump_instruction.ensures.exact in
    unless c.in-Err-jump_instruction.cause _ (rw c.in-Goes.is (sym bytes ∙ ap spelling_of c.in-Err-jump_instruction.is))

pub returns-in-Ok-put_instruction : goal.returns-in-Ok-put_instruction
returns-in-Ok-put_instruction c = λ all places.
    let bytes = goes_bytes all c.args.pc c.in-Goes.jumping c.in-Goes.name.now c.place_of.result c.jump_instruction.result (c.place_of.ensures ∙ places c.in-Goes.name.now) c.jump_instruction.ensures.exact in
    record {
      bytes = spelling c.in-Ok-jump_instruction.instruction;
      spelled = (rw c.in-Goes.is (sym bytes ∙ ap spelling_of c.in-Ok-jump_instruction.is));
      written = c.in-Ok-put_instruction.ensures.0;
      ends = (rw c.in-Goes.is (omega (arith, c.in-Ok-put_instruction.ensures.1, c.in-Ok-jump_instruction.ensures.one)));
    }

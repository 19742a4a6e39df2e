use Rattle.std.proofs.Common.{◌+◌, List, sym, ap, ◌∙◌, arith, map, drop}
use Rattle.bpf_asm.specs.Assembly.{code_from}
use Rattle.bpf_asm.specs.Statements.{Item}
use Rattle.bpf_asm.specs.Said.{said_item}
use Rattle.bpf_asm.proofs.CodeOfLines.{behind_code, written_one, next_small, one_line}
use Rattle.bpf_asm.proofs.reading.coding.code_of_lines.Goals as goal

pub loop-index-preserved : goal.loop-index-preserved
loop-index-preserved c =
    let w = c.in-Ok.ensures (map said_item c.args.items.now) c.requires in
    let line = one_line c.args.items.now c.loop-index.index _ c.loop-index-test.true in
    let one = written_one (map said_item c.args.items.now) c.loop-index.pc (c.loop-index.index + 1) _ (map said_item (drop (c.loop-index.index + 1) c.args.items.now)) _ _ c.in-Ok.next w in
    let small = next_small _ c.loop-index.pc _ _ _ c.in-Ok.next w in
    record {
      same = one ∙ sym (ap (λ (lines : List Item). behind_code c.loop-index.code.items (code_from (map said_item c.args.items.now) (c.loop-index.index + 1) c.loop-index.pc lines)) line) ∙ c.loop-index.invariant.same;
      small = omega (arith, small);
    }

use Rattle.std.proofs.Common.{◌≡◌, ◌≤◌, ◌+◌, ◌*◌, map, drop}
use Rattle.bpf_asm.specs.Assembly.{code_from}
use Rattle.bpf_asm.specs.Said.{said_item}
use Rattle.bpf_asm.proofs.CodeOfLines.{behind_code}
use Rattle.bpf_asm.proofs.reading.coding.code_of_lines.Given as goal

-- the code so far, and that of the lines that are left
abbrev pub invariant-loop-index : goal.invariant-loop-index
invariant-loop-index l = record {
  same : behind_code l.code.items (code_from (map said_item l.items) (l.index + 1) l.pc (map said_item (drop l.index l.items))) ≡ code_from (map said_item l.items) 1 0 (map said_item l.items);
  small : l.pc ≤ 2 * l.index;
}

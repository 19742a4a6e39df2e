use Rattle.std.proofs.Common.{◌≡◌, length}
use Rattle.std.specs.Prelude.{is_some}
use Rattle.bpf_asm.specs.Lexing.{all_arguments, parts}
use Rattle.bpf_asm.proofs.reading.statement_arguments.are_arguments.Given as goal

abbrev pub invariant-loop-rest : goal.invariant-loop-rest
invariant-loop-rest l = is_some (all_arguments (parts 44 l.left)) ≡ is_some (all_arguments (parts 44 l.text))

abbrev pub decreases-loop-rest : goal.decreases-loop-rest
decreases-loop-rest l = length l.left

use Rattle.std.proofs.Common.{◌≡◌, ℕ, ◌<◌, ◌≤◌, length, get_or, None}
use Rattle.bpf_machine.proofs.stack.all_of.Given as goal
use Rattle.bpf_machine.specs.declared.stack.TheConstants.{STACK_BYTES}

abbrev pub invariant-loop-k : goal.invariant-loop-k
invariant-loop-k l = record {
  long : length l.cells ≡ STACK_BYTES;
  copied : (i : ℕ) → i < l.k → get_or l.cells i None ≡ get_or l.first i None;
  rest : (i : ℕ) → l.k ≤ i → get_or l.cells i None ≡ None;
}

use Rattle.std.proofs.Common.{◌≡◌, ℕ, ◌<◌, false, get_or}
use Rattle.bpf_asm.specs.Lexing.{is_sign}
use Rattle.bpf_asm.proofs.reading.argument.position_of_sign.Given as goal

abbrev pub invariant-loop-at : goal.invariant-loop-at
invariant-loop-at l = (k : ℕ) → k < l.at → is_sign (get_or l.text k 0) ≡ false

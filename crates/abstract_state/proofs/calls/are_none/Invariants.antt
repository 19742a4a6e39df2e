use Rattle.std.proofs.Common.{◌≡◌, ℕ, ◌<◌, None, length, get_or}
use Rattle.abstract_state.proofs.calls.are_none.Given as goal

abbrev pub invariant-loop-i : goal.invariant-loop-i
invariant-loop-i l = (length l.places ≡ 7) × ((j : ℕ) → j < l.i → get_or l.places j None ≡ None)

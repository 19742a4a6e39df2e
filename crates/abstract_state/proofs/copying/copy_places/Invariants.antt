use Rattle.std.proofs.Common.{◌≡◌, length}
use Rattle.abstract_state.proofs.Places.{SameBelow}
use Rattle.abstract_state.proofs.copying.copy_places.Given as goal

abbrev pub invariant-loop-i : goal.invariant-loop-i
invariant-loop-i l = (length l.copy ≡ 7) × (length l.places ≡ 7) × SameBelow l.copy l.places l.i

use Rattle.std.proofs.Common.{◌≡◌, ◌++◌, length, map, take, drop}
use Rattle.abstract_values.specs.Values.{join_of}
use Rattle.abstract_state.specs.States.{elementwise, join_if_live}
use Rattle.abstract_state.specs.Called.{frame_called, kept_by}
use Rattle.abstract_state.proofs.joining.join_places.Given as goal

abbrev pub invariant-loop-i : goal.invariant-loop-i
invariant-loop-i l =
    (length l.called ≡ 7)
    × (take l.i (map frame_called l.called) ++ elementwise join_if_live (drop l.i (map frame_called l.called)) (drop l.i (map frame_called l.others)) ≡ elementwise join_if_live (map frame_called l.fn.called) (map frame_called l.others))
    × (take l.i (map kept_by l.called) ++ elementwise (elementwise join_of) (drop l.i (map kept_by l.called)) (drop l.i (map kept_by l.others)) ≡ elementwise (elementwise join_of) (map kept_by l.fn.called) (map kept_by l.others))

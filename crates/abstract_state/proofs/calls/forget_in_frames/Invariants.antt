use Rattle.std.proofs.Common.{◌≡◌, ◌++◌, length, map, take, drop}
use Rattle.abstract_state.specs.States.{without_pointers}
use Rattle.abstract_state.specs.Called.{frame_called, kept_by}
use Rattle.abstract_state.proofs.calls.forget_in_frames.Given as goal

abbrev pub invariant-loop-i : goal.invariant-loop-i
invariant-loop-i l =
    (length l.called ≡ 7) × (take l.i (map frame_called l.called) ++ map (without_pointers l.dropped) (drop l.i (map frame_called l.called)) ≡ map (without_pointers l.dropped) (map frame_called l.fn.called))
    × (map kept_by l.called ≡ map kept_by l.fn.called)

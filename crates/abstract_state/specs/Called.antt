-- What a state keeps of the frame of a called function.
use Rattle.std.specs.Prelude.{List, Option, Some, None, replicate}
use Rattle.std.specs.Global.{Box}
use Rattle.abstract_values.specs.declared.value.AbstractValue.{AbstractValue}
use Rattle.abstract_state.specs.declared.state.Called.{Called}
use Rattle.abstract_state.specs.declared.state.Callees.{Callees}
use Rattle.abstract_state.specs.declared.state.Frame.{Frame}
use Rattle.abstract_state.specs.States.{most_callers, nothing_kept}

-- the frame, if it is live
abbrev pub frame_called : Option (Box Called) → Option Frame
frame_called None = None
frame_called (Some b) = Some b.value.frame

-- R6 to R9 of its caller
abbrev pub kept_by : Option (Box Called) → List AbstractValue
kept_by None = nothing_kept
kept_by (Some b) = b.value.kept

-- the frames of called functions; there is no table of them before the first call
abbrev pub places_of : Option (Box Callees) → List (Option (Box Called))
places_of None = replicate most_callers None
places_of (Some b) = b.value.places

-- Laws of the equations. Each is the contract of a public function.
use Rattle.std.specs.Prelude.{◌≡◌, ℕ, ◌<◌, ◌≤◌, length, Some, None}
use Rattle.bpf_image.specs.Program.{Program, units, lengths_of}
use Rattle.bpf_model.specs.State.{State, frame_top, live_frames, most_frames}
use Rattle.abstract_state.specs.declared.state.Frame.{Frame}
use Rattle.abstract_state.specs.States.{AbstractState, frame_of}
use Rattle.abstract_state.specs.Described.{DescribesFrame}
use Rattle.verifier.specs.Equations.{Assignment, Calls, Passage, IsAssignment, states}
use Rattle.verifier.specs.Sound.{Stands}

-- what is assigned solves the equations of a passage, whatever comes of its calls
abbrev pub AssignedSolves : Type 0
AssignedSolves = (p : Program) (calls : Calls) (v : Passage) → IsAssignment p calls v (states p calls v)

-- and nothing else does
abbrev pub OneSolution : Type 0
OneSolution =
    (p : Program) (calls : Calls) (v : Passage) (a : Assignment)
    → IsAssignment p calls v a → (q : ℕ) → q < units p → a q ≡ states p calls v q

-- so many frames are known in a state, those from frame 0 on, and no other
pub record HasFrames (live : ℕ) (s : AbstractState) : Type 0 where
  pub places : length s.frames ≡ most_frames
  pub each : (k : ℕ) → k < live → (f : Frame) × (frame_of s k ≡ Some f)
  pub no_other : (k : ℕ) → live ≤ k → frame_of s k ≡ None

-- where a run stands, what is known there has a frame for each that is live, and no other
abbrev pub FramesAreLive : Type 0
FramesAreLive = (p : Program) (k : ℕ) (s : State) (stands : Stands p k s) → HasFrames (live_frames s) stands.abstract_state

-- and it describes each of them
abbrev pub FramesAreDescribed : Type 0
FramesAreDescribed =
    (p : Program) (k : ℕ) (s : State) (stands : Stands p k s) (frame : ℕ) → frame < live_frames s
    → (f : Frame) × (frame_of stands.abstract_state frame ≡ Some f)
    × DescribesFrame (lengths_of p) (live_frames s) (frame_top frame) f s.memory

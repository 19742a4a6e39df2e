-- What is known of a state describes it, and the ways onward describe what a step leads to.
use Rattle.std.specs.Prelude.{◌≡◌, ℕ, ◌<◌, List, [], ◌∷◌, length, Some, ◌⊎◌, ℤ}
use Rattle.bpf_isa.specs.declared.instruction.Instruction.{Instruction}
use Rattle.bpf_isa.specs.declared.instruction.Instruction.TheVariants.{CallLocal, Exit}
use Rattle.bpf_image.specs.declared.lengths.Lengths.{Lengths}
use Rattle.bpf_model.specs.State.{Saved, State, frame_top, live_frames, most_frames}
use Rattle.bpf_model.specs.Calls.{enter, return_to}
use Rattle.bpf_model.specs.Step.{Next, Goes, Exits}
use Rattle.abstract_state.specs.States.{AbstractState, callee_state, left_state}
use Rattle.abstract_state.specs.Described.{DescribesParts, DescribesKept}
use Rattle.verifier.specs.Rules.{Ways}

-- the top of a function's frame, by those that wait for it
abbrev pub top_above : List Saved → ℕ
top_above callers = frame_top (length callers)

-- a state in some frame: its registers, the bytes of every live frame, and R6 to R9 of all who wait. R10 is the top of
-- the frame.
pub record DescribesState (lengths : Lengths) (a : AbstractState) (s : State) : Type 0 where
  pub parts : DescribesParts lengths (live_frames s) a s.registers s.memory
  pub kept : DescribesKept lengths a.kept s.callers
  pub frame_register : s.registers 10 ≡ Some (top_above s.callers)
  pub few_callers : length s.callers < most_frames

-- it is one of the ways
abbrev pub IsWay : ℤ × AbstractState → Ways → Type 0
IsWay w [] = ⊥
IsWay w (v ∷ ws) = (w ≡ v) ⊎ IsWay w ws

-- What a step of an instruction leads to, from a state that is described. It does not trap.
pub data Follows (lengths : Lengths) (i : Instruction) (a : AbstractState) (s : State) (ws : Ways) : Next → Type 0 where
  -- it goes on by one of the ways, as it is known there, in the same function
  stays : {t : State} → (w : ℤ × AbstractState) → IsWay w ws → t.pc ≡ w.0 → DescribesState lengths w.1 t → t.callers ≡ s.callers
      → Follows lengths i a s ws (Goes t)
  -- it enters a function, as it is known where that begins
  enters : (distance : ℤ) → i ≡ CallLocal distance → DescribesState lengths (callee_state (length s.callers) a) (enter s distance)
      → Follows lengths i a s ws (Goes (enter s distance))
  -- it returns to the last caller, as it is known after the exit
  returns : (caller : Saved) → (callers : List Saved) → (result : ℕ) → i ≡ Exit → s.callers ≡ caller ∷ callers
      → DescribesState lengths (left_state (length callers) a) (return_to s caller callers result)
      → Follows lengths i a s ws (Goes (return_to s caller callers result))
  -- no caller waits, and the run ends
  exits : (result : ℕ) → i ≡ Exit → s.callers ≡ [] → Follows lengths i a s ws (Exits result)

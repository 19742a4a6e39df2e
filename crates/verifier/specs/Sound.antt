-- A program that was accepted never goes wrong, on whatever graph: every state that a run of it reaches is described by
-- what is known at its pc in the passage that the run is in, with all its callers and their frames; no step traps; and the
-- run exits within the bound.
use Rattle.std.specs.Prelude.{◌≡◌, ℕ, ◌+◌, ◌<◌, ◌≤◌, ℤ, pos, unsigned_abs, List, [], ◌∷◌, length, Some, None, slice_index}
use Rattle.bpf_image.specs.Program.{Program, units, IsImage, lengths_of}
use Rattle.graph_model.specs.Graph.{Graph}
use Rattle.bpf_model.specs.Helpers.{IsView}
use Rattle.bpf_model.specs.State.{Saved, State, most_frames, start}
use Rattle.bpf_model.specs.Step.{Next, Goes, Exits, Traps}
use Rattle.bpf_model.specs.Run.{after}
use Rattle.bpf_isa.specs.declared.instruction.Instruction.{Instruction}
use Rattle.bpf_isa.specs.declared.instruction.Instruction.TheVariants.{CallLocal}
use Rattle.abstract_state.specs.States.{AbstractState}
use Rattle.verifier.specs.Described.{DescribesState}
use Rattle.verifier.specs.Listing.{instruction_at}
use Rattle.verifier.specs.Equations.{Passage, main_passage, opening, calls_of, states, first_refusal}
use Rattle.verifier.specs.Walks.{IsLongest, IsDeepest, longest, deepest, count_from, frames_from}
use Rattle.verifier.specs.Verdict.{verdict, Accepted, most_counted}

-- no rule is broken in a passage
abbrev pub BreaksNone : Program → Passage → Type 0
BreaksNone p v = first_refusal p (calls_of p v) v (units p) ≡ None

-- a passage was opened by a call in another one, after which a caller waits; the frames from there on fit
pub record Opened (p : Program) (v outer : Passage) (caller : Saved) : Type 0 where
  pub place : ℕ
  pub distance : ℤ
  pub found : instruction_at p place ≡ Some (CallLocal distance)
  pub returns : caller.return_pc ≡ pos (place + 1)
  pub abstract_state : AbstractState
  pub walked : states p (calls_of p outer) outer place ≡ Some abstract_state
  pub opens : opening outer place (CallLocal distance) abstract_state ≡ Some v
  pub frames : outer.frame + frames_from p (place + 1) ≤ deepest p

-- a run is in a passage, which breaks no rule: that of the whole program where nobody waits, and else one that the last
-- caller opened, from a passage that the run is in with the callers below
abbrev pub IsIn : Program → Passage → List Saved → Type 0
IsIn p v [] = (v ≡ main_passage p) × BreaksNone p v
IsIn p v (caller ∷ callers) =
    (outer : Passage) × Opened p v outer caller × (v.frame ≡ length (caller ∷ callers)) × BreaksNone p v × IsIn p outer callers

-- the counts from all the places to which a run will return
abbrev pub count_behind : Program → List Saved → ℕ
count_behind p [] = 0
count_behind p (caller ∷ callers) = count_from p (unsigned_abs caller.return_pc) + count_behind p callers

-- after k steps the run stands at an instruction, as known there in the passage that it is in; a walk from there, and
-- from each of the places to return to, fits in the bound; and so do its frames
pub record Stands (p : Program) (k : ℕ) (s : State) : Type 0 where
  pub passage : Passage
  pub place : ℕ
  pub pc : s.pc ≡ pos place
  pub inside : place < units p
  pub instruction : Instruction
  pub found : instruction_at p place ≡ Some instruction
  pub abstract_state : AbstractState
  pub walked : states p (calls_of p passage) passage place ≡ Some abstract_state
  pub described : DescribesState (lengths_of p) abstract_state s
  pub within : IsIn p passage s.callers
  pub steps : k + (count_from p place + count_behind p s.callers) ≤ longest p
  pub frames : length s.callers + frames_from p place ≤ deepest p

-- after so many steps a run stands at a place that is described, or it has exited: it has not trapped
abbrev pub IsFine : Program → ℕ → Next → Type 0
IsFine p k (Goes s) = Stands p k s
IsFine p k (Exits v) = Unit {0}
IsFine p k (Traps kind pc) = ⊥

-- the bytes of a record of the program's length
pub record IsRecord (p : Program) (bytes : List ℕ) : Type 0 where
  pub same_length : length bytes ≡ p.record_length
  pub are_bytes : (i : ℕ) → slice_index bytes i < 256

abbrev pub NeverGoesWrong : Program → Type 0
NeverGoesWrong p = (g : Graph) (bytes : List ℕ) → IsView g → IsRecord p bytes → (k : ℕ) → IsFine p k (after p g k (start p bytes))

-- every run exits within the bound
abbrev pub AlwaysExits : Program → Type 0
AlwaysExits p = (g : Graph) (bytes : List ℕ) → IsView g → IsRecord p bytes → (v : ℕ) × (after p g (longest p) (start p bytes) ≡ Exits v)

-- what an accepted program keeps
pub record IsVerified (p : Program) (bound frames : ℕ) : Type 0 where
  pub image : IsImage p
  pub accepted : verdict p ≡ Accepted bound frames
  pub is_longest : bound ≡ longest p
  pub few : bound ≤ most_counted
  pub few_frames : frames ≤ most_frames
  pub longest_walk : IsLongest p 0 bound
  pub deepest_nest : IsDeepest p 0 frames
  pub sound : NeverGoesWrong p
  pub exits : AlwaysExits p

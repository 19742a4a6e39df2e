-- What the code's tables stand for.
use Rattle.std.specs.Prelude.{◌≡◌, ℕ, ◌+◌, ◌<◌, ◌≤◌, min, ℤ, pos, unsigned_abs, Bool, false, List, length, Option, Some, None, slice_index_or, slice_set}
use Rattle.bpf_isa.specs.declared.instruction.Instruction.{Instruction}
use Rattle.bpf_isa.specs.declared.instruction.Instruction.TheVariants.{CallLocal}
use Rattle.bpf_image.specs.Program.{Program, units}
use Rattle.abstract_state.specs.States.{AbstractState, most_callers, callee_state}
use Rattle.verifier.specs.Rules.{Ways, target}
use Rattle.verifier.specs.Described.{IsWay}
use Rattle.bpf_model.specs.State.{most_frames}
use Rattle.verifier.specs.declared.passage.Passage.{Passage as CodePassage}
use Rattle.verifier.specs.declared.weights.Measure.{Measure}
use Rattle.verifier.specs.declared.weights.Measure.TheVariants.{Instructions, Frames, Pairs}
use Rattle.verifier.specs.Functions.{is_entry, function_end}
use Rattle.verifier.specs.Listing.{instruction_at}
use Rattle.verifier.specs.Walks.{IsOneOf, Successors, next_pcs, following_below, following, is_call, count_rule, frame_rule, weight_from}
use Rattle.verifier.specs.Equations.{Passage, Calls, passage_at, arrivals, first_refusal, exit_state}
use Rattle.verifier.specs.Verdict.{most_counted, most_pairs}

-- what is known at each pc, where it is
abbrev pub Table : Type 0
Table = List (Option AbstractState)

-- what a table of states has at a pc
abbrev pub state_at : Table → ℕ → Option AbstractState
state_at states q = slice_index_or states q None

-- a passage of the code, as the equations have it
abbrev pub passage_of : CodePassage → Passage
passage_of v = passage_at v.entry v.frame v.known

-- whether what starts somewhere is a call of a function of the program
abbrev pub calls_one : Option Instruction → Bool
calls_one None = false
calls_one (Some i) = is_call i

-- the whole code is one function
abbrev pub HasOneFunction : Program → Type 0
HasOneFunction p = (pc : ℕ) → calls_one (instruction_at p pc) ≡ false

-- a table of whether a function begins at each pc
abbrev pub HasEntries : Program → List Bool → Type 0
HasEntries p entries =
    (length entries ≡ units p) × ((q : ℕ) → q < units p → slice_index_or entries q false ≡ is_entry p q)

-- a table of where each pc's function ends
abbrev pub HasEnds : Program → List ℕ → Type 0
HasEnds p ends = (length ends ≡ units p) × ((q : ℕ) → q < units p → slice_index_or ends q 0 ≡ function_end p q)

-- what a pass weighs instructions by
abbrev pub rule_of : Measure → ℕ → ℕ → ℕ
rule_of Instructions = count_rule
rule_of Frames = frame_rule
rule_of Pairs = count_rule

-- what comes after an instruction for a pass
abbrev pub successors : Measure → Program → Successors
successors Instructions p = next_pcs
successors Frames p = next_pcs
successors Pairs p = following p

-- the same in a function that ends at an end
abbrev pub successors_below : Measure → (end : ℕ) → Successors
successors_below Instructions end = next_pcs
successors_below Frames end = next_pcs
successors_below Pairs end = following_below end

-- weights of so much and more count as one
abbrev pub ceiling : Measure → ℕ
ceiling Instructions = most_counted + 1
ceiling Frames = most_frames + 1
ceiling Pairs = most_pairs + 1

-- what a table of weights has of a pc
abbrev pub capped_weight : Measure → Program → ℕ → ℕ
capped_weight m p pc = min (weight_from (rule_of m) (successors m p) p pc) (ceiling m)

-- all ways lead to pcs below an end
abbrev pub LeadInside : ℕ → Ways → Type 0
LeadInside end ws = (w : ℤ × AbstractState) → IsWay w ws → (q : ℕ) × (w.0 ≡ pos q) × (q < end)

-- of a passage the pcs below n are gone through and broke no rule: a table has what has come from them to those from n on,
-- nothing after the last to which something has come, and below the passage's entry what it had; and what the exits left
-- is kept
pub record IsGoneTo (p : Program) (calls : Calls) (v : Passage) (old : Table) (n last : ℕ) (states : Table) (exits : Option AbstractState) : Type 0 where
  pub fine : first_refusal p calls v n ≡ None
  pub same_length : length states ≡ units p
  pub come_to : (q : ℕ) → n ≤ q → q < units p → state_at states q ≡ arrivals p calls v n q
  pub nothing_behind : (q : ℕ) → last < q → state_at states q ≡ None
  pub below : (q : ℕ) → q < v.entry → state_at states q ≡ state_at old q
  pub gone : (q : ℕ) → v.entry ≤ q → q < n → state_at states q ≡ None
  pub left : exits ≡ exit_state p calls v n

-- an instruction leads no further than some pc
abbrev pub Reaches : Program → ℕ → ℕ → Type 0
Reaches p pc further =
    (i : Instruction) → instruction_at p pc ≡ Some i → (q : ℕ) → IsOneOf (pos q) (next_pcs i pc) → q ≤ further

-- a passage has come to a call: the function that is called begins there, as is known; the call's own state was taken from
-- the table
pub record IsAtCall (p : Program) (calls : Calls) (v : Passage) (old : Table) (n last : ℕ) (states : Table) (exits : Option AbstractState) (entry : ℕ) (known : AbstractState) : Type 0 where
  pub deep : v.frame < most_callers
  pub distance : ℤ
  pub found : instruction_at p n ≡ Some (CallLocal distance)
  pub state : AbstractState
  pub walked : arrivals p calls v n n ≡ Some state
  pub begins : entry ≡ unsigned_abs (target n distance)
  pub knows : known ≡ callee_state v.frame state
  pub before : Table
  pub gone_to : IsGoneTo p calls v old n last before exits
  pub taken : (q : ℕ) → state_at states q ≡ state_at (slice_set before n None) q
  pub long : length states ≡ length before

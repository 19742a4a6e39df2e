-- What is known at the pcs of a program, as it is listed for a person.
use Rattle.std.specs.Prelude.{◌≡◌, ℕ, ◌+◌, ◌<◌, ◌≤◌, ◌&&◌, ℤ, Bool, false, true, List, [], ◌∷◌, length, Option, Some, None, Err, is_none}
use Rattle.bpf_isa.specs.declared.instruction.Instruction.TheVariants.{CallLocal}
use Rattle.bpf_image.specs.Program.{Program, units}
use Rattle.abstract_state.specs.States.{AbstractState, most_callers}
use Rattle.verifier.specs.declared.refusal.Refusal.{Refusal}
use Rattle.verifier.specs.declared.known.KnownPassage.{KnownPassage}
use Rattle.verifier.specs.Listing.{instruction_at}
use Rattle.verifier.specs.Functions.{function_end}
use Rattle.verifier.specs.Equations.{Passage, main_passage, opening, calls_of, states, refusal_at, first_refusal, outcome}
use Rattle.verifier.specs.Tables.{state_at}
use Rattle.verifier.specs.Verdict.{first_fault, decoding_fault, flow_fault, pairs_fault, rule_refusal}

-- the code decodes, and its jumps and calls land where they may: so there are ways to walk, and not too many; frames and bound are not asked
abbrev pub is_walkable : Program → Bool
is_walkable p = is_none (first_fault (decoding_fault p) (units p)) && is_none (first_fault (flow_fault p) (units p)) && is_none (pairs_fault p)

-- what is listed of a passage: what is known at each of its pcs, up to the last that was gone over
pub record IsKnownOf (p : Program) (v : Passage) (t : KnownPassage) : Type 0 where
  pub entry : t.entry ≡ v.entry
  pub same_length : length t.states.items ≡ units p
  pub known : (q : ℕ) → v.entry ≤ q → q ≤ t.last → state_at t.states.items q ≡ states p (calls_of p v) v q

-- no rule is broken below a pc of a passage, and one is by the instruction there
pub record IsBrokenAt (p : Program) (v : Passage) (pc : ℕ) (r : Refusal) : Type 0 where
  pub fine : first_refusal p (calls_of p v) v pc ≡ None
  pub broken : refusal_at p (calls_of p v) v pc (instruction_at p pc) (states p (calls_of p v) v pc) ≡ Some r
  pub here : r.pc ≡ pc

-- no rule is broken below a pc of a passage, and the call there opens another one
pub record IsOpenAt (p : Program) (v : Passage) (pc : ℕ) (w : Passage) : Type 0 where
  pub fine : first_refusal p (calls_of p v) v pc ≡ None
  pub distance : ℤ
  pub found : instruction_at p pc ≡ Some (CallLocal distance)
  pub state : AbstractState
  pub walked : states p (calls_of p v) v pc ≡ Some state
  pub opens : opening v pc (CallLocal distance) state ≡ Some w

-- a passage was gone over up to a pc: its last one, if it breaks no rule, and else the one that breaks the rule
abbrev pub IsDoneAt : Program → Passage → ℕ → Option Refusal → Type 0
IsDoneAt p v pc None = (first_refusal p (calls_of p v) v (units p) ≡ None) × (function_end p v.entry ≡ pc + 1)
IsDoneAt p v pc (Some r) = IsBrokenAt p v pc r

-- of the passages that are open where a rule is broken each is listed, each one after that which calls it; where none is
-- broken there is no other passage
abbrev pub ListsWithin : Program → Passage → ℕ → Option Refusal → List KnownPassage → Type 0
ListsWithin p v pc r [] = IsDoneAt p v pc r
ListsWithin p v pc None (t ∷ ts) = ⊥
ListsWithin p v pc (Some r) (t ∷ ts) = (w : Passage) × IsOpenAt p v pc w × IsKnownOf p w t × ListsWithin p w t.last (Some r) ts

abbrev pub Lists : Program → Passage → Option Refusal → List KnownPassage → Type 0
Lists p v r [] = ⊥
Lists p v r (t ∷ ts) = IsKnownOf p v t × ListsWithin p v t.last r ts

-- of a program that can be walked the main passage is listed, and those within it that are open where the first rule is
-- broken, which breaks it by the instruction at the last pc listed; of any other program nothing is listed
pub record IsKnown (p : Program) (passages : List KnownPassage) : Type 0 where
  pub nothing : is_walkable p ≡ false → passages ≡ []
  pub listed : is_walkable p ≡ true → Lists p (main_passage p) (rule_refusal p) passages

-- for the code: a function that is called at a pc of a passage breaks a rule
pub record IsBrokenBy (p : Program) (v : Passage) (pc : ℕ) (w : Passage) : Type 0 where
  pub opens : IsOpenAt p v pc w
  pub deep : v.frame < most_callers
  pub inside : pc < units p
  pub begins : w.entry < units p
  pub refusal : Refusal
  pub breaks : outcome p (calls_of p w) w ≡ Err refusal

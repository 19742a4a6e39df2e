-- What is known at each pc of a function that is gone through, as equations: at its entry it is what is known there, and
-- at any other pc the join of what comes by the walked ways into it. Each call is gone through by itself, from what is
-- known at it, and after it is known the join of what its walked exits leave.
use Rattle.std.specs.Prelude.{◌≡◌, ℕ, zero, suc, ◌+◌, ◌-◌, ◌<◌, ◌==◌, if◌then◌else◌, pos, unsigned_abs, [], ◌∷◌, ◌++◌, Option, Some, None, Result, Ok, Err}
use Rattle.std.specs.Ordering.{int_eq}
use Rattle.std.specs.Option.{option_or}
use Rattle.bpf_isa.specs.declared.instruction.Instruction.{Instruction}
use Rattle.bpf_isa.specs.declared.instruction.Instruction.TheVariants.{CallLocal, Exit}
use Rattle.bpf_image.specs.Program.{Program, units, lengths_of}
use Rattle.bpf_model.specs.declared.cause.Cause.{Cause}
use Rattle.abstract_state.specs.States.{AbstractState, most_callers, entry_state, join_of_states, callee_state, left_state}
use Rattle.verifier.specs.declared.refusal.Refusal.{Refusal}
use Rattle.verifier.specs.Rules.{Ways, onward, target, transfer}
use Rattle.verifier.specs.Listing.{instruction_at}

-- a function that is gone through: where it begins, in which frame it runs, and what is known where it begins
pub record Passage : Type 0 where
  pub entry : ℕ
  pub frame : ℕ
  pub known : AbstractState

abbrev pub passage_at : ℕ → ℕ → AbstractState → Passage
passage_at entry frame known = record { entry = entry; frame = frame; known = known }

-- the whole program is gone through as one
abbrev pub main_passage : Program → Passage
main_passage p = record { entry = 0; frame = 0; known = entry_state (lengths_of p) }

-- the passage that an instruction at a pc opens, if it is a call
abbrev pub opening : Passage → ℕ → Instruction → AbstractState → Option Passage
opening v pc (CallLocal distance) s =
    Some (record { entry = unsigned_abs (target pc distance); frame = suc v.frame; known = callee_state v.frame s })
opening v pc i s = None

-- what comes of a passage: the first broken rule, or what is known after its exits, if one is walked
abbrev pub Outcome : Type 0
Outcome = Result (Option AbstractState) Refusal

-- what comes of every passage that a call may open
abbrev pub Calls : Type 0
Calls = Passage → Outcome

abbrev pub outcome_at : Calls → Option Passage → Outcome
outcome_at calls None = Ok None
outcome_at calls (Some v) = calls v

-- ---- ways

-- what is known by one way more
abbrev pub joined_with : Option AbstractState → AbstractState → Option AbstractState
joined_with None t = Some t
joined_with (Some s) t = Some (join_of_states s t)

-- what is known at a pc by some ways more, of those that lead to it
abbrev pub joined_ways : Option AbstractState → Ways → ℕ → Option AbstractState
joined_ways known [] q = known
joined_ways known (w ∷ ws) q = joined_ways (if int_eq w.0 (pos q) then joined_with known w.1 else known) ws q

abbrev pub ways_of : Result Ways Cause → Ways
ways_of (Ok ws) = ws
ways_of (Err cause) = []

-- the way after a call
abbrev pub ways_after : ℕ → Outcome → Ways
ways_after pc (Ok (Some s)) = onward (pc + 1) s
ways_after pc (Ok None) = []
ways_after pc (Err refusal) = []

-- the walked ways from a pc of a passage
abbrev pub known_ways : Program → Calls → Passage → ℕ → Option Instruction → Option AbstractState → Ways
known_ways p calls v pc (Some i) (Some s) =
    ways_of (transfer (lengths_of p) pc i s) ++ ways_after pc (outcome_at calls (opening v pc i s))
known_ways p calls v pc None s = []
known_ways p calls v pc (Some i) None = []

-- ---- equations

-- what is known at each pc, where it is walked
abbrev pub Assignment : Type 0
Assignment = ℕ → Option AbstractState

-- what is known where a passage begins
abbrev pub first_known : Passage → ℕ → Option AbstractState
first_known v q = if q == v.entry then Some v.known else None

-- what comes to pc q from the entry and from the pcs below n
abbrev pub incoming_state : Program → Calls → Passage → Assignment → ℕ → ℕ → Option AbstractState
incoming_state p calls v a zero q = first_known v q
incoming_state p calls v a (suc n) q =
    joined_ways (incoming_state p calls v a n q) (known_ways p calls v n (instruction_at p n) (a n)) q

-- the equations
abbrev pub IsAssignment : Program → Calls → Passage → Assignment → Type 0
IsAssignment p calls v a = (q : ℕ) → q < units p → a q ≡ incoming_state p calls v a q q

-- their one solution, as all ways lead upward: what has come to each pc from the pcs below n
abbrev pub arrivals : Program → Calls → Passage → ℕ → ℕ → Option AbstractState
arrivals p calls v zero q = first_known v q
arrivals p calls v (suc n) q =
    joined_ways (arrivals p calls v n q) (known_ways p calls v n (instruction_at p n) (arrivals p calls v n n)) q

abbrev pub states : Program → Calls → Passage → Assignment
states p calls v q = arrivals p calls v q q

-- ---- what comes of a passage

abbrev pub refused : ℕ → Result Ways Cause → Option Refusal
refused pc (Ok ws) = None
refused pc (Err cause) = Some (record { cause = cause; pc = pc })

abbrev pub refused_within : Outcome → Option Refusal
refused_within (Ok s) = None
refused_within (Err refusal) = Some refusal

-- the rule that is broken at a pc, or in a function that is called there
abbrev pub refusal_at : Program → Calls → Passage → ℕ → Option Instruction → Option AbstractState → Option Refusal
refusal_at p calls v pc (Some i) (Some s) =
    option_or (refused pc (transfer (lengths_of p) pc i s)) (refused_within (outcome_at calls (opening v pc i s)))
refusal_at p calls v pc None s = None
refusal_at p calls v pc (Some i) None = None

-- the first one, pc by pc
abbrev pub first_refusal : Program → Calls → Passage → ℕ → Option Refusal
first_refusal p calls v zero = None
first_refusal p calls v (suc n) =
    option_or (first_refusal p calls v n) (refusal_at p calls v n (instruction_at p n) (states p calls v n))

-- what an exit of the function of a frame leaves; the program itself ends there, and leaves nothing
abbrev pub left_by : ℕ → Option AbstractState → AbstractState → Option AbstractState
left_by zero known s = known
left_by (suc caller) known s = joined_with known (left_state caller s)

abbrev pub joined_exit : Passage → Option AbstractState → Option Instruction → Option AbstractState → Option AbstractState
joined_exit v known (Some Exit) (Some s) = left_by v.frame known s
joined_exit v known i s = known

-- what the exits below pc n leave
abbrev pub exit_state : Program → Calls → Passage → ℕ → Option AbstractState
exit_state p calls v zero = None
exit_state p calls v (suc n) = joined_exit v (exit_state p calls v n) (instruction_at p n) (states p calls v n)

abbrev pub unless_refused_within : Option Refusal → Option AbstractState → Outcome
unless_refused_within None s = Ok s
unless_refused_within (Some refusal) s = Err refusal

abbrev pub outcome : Program → Calls → Passage → Outcome
outcome p calls v = unless_refused_within (first_refusal p calls v (units p)) (exit_state p calls v (units p))

-- passages within passages, so deep. A call below them leaves nothing: a program that has one is refused for its frames, before
-- its values are looked at
unfoldable pub called : Program → ℕ → Calls
called p zero v = Ok None
called p (suc n) v = outcome p (called p n) v

-- what comes of the calls of a passage: no more frames are live than may be
abbrev pub calls_of : Program → Passage → Calls
calls_of p v = called p (most_callers - v.frame)

-- A refusal stands inside the code.
use Rattle.std.proofs.Common.{◌≡◌, ℕ, zero, suc, ◌-◌, ◌<◌, ◌≤◌, Option, Some, None, Result, Ok, Err, Bool, true, false, cond, ap, inl, inr, le_refl, arith}
use Rattle.std.specs.Prelude.{◌⊎◌, nat_lt}
use Rattle.std.specs.Option.{option_or}
use Rattle.bpf_isa.specs.declared.instruction.Instruction.{Instruction}
use Rattle.bpf_image.specs.Program.{Program, units, lengths_of}
use Rattle.bpf_model.specs.declared.cause.Cause.{Cause}
use Rattle.bpf_model.specs.declared.cause.Cause.TheVariants.{TooDeep, TooLong, TooManyPairs}
use Rattle.bpf_model.specs.State.{most_frames}
use Rattle.verifier.specs.declared.refusal.Refusal.{Refusal}
use Rattle.abstract_state.specs.States.{AbstractState, most_callers}
use Rattle.verifier.specs.Rules.{Ways, transfer}
use Rattle.verifier.specs.Listing.{instruction_at}
use Rattle.verifier.specs.Equations.{Passage, Calls, Outcome, main_passage, opening, outcome_at, states, refused, refused_within, refusal_at, first_refusal, exit_state, unless_refused_within, called, calls_of}
use Rattle.verifier.specs.Walks.{longest, deepest, pairs}
use Rattle.verifier.specs.Verdict.{first_fault, fault_after, decoding_fault, flow_fault, frames_fault, length_fault, pairs_fault, rule_refusal, Verdict, unless_refused, verdict, most_counted, most_pairs, Accepted, Refused}

-- where the first fault is, if it is not before
after_inside : (before : Option Refusal) (cause : Option Cause) (n : ℕ) (r : Refusal) → fault_after before cause n ≡ Some r → (before ≡ Some r → r.pc < n) → r.pc < suc n
after_inside (Some x) cause n r h go = (let lt = go h in omega (arith, lt))
after_inside None (Some c) n r h go =
    let same : record { cause = c; pc = n } ≡ r = cc in
    let here : n ≡ r.pc = ap (λ (x : Refusal). x.pc) same in
    omega (arith, here)
after_inside None None n r h go = absurd cc

first_inside : (f : ℕ → Option Cause) (n : ℕ) (r : Refusal) → first_fault f n ≡ Some r → r.pc < n
first_inside f zero r h = absurd cc
first_inside f (suc n) r h = after_inside (first_fault f n) (f n) n r h (first_inside f n r)

-- ---- the rules of values, within calls too

-- the first of two refusals
either_refusal : (a b : Option Refusal) (r : Refusal) → option_or a b ≡ Some r → (a ≡ Some r) ⊎ (b ≡ Some r)
either_refusal None b r h = inr h
either_refusal (Some x) b r h = inl h

abbrev AllInside : Program → Calls → Type 0
AllInside p calls = (w : Passage) (r : Refusal) → calls w ≡ Err r → r.pc < units p

here_inside : (pc n : ℕ) (found : Result Ways Cause) (r : Refusal) → pc < n → refused pc found ≡ Some r → r.pc < n
here_inside pc n (Ok ws) r lt h = absurd cc
here_inside pc n (Err cause) r lt h =
    let same : record { cause = cause; pc = pc } ≡ r = cc in
    let here : pc ≡ r.pc = ap (λ (x : Refusal). x.pc) same in
    omega (arith, here, lt)

within_inside : (p : Program) (calls : Calls) (opened : Option Passage) (r : Refusal) → AllInside p calls → refused_within (outcome_at calls opened) ≡ Some r → r.pc < units p
within_inside p calls None r all h = absurd cc
within_inside p calls (Some w) r all h = all w r (of_outcome (calls w) h)
  where
    of_outcome : (o : Outcome) → refused_within o ≡ Some r → o ≡ Err r
    of_outcome (Ok s) g = absurd cc
    of_outcome (Err x) g = (let same : x ≡ r = cc in ap (λ (y : Refusal). Err y) same)

at_inside : (p : Program) (calls : Calls) (v : Passage) (pc : ℕ) (i : Option Instruction) (s : Option AbstractState) (r : Refusal) → AllInside p calls → pc < units p → refusal_at p calls v pc i s ≡ Some r → r.pc < units p
at_inside p calls v pc (Some i) (Some s) r all lt h =
    elim (either_refusal (refused pc (transfer (lengths_of p) pc i s)) (refused_within (outcome_at calls (opening v pc i s))) r h) [
      | inl own ↦ here_inside pc (units p) (transfer (lengths_of p) pc i s) r lt own
      | inr within ↦ within_inside p calls (opening v pc i s) r all within
    ]
at_inside p calls v pc None s r all lt h = absurd cc
at_inside p calls v pc (Some i) None r all lt h = absurd cc

refusal_inside : (p : Program) (calls : Calls) (v : Passage) (n : ℕ) (r : Refusal) → AllInside p calls → n ≤ units p → first_refusal p calls v n ≡ Some r → r.pc < units p
refusal_inside p calls v zero r all le h = absurd cc
refusal_inside p calls v (suc n) r all le h =
    elim (either_refusal (first_refusal p calls v n) (refusal_at p calls v n (instruction_at p n) (states p calls v n)) r h) [
      | inl before ↦ refusal_inside p calls v n r all (omega (arith, le)) before
      | inr here ↦ at_inside p calls v n (instruction_at p n) (states p calls v n) r all (omega (arith, le)) here
    ]

broken_within : (o : Option Refusal) (s : Option AbstractState) (r : Refusal) → unless_refused_within o s ≡ Err r → o ≡ Some r
broken_within None s r h = absurd cc
broken_within (Some x) s r h = (let same : x ≡ r = cc in ap (λ (y : Refusal). Some y) same)

called_inside : (p : Program) (n : ℕ) → AllInside p (called p n)
unfolding called
called_inside p zero w r h = absurd cc
called_inside p (suc n) w r h =
    refusal_inside p (called p n) w (units p) r (called_inside p n) (le_refl (units p)) (broken_within (first_refusal p (called p n) w (units p)) (exit_state p (called p n) w (units p)) r h)

-- ---- all passes

-- a pass refuses, or one after it
refused_by : (a : Option Refusal) (next : Verdict) (r : Refusal) → unless_refused a next ≡ Refused r → (a ≡ Some r) ⊎ (next ≡ Refused r)
refused_by None next r h = inr h
refused_by (Some x) next r h = inl cc

-- a rule of the whole is told at pc 0
whole_inside : (broken : Bool) (c : Cause) (r : Refusal) (n : ℕ) → 0 < n → cond broken (Some (record { cause = c; pc = 0 })) None ≡ Some r → r.pc < n
whole_inside false c r n some h = absurd cc
whole_inside true c r n some h =
    let same : record { cause = c; pc = 0 } ≡ r = cc in
    let here : 0 ≡ r.pc = ap (λ (x : Refusal). x.pc) same in
    omega (arith, here, some)

abbrev by_rules : Program → Verdict
by_rules p = unless_refused (rule_refusal p) (Accepted (longest p) (deepest p))

inside_by_rules : (p : Program) (r : Refusal) → by_rules p ≡ Refused r → r.pc < units p
inside_by_rules p r h =
    elim (refused_by (rule_refusal p) (Accepted (longest p) (deepest p)) r h) [
      | inl found ↦ refusal_inside p (calls_of p (main_passage p)) (main_passage p) (units p) r (called_inside p (most_callers - 0)) (le_refl (units p)) found
      | inr none ↦ absurd (let e : Accepted (longest p) (deepest p) ≡ Refused r = none in cc)
    ]

abbrev by_pairs : Program → Verdict
by_pairs p = unless_refused (pairs_fault p) (by_rules p)

inside_by_pairs : (p : Program) (r : Refusal) → 0 < units p → by_pairs p ≡ Refused r → r.pc < units p
inside_by_pairs p r some h =
    elim (refused_by (pairs_fault p) (by_rules p) r h) [
      | inl found ↦ whole_inside (nat_lt most_pairs (pairs p)) TooManyPairs r (units p) some found
      | inr next ↦ inside_by_rules p r next
    ]

abbrev by_length : Program → Verdict
by_length p = unless_refused (length_fault p) (by_pairs p)

inside_by_length : (p : Program) (r : Refusal) → 0 < units p → by_length p ≡ Refused r → r.pc < units p
inside_by_length p r some h =
    elim (refused_by (length_fault p) (by_pairs p) r h) [
      | inl found ↦ whole_inside (nat_lt most_counted (longest p)) TooLong r (units p) some found
      | inr next ↦ inside_by_pairs p r some next
    ]

abbrev by_frames : Program → Verdict
by_frames p = unless_refused (frames_fault p) (by_length p)

inside_by_frames : (p : Program) (r : Refusal) → 0 < units p → by_frames p ≡ Refused r → r.pc < units p
inside_by_frames p r some h =
    elim (refused_by (frames_fault p) (by_length p) r h) [
      | inl found ↦ whole_inside (nat_lt most_frames (deepest p)) TooDeep r (units p) some found
      | inr next ↦ inside_by_length p r some next
    ]

abbrev by_flow : Program → Verdict
by_flow p = unless_refused (first_fault (flow_fault p) (units p)) (by_frames p)

inside_by_flow : (p : Program) (r : Refusal) → 0 < units p → by_flow p ≡ Refused r → r.pc < units p
inside_by_flow p r some h =
    elim (refused_by (first_fault (flow_fault p) (units p)) (by_frames p) r h) [
      | inl found ↦ first_inside (flow_fault p) (units p) r found
      | inr next ↦ inside_by_frames p r some next
    ]

pub refused_inside : (p : Program) (r : Refusal) → 0 < units p → verdict p ≡ Refused r → r.pc < units p
unfolding verdict
refused_inside p r some h =
    elim (refused_by (first_fault (decoding_fault p) (units p)) (by_flow p) r h) [
      | inl found ↦ first_inside (decoding_fault p) (units p) r found
      | inr next ↦ inside_by_flow p r some next
    ]

-- A passage whose calls are gone through in turn.
use Rattle.std.proofs.Common.{◌≡◌, ◌≢◌, ℕ, zero, suc, ◌+◌, ◌-◌, ◌<◌, ◌≤◌, length, Option, Some, None, Ok, Err, refl, sym, ap, ◌∙◌, inl, inr, arith}
use Rattle.std.specs.Prelude.{ℤ, pos, unsigned_abs}
use Rattle.std.proofs.lemmas.Bool.{cases_Bool}
use Rattle.std.proofs.lemmas.Int.{ints}
use Rattle.std.proofs.lemmas.List.{get_or-set_other}
use Rattle.bpf_isa.specs.declared.instruction.Instruction.TheVariants.{CallLocal}
use Rattle.bpf_image.specs.Program.{Program, units}
use Rattle.abstract_state.specs.States.{AbstractState}
use Rattle.verifier.specs.declared.refusal.Refusal.{Refusal}
use Rattle.verifier.specs.Rules.{target}
use Rattle.verifier.specs.Listing.{instruction_at}
use Rattle.verifier.specs.Functions.{entry_called, is_entry, entry_from, function_end}
use Rattle.verifier.specs.Equations.{Passage, passage_at, Calls, Outcome, joined_ways, first_refusal, unless_refused_within, ways_after, opening, outcome_at, outcome, calls_of}
use Rattle.verifier.specs.Tables.{Table, state_at, Reaches, IsGoneTo, IsAtCall}
use Rattle.verifier.proofs.Listed.{inside}
use Rattle.verifier.proofs.Flowing.{Flows, ahead, call_ahead, end_inside}
use Rattle.verifier.proofs.Ends.{same_end, ends_below, called_begins, deeper}
use Rattle.verifier.proofs.Passing.{call_step, call_broken}
use Rattle.verifier.proofs.Visits.{has_beginning, start_is}

least_entry : (p : Program) (n pc : ℕ) → pc ≤ entry_from p n pc
least_entry p zero pc = omega arith
least_entry p (suc n) pc =
    elim (cases_Bool (is_entry p pc)) [
      | inl is ↦ rw is (omega arith)
      | inr not_is ↦ rw not_is (let rest = least_entry p n (pc + 1) in omega (arith, rest))
    ]

pub end_behind : (p : Program) (pc : ℕ) → pc < function_end p pc
unfolding function_end
end_behind p pc = (let least = least_entry p (units p - (pc + 1)) (pc + 1) in omega (arith, least))

pub later : (p : Program) (calls : Calls) (v : Passage) (old now : Table) (n last further : ℕ) (exits : Option AbstractState) → IsGoneTo p calls v old n last now exits → last ≤ further → IsGoneTo p calls v old n further now exits
later p calls v old now n last further exits h le = record {
  fine = h.fine;
  same_length = h.same_length;
  come_to = h.come_to;
  nothing_behind = λ q past. h.nothing_behind q (omega (arith, le, past));
  below = h.below;
  gone = h.gone;
  left = h.left;
}

-- a function leads to no pc behind its end
pub reaches_end : (p : Program) (entry pc : ℕ) → Flows p → entry < units p → entry ≤ pc → pc < function_end p entry → Reaches p pc (function_end p entry - 1)
reaches_end p entry pc passed first le lt i found q one =
    let to = ahead p pc i (pos q) passed found one in
    let same : pos q ≡ pos to.place = to.is in
    let end = end_inside p entry first in
    let one_end = same_end p entry pc le (omega (arith, lt, end)) lt in
    omega (arith, ints, same, to.under, one_end)

one_called : (p : Program) (n begins : ℕ) (z : ℤ) → Flows p → instruction_at p n ≡ Some (CallLocal z) → begins ≡ unsigned_abs (target n z) → (Some begins ≡ entry_called p n (instruction_at p n)) × (begins < units p) × (n < begins)
one_called p n begins z passed found at =
    let to = call_ahead p n (CallLocal z) (target n z) passed found (inl refl) in
    let here : begins ≡ to.place = at ∙ ap unsigned_abs to.is in
    let some = some_called (entry_called p n (instruction_at p n)) (has_beginning p n z passed found) in
    let is : some.0 ≡ unsigned_abs (target n z) = start_is p n some.0 (target n z) (sym some.1 ∙ ap (λ i. entry_called p n i) found) in
    let all : begins ≡ some.0 = at ∙ sym is in
    (rw all (sym some.1), omega (arith, here, to.under), omega (arith, here, to.behind))
  where
    some_called : (o : Option ℕ) → o ≢ None → (q : ℕ) × (o ≡ Some q)
    some_called None h = absurd (h refl)
    some_called (Some q) h = (q, refl)

-- of the pcs from a called function's entry on nothing is pending
pub callee_begins : (p : Program) (calls : Calls) (v : Passage) (old now : Table) (n begins : ℕ) (exits : Option AbstractState) (known : AbstractState) → Flows p → v.entry < units p → v.entry ≤ n → n < function_end p v.entry
    → IsAtCall p calls v old n (function_end p v.entry - 1) now exits begins known → (begins < units p) × ((q : ℕ) → begins ≤ q → state_at now q ≡ None)
callee_begins p calls v old now n begins exits known passed first le lt h =
    let called = one_called p n begins h.distance passed h.found h.begins in
    let end = end_inside p v.entry first in
    let one_end = same_end p v.entry n le (omega (arith, lt, end)) lt in
    let above = ends_below p n begins (called_begins p n begins (omega (arith, lt, end)) called.0) called.2 called.1 in
    (called.1, λ q from. h.taken q ∙ (get_or-set_other h.before n q None None (λ e. omega (arith, e, from, called.2))) ∙ h.gone_to.nothing_behind q (omega (arith, above, one_end, from, lt)))

pub same_passage : (a b f g : ℕ) (s t : AbstractState) → a ≡ b → f ≡ g → s ≡ t → passage_at a f s ≡ passage_at b g t
same_passage a b f g s t one two three = rw (one, two, three) refl

comes : (p : Program) (v : Passage) (old now : Table) (n last begins frame : ℕ) (exits : Option AbstractState) (known : AbstractState) (h : IsAtCall p (calls_of p v) v old n last now exits begins known) (o : Outcome) → frame ≡ v.frame + 1
    → outcome p (calls_of p (passage_at begins frame known)) (passage_at begins frame known) ≡ o → outcome_at (calls_of p v) (opening v n (CallLocal h.distance) h.state) ≡ o
comes p v old now n last begins frame exits known h o next is =
    let w : Passage = passage_at begins frame known in
    let one_more : frame ≡ suc v.frame = omega (arith, next) in
    let same = same_passage begins (unsigned_abs (target n h.distance)) frame (suc v.frame) known _ h.begins one_more h.knows in
    ap (calls_of p v) (sym same) ∙ deeper p v w h.deep one_more ∙ is

-- a call has come back
pub returned : (p : Program) (v : Passage) (old now back after : Table) (n begins frame : ℕ) (exits : Option AbstractState) (known : AbstractState) (o : Option AbstractState) → Flows p → v.entry < units p → v.entry ≤ n → n < function_end p v.entry
    → IsAtCall p (calls_of p v) v old n (function_end p v.entry - 1) now exits begins known → frame ≡ v.frame + 1
    → outcome p (calls_of p (passage_at begins frame known)) (passage_at begins frame known) ≡ Ok o
    → length back ≡ length now → ((q : ℕ) → state_at back q ≡ state_at now q)
    → length after ≡ length back → ((q : ℕ) → state_at after q ≡ joined_ways (state_at back q) (ways_after n (Ok o)) q)
    → IsGoneTo p (calls_of p v) v old (n + 1) (function_end p v.entry - 1) after exits
returned p v old now back after n begins frame exits known o passed first le lt h next is long same longer came =
    let end = end_inside p v.entry first in
    call_step p (calls_of p v) v old h.before after n (function_end p v.entry - 1) (function_end p v.entry - 1) exits h.distance h.state o passed le (omega (arith, lt, end)) h.gone_to h.found h.walked
    (comes p v old now n (function_end p v.entry - 1) begins frame exits known h (Ok o) next is) (omega arith) (reaches_end p v.entry n passed first le lt)
    (longer ∙ long ∙ h.long) (λ q. came q ∙ ap (λ s. joined_ways s (ways_after n (Ok o)) q) (same q ∙ h.taken q))

-- a rule was broken in it
pub broken : (p : Program) (v : Passage) (old now : Table) (n last begins frame : ℕ) (exits : Option AbstractState) (known : AbstractState) (r : Refusal) → n < units p
    → IsAtCall p (calls_of p v) v old n last now exits begins known → frame ≡ v.frame + 1
    → outcome p (calls_of p (passage_at begins frame known)) (passage_at begins frame known) ≡ Err r → outcome p (calls_of p v) v ≡ Err r
broken p v old now n last begins frame exits known r lt h next is =
    call_broken p (calls_of p v) v n h.distance h.state r lt h.gone_to.fine h.found h.walked (comes p v old now n last begins frame exits known h (Err r) next is)

-- a call is not the last instruction
pub behind_inside : (p : Program) (n : ℕ) (z : ℤ) → Flows p → instruction_at p n ≡ Some (CallLocal z) → n + 1 < units p
behind_inside p n z passed found =
    let to = ahead p n (CallLocal z) (pos (n + 1)) passed found (inl refl) in
    let same : pos (n + 1) ≡ pos to.place = to.is in
    let lt = inside p to.place to.instruction to.found in
    omega (arith, ints, same, lt)

-- what comes of a passage tells of its first broken rule
none_from : (r : Option Refusal) (e o : Option AbstractState) → unless_refused_within r e ≡ Ok o → r ≡ None
none_from None e o h = refl
none_from (Some r) e o h = absurd cc

abbrev some_refusal : Refusal → Option Refusal
some_refusal x = Some x

one_from : (r : Option Refusal) (e : Option AbstractState) (refusal : Refusal) → unless_refused_within r e ≡ Err refusal → r ≡ Some refusal
one_from None e refusal h = absurd cc
one_from (Some r) e refusal h = (let same : r ≡ refusal = cc in ap (λ x. some_refusal x) same)

pub breaks_none : (p : Program) (calls : Calls) (v : Passage) (o : Option AbstractState) → outcome p calls v ≡ Ok o → first_refusal p calls v (units p) ≡ None
breaks_none p calls v o h = none_from (first_refusal p calls v (units p)) _ o h

pub breaks_one : (p : Program) (calls : Calls) (v : Passage) (r : Refusal) → outcome p calls v ≡ Err r → first_refusal p calls v (units p) ≡ Some r
breaks_one p calls v r h = one_from (first_refusal p calls v (units p)) _ r h

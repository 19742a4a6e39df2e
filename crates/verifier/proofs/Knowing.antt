-- What is kept of the states of a passage, and the passages that are open where a rule is broken.
use Rattle.std.proofs.Common.{◌≡◌, ℕ, suc, ◌+◌, ◌<◌, ◌≤◌, List, [], ◌∷◌, ◌++◌, length, set, get_or, Option, Some, None, Ok, Err, sym, ap, subst, ◌∙◌, arith, inl, inr}
use Rattle.std.specs.Prelude.{ℤ, unsigned_abs, Result, IfOk}
use Rattle.std.specs.declared.alloc.AllocError.{AllocError}
use Rattle.bpf_isa.specs.declared.instruction.Instruction.TheVariants.{CallLocal}
use Rattle.std.proofs.lemmas.Bool.{cases_eq}
use Rattle.std.proofs.lemmas.List.{append_assoc, length-set, get_or-set_other, get_or-set_same}
use Rattle.bpf_image.specs.Program.{Program, units}
use Rattle.abstract_state.specs.States.{AbstractState, callee_state}
use Rattle.verifier.specs.declared.refusal.Refusal.{Refusal}
use Rattle.verifier.specs.Rules.{target}
use Rattle.verifier.specs.Equations.{Passage, passage_at, opening, outcome_at, calls_of, states, first_refusal, outcome}
use Rattle.verifier.specs.Tables.{Table, state_at, IsGoneTo, IsAtCall}
use Rattle.verifier.specs.declared.known.KnownPassage.{KnownPassage}
use Rattle.verifier.specs.Functions.{function_end}
use Rattle.verifier.specs.Known.{IsKnownOf, IsBrokenAt, IsOpenAt, IsBrokenBy, IsDoneAt, ListsWithin, Lists}
use Rattle.verifier.proofs.Arrivals.{States}
use Rattle.verifier.proofs.Passages.{refused_here}
use Rattle.verifier.proofs.Passing.{call_broken}
use Rattle.verifier.proofs.Ends.{deeper}
use Rattle.verifier.proofs.Going.{same_passage, breaks_one}

-- what is known is kept of the pcs of a passage below n
pub record IsKeptTo (p : Program) (v : Passage) (n : ℕ) (kept : Table) : Type 0 where
  pub same_length : length kept ≡ units p
  pub known : (q : ℕ) → v.entry ≤ q → q < n → state_at kept q ≡ states p (calls_of p v) v q

-- a copy of what the walk has at a pc is what is known there
pub kept_more : (p : Program) (v : Passage) (n last : ℕ) (old now kept : States) (exits copy : Option AbstractState) → n < units p → IsGoneTo p (calls_of p v) v old n last now exits → IsKeptTo p v n kept → copy ≡ state_at now n → IsKeptTo p v (n + 1) (set kept n copy)
kept_more p v n last old now kept exits copy lt gone before is =
    record {
      same_length = length-set kept n copy ∙ before.same_length;
      known = λ q from below. (
          elim (cases_eq q n) [
            | inl same ↦
                let there : get_or (set kept n copy) n None ≡ copy = get_or-set_same kept n copy None (let size = before.same_length in omega (arith, size, lt)) in
                let here : state_at (set kept n copy) n ≡ states p (calls_of p v) v n = there ∙ is ∙ gone.come_to n (omega arith) lt in
                rw same here
            | inr other ↦
                let apart : get_or (set kept n copy) q None ≡ get_or kept q None = get_or-set_other kept n q copy None (λ same. absurd (omega (arith, same, other))) in
                apart ∙ before.known q from (omega (arith, below, other))
          ]);
    }

-- a passage that breaks a rule by its own instruction
pub done_broken : (p : Program) (v : Passage) (n : ℕ) (r : Refusal) → n < units p → IsBrokenAt p v n r → IsDoneAt p v n (first_refusal p (calls_of p v) v (units p))
done_broken p v n r lt h = rw (refused_here p (calls_of p v) v n r lt h.fine h.broken) h

-- a call in a passage
pub opened : (p : Program) (v : Passage) (old now : Table) (n last begins frame : ℕ) (exits : Option AbstractState) (known : AbstractState) → IsAtCall p (calls_of p v) v old n last now exits begins known → frame ≡ v.frame + 1 → IsOpenAt p v n (passage_at begins frame known)
opened p v old now n last begins frame exits known h next = record {
  fine = h.gone_to.fine;
  distance = h.distance;
  found = h.found;
  state = h.state;
  walked = h.walked;
  opens = ap (λ (w : Passage). some_passage w) (sym (same_passage begins (unsigned_abs (target n h.distance)) frame (suc v.frame) known _ h.begins (omega (arith, next)) h.knows));
}
  where
    some_passage : Passage → Option Passage
    some_passage w = Some w

-- a passage that breaks none
pub done_whole : (p : Program) (v : Passage) (n : ℕ) → first_refusal p (calls_of p v) v (units p) ≡ None → function_end p v.entry ≡ n + 1 → IsDoneAt p v n (first_refusal p (calls_of p v) v (units p))
done_whole p v n none end = rw none (none, end)

-- a passage whose call breaks a rule
pub broken_by : (p : Program) (v : Passage) (old now : Table) (n last begins frame : ℕ) (exits : Option AbstractState) (known copy : AbstractState) (r : Refusal) → n < units p
    → IsAtCall p (calls_of p v) v old n last now exits begins known → frame ≡ v.frame + 1 → begins < units p → copy ≡ known
    → outcome p (calls_of p (passage_at begins frame known)) (passage_at begins frame known) ≡ Err r → IsBrokenBy p v n (passage_at begins frame copy)
broken_by p v old now n last begins frame exits known copy r lt h next inside same is = rw same (record {
  opens = opened p v old now n last begins frame exits known h next;
  deep = h.deep;
  inside = lt;
  begins = inside;
  refusal = r;
  breaks = is;
})

-- what is told of it goes on with what is told of the function that is called
pub told_within : (p : Program) (v w : Passage) (n : ℕ) (ts : List KnownPassage) → IsBrokenBy p v n w → Lists p w (first_refusal p (calls_of p w) w (units p)) ts → ListsWithin p v n (first_refusal p (calls_of p v) v (units p)) ts
told_within p v w n [] h told = absurd told
told_within p v w n (t ∷ ts) h told =
    let r = h.refusal in
    let within : first_refusal p (calls_of p w) w (units p) ≡ Some h.refusal = breaks_one p (calls_of p w) w h.refusal h.breaks in
    let next : w.frame ≡ suc v.frame = opened_frame v n h.opens.distance h.opens.state w h.opens.opens in
    let comes : outcome_at (calls_of p v) (opening v n (CallLocal h.opens.distance) h.opens.state) ≡ Err h.refusal = ap (outcome_at (calls_of p v)) h.opens.opens ∙ deeper p v w h.deep next ∙ h.breaks in
    let whole = call_broken p (calls_of p v) v n h.opens.distance h.opens.state h.refusal h.inside h.opens.fine h.opens.found h.opens.walked comes in
    let one : first_refusal p (calls_of p v) v (units p) ≡ Some h.refusal = breaks_one p (calls_of p v) v h.refusal whole in
    subst (λ o. ListsWithin p v n o (t ∷ ts)) (sym one) (w, h.opens, told.0, subst (λ o. ListsWithin p w t.last o ts) within told.1)
  where
    opened_frame : (v : Passage) (n : ℕ) (z : ℤ) (s : AbstractState) (w : Passage) → opening v n (CallLocal z) s ≡ Some w → w.frame ≡ suc v.frame
    opened_frame v n z s w is = (let e : passage_at (unsigned_abs (target n z)) (suc v.frame) (callee_state v.frame s) ≡ w = cc in ap (λ (x : Passage). x.frame) (sym e))

ok_map : {A E : Type 0} (r : Result A E) (P Q : A → Type 0) → ((x : A) → P x → Q x) → IfOk r P → IfOk r Q
ok_map (Ok x) P Q f h = f x h
ok_map (Err e) P Q f h = tt

-- and so is all that is told of the passage
pub told_all : (p : Program) (v w : Passage) (passage : KnownPassage) (before pushed after : List KnownPassage) (r : Result (Unit {0}) AllocError) → IsKnownOf p v passage → IsBrokenBy p v passage.last w → pushed ≡ before ++ (passage ∷ [])
    → IfOk r (λ x. (told : List KnownPassage) × (after ≡ pushed ++ told) × Lists p w (first_refusal p (calls_of p w) w (units p)) told)
    → IfOk r (λ x. (told : List KnownPassage) × (after ≡ before ++ told) × Lists p v (first_refusal p (calls_of p v) v (units p)) told)
told_all p v w passage before pushed after r known broken pushes tells =
    ok_map r (λ x. (told : List KnownPassage) × (after ≡ pushed ++ told) × Lists p w (first_refusal p (calls_of p w) w (units p)) told) (λ x. (told : List KnownPassage) × (after ≡ before ++ told) × Lists p v (first_refusal p (calls_of p v) v (units p)) told)
    (λ x h. (passage ∷ h.0, h.1 ∙ ap (λ xs. xs ++ h.0) pushes ∙ append_assoc before (passage ∷ []) h.0, (known, told_within p v w passage.last h.0 broken h.2))) tells

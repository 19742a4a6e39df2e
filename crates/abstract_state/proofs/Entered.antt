-- What is known where a function begins, and after its exit.
use Rattle.std.proofs.Common.{◌≡◌, ◌≢◌, ℕ, zero, suc, ◌+◌, ◌-◌, ◌*◌, ◌<◌, ◌≤◌, List, [], ◌∷◌, length, Bool, true, false, eqb, cond, map, replicate, Option, Some, None, Result, Ok, Err, get_or, set, refl, sym, ap, subst, ◌∙◌, inl, inr, arith}
use Rattle.std.specs.Prelude.{ℤ, pos, ◌+ℤ◌, ◌&&◌}
use Rattle.std.proofs.lemmas.Bool.{cases_Bool, eqb-false}
use Rattle.bpf_image.specs.declared.lengths.Lengths.{Lengths}
use Rattle.bpf_model.specs.State.{Partial, Saved, frame_bytes, number_at}
use Rattle.bpf_model.specs.declared.cause.Cause.{Cause}
use Rattle.bpf_model.specs.declared.cause.Cause.TheVariants.{OutOfRange, PointerUse}
use Rattle.abstract_values.specs.declared.value.AbstractValue.{AbstractValue}
use Rattle.abstract_values.specs.declared.value.AbstractValue.TheVariants.{Unset, Number, Record, Stack, Table}
use Rattle.abstract_values.specs.Described.{Describes}
use Rattle.abstract_state.specs.declared.state.Frame.{Frame}
use Rattle.abstract_state.specs.States.{AbstractState, frame_slots, new_frame, frame_of, without_pointer, without_pointers}
use Rattle.abstract_state.specs.Memory.{is_within, is_in_frame, frame_index, is_slot, is_pointer, may_store, frame_store_result, store_result, frame_gather_result, gather_result}
use Rattle.abstract_state.specs.Described.{DescribesFrame, DescribesLive, DescribesKept}
use Rattle.abstract_state.proofs.Stores.{number_same, set_other}

-- a value in a list that was replaced, if it was there
pub set_at : {A : Type 0} (P : A → Type 0) (xs : List A) (i : ℕ) (x z : A) → P z → P x → P (get_or (set xs i x) i z)
set_at P [] i x z none new = none
set_at P (y ∷ ys) zero x z none new = new
set_at P (y ∷ ys) (suc i) x z none new = set_at P ys i x z none new

pub same_everywhere : {A : Type 0} (n k : ℕ) (x : A) → get_or (replicate n x) k x ≡ x
same_everywhere zero k x = refl
same_everywhere (suc n) zero x = refl
same_everywhere (suc n) (suc k) x = same_everywhere n k x

-- ---- more frames are live

pub more_live : (l : Lengths) (live : ℕ) (v : AbstractValue) (x : Option ℕ) → Describes l live v x → Describes l (suc live) v x
more_live l live Unset x d = tt
more_live l live (Number lo hi) x d = d
more_live l live (Record lo hi) x d = d
more_live l live (Table lo hi) x d = d
more_live l live (Stack frame offset) x d = (d.0, d.1, d.2, d.3, d.4, omega (arith, d.5))

-- a frame whose bytes are as before, where one more is live
pub frame_kept : (l : Lengths) (live top : ℕ) (f : Frame) (before after : Partial) → ((i : ℕ) → i < frame_bytes → after (top - frame_bytes + i) ≡ before (top - frame_bytes + i)) → DescribesFrame l live top f before → DescribesFrame l (suc live) top f after
frame_kept l live top f before after same d = record {
  stack_set = λ k lt h. (let b = d.stack_set k lt h in (b.0, same k lt ∙ b.1, b.2));
  spilled = λ j lt. more_live l live (get_or f.slots j Unset) _ (subst (λ x. Describes l live (get_or f.slots j Unset) x)
      (number_same before after (top - frame_bytes + 8 * j) 8 (λ i below. (let place : (top - frame_bytes + 8 * j) + i ≡ top - frame_bytes + (8 * j + i) = omega arith in rw place (sym (same (8 * j + i) (omega (arith, lt, below)))))))
      (d.spilled j lt));
}

pub live_kept : (l : Lengths) (live top : ℕ) (f : Option Frame) (before after : Partial) → ((i : ℕ) → i < frame_bytes → after (top - frame_bytes + i) ≡ before (top - frame_bytes + i)) → DescribesLive l live top f before → DescribesLive l (suc live) top f after
live_kept l live top None before after same d = tt
live_kept l live top (Some f) before after same d = frame_kept l live top f before after same d

-- of a new frame nothing is known
pub new_described : (l : Lengths) (live top : ℕ) (memory : Partial) → DescribesFrame l live top new_frame memory
new_described l live top memory = record {
  stack_set = λ k lt set. absurd (let none : false ≡ true = sym (same_everywhere frame_bytes k false) ∙ set in cc);
  spilled = λ j lt. (rw (same_everywhere frame_slots j Unset) tt);
}

-- what one caller more keeps leaves what the others keep
pub kept_beside : (l : Lengths) (kept : List (List AbstractValue)) (n : ℕ) (x : List AbstractValue) (callers : List Saved) → length callers ≤ n → DescribesKept l kept callers → DescribesKept l (set kept n x) callers
kept_beside l kept n x [] few d = tt
kept_beside l kept n x (caller ∷ callers) few d =
    let other : length callers ≢ n = (λ e. omega (arith, few, e)) in
    let same : get_or (set kept n x) (length callers) [] ≡ get_or kept (length callers) [] = set_other kept n (length callers) x [] other in
    (λ i. subst (λ vs. Describes l (suc (length callers)) (get_or vs i Unset) (caller.registers (i + 6))) (sym same) (d.0 i), kept_beside l kept n x callers (omega (arith, few)) d.1)

-- ---- a frame is dropped

-- what points into the frame that is dropped is forgotten, and all else points into frames that stay
pub pointer_dropped : (l : Lengths) (live : ℕ) (v : AbstractValue) (x : Option ℕ) → Describes l (suc live) v x → Describes l live (without_pointer live v) x
pointer_dropped l live Unset x d = tt
pointer_dropped l live (Number lo hi) x d = d
pointer_dropped l live (Record lo hi) x d = d
pointer_dropped l live (Table lo hi) x d = d
pointer_dropped l live (Stack frame offset) x d =
    elim (cases_Bool (eqb frame live)) [
      | inl is ↦ rw is tt
      | inr other ↦ rw other (d.0, d.1, d.2, d.3, d.4, (let apart = eqb-false frame live other in omega (arith, d.5, apart)))
    ]

mapped_at : {A B : Type 0} (f : A → B) (z : A) (xs : List A) (k : ℕ) → get_or (map f xs) k (f z) ≡ f (get_or xs k z)
mapped_at f z [] k = refl
mapped_at f z (x ∷ xs) zero = refl
mapped_at f z (x ∷ xs) (suc k) = mapped_at f z xs k

pub frame_dropped : (l : Lengths) (live top : ℕ) (f : Option Frame) (memory : Partial) → DescribesLive l (suc live) top f memory → DescribesLive l live top (without_pointers live f) memory
frame_dropped l live top None memory d = tt
frame_dropped l live top (Some f) memory d = record {
  stack_set = d.stack_set;
  spilled = λ j lt. subst (λ v. Describes l live v (number_at memory (top - frame_bytes + 8 * j) 8)) (sym (mapped_at (without_pointer live) Unset f.slots j)) (pointer_dropped l live (get_or f.slots j Unset) _ (d.spilled j lt));
}

pub dropped_at : (live : ℕ) (fs : List (Option Frame)) (k : ℕ) → get_or (map (without_pointers live) fs) k None ≡ without_pointers live (get_or fs k None)
dropped_at live fs k = mapped_at (without_pointers live) None fs k

-- ---- stores and gather leave what callers keep

abbrev ok : AbstractState → Result AbstractState Cause
ok s = Ok s

kept_if : (test : Bool) (s t : AbstractState) (cause : Cause) (kept : List (List AbstractValue)) → s.kept ≡ kept → cond test (ok s) (Err cause) ≡ ok t → t.kept ≡ kept
kept_if true s t cause kept same h = ap (λ (u : AbstractState). u.kept) (let e : t ≡ s = (let f : ok s ≡ ok t = h in cc) in e) ∙ same
kept_if false s t cause kept same h = absurd cc

unless : (test : Bool) (r : Result AbstractState Cause) (t : AbstractState) (cause : Cause) → cond test r (Err cause) ≡ ok t → r ≡ ok t
unless true r t cause h = h
unless false r t cause h = absurd cc

unless_not : (test : Bool) (r : Result AbstractState Cause) (t : AbstractState) (cause : Cause) → cond test (Err cause) r ≡ ok t → r ≡ ok t
unless_not true r t cause h = absurd cc
unless_not false r t cause h = h

frame_stored_kept : (s t : AbstractState) (frame : ℕ) (f : Option Frame) (v : AbstractValue) (place : ℤ) (size : ℕ) → frame_store_result s frame f place size v ≡ ok t → t.kept ≡ s.kept
frame_stored_kept s t frame None v place size h = absurd cc
frame_stored_kept s t frame (Some f) v place size h =
    kept_if (is_in_frame place size) _ t OutOfRange s.kept refl (unless (may_store v (is_in_frame place size && is_slot (frame_index place) size)) _ t PointerUse h)

frame_gathered_kept : (s t : AbstractState) (frame : ℕ) (f : Option Frame) (place : ℤ) (room : ℕ) → frame_gather_result s frame f place room ≡ ok t → t.kept ≡ s.kept
frame_gathered_kept s t frame None place room h = absurd cc
frame_gathered_kept s t frame (Some f) place room h = kept_if (is_in_frame place room) _ t OutOfRange s.kept refl h

pub stored_kept : (l : Lengths) (s t : AbstractState) (base v : AbstractValue) (z : ℤ) (size : ℕ) → store_result l s base z size v ≡ ok t → t.kept ≡ s.kept
stored_kept l s t Unset v z size h = absurd cc
stored_kept l s t (Number lo hi) v z size h = absurd cc
stored_kept l s t (Record lo hi) v z size h =
    kept_if (is_within l.record_length lo hi z size) s t OutOfRange s.kept refl (unless_not (is_pointer v) _ t PointerUse h)
stored_kept l s t (Stack frame top) v z size h =
    frame_stored_kept s t frame (frame_of s frame) v (top +ℤ z) size h
stored_kept l s t (Table lo hi) v z size h = absurd cc

pub gathered_kept : (l : Lengths) (s t : AbstractState) (pointer : AbstractValue) (room : ℕ) → gather_result l s pointer room ≡ ok t → t.kept ≡ s.kept
gathered_kept l s t Unset room h = absurd cc
gathered_kept l s t (Number lo hi) room h = absurd cc
gathered_kept l s t (Record lo hi) room h = kept_if (is_within l.record_length lo hi (pos 0) room) s t OutOfRange s.kept refl h
gathered_kept l s t (Stack frame top) room h = frame_gathered_kept s t frame (frame_of s frame) top room h
gathered_kept l s t (Table lo hi) room h = absurd cc

-- A store that the rules allow leaves a memory that they describe.
use Rattle.std.proofs.Common.{◌≡◌, ◌≢◌, ℕ, zero, suc, ◌+◌, ◌-◌, ◌*◌, ◌/◌, ◌%◌, ◌^◌, ◌<◌, ◌≤◌, Bool, true, false, eqb, cond, List, [], ◌∷◌, Option, Some, None, Result, Ok, Err, get_or, set, refl, sym, subst, ap, ◌∙◌, arith, inl, inr, ◌⊎◌}
use Rattle.std.specs.Prelude.{ℤ, pos, ◌+ℤ◌, int_le, ◌&&◌, FitsSigned}
use Rattle.std.specs.Int.{w16}
use Rattle.std.proofs.lemmas.Int.{ints}
use Rattle.std.proofs.lemmas.Bool.{cases_Bool, cases_eq, cases_lt, and_parts, and_from, le-leb, eqb-true}
use Rattle.std.proofs.Math.Nat.{mod-eq_of_lt}
use Rattle.bpf_model.specs.declared.limits.TheConstants.{FRAME_BYTES}
use Rattle.abstract_values.specs.declared.limits.TheConstants.{FRAME_BOTTOM}
use Rattle.bpf_isa.specs.declared.instruction.Size.{Size}
use Rattle.bpf_isa.specs.declared.instruction.Size.TheVariants.{Byte, Half, Word, Double}
use Rattle.bpf_model.specs.State.{Partial, record_base, table_base, number_at, address_at, frame_top, most_frames}
use Rattle.bpf_isa.specs.Sizes.{size_bytes}
use Rattle.bpf_image.specs.declared.lengths.Lengths.{Lengths}
use Rattle.bpf_model.specs.declared.cause.Cause.{Cause}
use Rattle.bpf_model.specs.declared.cause.Cause.TheVariants.{OutOfRange, PointerUse}
use Rattle.abstract_values.specs.declared.value.AbstractValue.{AbstractValue}
use Rattle.abstract_values.specs.declared.value.AbstractValue.TheVariants.{Unset, Number, Record, Stack, Table}
use Rattle.abstract_values.specs.Described.{Describes}
use Rattle.abstract_state.specs.declared.state.Frame.{Frame}
use Rattle.abstract_state.specs.States.{AbstractState, frame_of, with_frame}
use Rattle.abstract_state.specs.Memory.{is_within, is_in_frame, frame_index, is_slot, set_from, unset_from, slots_touched, without_spills, frame_write, frame_fill, is_pointer, may_store, frame_store_result, store_result}
use Rattle.abstract_state.specs.Described.{IsByteAt, DescribesFrame, DescribesLive, DescribesParts, IsAllowed, IsWritten, IsStored}
use Rattle.abstract_state.proofs.Loads.{at_most, address_is, natural, place_in}

abbrev pub ok : AbstractState → Result AbstractState Cause
ok s = Ok s

abbrev pub failed : Cause → Result AbstractState Cause
failed cause = Err cause

size_some : (size : Size) → 1 ≤ size_bytes size
size_some Byte = omega arith
size_some Half = omega arith
size_some Word = omega arith
size_some Double = omega arith

-- memories that agree on some bytes have one number there
pub number_same : (m n : Partial) (a size : ℕ) → ((i : ℕ) → i < size → m (a + i) ≡ n (a + i)) → number_at m a size ≡ number_at n a size
number_same m n a zero same = refl
number_same m n a (suc size) same =
    let base : a + 0 ≡ a = omega arith in
    let head = same 0 (omega arith) in
    let first : m a ≡ n a = (rw base at head) in
    let rest = number_same m n (a + 1) size (λ i lt. let place : a + (i + 1) ≡ (a + 1) + i = omega arith in let next = same (i + 1) (omega (arith, lt)) in (rw place at next)) in
    rw (first, rest) refl

pub set_other : {A : Type 0} (xs : List A) (i j : ℕ) (v d : A) → j ≢ i → get_or (set xs i v) j d ≡ get_or xs j d
set_other [] i j v d other = refl
set_other (x ∷ xs) zero zero v d other = absurd (other refl)
set_other (x ∷ xs) zero (suc j) v d other = refl
set_other (x ∷ xs) (suc i) zero v d other = refl
set_other (x ∷ xs) (suc i) (suc j) v d other = set_other xs i j v d (λ e. other (ap suc e))

pub set_described : (l : Lengths) (live : ℕ) (xs : List AbstractValue) (i : ℕ) (v : AbstractValue) (x : Option ℕ) → Describes l live v x → Describes l live (get_or (set xs i v) i Unset) x
set_described l live [] i v x d = tt
set_described l live (y ∷ ys) zero v x d = d
set_described l live (y ∷ ys) (suc i) v x d = set_described l live ys i v x d

-- a flag apart from those that were set
flags_other : (flags : List Bool) (k n i : ℕ) → (i < k) ⊎ (k + n ≤ i) → get_or (set_from flags k n) i false ≡ get_or flags i false
flags_other flags k zero i apart = refl
flags_other flags k (suc n) i (inl lt) =
    flags_other (set flags k true) (k + 1) n i (inl (omega (arith, lt))) ∙ set_other flags k i true false (λ e. omega (arith, lt, e))
flags_other flags k (suc n) i (inr ge) =
    flags_other (set flags k true) (k + 1) n i (inr (omega (arith, ge))) ∙ set_other flags k i true false (λ e. omega (arith, ge, e))

-- where a byte lies beside a store
beside : (i k n : ℕ) → ((k ≤ i) × (i < k + n)) ⊎ ((i < k) ⊎ (k + n ≤ i))
beside i k n =
    elim (cases_lt i k) [
      | inl lt ↦ inr (inl lt)
      | inr ge ↦ elim (cases_lt i (k + n)) [ inl lt ↦ inl (ge, lt) | inr past ↦ inr (inr past) ]
    ]

-- a byte stays a byte
byte_stays : (before after : Partial) (a size p : ℕ) → IsWritten before after a size → IsByteAt before p → IsByteAt after p
byte_stays before after a size p stored b =
    elim (beside p a size) [
      | inl inside ↦
          let new = stored.inside (p - a) (omega (arith, inside.0, inside.1)) in
          let same : a + (p - a) ≡ p = omega (arith, inside.0) in
          subst (λ q. IsByteAt after q) same new
      | inr apart ↦ (b.0, stored.outside p apart ∙ b.1, b.2)
    ]

-- the number of a slot apart from a store stays
slot_stays : (before after : Partial) (a size base : ℕ) → IsWritten before after a size → (base + 8 ≤ a) ⊎ (a + size ≤ base) → number_at before base 8 ≡ number_at after base 8
slot_stays before after a size base stored (inl below) =
    number_same before after base 8 (λ i lt. sym (stored.outside (base + i) (inl (omega (arith, below, lt)))))
slot_stays before after a size base stored (inr above) =
    number_same before after base 8 (λ i lt. sym (stored.outside (base + i) (inr (omega (arith, above)))))

-- a slot that bytes do not touch lies apart from them
apart : (k size j : ℕ) → 1 ≤ size → (j < k / 8) ⊎ (k / 8 + slots_touched k size ≤ j) → (8 * j + 8 ≤ k) ⊎ (k + size ≤ 8 * j)
apart k size j some (inl below) = inl (omega (arith, below))
apart k size j some (inr above) = inr (omega (arith, above, some))

-- slots that were unset, and those apart from them
unset_apart : (slots : List AbstractValue) (k n j : ℕ) → (j < k) ⊎ (k + n ≤ j) → get_or (unset_from slots k n) j Unset ≡ get_or slots j Unset
unset_apart slots k zero j apart = refl
unset_apart slots k (suc n) j (inl lt) =
    unset_apart (set slots k Unset) (k + 1) n j (inl (omega (arith, lt))) ∙ set_other slots k j Unset Unset (λ e. omega (arith, lt, e))
unset_apart slots k (suc n) j (inr ge) =
    unset_apart (set slots k Unset) (k + 1) n j (inr (omega (arith, ge))) ∙ set_other slots k j Unset Unset (λ e. omega (arith, ge, e))

set_unset : (slots : List AbstractValue) (i : ℕ) → get_or (set slots i Unset) i Unset ≡ Unset
set_unset [] i = refl
set_unset (x ∷ xs) zero = refl
set_unset (x ∷ xs) (suc i) = set_unset xs i

unset_among : (slots : List AbstractValue) (k n j : ℕ) → k ≤ j → j < k + n → get_or (unset_from slots k n) j Unset ≡ Unset
unset_among slots k zero j low high = absurd (omega (arith, low, high))
unset_among slots k (suc n) j low high =
    elim (cases_eq j k) [
      | inl same ↦ rw same (unset_apart (set slots k Unset) (k + 1) n k (inl (omega arith)) ∙ set_unset slots k)
      | inr other ↦ unset_among (set slots k Unset) (k + 1) n j (omega (arith, low, other)) (omega (arith, high))
    ]

moved_up : (base k size j : ℕ) → (8 * j + 8 ≤ k) ⊎ (k + size ≤ 8 * j) → (base + 8 * j + 8 ≤ base + k) ⊎ (base + k + size ≤ base + 8 * j)
moved_up base k size j (inl below) = inl (omega (arith, below))
moved_up base k size j (inr above) = inr (omega (arith, above))

-- another slot lies apart from a whole one
apart_whole : (k j : ℕ) → 8 * (k / 8) ≡ k → j ≢ k / 8 → (8 * j + 8 ≤ k) ⊎ (k + 8 ≤ 8 * j)
apart_whole k j whole other =
    elim (cases_lt j (k / 8)) [ inl lt ↦ inl (omega (arith, lt)) | inr ge ↦ inr (omega (arith, ge, other, whole)) ]

-- a whole slot is spilled
spilled_whole : (l : Lengths) (live top : ℕ) (slots : List AbstractValue) (before after : Partial) (k n j : ℕ) (v : AbstractValue) → FRAME_BYTES ≤ top → n < 2 ^ 64 → 8 * (k / 8) ≡ k → IsStored before after (top - FRAME_BYTES + k) 8 n → Describes l live v (Some n) → Describes l live (get_or slots j Unset) (number_at before (top - FRAME_BYTES + 8 * j) 8) → Describes l live (get_or (set slots (k / 8) v) j Unset) (number_at after (top - FRAME_BYTES + 8 * j) 8)
spilled_whole l live top slots before after k n j v low lt whole stored new old =
    elim (cases_eq j (k / 8)) [
      | inl same ↦
          let low_bits : n % 256 ^ 8 ≡ n = mod-eq_of_lt (omega (arith, lt)) in
          let here : number_at after (top - FRAME_BYTES + k) 8 ≡ Some n = stored.number ∙ ap Some low_bits in
          let place : top - FRAME_BYTES + k ≡ top - FRAME_BYTES + 8 * (k / 8) = omega (arith, whole) in
          let there : Some n ≡ number_at after (top - FRAME_BYTES + 8 * (k / 8)) 8 = sym here ∙ ap (λ a. number_at after a 8) place in
          let described = set_described l live slots (k / 8) v (number_at after (top - FRAME_BYTES + 8 * (k / 8)) 8) (subst (λ x. Describes l live v x) there new) in
          subst (λ i. Describes l live (get_or (set slots (k / 8) v) i Unset) (number_at after (top - FRAME_BYTES + 8 * i) 8)) (sym same) described
      | inr other ↦
          let far = apart_whole k j whole other in
          let stays = slot_stays before after (top - FRAME_BYTES + k) 8 (top - FRAME_BYTES + 8 * j) stored.written (moved_up (top - FRAME_BYTES) k 8 j far) in
          let kept : Describes l live (get_or slots j Unset) (number_at after (top - FRAME_BYTES + 8 * j) 8) = subst (λ x. Describes l live (get_or slots j Unset) x) stays old in
          subst (λ w. Describes l live w (number_at after (top - FRAME_BYTES + 8 * j) 8)) (sym (set_other slots (k / 8) j v Unset other)) kept
    ]

-- the slots that bytes touch are no longer spilled
spilled_part : (l : Lengths) (live top : ℕ) (slots : List AbstractValue) (before after : Partial) (k size j : ℕ) → FRAME_BYTES ≤ top → 1 ≤ size → IsWritten before after (top - FRAME_BYTES + k) size → Describes l live (get_or slots j Unset) (number_at before (top - FRAME_BYTES + 8 * j) 8) → Describes l live (get_or (without_spills slots k size) j Unset) (number_at after (top - FRAME_BYTES + 8 * j) 8)
spilled_part l live top slots before after k size j low some written old =
    elim (beside j (k / 8) (slots_touched k size)) [
      | inl among ↦
          subst (λ w. Describes l live w (number_at after (top - FRAME_BYTES + 8 * j) 8)) (sym (unset_among slots (k / 8) (slots_touched k size) j among.0 among.1)) tt
      | inr out ↦
          let stays = slot_stays before after (top - FRAME_BYTES + k) size (top - FRAME_BYTES + 8 * j) written (moved_up (top - FRAME_BYTES) k size j (apart k size j some out)) in
          let kept : Describes l live (get_or slots j Unset) (number_at after (top - FRAME_BYTES + 8 * j) 8) = subst (λ x. Describes l live (get_or slots j Unset) x) stays old in
          subst (λ w. Describes l live w (number_at after (top - FRAME_BYTES + 8 * j) 8)) (sym (unset_apart slots (k / 8) (slots_touched k size) j out)) kept
    ]

-- every slot after a store in the frame
spilled_after : (l : Lengths) (live top : ℕ) (slots : List AbstractValue) (before after : Partial) (k size n j : ℕ) (v : AbstractValue) → FRAME_BYTES ≤ top → n < 2 ^ 64 → 1 ≤ size → IsStored before after (top - FRAME_BYTES + k) size n → Describes l live v (Some n) → Describes l live (get_or slots j Unset) (number_at before (top - FRAME_BYTES + 8 * j) 8) → Describes l live (get_or (cond (is_slot k size) (set slots (k / 8) v) (without_spills slots k size)) j Unset) (number_at after (top - FRAME_BYTES + 8 * j) 8)
spilled_after l live top slots before after k size n j v low lt some stored new old =
    elim (cases_Bool (is_slot k size)) [
      | inl is ↦
          let whole = and_parts (eqb size 8) (eqb (k % 8) 0) is in
          let eight : size ≡ 8 = eqb-true size 8 whole.0 in
          let aligned : 8 * (k / 8) ≡ k = omega (arith, eqb-true (k % 8) 0 whole.1) in
          let stored_8 : IsStored before after (top - FRAME_BYTES + k) 8 n = subst (λ z. IsStored before after (top - FRAME_BYTES + k) z n) eight stored in
          rw is (spilled_whole l live top slots before after k n j v low lt aligned stored_8 new old)
      | inr not_is ↦ rw not_is (spilled_part l live top slots before after k size j low some stored.written old)
    ]

-- the bytes of the frame after some of them were written
set_after : (top : ℕ) (flags : List Bool) (before after : Partial) (k size i : ℕ) → IsWritten before after (top - FRAME_BYTES + k) size → (get_or flags i false ≡ true → IsByteAt before (top - FRAME_BYTES + i)) → get_or (set_from flags k size) i false ≡ true → IsByteAt after (top - FRAME_BYTES + i)
set_after top flags before after k size i written old h =
    elim (beside i k size) [
      | inl inside ↦
          let b = written.inside (i - k) (omega (arith, inside.0, inside.1)) in
          let same : top - FRAME_BYTES + k + (i - k) ≡ top - FRAME_BYTES + i = omega (arith, inside.0) in
          subst (λ p. IsByteAt after p) same b
      | inr out ↦ byte_stays before after (top - FRAME_BYTES + k) size (top - FRAME_BYTES + i) written (old (sym (flags_other flags k size i out) ∙ h))
    ]

-- a frame some of whose bytes were written
frame_written : (l : Lengths) (live top : ℕ) (f : Frame) (before after : Partial) (k size n : ℕ) (v : AbstractValue) → FRAME_BYTES ≤ top → n < 2 ^ 64 → 1 ≤ size → DescribesFrame l live top f before → IsStored before after (top - FRAME_BYTES + k) size n → Describes l live v (Some n) → DescribesFrame l live top (frame_write f k size v) after
frame_written l live top f before after k size n v low lt some d stored new = record {
  stack_set = λ i below h. set_after top f.bytes_set before after k size i stored.written (d.stack_set i below) h;
  spilled = λ j below. spilled_after l live top f.slots before after k size n j v low lt some stored new (d.spilled j below);
}

-- the frame after some of its bytes were filled
frame_filled : (l : Lengths) (live top : ℕ) (f : Frame) (before after : Partial) (k size : ℕ) → FRAME_BYTES ≤ top → 1 ≤ size → DescribesFrame l live top f before → IsWritten before after (top - FRAME_BYTES + k) size → DescribesFrame l live top (frame_fill f k size) after
frame_filled l live top f before after k size low some d written = record {
  stack_set = λ i below h. set_after top f.bytes_set before after k size i written (d.stack_set i below) h;
  spilled = λ j below. spilled_part l live top f.slots before after k size j low some written (d.spilled j below);
}

-- a frame that bytes were written beside
pub frame_stays : (l : Lengths) (live top : ℕ) (f : Frame) (before after : Partial) (a size : ℕ) → (a + size ≤ top - FRAME_BYTES) ⊎ (top - FRAME_BYTES + FRAME_BYTES ≤ a) → DescribesFrame l live top f before → IsWritten before after a size → DescribesFrame l live top f after
frame_stays l live top f before after a size apart d written = record {
  stack_set = λ i below h. byte_stays before after a size (top - FRAME_BYTES + i) written (d.stack_set i below h);
  spilled = λ j below. subst (λ x. Describes l live (get_or f.slots j Unset) x) (slot_stays before after a size (top - FRAME_BYTES + 8 * j) written (elim apart [ inl under ↦ inr (omega (arith, under)) | inr over ↦ inl (omega (arith, over, below)) ])) (d.spilled j below);
}

-- frames lie apart from one another
other_frame : (j k : ℕ) (from size : ℕ) → j ≢ k → from + size ≤ FRAME_BYTES → ((frame_top k - FRAME_BYTES + from) + size ≤ frame_top j - FRAME_BYTES) ⊎ (frame_top j - FRAME_BYTES + FRAME_BYTES ≤ frame_top k - FRAME_BYTES + from)
other_frame j k from size other inside =
    elim (cases_lt j k) [
      | inl lt ↦ inr (omega (arith, lt))
      | inr ge ↦ inl (omega (arith, ge, other, inside))
    ]

-- a frame that was replaced, if it was there
set_frame : (P : Option Frame → Type 0) (fs : List (Option Frame)) (i : ℕ) (f : Option Frame) → P None → P f → P (get_or (set fs i f) i None)
set_frame P [] i f none new = none
set_frame P (g ∷ gs) zero f none new = new
set_frame P (g ∷ gs) (suc i) f none new = set_frame P gs i f none new

-- a live frame that bytes were written beside
live_stays : (l : Lengths) (live top : ℕ) (f : Option Frame) (before after : Partial) (a size : ℕ) → (a + size ≤ top - FRAME_BYTES) ⊎ (top - FRAME_BYTES + FRAME_BYTES ≤ a) → DescribesLive l live top f before → IsWritten before after a size → DescribesLive l live top f after
live_stays l live top None before after a size apart d written = tt
live_stays l live top (Some f) before after a size apart d written = frame_stays l live top f before after a size apart d written

-- all frames, after some bytes of one of them were written
frames_written : (l : Lengths) (live frame : ℕ) (s : AbstractState) (registers before after : Partial) (k size : ℕ) (f : Frame) → frame < live → k + size ≤ FRAME_BYTES → DescribesParts l live s registers before → IsWritten before after (frame_top frame - FRAME_BYTES + k) size → DescribesFrame l live (frame_top frame) f after → DescribesParts l live (with_frame s frame f) registers after
frames_written l live frame s registers before after k size f is_live inside d written new = record {
  values = d.values;
  record_set = λ i below. byte_stays before after (frame_top frame - FRAME_BYTES + k) size (record_base + i) written (d.record_set i below);
  table_set = λ i below. byte_stays before after (frame_top frame - FRAME_BYTES + k) size (table_base + i) written (d.table_set i below);
  frames = λ j below. elim (cases_eq j frame) [
    | inl same ↦ subst (λ i. DescribesLive l live (frame_top i) (get_or (set s.frames frame (Some f)) i None) after) (sym same) (set_frame (λ g. DescribesLive l live (frame_top frame) g after) s.frames frame (Some f) tt new)
    | inr other ↦ subst (λ g. DescribesLive l live (frame_top j) g after) (sym (set_other s.frames frame j (Some f) None other)) (live_stays l live (frame_top j) (frame_of s j) before after (frame_top frame - FRAME_BYTES + k) size (other_frame j frame k size other inside) (d.frames j below) written)
  ];
}

-- what is written in the record leaves the frames as they were
pub record_described : (l : Lengths) (live : ℕ) (s : AbstractState) (registers before after : Partial) (place size : ℕ) → l.record_length < 2 ^ 16 → place + size ≤ l.record_length → DescribesParts l live s registers before → IsWritten before after (record_base + place) size → DescribesParts l live s registers after
record_described l live s registers before after place size short inside d written = record {
  values = d.values;
  record_set = λ i lt. byte_stays before after (record_base + place) size (record_base + i) written (d.record_set i lt);
  table_set = λ i lt. byte_stays before after (record_base + place) size (table_base + i) written (d.table_set i lt);
  frames = λ k is_live. live_stays l live (frame_top k) (frame_of s k) before after (record_base + place) size (inl (omega (arith, inside, short))) (d.frames k is_live) written;
}

-- what a store leads to
abbrev pub Leaves : Lengths → ℕ → AbstractState → Partial → Partial → ℕ → ℕ → Type 0
Leaves l live s registers after a size = IsAllowed l live a size × DescribesParts l live s registers after

record_store : (l : Lengths) (live lo hi : ℕ) (s t : AbstractState) (registers before after : Partial) (v : AbstractValue) (z : ℤ) (size : Size) (x n : ℕ) → l.record_length < 2 ^ 16 → live ≤ most_frames → FitsSigned w16 z → store_result l s (Record lo hi) z (size_bytes size) v ≡ ok t → DescribesParts l live s registers before → Describes l live (Record lo hi) (Some x) → IsStored before after (address_at x z) (size_bytes size) n → Leaves l live t registers after (address_at x z) (size_bytes size)
record_store l live lo hi s t registers before after v z size x n short few fits h d q stored =
    elim (cases_Bool (is_pointer v)) [
      | inl is ↦ absurd (let e : failed PointerUse ≡ ok t = (rw is at h) in cc)
      | inr no_pointer ↦
          let tests : cond (is_within l.record_length lo hi z (size_bytes size)) (ok s) (failed OutOfRange) ≡ ok t = (rw no_pointer at h) in
          elim (cases_Bool (is_within l.record_length lo hi z (size_bytes size))) [
            | inl is ↦
                let same : s ≡ t = (let e : ok s ≡ ok t = (rw is at tests) in cc) in
                let x-is : x ≡ record_base + q.0 = (let e : Some x ≡ Some (record_base + q.0) = q.1 in cc) in
                let at = place_in l.record_length lo hi q.0 (size_bytes size) z q.2 q.3 is in
                let moved : pos (record_base + at.place) ≡ pos x +ℤ z = omega (arith, ints, at.is, x-is) in
                let address = address_is x (record_base + at.place) z (omega (arith, at.inside, short)) fits moved in
                let here : IsStored before after (record_base + at.place) (size_bytes size) n = subst (λ a. IsStored before after a (size_bytes size) n) address stored in
                let allowed : IsAllowed l live (record_base + at.place) (size_bytes size) = inl (and_from _ _ (le-leb record_base (record_base + at.place) (omega arith)) (le-leb ((record_base + at.place) + size_bytes size) (record_base + l.record_length) (omega (arith, at.inside)))) in
                let described = record_described l live s registers before after at.place (size_bytes size) short at.inside d here.written in
                rw address (allowed, subst (λ w. DescribesParts l live w registers after) same described)
            | inr not_is ↦ absurd (let e : failed OutOfRange ≡ ok t = (rw not_is at tests) in cc)
          ]
    ]

frame_store : (l : Lengths) (live frame : ℕ) (offset : ℤ) (g : Frame) (s t : AbstractState) (registers before after : Partial) (v : AbstractValue) (z : ℤ) (size : Size) (x n : ℕ) → live ≤ most_frames → FitsSigned w16 z → n < 2 ^ 64 → frame_store_result s frame (Some g) (offset +ℤ z) (size_bytes size) v ≡ ok t → DescribesParts l live s registers before → DescribesFrame l live (frame_top frame) g before → Describes l live (Stack frame offset) (Some x) → Describes l live v (Some n) → IsStored before after (address_at x z) (size_bytes size) n → Leaves l live t registers after (address_at x z) (size_bytes size)
frame_store l live frame offset g s t registers before after v z size x n few fits lt h d here_described q new stored =
    let place = offset +ℤ z in
    let k = frame_index (offset +ℤ z) in
    let top = frame_top frame in
    let is_live = q.5 in
    let f = frame_write g k (size_bytes size) v in
    elim (cases_Bool (may_store v (is_in_frame place (size_bytes size) && is_slot k (size_bytes size)))) [
      | inl may ↦
          let tests : cond (is_in_frame place (size_bytes size)) (ok (with_frame s frame f)) (failed OutOfRange) ≡ ok t = (rw may at h) in
          elim (cases_Bool (is_in_frame place (size_bytes size))) [
            | inl is ↦
                let same : with_frame s frame f ≡ t = (let e : ok (with_frame s frame f) ≡ ok t = (rw is at tests) in cc) in
                let both = and_parts (int_le FRAME_BOTTOM place) (int_le (place +ℤ pos (size_bytes size)) (pos 0)) is in
                let begins = at_most FRAME_BOTTOM place both.0 in
                let ends = at_most (place +ℤ pos (size_bytes size)) (pos 0) both.1 in
                let index = natural (pos FRAME_BYTES +ℤ place) (omega (arith, ints, begins)) in
                let inside : k + size_bytes size ≤ FRAME_BYTES = omega (arith, ints, index, ends) in
                let x-is : x ≡ q.0 = (let e : Some x ≡ Some q.0 = q.1 in cc) in
                let moved : pos (top - FRAME_BYTES + k) ≡ pos x +ℤ z = omega (arith, ints, index, q.2, x-is) in
                let address = address_is x (top - FRAME_BYTES + k) z (omega (arith, inside, few, is_live)) fits moved in
                let here : IsStored before after (top - FRAME_BYTES + k) (size_bytes size) n = subst (λ a. IsStored before after a (size_bytes size) n) address stored in
                let allowed : IsAllowed l live (top - FRAME_BYTES + k) (size_bytes size) = inr (frame, is_live, omega arith, omega (arith, inside)) in
                let written = frame_written l live top g before after k (size_bytes size) n v (omega arith) lt (size_some size) here_described here new in
                let described = frames_written l live frame s registers before after k (size_bytes size) f is_live inside d here.written written in
                rw address (allowed, subst (λ w. DescribesParts l live w registers after) same described)
            | inr not_is ↦ absurd (let e : failed OutOfRange ≡ ok t = (rw not_is at tests) in cc)
          ]
      | inr may_not ↦ absurd (let e : failed PointerUse ≡ ok t = (rw may_not at h) in cc)
    ]

live_store : (l : Lengths) (live frame : ℕ) (offset : ℤ) (g : Option Frame) (s t : AbstractState) (registers before after : Partial) (v : AbstractValue) (z : ℤ) (size : Size) (x n : ℕ) → live ≤ most_frames → FitsSigned w16 z → n < 2 ^ 64 → frame_store_result s frame g (offset +ℤ z) (size_bytes size) v ≡ ok t → DescribesParts l live s registers before → DescribesLive l live (frame_top frame) g before → Describes l live (Stack frame offset) (Some x) → Describes l live v (Some n) → IsStored before after (address_at x z) (size_bytes size) n → Leaves l live t registers after (address_at x z) (size_bytes size)
live_store l live frame offset None s t registers before after v z size x n few fits lt h d here q new stored = absurd cc
live_store l live frame offset (Some g) s t registers before after v z size x n few fits lt h d here q new stored =
    frame_store l live frame offset g s t registers before after v z size x n few fits lt h d here q new stored

pub store_describes : (l : Lengths) (live : ℕ) (s t : AbstractState) (registers before after : Partial) (base v : AbstractValue) (z : ℤ) (size : Size) (x n : ℕ) → l.record_length < 2 ^ 16 → live ≤ most_frames → FitsSigned w16 z → n < 2 ^ 64 → store_result l s base z (size_bytes size) v ≡ ok t → DescribesParts l live s registers before → Describes l live base (Some x) → Describes l live v (Some n) → IsStored before after (address_at x z) (size_bytes size) n → IsAllowed l live (address_at x z) (size_bytes size) × DescribesParts l live t registers after
store_describes l live s t registers before after Unset v z size x n short few fits lt h d q new stored = absurd cc
store_describes l live s t registers before after (Number lo hi) v z size x n short few fits lt h d q new stored = absurd cc
store_describes l live s t registers before after (Record lo hi) v z size x n short few fits lt h d q new stored =
    record_store l live lo hi s t registers before after v z size x n short few fits h d q stored
store_describes l live s t registers before after (Stack frame offset) v z size x n short few fits lt h d q new stored =
    live_store l live frame offset (frame_of s frame) s t registers before after v z size x n few fits lt h d (d.frames frame q.5) q new stored
store_describes l live s t registers before after (Table lo hi) v z size x n short few fits lt h d q new stored = absurd cc

-- what gather fills in a live frame
pub filled_described : (l : Lengths) (live frame : ℕ) (f : Frame) (s : AbstractState) (registers before after : Partial) (k size : ℕ) → frame < live → k + size ≤ FRAME_BYTES → 1 ≤ size → DescribesParts l live s registers before → DescribesFrame l live (frame_top frame) f before → IsWritten before after (frame_top frame - FRAME_BYTES + k) size → DescribesParts l live (with_frame s frame (frame_fill f k size)) registers after
filled_described l live frame f s registers before after k size is_live inside some d here written =
    frames_written l live frame s registers before after k size (frame_fill f k size) is_live inside d written (frame_filled l live (frame_top frame) f before after k size (omega arith) some here written)

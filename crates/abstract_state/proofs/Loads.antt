-- A load that the rules allow gives a number that they describe.
use Rattle.std.proofs.Common.{◌≡◌, ℕ, zero, suc, ◌+◌, ◌-◌, ◌*◌, ◌/◌, ◌%◌, ◌^◌, ◌<◌, ◌≤◌, Bool, true, false, eqb, List, Option, Some, None, Result, Ok, Err, get_or, refl, sym, subst, ap, ◌∙◌, arith, inl, inr, pow-suc}
use Rattle.std.specs.Prelude.{ℤ, pos, negsuc, ◌+ℤ◌, ◌≤ℤ◌, int_le, unsigned_abs, ◌&&◌, FitsSigned}
use Rattle.std.specs.Int.{w16}
use Rattle.std.proofs.lemmas.Int.{ints}
use Rattle.std.proofs.lemmas.Bool.{cases_Bool, and_parts, and_from, le-leb, eqb-true}
use Rattle.std.proofs.Math.Nat.{mod-eq_of_lt, add-mod_left}
use Rattle.bpf_model.specs.declared.limits.TheConstants.{FRAME_BYTES}
use Rattle.abstract_values.specs.declared.limits.TheConstants.{FRAME_BOTTOM}
use Rattle.bpf_isa.specs.declared.instruction.Size.{Size}
use Rattle.bpf_isa.specs.declared.instruction.Size.TheVariants.{Byte, Half, Word, Double}
use Rattle.bpf_model.specs.State.{Partial, record_base, table_base, joined_bytes, number_at, address_at, frame_top, most_frames}
use Rattle.bpf_isa.specs.Sizes.{size_bytes}
use Rattle.bpf_image.specs.declared.lengths.Lengths.{Lengths}
use Rattle.bpf_model.specs.declared.cause.Cause.{Cause}
use Rattle.bpf_model.specs.declared.cause.Cause.TheVariants.{OutOfRange, UnsetStackByte}
use Rattle.abstract_values.specs.declared.value.AbstractValue.{AbstractValue}
use Rattle.abstract_values.specs.declared.value.AbstractValue.TheVariants.{Unset, Number, Record, Stack, Table}
use Rattle.abstract_values.specs.Described.{AreShort, Describes}
use Rattle.abstract_state.specs.declared.state.Frame.{Frame}
use Rattle.abstract_state.specs.States.{AbstractState, frame_of}
use Rattle.abstract_state.specs.Memory.{is_within, is_in_frame, frame_index, is_slot, is_spilled, are_set, any_of_size, frame_value, frame_read, frame_load_result, load_result}
use Rattle.abstract_state.specs.Described.{IsByteAt, DescribesFrame, DescribesLive, DescribesParts, IsReadable}

abbrev some : Frame → Option Frame
some f = Some f

abbrev ok : AbstractValue → Result AbstractValue Cause
ok x = Ok x

abbrev failed : Cause → Result AbstractValue Cause
failed cause = Err cause

pub at_most : (a b : ℤ) → int_le a b ≡ true → a ≤ℤ b
at_most a b test = grind (arith, ints)

-- an address at a signed distance from another, where it does not wrap
pub address_is : (x a : ℕ) (z : ℤ) → a < 2 ^ 64 → FitsSigned w16 z → pos a ≡ pos x +ℤ z → address_at x z ≡ a
address_is x a (pos m) lt fits h =
    let there : x + m ≡ a = omega (arith, ints, h) in
    rw there (mod-eq_of_lt lt)
address_is x a (negsuc m) lt fits h =
    let there : x + (2 ^ 64 - suc m) ≡ 2 ^ 64 + a = omega (arith, ints, h, fits.sfits) in
    rw there (add-mod_left (2 ^ 64) a ∙ mod-eq_of_lt lt)

-- bytes that are all there make a number of their size
number_there : (m : Partial) (a size : ℕ) → ((k : ℕ) → k < size → IsByteAt m (a + k)) → (n : ℕ) × (number_at m a size ≡ Some n) × (n < 256 ^ size)
number_there m a zero set = (0, refl, omega arith)
number_there m a (suc size) set =
    let here = set 0 (omega arith) in
    let base : a + 0 ≡ a = omega arith in
    let at_a : m a ≡ Some here.0 = (rw base at here.1) in
    let rest = number_there m (a + 1) size (λ k lt. let next = set (k + 1) (omega (arith, lt)) in let place : (a + 1) + k ≡ a + (k + 1) = omega arith in (next.0, rw place next.1, next.2)) in
    let joined : joined_bytes (m a) (number_at m (a + 1) size) ≡ Some (here.0 + 256 * rest.0) = rw (at_a, rest.1) refl in
    (here.0 + 256 * rest.0, joined, omega (arith, pow-suc 256 size, rest.2, here.2))

-- the greatest number of a size
any_described : (l : Lengths) (live : ℕ) (size : Size) (n : ℕ) → n < 256 ^ size_bytes size → Describes l live (any_of_size (size_bytes size)) (Some n)
any_described l live Byte n lt = (n, refl, omega arith, omega (arith, lt), omega (arith, lt))
any_described l live Half n lt = (n, refl, omega arith, omega (arith, lt), omega (arith, lt))
any_described l live Word n lt = (n, refl, omega arith, omega (arith, lt), omega (arith, lt))
any_described l live Double n lt = (n, refl, omega arith, omega (arith, lt), omega (arith, lt))

-- what a load gives
record Gives (l : Lengths) (live : ℕ) (memory : Partial) (a size : ℕ) (v : AbstractValue) : Type 0 where
  number : ℕ
  readable : IsReadable l live a size
  there : number_at memory a size ≡ Some number
  described : Describes l live v (Some number)

-- a load from the record
record_gives : (l : Lengths) (live : ℕ) (memory : Partial) (size : Size) (place : ℕ) → ((k : ℕ) → k < l.record_length → IsByteAt memory (record_base + k)) → place + size_bytes size ≤ l.record_length → Gives l live memory (record_base + place) (size_bytes size) (any_of_size (size_bytes size))
record_gives l live memory size place set inside =
    let n = number_there memory (record_base + place) (size_bytes size) (λ k lt. let b = set (place + k) (omega (arith, inside, lt)) in let same : (record_base + place) + k ≡ record_base + (place + k) = omega arith in (b.0, rw same b.1, b.2)) in
    record { number = n.0; readable = inl (inl (and_from _ _ (le-leb record_base (record_base + place) (omega arith)) (le-leb ((record_base + place) + size_bytes size) (record_base + l.record_length) (omega (arith, inside))))); there = n.1; described = any_described l live size n.0 n.2 }

-- a load from the table
table_gives : (l : Lengths) (live : ℕ) (memory : Partial) (size : Size) (place : ℕ) → ((k : ℕ) → k < l.table_length → IsByteAt memory (table_base + k)) → place + size_bytes size ≤ l.table_length → Gives l live memory (table_base + place) (size_bytes size) (any_of_size (size_bytes size))
table_gives l live memory size place set inside =
    let n = number_there memory (table_base + place) (size_bytes size) (λ k lt. let b = set (place + k) (omega (arith, inside, lt)) in let same : (table_base + place) + k ≡ table_base + (place + k) = omega arith in (b.0, rw same b.1, b.2)) in
    record { number = n.0; readable = inr (and_from _ _ (le-leb table_base (table_base + place) (omega arith)) (le-leb ((table_base + place) + size_bytes size) (table_base + l.table_length) (omega (arith, inside)))); there = n.1; described = any_described l live size n.0 n.2 }

-- a place at a distance from another, in a record or a table of this length
pub record PlaceIn (most lo hi n size : ℕ) (z : ℤ) : Type 0 where
  pub place : ℕ
  pub is : pos place ≡ pos n +ℤ z
  pub inside : place + size ≤ most

pub place_in : (most lo hi n size : ℕ) (z : ℤ) → lo ≤ n → n ≤ hi → is_within most lo hi z size ≡ true → PlaceIn most lo hi n size z
place_in most lo hi n size (pos m) low high test =
    let parts = and_parts (int_le (pos 0) (pos lo +ℤ pos m)) (int_le (pos (hi + size) +ℤ pos m) (pos most)) test in
    let ends = at_most (pos (hi + size) +ℤ pos m) (pos most) parts.1 in
    record { place = n + m; is = omega (arith, ints); inside = omega (arith, ints, ends, high) }
place_in most lo hi n size (negsuc m) low high test =
    let parts = and_parts (int_le (pos 0) (pos lo +ℤ negsuc m)) (int_le (pos (hi + size) +ℤ negsuc m) (pos most)) test in
    let begins = at_most (pos 0) (pos lo +ℤ negsuc m) parts.0 in
    let ends = at_most (pos (hi + size) +ℤ negsuc m) (pos most) parts.1 in
    let enough : suc m ≤ n = omega (arith, ints, begins, low) in
    record { place = n - suc m; is = omega (arith, ints, enough); inside = omega (arith, ints, ends, high, enough) }

-- flags that are all set
each_set : (flags : List Bool) (k n i : ℕ) → are_set flags k n ≡ true → i < n → get_or flags (k + i) false ≡ true
each_set flags k zero i test lt = absurd (omega (arith, lt))
each_set flags k (suc n) zero test lt =
    let same : k + 0 ≡ k = omega arith in
    rw same ((and_parts (get_or flags k false) (are_set flags (k + 1) n) test).0)
each_set flags k (suc n) (suc i) test lt =
    let same : k + suc i ≡ (k + 1) + i = omega arith in
    rw same (each_set flags (k + 1) n i ((and_parts (get_or flags k false) (are_set flags (k + 1) n) test).1) (omega (arith, lt)))

-- a spilled value describes a number that is there
spilled_number : (l : Lengths) (live : ℕ) (v : AbstractValue) (x : Option ℕ) → is_spilled v ≡ true → Describes l live v x → (n : ℕ) × (x ≡ Some n)
spilled_number l live Unset x h d = absurd cc
spilled_number l live (Number lo hi) x h d = (d.0, d.1)
spilled_number l live (Record lo hi) x h d = (record_base + d.0, d.1)
spilled_number l live (Stack frame offset) x h d = (d.0, d.1)
spilled_number l live (Table lo hi) x h d = (table_base + d.0, d.1)

-- a load from set bytes of a live frame
frame_gives : (l : Lengths) (live frame : ℕ) (f : Frame) (memory : Partial) (size : Size) (k : ℕ) → frame < live → DescribesFrame l live (frame_top frame) f memory → k + size_bytes size ≤ FRAME_BYTES → are_set f.bytes_set k (size_bytes size) ≡ true → Gives l live memory (frame_top frame - FRAME_BYTES + k) (size_bytes size) (frame_value f k (size_bytes size))
frame_gives l live frame f memory size k is_live d inside set =
    let top = frame_top frame in
    let readable : IsReadable l live (top - FRAME_BYTES + k) (size_bytes size) = inl (inr (frame, is_live, omega arith, omega (arith, inside))) in
    elim (cases_Bool (is_slot k (size_bytes size) && is_spilled (get_or f.slots (k / 8) Unset))) [
      | inl is ↦
          let both = and_parts (is_slot k (size_bytes size)) (is_spilled (get_or f.slots (k / 8) Unset)) is in
          let whole = and_parts (eqb (size_bytes size) 8) (eqb (k % 8) 0) both.0 in
          let eight : size_bytes size ≡ 8 = eqb-true (size_bytes size) 8 whole.0 in
          let aligned : top - FRAME_BYTES + 8 * (k / 8) ≡ top - FRAME_BYTES + k = omega (arith, eqb-true (k % 8) 0 whole.1) in
          let kept = d.spilled (k / 8) (omega (arith, inside, eight)) in
          let n = spilled_number l live (get_or f.slots (k / 8) Unset) (number_at memory (top - FRAME_BYTES + 8 * (k / 8)) 8) both.1 kept in
          let described : Describes l live (get_or f.slots (k / 8) Unset) (Some n.0) = subst (λ x. Describes l live (get_or f.slots (k / 8) Unset) x) n.1 kept in
          let here : number_at memory (top - FRAME_BYTES + k) (size_bytes size) ≡ Some n.0 = ap (λ z. number_at memory (top - FRAME_BYTES + k) z) eight ∙ ap (λ a. number_at memory a 8) (sym aligned) ∙ n.1 in
          rw is (record { number = n.0; readable = readable; there = here; described = described })
      | inr not_is ↦
          let n = number_there memory (top - FRAME_BYTES + k) (size_bytes size) (λ i lt. let b = d.stack_set (k + i) (omega (arith, inside, lt)) (each_set f.bytes_set k (size_bytes size) i set lt) in let same : (top - FRAME_BYTES + k) + i ≡ top - FRAME_BYTES + (k + i) = omega arith in (b.0, rw same b.1, b.2)) in
          rw not_is (record { number = n.0; readable = readable; there = n.1; described = any_described l live size n.0 n.2 })
    ]

pub natural : (u : ℤ) → pos 0 ≤ℤ u → pos (unsigned_abs u) ≡ u
natural (pos n) h = refl
natural (negsuc n) h = absurd (omega (arith, ints, h))

record_load : (l : Lengths) (live lo hi : ℕ) (s : AbstractState) (registers memory : Partial) (v : AbstractValue) (z : ℤ) (size : Size) (x : ℕ) → l.record_length < 2 ^ 16 → FitsSigned w16 z → load_result l s (Record lo hi) z (size_bytes size) ≡ ok v → DescribesParts l live s registers memory → Describes l live (Record lo hi) (Some x) → Gives l live memory (address_at x z) (size_bytes size) v
record_load l live lo hi s registers memory v z size x short fits h d q =
    elim (cases_Bool (is_within l.record_length lo hi z (size_bytes size))) [
      | inl is ↦
          let value : any_of_size (size_bytes size) ≡ v = (let e : ok (any_of_size (size_bytes size)) ≡ ok v = (rw is at h) in cc) in
          let x-is : x ≡ record_base + q.0 = (let e : Some x ≡ Some (record_base + q.0) = q.1 in cc) in
          let at = place_in l.record_length lo hi q.0 (size_bytes size) z q.2 q.3 is in
          let moved : pos (record_base + at.place) ≡ pos x +ℤ z = omega (arith, ints, at.is, x-is) in
          let address = address_is x (record_base + at.place) z (omega (arith, at.inside, short)) fits moved in
          rw address (subst (λ w. Gives l live memory (record_base + at.place) (size_bytes size) w) value (record_gives l live memory size at.place d.record_set at.inside))
      | inr not_is ↦ absurd (let e : failed OutOfRange ≡ ok v = (rw not_is at h) in cc)
    ]

table_load : (l : Lengths) (live lo hi : ℕ) (s : AbstractState) (registers memory : Partial) (v : AbstractValue) (z : ℤ) (size : Size) (x : ℕ) → l.table_length < 2 ^ 16 → FitsSigned w16 z → load_result l s (Table lo hi) z (size_bytes size) ≡ ok v → DescribesParts l live s registers memory → Describes l live (Table lo hi) (Some x) → Gives l live memory (address_at x z) (size_bytes size) v
table_load l live lo hi s registers memory v z size x short fits h d q =
    elim (cases_Bool (is_within l.table_length lo hi z (size_bytes size))) [
      | inl is ↦
          let value : any_of_size (size_bytes size) ≡ v = (let e : ok (any_of_size (size_bytes size)) ≡ ok v = (rw is at h) in cc) in
          let x-is : x ≡ table_base + q.0 = (let e : Some x ≡ Some (table_base + q.0) = q.1 in cc) in
          let at = place_in l.table_length lo hi q.0 (size_bytes size) z q.2 q.3 is in
          let moved : pos (table_base + at.place) ≡ pos x +ℤ z = omega (arith, ints, at.is, x-is) in
          let address = address_is x (table_base + at.place) z (omega (arith, at.inside, short)) fits moved in
          rw address (subst (λ w. Gives l live memory (table_base + at.place) (size_bytes size) w) value (table_gives l live memory size at.place d.table_set at.inside))
      | inr not_is ↦ absurd (let e : failed OutOfRange ≡ ok v = (rw not_is at h) in cc)
    ]

frame_load : (l : Lengths) (live frame : ℕ) (offset : ℤ) (f : Frame) (memory : Partial) (v : AbstractValue) (z : ℤ) (size : Size) (x : ℕ) → live ≤ most_frames → FitsSigned w16 z → frame_load_result (some f) (offset +ℤ z) (size_bytes size) ≡ ok v → DescribesFrame l live (frame_top frame) f memory → Describes l live (Stack frame offset) (Some x) → Gives l live memory (address_at x z) (size_bytes size) v
frame_load l live frame offset f memory v z size x few fits h d q =
    let place = offset +ℤ z in
    let top = frame_top frame in
    let is_live = q.5 in
    elim (cases_Bool (is_in_frame place (size_bytes size))) [
      | inl is ↦
          let loads : frame_read f (frame_index place) (size_bytes size) ≡ ok v = (rw is at h) in
          elim (cases_Bool (are_set f.bytes_set (frame_index place) (size_bytes size))) [
            | inl set ↦
                let value : frame_value f (frame_index place) (size_bytes size) ≡ v = (let e : ok (frame_value f (frame_index place) (size_bytes size)) ≡ ok v = (rw set at loads) in cc) in
                let both = and_parts (int_le FRAME_BOTTOM place) (int_le (place +ℤ pos (size_bytes size)) (pos 0)) is in
                let begins = at_most FRAME_BOTTOM place both.0 in
                let ends = at_most (place +ℤ pos (size_bytes size)) (pos 0) both.1 in
                let index = natural (pos FRAME_BYTES +ℤ place) (omega (arith, ints, begins)) in
                let inside : frame_index place + size_bytes size ≤ FRAME_BYTES = omega (arith, ints, index, ends) in
                let x-is : x ≡ q.0 = (let e : Some x ≡ Some q.0 = q.1 in cc) in
                let moved : pos (top - FRAME_BYTES + frame_index place) ≡ pos x +ℤ z = omega (arith, ints, index, q.2, x-is) in
                let address = address_is x (top - FRAME_BYTES + frame_index place) z (omega (arith, inside, few, is_live)) fits moved in
                rw address (subst (λ w. Gives l live memory (top - FRAME_BYTES + frame_index place) (size_bytes size) w) value (frame_gives l live frame f memory size (frame_index place) is_live d inside set))
            | inr not_set ↦ absurd (let e : failed UnsetStackByte ≡ ok v = (rw not_set at loads) in cc)
          ]
      | inr not_is ↦ absurd (let e : failed OutOfRange ≡ ok v = (rw not_is at h) in cc)
    ]

-- a frame that a pointer names is live, if the load is allowed
live_load : (l : Lengths) (live frame : ℕ) (offset : ℤ) (f : Option Frame) (memory : Partial) (v : AbstractValue) (z : ℤ) (size : Size) (x : ℕ) → live ≤ most_frames → FitsSigned w16 z → frame_load_result f (offset +ℤ z) (size_bytes size) ≡ ok v → DescribesLive l live (frame_top frame) f memory → Describes l live (Stack frame offset) (Some x) → Gives l live memory (address_at x z) (size_bytes size) v
live_load l live frame offset None memory v z size x few fits h d q = absurd cc
live_load l live frame offset (Some f) memory v z size x few fits h d q = frame_load l live frame offset f memory v z size x few fits h d q

gives_parts : (l : Lengths) (live : ℕ) (memory : Partial) (a size : ℕ) (v : AbstractValue) → Gives l live memory a size v → (n : ℕ) × IsReadable l live a size × (number_at memory a size ≡ Some n) × Describes l live v (Some n)
gives_parts l live memory a size v g = (g.number, g.readable, g.there, g.described)

pub load_describes : (l : Lengths) (live : ℕ) (s : AbstractState) (registers memory : Partial) (base v : AbstractValue) (z : ℤ) (size : Size) (x : ℕ) → AreShort l → live ≤ most_frames → FitsSigned w16 z → load_result l s base z (size_bytes size) ≡ ok v → DescribesParts l live s registers memory → Describes l live base (Some x) → (n : ℕ) × IsReadable l live (address_at x z) (size_bytes size) × (number_at memory (address_at x z) (size_bytes size) ≡ Some n) × Describes l live v (Some n)
load_describes l live s registers memory Unset v z size x short few fits h d q = absurd cc
load_describes l live s registers memory (Number lo hi) v z size x short few fits h d q = absurd cc
load_describes l live s registers memory (Record lo hi) v z size x short few fits h d q =
    gives_parts l live memory (address_at x z) (size_bytes size) v (record_load l live lo hi s registers memory v z size x short.0 fits h d q)
load_describes l live s registers memory (Stack frame offset) v z size x short few fits h d q =
    gives_parts l live memory (address_at x z) (size_bytes size) v (live_load l live frame offset (frame_of s frame) memory v z size x few fits h (d.frames frame q.5) q)
load_describes l live s registers memory (Table lo hi) v z size x short few fits h d q =
    gives_parts l live memory (address_at x z) (size_bytes size) v (table_load l live lo hi s registers memory v z size x short.1 fits h d q)

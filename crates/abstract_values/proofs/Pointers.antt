-- A pointer moved by a number is described by where the rules say that it may point.
use Rattle.std.proofs.Common.{◌≡◌, ℕ, suc, ◌+◌, ◌-◌, ◌^◌, ◌<◌, ◌≤◌, Bool, true, false, eqb, Some, Result, Err, refl, sym, subst, ap, ◌∙◌, arith, inl, inr, ◌⊎◌}
use Rattle.std.specs.Prelude.{ℤ, pos, negsuc, ◌+ℤ◌, ◌-ℤ◌, ◌≤ℤ◌, int_le, unsigned_abs, ◌&&◌}
use Rattle.std.specs.Int.{w64, cast_signed}
use Rattle.std.proofs.lemmas.Int.{ints}
use Rattle.std.proofs.lemmas.Bool.{cases_Bool, cases_lt, and_parts, eqb-true}
use Rattle.std.proofs.Math.Facts.{to_z-neg}
use Rattle.bpf_isa.specs.declared.instruction.Width.{Width}
use Rattle.bpf_isa.specs.declared.instruction.Width.TheVariants.{Bits64}
use Rattle.bpf_isa.specs.declared.instruction.Operation.{Operation}
use Rattle.bpf_isa.specs.declared.instruction.Operation.TheVariants as operations
use Rattle.bpf_image.specs.declared.lengths.Lengths.{Lengths}
use Rattle.bpf_model.specs.State.{record_base, table_base, frame_top, most_frames}
use Rattle.bpf_model.specs.declared.limits.TheConstants.{FRAME_BYTES}
use Rattle.bpf_model.specs.Arithmetic.{low, alu_number}
use Rattle.bpf_model.specs.declared.cause.Cause.{Cause}
use Rattle.bpf_model.specs.declared.cause.Cause.TheVariants.{OutOfRange}
use Rattle.abstract_values.specs.declared.limits.TheConstants.{FRAME_BOTTOM}
use Rattle.abstract_values.specs.declared.range.Range.{Range}
use Rattle.abstract_values.specs.declared.value.AbstractValue.{AbstractValue}
use Rattle.abstract_values.specs.declared.value.AbstractValue.TheVariants.{Number, Record, Stack, Table}
use Rattle.abstract_values.specs.Ranges.{range, is_constant}
use Rattle.abstract_values.specs.Values.{least_distance, greatest_distance, is_place, record_pointer, table_pointer, stack_pointer, stack_result, sum_result, difference_result, alu_result}
use Rattle.abstract_values.specs.Described.{AreShort, Describes}
use Rattle.abstract_values.proofs.Below.{low_same}
use Rattle.abstract_values.proofs.Within.{Within, constant_is}
use Rattle.abstract_values.proofs.Sound.{ok, number_within, numbers_sound, record_below, table_below, stack_below, move_sound}

abbrev failed : Cause → Result AbstractValue Cause
failed cause = Err cause

at_most : (a b : ℤ) → int_le a b ≡ true → a ≤ℤ b
at_most a b test = grind (arith, ints)

-- how far a number moves an address of 64 bits: adding the number moves it so far, modulo 2^64
abbrev Moves : ℕ → ℤ → Type 0
Moves y d = (d ≡ pos y) ⊎ ((k : ℕ) × (d ≡ negsuc k) × (y + (k + 1) ≡ 2 ^ 64))

sum_at : (x y z : ℕ) (d : ℤ) → x < 2 ^ 64 → y < 2 ^ 64 → z < 2 ^ 64 → Moves y d → pos z ≡ pos x +ℤ d → alu_number Bits64 operations.Add x y ≡ z
sum_at x y z d p q r (inl e) h =
    let there : z ≡ x + y = omega (arith, ints, h, e) in
    rw (low_same Bits64 x p, low_same Bits64 y q) (omega (arith, there, r))
sum_at x y z d p q r (inr e) h =
    let there : x + y ≡ 2 ^ 64 + z = omega (arith, ints, h, e.1, e.2) in
    rw (low_same Bits64 x p, low_same Bits64 y q) (omega (arith, there, r))

difference_at : (x y z : ℕ) (d : ℤ) → x < 2 ^ 64 → y < 2 ^ 64 → z < 2 ^ 64 → Moves y d → pos z ≡ pos x -ℤ d → alu_number Bits64 operations.Subtract x y ≡ z
difference_at x y z d p q r (inl e) h =
    let there : x + (2 ^ 64 - y) ≡ 2 ^ 64 + z = omega (arith, ints, h, e, q) in
    rw (low_same Bits64 x p, low_same Bits64 y q) (omega (arith, there, r))
difference_at x y z d p q r (inr e) h =
    let there : x + (2 ^ 64 - y) ≡ z = omega (arith, ints, h, e.1, e.2) in
    rw (low_same Bits64 x p, low_same Bits64 y q) (omega (arith, there, r))

-- the distance of a number of a range
record Distance (r : Range) (y : ℕ) : Type 0 where
  d : ℤ
  moves : Moves y d
  above : least_distance r ≤ℤ d
  below : d ≤ℤ greatest_distance r
  one : is_constant r ≡ true → d ≡ least_distance r

signed_moves : (y : ℕ) → y < 2 ^ 64 → Moves y (cast_signed w64 y)
signed_moves y lt =
    elim (cases_lt y (2 ^ 63)) [
      | inl positive ↦ inl (omega (arith, ints))
      | inr negative ↦
          let k = 2 ^ 64 - (y + 1) in
          let back : y ≡ 2 ^ 64 - suc k = omega arith in
          let small : k < 2 ^ 63 = omega arith in
          let read : cast_signed w64 y ≡ negsuc k = ap (cast_signed w64) back ∙ to_z-neg w64 k small in
          inr (k, read, omega arith)
    ]

distance_of : (r : Range) (y : ℕ) → Within r y → y < 2 ^ 64 → Distance r y
distance_of r y h lt =
    elim (cases_Bool (eqb r.lo r.hi)) [
      | inl is ↦
          let lo : r.lo ≡ y = constant_is r y h is in
          let hi : r.hi ≡ y = omega (arith, eqb-true r.lo r.hi is, lo) in
          let least : least_distance r ≡ cast_signed w64 y = (rw (is, lo) refl) in
          let greatest : greatest_distance r ≡ cast_signed w64 y = (rw (is, hi) refl) in
          record { d = cast_signed w64 y; moves = signed_moves y lt; above = omega (arith, ints, least); below = omega (arith, ints, greatest); one = λ c. sym least }
      | inr not_is ↦
          let least : least_distance r ≡ pos r.lo = (rw not_is refl) in
          let greatest : greatest_distance r ≡ pos r.hi = (rw not_is refl) in
          record { d = pos y; moves = inl refl; above = omega (arith, ints, least, h.0); below = omega (arith, ints, greatest, h.1); one = λ c. absurd (let e : false ≡ true = sym not_is ∙ c in cc) }
    ]

-- a place in the record that a pointer describes
record Points (l : Lengths) (live : ℕ) (v : AbstractValue) (z : ℤ) : Type 0 where
  place : ℕ
  is : pos place ≡ z
  inside : place ≤ l.record_length
  described : Describes l live v (Some (record_base + place))

between : (l : Lengths) (live : ℕ) (lo hi z : ℤ) → pos 0 ≤ℤ lo → hi ≤ℤ pos l.record_length → lo ≤ℤ z → z ≤ℤ hi → Points l live (Record (unsigned_abs lo) (unsigned_abs hi)) z
between l live (pos a) (pos b) (pos m) p q above below =
    record { place = m; is = refl; inside = omega (arith, ints); described = (m, refl, omega (arith, ints), omega (arith, ints), omega (arith, ints)) }
between l live (pos a) (pos b) (negsuc m) p q above below = absurd (omega (arith, ints))
between l live (pos a) (negsuc b) z p q above below = absurd (omega (arith, ints))
between l live (negsuc a) hi z p q above below = absurd (omega (arith, ints))

points : (l : Lengths) (live : ℕ) (lo hi z : ℤ) (v : AbstractValue) → record_pointer l lo hi ≡ ok v → lo ≤ℤ z → z ≤ℤ hi → Points l live v z
points l live lo hi z v h above below =
    elim (cases_Bool (is_place l.record_length lo && is_place l.record_length hi)) [
      | inl is ↦
          let same : Record (unsigned_abs lo) (unsigned_abs hi) ≡ v = (let e : ok (Record (unsigned_abs lo) (unsigned_abs hi)) ≡ ok v = (rw is at h) in cc) in
          let both = and_parts (is_place l.record_length lo) (is_place l.record_length hi) is in
          let first = and_parts (int_le (pos 0) lo) (int_le lo (pos l.record_length)) both.0 in
          let last = and_parts (int_le (pos 0) hi) (int_le hi (pos l.record_length)) both.1 in
          subst (λ w. Points l live w z) same (between l live lo hi z (at_most (pos 0) lo first.0) (at_most hi (pos l.record_length) last.1) above below)
      | inr not_is ↦ absurd (let e : failed OutOfRange ≡ ok v = (rw not_is at h) in cc)
    ]

-- a place in the table that a pointer describes
record TablePoints (l : Lengths) (live : ℕ) (v : AbstractValue) (z : ℤ) : Type 0 where
  place : ℕ
  is : pos place ≡ z
  inside : place ≤ l.table_length
  described : Describes l live v (Some (table_base + place))

table_between : (l : Lengths) (live : ℕ) (lo hi z : ℤ) → pos 0 ≤ℤ lo → hi ≤ℤ pos l.table_length → lo ≤ℤ z → z ≤ℤ hi → TablePoints l live (Table (unsigned_abs lo) (unsigned_abs hi)) z
table_between l live (pos a) (pos b) (pos m) p q above below =
    record { place = m; is = refl; inside = omega (arith, ints); described = (m, refl, omega (arith, ints), omega (arith, ints), omega (arith, ints)) }
table_between l live (pos a) (pos b) (negsuc m) p q above below = absurd (omega (arith, ints))
table_between l live (pos a) (negsuc b) z p q above below = absurd (omega (arith, ints))
table_between l live (negsuc a) hi z p q above below = absurd (omega (arith, ints))

table_points : (l : Lengths) (live : ℕ) (lo hi z : ℤ) (v : AbstractValue) → table_pointer l lo hi ≡ ok v → lo ≤ℤ z → z ≤ℤ hi → TablePoints l live v z
table_points l live lo hi z v h above below =
    elim (cases_Bool (is_place l.table_length lo && is_place l.table_length hi)) [
      | inl is ↦
          let same : Table (unsigned_abs lo) (unsigned_abs hi) ≡ v = (let e : ok (Table (unsigned_abs lo) (unsigned_abs hi)) ≡ ok v = (rw is at h) in cc) in
          let both = and_parts (is_place l.table_length lo) (is_place l.table_length hi) is in
          let first = and_parts (int_le (pos 0) lo) (int_le lo (pos l.table_length)) both.0 in
          let last = and_parts (int_le (pos 0) hi) (int_le hi (pos l.table_length)) both.1 in
          subst (λ w. TablePoints l live w z) same (table_between l live lo hi z (at_most (pos 0) lo first.0) (at_most hi (pos l.table_length) last.1) above below)
      | inr not_is ↦ absurd (let e : failed OutOfRange ≡ ok v = (rw not_is at h) in cc)
    ]

-- a stack pointer that stays in its frame
record StaysInFrame (frame : ℕ) (v : AbstractValue) (offset : ℤ) : Type 0 where
  least : FRAME_BOTTOM ≤ℤ offset
  most : offset ≤ℤ pos 0
  value : Stack frame offset ≡ v

stays : (frame : ℕ) (offset : ℤ) (v : AbstractValue) → stack_pointer frame offset ≡ ok v → StaysInFrame frame v offset
stays frame offset v h =
    elim (cases_Bool (int_le FRAME_BOTTOM offset && int_le offset (pos 0))) [
      | inl is ↦
          let same : Stack frame offset ≡ v = (let e : ok (Stack frame offset) ≡ ok v = (rw is at h) in cc) in
          let both = and_parts (int_le FRAME_BOTTOM offset) (int_le offset (pos 0)) is in
          record { least = at_most FRAME_BOTTOM offset both.0; most = at_most offset (pos 0) both.1; value = same }
      | inr not_is ↦ absurd (let e : failed OutOfRange ≡ ok v = (rw not_is at h) in cc)
    ]

-- the address of a place in the frame
record Address (top : ℕ) (offset : ℤ) : Type 0 where
  at : ℕ
  is : pos at ≡ pos top +ℤ offset
  below : at < 2 ^ 64

address : (top : ℕ) (offset : ℤ) → FRAME_BYTES ≤ top → top < 2 ^ 64 → FRAME_BOTTOM ≤ℤ offset → offset ≤ℤ pos 0 → Address top offset
address top (pos n) low high least most =
    record { at = top; is = omega (arith, ints); below = high }
address top (negsuc n) low high least most =
    record { at = top - (n + 1); is = omega (arith, ints); below = omega (arith, high) }

-- and of one in a live frame
in_frame : (live frame : ℕ) (offset : ℤ) → live ≤ most_frames → frame < live → FRAME_BOTTOM ≤ℤ offset → offset ≤ℤ pos 0 → Address (frame_top frame) offset
in_frame live frame offset few is_live least most = address (frame_top frame) offset (omega arith) (omega (arith, few, is_live)) least most

-- a range moves no stack pointer
known_constant : (b : Bool) (frame : ℕ) (z : ℤ) (v : AbstractValue) → stack_result b frame z ≡ ok v → (b ≡ true) × (stack_pointer frame z ≡ ok v)
known_constant true frame z v h = (refl, h)
known_constant false frame z v h = absurd cc

stack_sum : (l : Lengths) (live frame : ℕ) (offset : ℤ) (r : Range) (v : AbstractValue) (x y : ℕ) → live ≤ most_frames → stack_result (is_constant r) frame (offset +ℤ least_distance r) ≡ ok v → Describes l live (Stack frame offset) (Some x) → Within r y → y < 2 ^ 64 → Describes l live v (Some (alu_number Bits64 operations.Add x y))
stack_sum l live frame offset r v x y few h p inside lt =
    let x-is : x ≡ p.0 = (let e : Some x ≡ Some p.0 = p.1 in cc) in
    let far = distance_of r y inside lt in
    let known = known_constant (is_constant r) frame (offset +ℤ least_distance r) v h in
    let within = stays frame (offset +ℤ least_distance r) v known.1 in
    let there = in_frame live frame (offset +ℤ least_distance r) few p.5 within.least within.most in
    let moved : pos there.at ≡ pos x +ℤ far.d = omega (arith, ints, there.is, x-is, p.2, far.one known.0) in
    let same = sum_at x y there.at far.d (stack_below l live x frame offset few p) lt there.below far.moves moved in
    rw same (subst (λ w. Describes l live w (Some there.at)) within.value (there.at, refl, there.is, within.least, within.most, p.5))

stack_difference : (l : Lengths) (live frame : ℕ) (offset : ℤ) (r : Range) (v : AbstractValue) (x y : ℕ) → live ≤ most_frames → stack_result (is_constant r) frame (offset -ℤ least_distance r) ≡ ok v → Describes l live (Stack frame offset) (Some x) → Within r y → y < 2 ^ 64 → Describes l live v (Some (alu_number Bits64 operations.Subtract x y))
stack_difference l live frame offset r v x y few h p inside lt =
    let x-is : x ≡ p.0 = (let e : Some x ≡ Some p.0 = p.1 in cc) in
    let far = distance_of r y inside lt in
    let known = known_constant (is_constant r) frame (offset -ℤ least_distance r) v h in
    let within = stays frame (offset -ℤ least_distance r) v known.1 in
    let there = in_frame live frame (offset -ℤ least_distance r) few p.5 within.least within.most in
    let moved : pos there.at ≡ pos x -ℤ far.d = omega (arith, ints, there.is, x-is, p.2, far.one known.0) in
    let same = difference_at x y there.at far.d (stack_below l live x frame offset few p) lt there.below far.moves moved in
    rw same (subst (λ w. Describes l live w (Some there.at)) within.value (there.at, refl, there.is, within.least, within.most, p.5))

-- a sum on a record pointer
record_sum : (l : Lengths) (live lo hi : ℕ) (r : Range) (v : AbstractValue) (x y : ℕ) → l.record_length < 2 ^ 16 → record_pointer l (pos lo +ℤ least_distance r) (pos hi +ℤ greatest_distance r) ≡ ok v → Describes l live (Record lo hi) (Some x) → Within r y → y < 2 ^ 64 → Describes l live v (Some (alu_number Bits64 operations.Add x y))
record_sum l live lo hi r v x y short h p inside lt =
    let x-is : x ≡ record_base + p.0 = (let e : Some x ≡ Some (record_base + p.0) = p.1 in cc) in
    let far = distance_of r y inside lt in
    let there = points l live (pos lo +ℤ least_distance r) (pos hi +ℤ greatest_distance r) (pos p.0 +ℤ far.d) v h (omega (arith, ints, far.above, p.2)) (omega (arith, ints, far.below, p.3)) in
    let moved : pos (record_base + there.place) ≡ pos x +ℤ far.d = omega (arith, ints, there.is, x-is) in
    let same = sum_at x y (record_base + there.place) far.d (record_below l live lo hi x short p) lt (omega (arith, there.inside, short)) far.moves moved in
    rw same there.described

record_difference : (l : Lengths) (live lo hi : ℕ) (r : Range) (v : AbstractValue) (x y : ℕ) → l.record_length < 2 ^ 16 → record_pointer l (pos lo -ℤ greatest_distance r) (pos hi -ℤ least_distance r) ≡ ok v → Describes l live (Record lo hi) (Some x) → Within r y → y < 2 ^ 64 → Describes l live v (Some (alu_number Bits64 operations.Subtract x y))
record_difference l live lo hi r v x y short h p inside lt =
    let x-is : x ≡ record_base + p.0 = (let e : Some x ≡ Some (record_base + p.0) = p.1 in cc) in
    let far = distance_of r y inside lt in
    let there = points l live (pos lo -ℤ greatest_distance r) (pos hi -ℤ least_distance r) (pos p.0 -ℤ far.d) v h (omega (arith, ints, far.below, p.2)) (omega (arith, ints, far.above, p.3)) in
    let moved : pos (record_base + there.place) ≡ pos x -ℤ far.d = omega (arith, ints, there.is, x-is) in
    let same = difference_at x y (record_base + there.place) far.d (record_below l live lo hi x short p) lt (omega (arith, there.inside, short)) far.moves moved in
    rw same there.described

-- a sum on a table pointer
table_sum : (l : Lengths) (live lo hi : ℕ) (r : Range) (v : AbstractValue) (x y : ℕ) → l.table_length < 2 ^ 16 → table_pointer l (pos lo +ℤ least_distance r) (pos hi +ℤ greatest_distance r) ≡ ok v → Describes l live (Table lo hi) (Some x) → Within r y → y < 2 ^ 64 → Describes l live v (Some (alu_number Bits64 operations.Add x y))
table_sum l live lo hi r v x y short h p inside lt =
    let x-is : x ≡ table_base + p.0 = (let e : Some x ≡ Some (table_base + p.0) = p.1 in cc) in
    let far = distance_of r y inside lt in
    let there = table_points l live (pos lo +ℤ least_distance r) (pos hi +ℤ greatest_distance r) (pos p.0 +ℤ far.d) v h (omega (arith, ints, far.above, p.2)) (omega (arith, ints, far.below, p.3)) in
    let moved : pos (table_base + there.place) ≡ pos x +ℤ far.d = omega (arith, ints, there.is, x-is) in
    let same = sum_at x y (table_base + there.place) far.d (table_below l live lo hi x short p) lt (omega (arith, there.inside, short)) far.moves moved in
    rw same there.described

table_difference : (l : Lengths) (live lo hi : ℕ) (r : Range) (v : AbstractValue) (x y : ℕ) → l.table_length < 2 ^ 16 → table_pointer l (pos lo -ℤ greatest_distance r) (pos hi -ℤ least_distance r) ≡ ok v → Describes l live (Table lo hi) (Some x) → Within r y → y < 2 ^ 64 → Describes l live v (Some (alu_number Bits64 operations.Subtract x y))
table_difference l live lo hi r v x y short h p inside lt =
    let x-is : x ≡ table_base + p.0 = (let e : Some x ≡ Some (table_base + p.0) = p.1 in cc) in
    let far = distance_of r y inside lt in
    let there = table_points l live (pos lo -ℤ greatest_distance r) (pos hi -ℤ least_distance r) (pos p.0 -ℤ far.d) v h (omega (arith, ints, far.below, p.2)) (omega (arith, ints, far.above, p.3)) in
    let moved : pos (table_base + there.place) ≡ pos x -ℤ far.d = omega (arith, ints, there.is, x-is) in
    let same = difference_at x y (table_base + there.place) far.d (table_below l live lo hi x short p) lt (omega (arith, there.inside, short)) far.moves moved in
    rw same there.described

add_sound : (l : Lengths) (live : ℕ) (a b v : AbstractValue) (x y : ℕ) → AreShort l → live ≤ most_frames → sum_result l a b ≡ ok v → Describes l live a (Some x) → Describes l live b (Some y) → Describes l live v (Some (alu_number Bits64 operations.Add x y))
add_sound l live (Record lo hi) (Number c d) v x y short few h p q =
    let inside = number_within l live c d y q in
    record_sum l live lo hi (range c d) v x y short.0 h p inside.0 inside.1
add_sound l live (Stack frame offset) (Number c d) v x y short few h p q =
    let inside = number_within l live c d y q in
    stack_sum l live frame offset (range c d) v x y few h p inside.0 inside.1
add_sound l live (Table lo hi) (Number c d) v x y short few h p q =
    let inside = number_within l live c d y q in
    table_sum l live lo hi (range c d) v x y short.1 h p inside.0 inside.1
add_sound l live a b v x y short few h p q = numbers_sound Bits64 operations.Add l live a b v x y h p q

subtract_sound : (l : Lengths) (live : ℕ) (a b v : AbstractValue) (x y : ℕ) → AreShort l → live ≤ most_frames → difference_result l a b ≡ ok v → Describes l live a (Some x) → Describes l live b (Some y) → Describes l live v (Some (alu_number Bits64 operations.Subtract x y))
subtract_sound l live (Record lo hi) (Number c d) v x y short few h p q =
    let inside = number_within l live c d y q in
    record_difference l live lo hi (range c d) v x y short.0 h p inside.0 inside.1
subtract_sound l live (Stack frame offset) (Number c d) v x y short few h p q =
    let inside = number_within l live c d y q in
    stack_difference l live frame offset (range c d) v x y few h p inside.0 inside.1
subtract_sound l live (Table lo hi) (Number c d) v x y short few h p q =
    let inside = number_within l live c d y q in
    table_difference l live lo hi (range c d) v x y short.1 h p inside.0 inside.1
subtract_sound l live a b v x y short few h p q = numbers_sound Bits64 operations.Subtract l live a b v x y h p q

pub alu_describes : (w : Width) (operation : Operation) (l : Lengths) (live : ℕ) (a b v : AbstractValue) (x y : ℕ) → AreShort l → live ≤ most_frames → alu_result w operation l a b ≡ ok v → Describes l live a (Some x) → Describes l live b (Some y) → Describes l live v (Some (alu_number w operation x y))
alu_describes w operations.Move l live a b v x y short few h p q = move_sound w l live b v x y short few h q
alu_describes Bits64 operations.Add l live a b v x y short few h p q = add_sound l live a b v x y short few h p q
alu_describes Bits64 operations.Subtract l live a b v x y short few h p q = subtract_sound l live a b v x y short few h p q
alu_describes w operation l live a b v x y short few h p q = numbers_sound w operation l live a b v x y h p q

-- for the code: the pointer at two offsets that are what the rules name
pub pointer_at : (l : Lengths) (lo hi first last : ℤ) (r : Result AbstractValue Cause) → r ≡ record_pointer l lo hi → lo ≡ first → hi ≡ last → r ≡ record_pointer l first last
pointer_at l lo hi first last r e p q = e ∙ ap (λ z. record_pointer l z hi) p ∙ ap (λ z. record_pointer l first z) q

pub stack_pointer_at : (b : Bool) (frame : ℕ) (offset place : ℤ) (r : Result AbstractValue Cause) → r ≡ stack_pointer frame offset → b ≡ true → offset ≡ place → r ≡ stack_result b frame place
stack_pointer_at b frame offset place r e test same = rw test (e ∙ ap (stack_pointer frame) same)

pub table_pointer_at : (l : Lengths) (lo hi first last : ℤ) (r : Result AbstractValue Cause) → r ≡ table_pointer l lo hi → lo ≡ first → hi ≡ last → r ≡ table_pointer l first last
table_pointer_at l lo hi first last r e p q = e ∙ ap (λ z. table_pointer l z hi) p ∙ ap (λ z. table_pointer l first z) q

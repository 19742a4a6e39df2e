-- What is known after arithmetic describes every result of what was described before it.
use Rattle.std.proofs.Common.{◌≡◌, ℕ, ◌+◌, ◌%◌, ◌^◌, ◌<◌, ◌≤◌, cond, eqb, Option, Some, Result, Ok, refl, sym, subst, ap, arith, inl, inr}
use Rattle.std.specs.Prelude.{ℤ, ◌&&◌}
use Rattle.std.specs.Ordering.{int_eq}
use Rattle.std.proofs.lemmas.Int.{ints}
use Rattle.std.proofs.lemmas.Bool.{cases_Bool, and_parts, eqb-true}
use Rattle.std.proofs.lemmas.Bool.Decides.{Decides-int_eq}
use Rattle.bpf_isa.specs.declared.instruction.Width.{Width}
use Rattle.bpf_isa.specs.declared.instruction.Width.TheVariants.{Bits32, Bits64}
use Rattle.bpf_isa.specs.declared.instruction.Operation.{Operation}
use Rattle.bpf_isa.specs.declared.instruction.Operation.TheVariants as operations
use Rattle.bpf_isa.specs.declared.instruction.Extension.{Extension}
use Rattle.bpf_isa.specs.declared.instruction.Extension.TheVariants.{From8To32, From16To32, From8To64, From16To64, From32To64}
use Rattle.bpf_isa.specs.declared.instruction.ByteOrder.{ByteOrder}
use Rattle.bpf_isa.specs.declared.instruction.SwapBits.{SwapBits}
use Rattle.bpf_isa.specs.declared.instruction.SwapBits.TheVariants.{Low16, Low32, Low64}
use Rattle.bpf_isa.specs.declared.instruction.ByteOrder.TheVariants.{Little, Big, Reversed}
use Rattle.bpf_isa.specs.Encoding.{extension_width}
use Rattle.std.specs.Int.{w8, w16, w32, w64, cast_signed, cast_unsigned, swap_bytes}
use Rattle.std.proofs.Math.Nat.{le_refl}
use Rattle.bpf_image.specs.declared.lengths.Lengths.{Lengths}
use Rattle.bpf_model.specs.State.{record_base, table_base, most_frames}
use Rattle.bpf_model.specs.Arithmetic.{modulus, low, alu_number, negate_number, move_signed_number, swap_number}
use Rattle.bpf_model.specs.declared.cause.Cause.{Cause}
use Rattle.abstract_values.specs.declared.range.Range.{Range}
use Rattle.abstract_values.specs.declared.value.AbstractValue.{AbstractValue}
use Rattle.abstract_values.specs.declared.value.AbstractValue.TheVariants.{Unset, Number, Record, Stack, Table}
use Rattle.abstract_values.specs.Ranges.{range, constant, is_constant, everything, input, computed_range}
use Rattle.abstract_values.specs.Values.{join_of, number, of_number, of_numbers, number_result, move_result, exact, negate_result, move_signed_result, swap_result}
use Rattle.abstract_values.specs.Described.{AreShort, Describes}
use Rattle.abstract_values.proofs.Below.{either, modulus_most, low_below, low_same, computed_below}
use Rattle.abstract_values.proofs.Within.{Within, within_everything, constant_is, input_within, computed_within}

abbrev pub ok : {A : Type 0} → A → Result A Cause
ok x = Ok x

stack_joined : (lengths : Lengths) (live f g : ℕ) (a b : ℤ) (x : Option ℕ) → (Describes lengths live (Stack f a) x → Describes lengths live (join_of (Stack f a) (Stack g b)) x) × (Describes lengths live (Stack g b) x → Describes lengths live (join_of (Stack f a) (Stack g b)) x)
stack_joined lengths live f g a b x =
    elim (cases_Bool (eqb f g && int_eq a b)) [
      | inl is ↦
          let both = and_parts (eqb f g) (int_eq a b) is in
          let same : a ≡ b = (Decides-int_eq a b).0 both.1 in
          let one : f ≡ g = eqb-true f g both.0 in
          (λ d. rw is d, λ d. rw is (subst (λ z. Describes lengths live (Stack f z) x) (sym same) (subst (λ h. Describes lengths live (Stack h b) x) (sym one) d)))
      | inr not_is ↦ (λ d. rw not_is tt, λ d. rw not_is tt)
    ]

pub join_describes : (lengths : Lengths) (live : ℕ) (a b : AbstractValue) (x : Option ℕ) → (Describes lengths live a x → Describes lengths live (join_of a b) x) × (Describes lengths live b x → Describes lengths live (join_of a b) x)
join_describes l t (Number a b) (Number c d) x =
    (λ h. (h.0, h.1, omega (arith, h.2), omega (arith, h.3), h.4), λ h. (h.0, h.1, omega (arith, h.2), omega (arith, h.3), h.4))
join_describes l t (Record a b) (Record c d) x =
    (λ h. (h.0, h.1, omega (arith, h.2), omega (arith, h.3), h.4), λ h. (h.0, h.1, omega (arith, h.2), omega (arith, h.3), h.4))
join_describes l t (Stack f a) (Stack g b) x = stack_joined l t f g a b x
join_describes l t (Table a b) (Table c d) x =
    (λ h. (h.0, h.1, omega (arith, h.2), omega (arith, h.3), h.4), λ h. (h.0, h.1, omega (arith, h.2), omega (arith, h.3), h.4))
join_describes l t _ _ x = (λ h. tt, λ h. tt)

-- a number is described by a range that it lies in
pub number_described : (l : Lengths) (live : ℕ) (r : Range) (n : ℕ) → Within r n → n < 2 ^ 64 → Describes l live (number r) (Some n)
number_described l live r n h lt = (n, refl, h.0, h.1, lt)

pub number_within : (l : Lengths) (live lo hi x : ℕ) → Describes l live (Number lo hi) (Some x) → Within (range lo hi) x × (x < 2 ^ 64)
number_within l live lo hi x d =
    let same : x ≡ d.0 = (let e : Some x ≡ Some d.0 = d.1 in cc) in
    ((omega (arith, same, d.2), omega (arith, same, d.3)), omega (arith, same, d.4))

pub of_number_sound : (l : Lengths) (live : ℕ) (f : Range → AbstractValue) (a v : AbstractValue) (x z : ℕ) → of_number f a ≡ ok v → Describes l live a (Some x) → ((r : Range) → Within r x → x < 2 ^ 64 → Describes l live (f r) (Some z)) → Describes l live v (Some z)
of_number_sound l live f Unset v x z h p go = absurd cc
of_number_sound l live f (Number lo hi) v x z h p go =
    let same : f (range lo hi) ≡ v = (let e : ok (f (range lo hi)) ≡ ok v = h in cc) in
    let inside = number_within l live lo hi x p in
    subst (λ w. Describes l live w (Some z)) same (go (range lo hi) inside.0 inside.1)
of_number_sound l live f (Record lo hi) v x z h p go = absurd cc
of_number_sound l live f (Stack frame offset) v x z h p go = absurd cc
of_number_sound l live f (Table lo hi) v x z h p go = absurd cc

pub of_numbers_sound : (l : Lengths) (live : ℕ) (f : Range → Range → AbstractValue) (a b v : AbstractValue) (x y z : ℕ) → of_numbers f a b ≡ ok v → Describes l live a (Some x) → Describes l live b (Some y) → ((r s : Range) → Within r x → Within s y → Describes l live (f r s) (Some z)) → Describes l live v (Some z)
of_numbers_sound l live f (Number lo hi) b v x y z h p q go =
    of_number_sound l live (f (range lo hi)) b v y z h q (λ s inside lt. go (range lo hi) s (number_within l live lo hi x p).0 inside)
of_numbers_sound l live f (Record lo hi) Unset v x y z h p q go = absurd cc
of_numbers_sound l live f (Stack frame offset) Unset v x y z h p q go = absurd cc
of_numbers_sound l live f (Table lo hi) Unset v x y z h p q go = absurd cc
of_numbers_sound l live f _ _ v x y z h p q go = absurd cc

-- arithmetic on two numbers
pub numbers_sound : (w : Width) (operation : Operation) (l : Lengths) (live : ℕ) (a b v : AbstractValue) (x y : ℕ) → of_numbers (number_result w operation) a b ≡ ok v → Describes l live a (Some x) → Describes l live b (Some y) → Describes l live v (Some (alu_number w operation x y))
numbers_sound w operation l live a b v x y h p q =
    of_numbers_sound l live (number_result w operation) a b v x y (alu_number w operation x y) h p q (λ r s inside within. number_described l live (computed_range w operation r s) (alu_number w operation x y) (computed_within w operation r s x y inside within) (omega (arith, computed_below w operation (low w x) (low w y) (low_below w x) (low_below w y), modulus_most w)))

-- a pointer's address is a number of 64 bits
pub record_below : (l : Lengths) (live lo hi y : ℕ) → l.record_length < 2 ^ 16 → Describes l live (Record lo hi) (Some y) → y < 2 ^ 64
record_below l live lo hi y short q =
    let same : y ≡ record_base + q.0 = (let e : Some y ≡ Some (record_base + q.0) = q.1 in cc) in
    omega (arith, same, short, q.4)

pub table_below : (l : Lengths) (live lo hi y : ℕ) → l.table_length < 2 ^ 16 → Describes l live (Table lo hi) (Some y) → y < 2 ^ 64
table_below l live lo hi y short q =
    let same : y ≡ table_base + q.0 = (let e : Some y ≡ Some (table_base + q.0) = q.1 in cc) in
    omega (arith, same, short, q.4)

pub stack_below : (l : Lengths) (live y frame : ℕ) (offset : ℤ) → live ≤ most_frames → Describes l live (Stack frame offset) (Some y) → y < 2 ^ 64
stack_below l live y frame offset high q =
    let same : y ≡ q.0 = (let e : Some y ≡ Some q.0 = q.1 in cc) in
    omega (arith, ints, same, high, q.2, q.4, q.5)

pub move_sound : (w : Width) (l : Lengths) (live : ℕ) (b v : AbstractValue) (x y : ℕ) → AreShort l → live ≤ most_frames → move_result w b ≡ ok v → Describes l live b (Some y) → Describes l live v (Some (alu_number w operations.Move x y))
move_sound w l live Unset v x y short high h q = absurd cc
move_sound w l live (Number lo hi) v x y short high h q =
    let same : number (input w (range lo hi)) ≡ v = (let e : ok (number (input w (range lo hi))) ≡ ok v = h in cc) in
    let inside = number_within l live lo hi y q in
    subst (λ z. Describes l live z (Some (low w y))) same (number_described l live (input w (range lo hi)) (low w y) (input_within w (range lo hi) y inside.0) (omega (arith, low_below w y, modulus_most w)))
move_sound Bits64 l live (Record lo hi) v x y short high h q =
    let same : Record lo hi ≡ v = cc in
    let number : low Bits64 y ≡ y = low_same Bits64 y (record_below l live lo hi y short.0 q) in
    subst (λ w. Describes l live w (Some (low Bits64 y))) same (rw number q)
move_sound Bits64 l live (Stack frame offset) v x y short high h q =
    let same : Stack frame offset ≡ v = cc in
    let number : low Bits64 y ≡ y = low_same Bits64 y (stack_below l live y frame offset high q) in
    subst (λ w. Describes l live w (Some (low Bits64 y))) same (rw number q)
move_sound Bits64 l live (Table lo hi) v x y short few h q =
    let same : Table lo hi ≡ v = cc in
    let number : low Bits64 y ≡ y = low_same Bits64 y (table_below l live lo hi y short.1 q) in
    subst (λ w. Describes l live w (Some (low Bits64 y))) same (rw number q)
move_sound Bits32 l live (Record lo hi) v x y short high h q = absurd cc
move_sound Bits32 l live (Stack frame offset) v x y short high h q = absurd cc
move_sound Bits32 l live (Table lo hi) v x y short few h q = absurd cc

-- a function that is exact for a constant, and gives numbers of its width
exact_sound : (w : Width) (f : ℕ → ℕ) (l : Lengths) (live : ℕ) (r : Range) (n : ℕ) → Within r n → f n < modulus w → Describes l live (exact w f r) (Some (f n))
exact_sound w f l live r n h lt =
    number_described l live (cond (is_constant r) (constant (f r.lo)) (everything w)) (f n) (either (λ s. Within s (f n)) (is_constant r) (constant (f r.lo)) (everything w) (λ is. let same = constant_is r n h is in rw same (le_refl _, le_refl _)) (λ not_is. within_everything w (f n) lt)) (omega (arith, lt, modulus_most w))

pub negate_describes : (w : Width) (l : Lengths) (live : ℕ) (a v : AbstractValue) (x : ℕ) → negate_result w a ≡ ok v → Describes l live a (Some x) → Describes l live v (Some (negate_number w x))
negate_describes w l live a v x h p =
    of_number_sound l live (λ r. exact w (negate_number w) (input w r)) a v x (negate_number w x) h p (λ r inside lt. let same : negate_number w (low w x) ≡ negate_number w x = (rw (low_same w (low w x) (low_below w x)) refl) in subst (λ n. Describes l live (exact w (negate_number w) (input w r)) (Some n)) same (exact_sound w (negate_number w) l live (input w r) (low w x) (input_within w r x inside) (low_below w _)))

-- a sign extension looks at the low bits of its width only, and gives a number of it
extended_low : (e : Extension) (x : ℕ) → move_signed_number e (low (extension_width e) x) ≡ move_signed_number e x
extended_low From8To32 x =
    let same : (x % 2 ^ 32) % 2 ^ 8 ≡ x % 2 ^ 8 = omega arith in
    ap (λ n. cast_unsigned w32 (cast_signed w8 n)) same
extended_low From16To32 x =
    let same : (x % 2 ^ 32) % 2 ^ 16 ≡ x % 2 ^ 16 = omega arith in
    ap (λ n. cast_unsigned w32 (cast_signed w16 n)) same
extended_low From8To64 x =
    let same : (x % 2 ^ 64) % 2 ^ 8 ≡ x % 2 ^ 8 = omega arith in
    ap (λ n. cast_unsigned w64 (cast_signed w8 n)) same
extended_low From16To64 x =
    let same : (x % 2 ^ 64) % 2 ^ 16 ≡ x % 2 ^ 16 = omega arith in
    ap (λ n. cast_unsigned w64 (cast_signed w16 n)) same
extended_low From32To64 x =
    let same : (x % 2 ^ 64) % 2 ^ 32 ≡ x % 2 ^ 32 = omega arith in
    ap (λ n. cast_unsigned w64 (cast_signed w32 n)) same

extended_below : (e : Extension) (x : ℕ) → move_signed_number e x < modulus (extension_width e)
extended_below From8To32 x = omega (arith, ints)
extended_below From16To32 x = omega (arith, ints)
extended_below From8To64 x = omega (arith, ints)
extended_below From16To64 x = omega (arith, ints)
extended_below From32To64 x = omega (arith, ints)

pub move_signed_describes : (e : Extension) (l : Lengths) (live : ℕ) (a v : AbstractValue) (x : ℕ) → move_signed_result e a ≡ ok v → Describes l live a (Some x) → Describes l live v (Some (move_signed_number e x))
move_signed_describes e l live a v x h p =
    let w = extension_width e in
    of_number_sound l live (λ r. exact w (move_signed_number e) (input w r)) a v x (move_signed_number e x) h p (λ r inside lt. subst (λ n. Describes l live (exact w (move_signed_number e) (input w r)) (Some n)) (extended_low e x) (exact_sound w (move_signed_number e) l live (input w r) (low w x) (input_within w r x inside) (extended_below e _)))

swap_below_16 : (n : ℕ) → n < 2 ^ 16 → swap_bytes w16 n < 2 ^ 16
swap_below_16 n lt = omega arith

swap_below_32 : (n : ℕ) → n < 2 ^ 32 → swap_bytes w32 n < 2 ^ 32
swap_below_32 n lt = omega arith

swap_below_64 : (n : ℕ) → n < 2 ^ 64 → swap_bytes w64 n < 2 ^ 64
swap_below_64 n lt = omega arith

swapped_below : (order : ByteOrder) (bits : SwapBits) (x : ℕ) → swap_number order bits x < 2 ^ 64
swapped_below Little Low16 x = omega arith
swapped_below Little Low32 x = omega arith
swapped_below Little Low64 x = omega arith
swapped_below Big Low16 x = omega (arith, swap_below_16 (x % 2 ^ 16) (omega arith))
swapped_below Big Low32 x = omega (arith, swap_below_32 (x % 2 ^ 32) (omega arith))
swapped_below Big Low64 x = swap_below_64 (x % 2 ^ 64) (omega arith)
swapped_below Reversed Low16 x = omega (arith, swap_below_16 (x % 2 ^ 16) (omega arith))
swapped_below Reversed Low32 x = omega (arith, swap_below_32 (x % 2 ^ 32) (omega arith))
swapped_below Reversed Low64 x = swap_below_64 (x % 2 ^ 64) (omega arith)

pub swap_describes : (order : ByteOrder) (bits : SwapBits) (l : Lengths) (live : ℕ) (a v : AbstractValue) (x : ℕ) → swap_result order bits a ≡ ok v → Describes l live a (Some x) → Describes l live v (Some (swap_number order bits x))
swap_describes order bits l live a v x h p =
    of_number_sound l live (exact Bits64 (swap_number order bits)) a v x (swap_number order bits x) h p (λ r inside lt. exact_sound Bits64 (swap_number order bits) l live r x inside (swapped_below order bits x))

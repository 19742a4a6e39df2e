-- What arithmetic makes of numbers in two ranges lies in the range that the rules give.
use Rattle.std.proofs.Common.{◌≡◌, ℕ, ◌+◌, ◌-◌, ◌*◌, ◌/◌, ◌%◌, ◌^◌, ◌<◌, ◌≤◌, true, false, eqb, eq-eqb, cond, Option, Some, None, ◌∙◌, refl, arith, inl, inr}
use Rattle.std.specs.Prelude.{min, max, ◌&&◌, ◌||◌}
use Rattle.std.proofs.Math.Nat.{mod-le, div-le_self, div-mul-le_self, mul-le-mul_left, mul-le-mul_right, add-mod_left, le_refl, pow-le-pow_right}
use Rattle.std.proofs.Math.Dec.{ltb, leb}
use Rattle.std.proofs.lemmas.Nat.Bits.{ones_shr}
use Rattle.std.specs.Option.{SomeIff, unwrap_or}
use Rattle.std.specs.Int.Count.{count_leading_zeros}
use Rattle.std.proofs.lemmas.Bool.{ltb-true, leb-true, eqb-true, and_parts, cases_eq, cases_lt, ne_eqb}
use Rattle.std.proofs.lemmas.Nat.{mod_below, or_lt, xor_lt, and_le_l, and_le_r, leading_length, le-div, mul-le}
use Rattle.bpf_isa.specs.declared.instruction.Width.{Width}
use Rattle.bpf_isa.specs.declared.instruction.Operation.{Operation}
use Rattle.bpf_isa.specs.declared.instruction.Operation.TheVariants as operations
use Rattle.bpf_model.specs.Arithmetic.{modulus, low, shift_count, operation_number, alu_number}
use Rattle.abstract_values.specs.declared.range.Range.{Range}
use Rattle.abstract_values.specs.Ranges.{range, constant, left_shift, right_shift, everything, input, range_within, digits, spread, of_inputs, computed_range}
use Rattle.abstract_values.proofs.Below.{either, modulus_positive, modulus_most, low_below, low_same, computed_below}

abbrev pub Within : Range → ℕ → Type 0
Within r n = (r.lo ≤ n) × (n ≤ r.hi)

-- a range and its numbers
pub within_everything : (w : Width) (n : ℕ) → n < modulus w → Within (everything w) n
within_everything w n lt = (omega arith, omega (arith, lt))

pub input_within : (w : Width) (r : Range) (n : ℕ) → Within r n → Within (input w r) (low w n)
input_within w r n h =
    either (λ s. Within s (low w n)) (ltb r.hi (modulus w)) r (everything w) (λ is. let below = ltb-true r.hi (modulus w) is in let same = low_same w n (omega (arith, h.1, below)) in (rw same h.0, rw same h.1)) (λ not_is. within_everything w (low w n) (low_below w n))

pub input_below : (w : Width) (r : Range) → (input w r).hi < modulus w
input_below w r =
    either (λ s. s.hi < modulus w) (ltb r.hi (modulus w)) r (everything w) (λ is. ltb-true r.hi (modulus w) is) (λ not_is. omega (arith, modulus_positive w))

-- a number between two ends that fit is what it is modulo the width
fitting_within : (w : Width) (lo hi n : ℕ) → lo ≤ n → n ≤ hi → Within (range_within w lo hi) (low w n)
fitting_within w lo hi n above below =
    either (λ s. Within s (low w n)) (ltb lo (modulus w) && ltb hi (modulus w)) (range lo hi) (everything w) (λ is. let fits = ltb-true hi (modulus w) ((and_parts (ltb lo (modulus w)) (ltb hi (modulus w)) is).1) in let same = low_same w n (omega (arith, below, fits)) in (rw same above, rw same below)) (λ not_is. within_everything w (low w n) (low_below w n))

-- a subtrahend not above its minuend does not wrap
difference_within : (w : Width) (a b : Range) (x y : ℕ) → Within a x → Within b y → x < modulus w → y < modulus w → Within (spread w operations.Subtract a b) (operation_number w operations.Subtract x y)
difference_within w a b x y p q r s =
    either (λ c. Within c (low w (x + (modulus w - y)))) (leb b.hi a.lo) (range (a.lo - b.hi) (a.hi - b.lo)) (everything w) (λ is. let above = leb-true b.hi a.lo is in let sum : x + (modulus w - y) ≡ modulus w + (x - y) = omega (arith, p.0, q.1, above, s) in let same : low w (modulus w + (x - y)) ≡ x - y = add-mod_left (modulus w) (x - y) ∙ low_same w (x - y) (omega (arith, r)) in rw (sum, same) (omega (arith, p.0, q.1), omega (arith, p.1, q.0))) (λ not_is. within_everything w _ (low_below w _))

quotients_ordered : (a x y d : ℕ) → a ≤ x → 0 < y → y ≤ d → a / d ≤ x / y
quotients_ordered a x y d le positive below =
    le-div (a / d) x y positive (omega (arith, div-mul-le_self a d, mul-le-mul_left (a / d) below, le))

-- where neither end of a divisor is zero, no number of it is
divisor_positive : (b : Range) (y : ℕ) → Within b y → (eqb b.lo 0 || eqb b.hi 0) ≡ false → (0 < b.lo) × (0 < y) × (eqb y 0 ≡ false)
divisor_positive b y q test =
    elim (cases_eq b.lo 0) [
      | inl zero_lo ↦ absurd (let e : eqb b.lo 0 ≡ true = eq-eqb _ _ zero_lo in let f : true ≡ false = (rw e at test) in cc)
      | inr other ↦
          let positive : 0 < b.lo = omega (arith, other) in
          (positive, omega (arith, positive, q.0), ne_eqb y 0 (λ e. omega (arith, positive, q.0, e)))
    ]

quotient_within : (w : Width) (a b : Range) (x y : ℕ) → Within a x → Within b y → Within (spread w operations.Divide a b) (operation_number w operations.Divide x y)
quotient_within w a b x y p q =
    either (λ c. Within c (cond (eqb y 0) 0 (x / y))) (eqb b.lo 0 || eqb b.hi 0) (range 0 a.hi) (range (a.lo / b.hi) (a.hi / b.lo)) (λ is. either (λ n. Within (range 0 a.hi) n) (eqb y 0) 0 (x / y) (λ z. (omega arith, omega arith)) (λ n. (omega arith, omega (arith, div-le_self x y, p.1)))) (λ not_is. let d = divisor_positive b y q not_is in rw (d.2) (quotients_ordered a.lo x y b.hi p.0 d.1 q.1, quotients_ordered x a.hi b.lo y p.1 d.0 q.0))

remainder_within : (w : Width) (a b : Range) (x y : ℕ) → Within a x → Within b y → Within (spread w operations.Modulo a b) (operation_number w operations.Modulo x y)
remainder_within w a b x y p q =
    either (λ c. Within c (cond (eqb y 0) x (x % y))) (eqb b.lo 0 || eqb b.hi 0) (range 0 a.hi) (range 0 (min a.hi (b.hi - 1))) (λ is. either (λ n. Within (range 0 a.hi) n) (eqb y 0) x (x % y) (λ z. (omega arith, p.1)) (λ n. (omega arith, omega (arith, mod-le x y, p.1)))) (λ not_is. let d = divisor_positive b y q not_is in rw (d.2) (omega arith, omega (arith, mod-le x y, mod_below x y d.1, p.1, q.1)))

-- a number has no more binary digits than a greater one
digits_above : (top n : ℕ) → top < 2 ^ 64 → n ≤ top → n < 2 ^ digits top
digits_above top n lt le =
    let l = leading_length 64 top lt in
    let same : digits top ≡ l.0 = omega (arith, l.1) in
    rw same (omega (arith, l.2, le))

-- a constant is the one number of its range
pub constant_is : (r : Range) (n : ℕ) → Within r n → eqb r.lo r.hi ≡ true → r.lo ≡ n
constant_is r n h test = omega (arith, eqb-true r.lo r.hi test, h.0, h.1)

shift_left_within : (w : Width) (a b : Range) (x y : ℕ) → Within a x → Within b y → Within (spread w operations.ShiftLeft a b) (operation_number w operations.ShiftLeft x y)
shift_left_within w a b x y p q =
    either (λ c. Within c (low w (x * 2 ^ shift_count w y))) (eqb b.lo b.hi) (left_shift w a (shift_count w b.lo)) (everything w) (λ is. let same = constant_is b y q is in let k = shift_count w y in rw same (fitting_within w (a.lo * 2 ^ k) (a.hi * 2 ^ k) (x * 2 ^ k) (mul-le-mul_right (2 ^ k) p.0) (mul-le-mul_right (2 ^ k) p.1))) (λ not_is. within_everything w _ (low_below w _))

power_positive : (k : ℕ) → 0 < 2 ^ k
power_positive k =
    let one : 2 ^ 0 ≤ 2 ^ k = pow-le-pow_right {n = 2} (omega arith) {i = 0} {j = k} (omega arith) in
    omega (arith, one)

shift_right_within : (w : Width) (a b : Range) (x y : ℕ) → Within a x → Within b y → Within (spread w operations.ShiftRight a b) (operation_number w operations.ShiftRight x y)
shift_right_within w a b x y p q =
    either (λ c. Within c (x / 2 ^ shift_count w y)) (eqb b.lo b.hi) (right_shift a (shift_count w b.lo)) (range 0 a.hi) (λ is. let same = constant_is b y q is in let k = shift_count w y in rw same (quotients_ordered a.lo x (2 ^ k) (2 ^ k) p.0 (power_positive k) (le_refl (2 ^ k)), quotients_ordered x a.hi (2 ^ k) (2 ^ k) p.1 (power_positive k) (le_refl (2 ^ k)))) (λ not_is. (omega arith, omega (arith, div-le_self x (2 ^ shift_count w y), p.1)))

-- the rule of each operation, for numbers of its width
spread_within : (w : Width) (operation : Operation) (a b : Range) (x y : ℕ) → Within a x → Within b y → x < modulus w → y < modulus w → a.hi < 2 ^ 64 → b.hi < 2 ^ 64 → Within (spread w operation a b) (operation_number w operation x y)
spread_within w operations.Add a b x y p q r s u v =
    fitting_within w (a.lo + b.lo) (a.hi + b.hi) (x + y) (omega (arith, p.0, q.0)) (omega (arith, p.1, q.1))
spread_within w operations.Subtract a b x y p q r s u v = difference_within w a b x y p q r s
spread_within w operations.Multiply a b x y p q r s u v =
    fitting_within w (a.lo * b.lo) (a.hi * b.hi) (x * y) (mul-le a.lo b.lo x y p.0 q.0) (mul-le x y a.hi b.hi p.1 q.1)
spread_within w operations.Divide a b x y p q r s u v = quotient_within w a b x y p q
spread_within w operations.DivideSigned a b x y p q r s u v =
    within_everything w _ (computed_below w operations.DivideSigned x y r s)
spread_within w operations.Or a b x y p q r s u v =
    (omega arith, omega (arith, or_lt (digits (max a.hi b.hi)) x y (digits_above (max a.hi b.hi) x (omega (arith, u, v)) (omega (arith, p.1))) (digits_above (max a.hi b.hi) y (omega (arith, u, v)) (omega (arith, q.1)))))
spread_within w operations.And a b x y p q r s u v =
    (omega arith, omega (arith, and_le_l x y, and_le_r x y, p.1, q.1))
spread_within w operations.ShiftLeft a b x y p q r s u v = shift_left_within w a b x y p q
spread_within w operations.ShiftRight a b x y p q r s u v = shift_right_within w a b x y p q
spread_within w operations.Modulo a b x y p q r s u v = remainder_within w a b x y p q
spread_within w operations.ModuloSigned a b x y p q r s u v =
    within_everything w _ (computed_below w operations.ModuloSigned x y r s)
spread_within w operations.Xor a b x y p q r s u v =
    (omega arith, omega (arith, xor_lt (digits (max a.hi b.hi)) x y (digits_above (max a.hi b.hi) x (omega (arith, u, v)) (omega (arith, p.1))) (digits_above (max a.hi b.hi) y (omega (arith, u, v)) (omega (arith, q.1)))))
spread_within w operations.Move a b x y p q r s u v = q
spread_within w operations.ShiftRightSigned a b x y p q r s u v =
    within_everything w _ (computed_below w operations.ShiftRightSigned x y r s)

-- of two constants the arithmetic gives one number
of_inputs_within : (w : Width) (operation : Operation) (a b : Range) (x y : ℕ) → Within a x → Within b y → x < modulus w → y < modulus w → a.hi < 2 ^ 64 → b.hi < 2 ^ 64 → Within (of_inputs w operation a b) (operation_number w operation x y)
of_inputs_within w operation a b x y p q r s u v =
    either (λ c. Within c (operation_number w operation x y)) (eqb a.lo a.hi && eqb b.lo b.hi) (constant (alu_number w operation a.lo b.lo)) (spread w operation a b) (λ is. let both = and_parts (eqb a.lo a.hi) (eqb b.lo b.hi) is in let first = constant_is a x p both.0 in let second = constant_is b y q both.1 in let same : alu_number w operation a.lo b.lo ≡ operation_number w operation x y = (rw (first, second, low_same w x r, low_same w y s) refl) in (rw same (le_refl _), rw same (le_refl _))) (λ not_is. spread_within w operation a b x y p q r s u v)

-- what an instruction gives of numbers in two ranges
pub computed_within : (w : Width) (operation : Operation) (a b : Range) (x y : ℕ) → Within a x → Within b y → Within (computed_range w operation a b) (alu_number w operation x y)
computed_within w operation a b x y p q =
    of_inputs_within w operation (input w a) (input w b) (low w x) (low w y) (input_within w a x p) (input_within w b y q) (low_below w x) (low_below w y) (omega (arith, input_below w a, modulus_most w)) (omega (arith, input_below w b, modulus_most w))

-- for the code: the greatest number of so many digits
pub ones_of_digits : (top : ℕ) (o : Option ℕ) → SomeIff o (count_leading_zeros 64 top < 64) ((2 ^ 64 - 1) / 2 ^ count_leading_zeros 64 top) → unwrap_or o 0 ≡ 2 ^ digits top - 1
ones_of_digits top None h =
    elim (cases_lt (count_leading_zeros 64 top) 64) [
      | inl lt ↦ absurd (h lt)
      | inr ge ↦
          let none : digits top ≡ 0 = omega (arith, ge) in
          rw none refl
    ]
ones_of_digits top (Some n) h = h.1 ∙ ones_shr 64 (count_leading_zeros 64 top) (omega (arith, h.0))

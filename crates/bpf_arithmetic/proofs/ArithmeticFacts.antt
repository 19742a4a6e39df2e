-- Quotients and remainders of signed numbers, as patterns of a width.
use Rattle.std.proofs.Common.{◌≡◌, ℕ, zero, suc, ◌/◌, ◌%◌, ◌^◌, ◌<◌, ◌≤◌, nat_lt, true, false, arith, inl, inr}
use Rattle.std.specs.Prelude.{ℤ, pos, negsuc, neg_ℤ, int_div, int_rem, unsigned_abs}
use Rattle.std.specs.Int.{w32, w64, cast_signed, cast_unsigned}
use Rattle.std.proofs.Math.Nat.{mod-eq_of_lt, div-le_self, mod-le}
use Rattle.std.proofs.lemmas.Bool.{cases_lt, lt-ltb, le-ltb}
use Rattle.bpf_isa.specs.declared.instruction.Width.{Width}
use Rattle.bpf_isa.specs.declared.instruction.Width.TheVariants.{Bits32, Bits64}
use Rattle.bpf_model.specs.Arithmetic.{modulus, word_of, low, signed, unsigned}

-- a number lies from -m to m
abbrev IsWithin : ℕ → ℤ → Type 0
IsWithin m (pos n) = n ≤ m
IsWithin m (negsuc n) = suc n ≤ m

negated_within : (m k : ℕ) → k ≤ m → IsWithin m (neg_ℤ (pos k))
negated_within m zero most = omega arith
negated_within m (suc k) most = most

-- a quotient is no further from 0 than its dividend
quotient_within : (m : ℕ) (a b : ℤ) → IsWithin m a → IsWithin m (int_div a b)
quotient_within m (pos a) (pos b) most = omega (arith, div-le_self a b)
quotient_within m (pos a) (negsuc b) most =
    negated_within m (a / suc b) (omega (arith, div-le_self a (suc b)))
quotient_within m (negsuc a) (pos b) most = negated_within m (suc a / b) (omega (arith, div-le_self (suc a) b))
quotient_within m (negsuc a) (negsuc b) most = omega (arith, div-le_self (suc a) (suc b))

signed_within_32 : (n : ℕ) → n < 2 ^ 32 → IsWithin (2 ^ 31) (cast_signed w32 n)
signed_within_32 n fits =
    elim (cases_lt n (2 ^ 31)) [
      | inl below ↦ let test : nat_lt n (2 ^ 31) ≡ true = lt-ltb _ _ below in rw test (omega arith)
      | inr above ↦ let test : nat_lt n (2 ^ 31) ≡ false = le-ltb _ _ above in rw test (omega arith)
    ]

signed_within_64 : (n : ℕ) → n < 2 ^ 64 → IsWithin (2 ^ 63) (cast_signed w64 n)
signed_within_64 n fits =
    elim (cases_lt n (2 ^ 63)) [
      | inl below ↦ let test : nat_lt n (2 ^ 63) ≡ true = lt-ltb _ _ below in rw test (omega arith)
      | inr above ↦ let test : nat_lt n (2 ^ 63) ≡ false = le-ltb _ _ above in rw test (omega arith)
    ]

-- nor is a remainder
remainder_within : (m : ℕ) (a b : ℤ) → IsWithin m a → IsWithin m (int_rem a b)
remainder_within m (pos a) b most = omega (arith, mod-le a (unsigned_abs b))
remainder_within m (negsuc a) b most =
    negated_within m (suc a % unsigned_abs b) (omega (arith, mod-le (suc a) (unsigned_abs b)))

-- the numbers of a width lie from minus half its modulus to half of it
signed_within : (w : Width) (n : ℕ) → n < modulus w → IsWithin (modulus w / 2) (cast_signed (word_of w) n)
signed_within Bits32 n fits = signed_within_32 n fits
signed_within Bits64 n fits = signed_within_64 n fits

low_same : (w : Width) (n : ℕ) → n < modulus w → low w n ≡ n
low_same Bits32 n fits = mod-eq_of_lt fits
low_same Bits64 n fits = mod-eq_of_lt fits

-- the pattern of such a number lies in the width
pattern_within : (w : Width) (z : ℤ) → IsWithin (modulus w / 2) z → cast_unsigned (word_of w) z < modulus w
pattern_within Bits32 (pos n) most = omega arith
pattern_within Bits64 (pos n) most = omega arith
pattern_within Bits32 (negsuc n) most = omega arith
pattern_within Bits64 (negsuc n) most = omega arith

-- a number's pattern that lies in the width is its pattern there
kept : (w : Width) (z : ℤ) → IsWithin (modulus w / 2) z → unsigned w z ≡ cast_unsigned (word_of w) z
kept w z within = low_same w (cast_unsigned (word_of w) z) (pattern_within w z within)

-- the pattern of the quotient of two patterns of a width
pub quotient_kept : (w : Width) (x y : ℕ) → x < modulus w → y < modulus w
    → unsigned w (int_div (signed w x) (signed w y)) ≡ cast_unsigned (word_of w) (int_div (cast_signed (word_of w) x) (cast_signed (word_of w) y))
quotient_kept w x y left right =
    rw (low_same w x left, low_same w y right)
    (kept w (int_div (cast_signed (word_of w) x) (cast_signed (word_of w) y)) (quotient_within (modulus w / 2) (cast_signed (word_of w) x) (cast_signed (word_of w) y) (signed_within w x left)))

-- and of the remainder
pub remainder_kept : (w : Width) (x y : ℕ) → x < modulus w → y < modulus w
    → unsigned w (int_rem (signed w x) (signed w y)) ≡ cast_unsigned (word_of w) (int_rem (cast_signed (word_of w) x) (cast_signed (word_of w) y))
remainder_kept w x y left right =
    rw (low_same w x left, low_same w y right)
    (kept w (int_rem (cast_signed (word_of w) x) (cast_signed (word_of w) y)) (remainder_within (modulus w / 2) (cast_signed (word_of w) x) (cast_signed (word_of w) y) (signed_within w x left)))

-- a quotient's pattern fits, also that of the least number by -1
pub quotient_fits : (w : Width) (x y : ℕ) → x < modulus w → cast_unsigned (word_of w) (int_div (cast_signed (word_of w) x) (cast_signed (word_of w) y)) < modulus w
quotient_fits w x y left =
    pattern_within w (int_div (cast_signed (word_of w) x) (cast_signed (word_of w) y)) (quotient_within (modulus w / 2) (cast_signed (word_of w) x) (cast_signed (word_of w) y) (signed_within w x left))

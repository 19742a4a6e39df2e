-- Numbers in decimal, written and read.
use Rattle.std.proofs.Common.{◌≡◌, ◌<◌, ◌+◌, ◌*◌, ◌%◌, ◌^◌, ℕ, suc, Bool, true, false, List, [], ◌∷◌, ◌++◌, refl, ◌∙◌, arith}
use Rattle.std.specs.Prelude.{ℤ, pos, negsuc, ◌==◌, ◌&&◌, nat_le, nat_lt, Some, FitsSigned}
use Rattle.std.specs.Int.{w16, w32}
use Rattle.std.specs.List.{list_all}
use Rattle.std.specs.Fmt.{decimal, signed_decimal}
use Rattle.std.proofs.lemmas.Fmt.{decimal_by_steps}
use Rattle.std.proofs.lemmas.Bool.{and_parts}
use Rattle.std.proofs.lemmas.Bool.Decides.{nat_tests}
use Rattle.std.proofs.lemmas.List.Folds.{list_all-append}
use Rattle.bpf_asm.specs.declared.reading.numeral.Base.TheVariants.{Ten}
use Rattle.bpf_asm.specs.Lexing.{Numeral, is_digit, is_empty, numeral, number, displacement}
use Rattle.bpf_asm.specs.Statements.{digit_value, digits_from, immediate_of, offset_of, wide_of}
use Rattle.bpf_asm.specs.Writing.{offset_text}

-- digits that spell a number
pub record Spells (n : ℕ) (digits : List ℕ) : Type 0 where
  pub all : list_all is_digit digits ≡ true
  pub some : is_empty digits ≡ false
  pub value : digits_from 10 0 digits ≡ n

from_last : (n d : ℕ) (digits : List ℕ) → digits_from 10 n (digits ++ (d ∷ [])) ≡ 10 * digits_from 10 n digits + digit_value d
from_last n d [] = refl
from_last n d (e ∷ digits) = from_last (10 * n + digit_value e) d digits

digit : (n : ℕ) → n < 10 → is_digit (48 + n) ≡ true
digit n small = grind (arith, nat_tests)

value : (n : ℕ) → n < 10 → digit_value (48 + n) ≡ n
value n small = grind (arith, nat_tests)

last_digit : (digits : List ℕ) (d : ℕ) → list_all is_digit digits ≡ true → is_digit d ≡ true → list_all is_digit (digits ++ (d ∷ [])) ≡ true
last_digit digits d all is = list_all-append is_digit digits (d ∷ []) ∙ simp (all, is)

some_more : (digits : List ℕ) (d : ℕ) → is_empty (digits ++ (d ∷ [])) ≡ false
some_more [] d = refl
some_more (e ∷ digits) d = refl

pub decimal_spells : (n : ℕ) → n < 2 ^ 64 → Spells n (decimal n)
decimal_spells =
    decimal_by_steps Spells (λ n small. record {
      all = simp (digit n small);
      some = refl;
      value = simp (value n small) (omega arith);
    }) (λ n digits great spells. record {
      all = last_digit digits (48 + n % 10) spells.all (digit (n % 10) (omega arith));
      some = some_more digits (48 + n % 10);
      value = from_last 0 (48 + n % 10) digits ∙ (let v = value (n % 10) (omega arith) in omega (arith, v, spells.value));
    })

-- ---- numerals

not_sign : (d : ℕ) → is_digit d ≡ true → (d == 45) ≡ false
not_sign d is = grind (arith, nat_tests)

not_x : (d : ℕ) → is_digit d ≡ true → (d == 120) ≡ false
not_x d is = grind (arith, nat_tests)

and_not : (a b : Bool) → b ≡ false → (a && b) ≡ false
and_not true false is = refl
and_not false b is = refl
and_not true true is = absurd (cc)

plain_numeral : (digits : List ℕ) → list_all is_digit digits ≡ true → numeral digits ≡ record { negative = false; base = Ten; digits = digits }
plain_numeral [] all = refl
plain_numeral (a ∷ []) all = simp (not_sign a (and_parts _ _ all).0)
plain_numeral (a ∷ b ∷ digits) all =
    let first = and_parts (is_digit a) (list_all is_digit (b ∷ digits)) all in
    let second = and_parts (is_digit b) (list_all is_digit digits) first.1 in
    simp (not_sign a first.0, and_not (a == 48) (b == 120) (not_x b second.0))

-- the numeral that a number is written as
abbrev pub numeral_of : ℤ → Numeral
numeral_of (pos n) = record { negative = false; base = Ten; digits = decimal n }
numeral_of (negsuc n) = record { negative = true; base = Ten; digits = decimal (suc n) }

-- a number's digits and sign
pub decimal_number : (n : ℕ) → n < 2 ^ 64 → number (decimal n) ≡ Some (numeral_of (pos n))
decimal_number n small =
    let spells = decimal_spells n small in
    let is = plain_numeral (decimal n) spells.all in
    simp (is, spells.all, spells.some)

pub signed_number : (z : ℤ) → FitsSigned w32 z → number (signed_decimal z) ≡ Some (numeral_of z)
signed_number (pos n) fits = decimal_number n (omega (arith, fits))
signed_number (negsuc n) fits =
    let spells = decimal_spells (suc n) (omega (arith, fits)) in
    simp (spells.all, spells.some)

pub offset_displacement : (z : ℤ) → FitsSigned w16 z → displacement (offset_text z) ≡ Some (numeral_of z)
offset_displacement (pos n) fits =
    let spells = decimal_spells n (omega (arith, fits)) in
    simp (spells.all, spells.some)
offset_displacement (negsuc n) fits =
    let spells = decimal_spells (suc n) (omega (arith, fits)) in
    simp (spells.all, spells.some)

-- its value
magnitude_is : (n : ℕ) → n < 2 ^ 64 → digits_from 10 0 (decimal n) ≡ n
magnitude_is n small = (decimal_spells n small).value

pub immediate_again : (z : ℤ) → FitsSigned w32 z → immediate_of (numeral_of z) ≡ Some z
immediate_again (pos n) fits =
    let value = magnitude_is n (omega (arith, fits)) in
    let small : nat_lt n (2 ^ 31) ≡ true = grind (arith, nat_tests, fits) in
    simp (value, small)
immediate_again (negsuc n) fits =
    let value = magnitude_is (suc n) (omega (arith, fits)) in
    let small : nat_le (suc n) (2 ^ 31) ≡ true = grind (arith, nat_tests, fits) in
    simp (value, small)

pub offset_again : (z : ℤ) → FitsSigned w16 z → offset_of (numeral_of z) ≡ Some z
offset_again (pos n) fits =
    let value = magnitude_is n (omega (arith, fits)) in
    let small : nat_lt n (2 ^ 15) ≡ true = grind (arith, nat_tests, fits) in
    simp (value, small)
offset_again (negsuc n) fits =
    let value = magnitude_is (suc n) (omega (arith, fits)) in
    let small : nat_le (suc n) (2 ^ 15) ≡ true = grind (arith, nat_tests, fits) in
    simp (value, small)

pub wide_again : (n : ℕ) → n < 2 ^ 64 → wide_of (numeral_of (pos n)) ≡ Some n
wide_again n small =
    let value = magnitude_is n small in
    let is : nat_lt n (2 ^ 64) ≡ true = grind (arith, nat_tests) in
    simp (value, is)

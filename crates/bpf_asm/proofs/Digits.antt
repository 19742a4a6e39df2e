-- The number that digits spell.
use Rattle.std.proofs.Common.{◌≡◌, ◌≤◌, ◌<◌, ◌+◌, ◌*◌, ◌^◌, ℕ, List, [], ◌∷◌, drop, get_or, refl, arith}
use Rattle.std.specs.Prelude.{length, nat_lt, Some, None, if◌then◌else◌}
use Rattle.std.proofs.lemmas.Bool.Decides.{nat_tests}
use Rattle.std.proofs.lemmas.List.{drop_more, drop_all}
use Rattle.bpf_asm.specs.declared.reading.numeral.Base.{Base}
use Rattle.bpf_asm.specs.declared.reading.numeral.Base.TheVariants.{Ten, Sixteen}
use Rattle.bpf_asm.specs.Statements.{base_number, digit_value, digits_from}

above : (b : Base) (n : ℕ) (digits : List ℕ) → n ≤ digits_from (base_number b) n digits
above b n [] = omega arith
above Ten n (d ∷ digits) = omega (arith, above Ten (10 * n + digit_value d) digits)
above Sixteen n (d ∷ digits) = omega (arith, above Sixteen (16 * n + digit_value d) digits)

-- one digit further
pub digits_more : (base n i : ℕ) (digits : List ℕ) → i < length digits → digits_from base n (drop i digits) ≡ digits_from base (base * n + digit_value (get_or digits i 0)) (drop (i + 1) digits)
digits_more base n i digits within = rw (drop_more digits i 0 within) refl

-- at the end
pub digits_end : (base n i : ℕ) (digits : List ℕ) → length digits ≤ i → digits_from base n (drop i digits) ≡ n
digits_end base n i digits end = rw (drop_all i digits end) refl

-- a number too great stays so
pub digits_great : (b : Base) (n i : ℕ) (digits : List ℕ) → i < length digits → 2 ^ 64 ≤ base_number b * n + digit_value (get_or digits i 0) → 2 ^ 64 ≤ digits_from (base_number b) n (drop i digits)
digits_great b n i digits within great =
    let next = above b (base_number b * n + digit_value (get_or digits i 0)) (drop (i + 1) digits) in
    let more = digits_more (base_number b) n i digits within in
    omega arith

pub too_great : (n : ℕ) → 2 ^ 64 ≤ n → None ≡ (if nat_lt n (2 ^ 64) then Some n else None)
too_great n great = grind (arith, nat_tests)

pub just_right : (n m : ℕ) → n < 2 ^ 64 → n ≡ m → Some n ≡ (if nat_lt m (2 ^ 64) then Some m else None)
just_right n m small same = grind (arith, nat_tests)

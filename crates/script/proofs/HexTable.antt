-- The table of hexadecimal digits, byte by byte.
use Rattle.std.proofs.Common.{◌≡◌, ℕ, zero, suc, ◌+◌, ◌<◌, ◌≤◌, List, [], ◌∷◌, get_or, refl, sym, ap, ◌∙◌, arith, Bool, true, false, true≢false, nat_lt, ◌&&◌}
use Rattle.std.proofs.lemmas.Bool.Decides.{nat_tests}
use Rattle.std.specs.Prelude.{Option, Some, None}
use Rattle.script_model.specs.Lexing.{hex_digit}
use Rattle.script.specs.declared.reading.hex.TheConstants.{DIGITS, NO_DIGIT}

-- the table's number for a byte that has this value as a digit
abbrev of_value : Option ℕ → ℕ
of_value None = 256
of_value (Some v) = v

abbrev is_small : Option ℕ → Bool
is_small None = true
is_small (Some v) = nat_lt v 16

-- those of so many bytes, from one on
abbrev numbers : ℕ → ℕ → List ℕ
numbers zero byte = []
numbers (suc count) byte = of_value (hex_digit byte) ∷ numbers count (byte + 1)

abbrev are_small : ℕ → ℕ → Bool
are_small zero byte = true
are_small (suc count) byte = is_small (hex_digit byte) && are_small count (byte + 1)

table : DIGITS ≡ numbers 256 0
table = refl

all_small : are_small 256 0 ≡ true
all_small = refl

numbers_at : (count byte k : ℕ) → k < count → get_or (numbers count byte) k 0 ≡ of_value (hex_digit (byte + k))
numbers_at zero byte k within = absurd (omega arith)
numbers_at (suc count) byte zero within = let same : byte ≡ byte + 0 = omega arith in ap (λ b. of_value (hex_digit b)) same
numbers_at (suc count) byte (suc k) within =
    let same : (byte + 1) + k ≡ byte + suc k = omega arith in
    numbers_at count (byte + 1) k (omega arith) ∙ ap (λ b. of_value (hex_digit b)) same

both_true : (a b : Bool) → (a && b) ≡ true → (a ≡ true) × (b ≡ true)
both_true true b holds = (refl, holds)
both_true false b holds = absurd (true≢false (sym holds))

small_at : (count byte k : ℕ) → are_small count byte ≡ true → k < count → is_small (hex_digit (byte + k)) ≡ true
small_at zero byte k all within = absurd (omega arith)
small_at (suc count) byte zero all within =
    let same : byte ≡ byte + 0 = omega arith in
    sym (ap (λ b. is_small (hex_digit b)) same) ∙ (both_true (is_small (hex_digit byte)) (are_small count (byte + 1)) all).0
small_at (suc count) byte (suc k) all within =
    let same : (byte + 1) + k ≡ byte + suc k = omega arith in
    sym (ap (λ b. is_small (hex_digit b)) same)
    ∙ small_at count (byte + 1) k (both_true (is_small (hex_digit byte)) (are_small count (byte + 1)) all).1 (omega arith)

number_of : (c : ℕ) → c < 256 → get_or DIGITS c 0 ≡ of_value (hex_digit c)
number_of c within =
    let same : 0 + c ≡ c = omega arith in
    ap (λ l. get_or l c 0) table ∙ numbers_at 256 0 c within ∙ ap (λ b. of_value (hex_digit b)) same

a_digit : (o : Option ℕ) (n : ℕ) → n ≡ of_value o → n < 16 → o ≡ Some n
a_digit None n is small = absurd (omega arith)
a_digit (Some v) n is small = ap (λ x. Some x) (sym is)

no_digit : (o : Option ℕ) (n : ℕ) → n ≡ of_value o → is_small o ≡ true → 16 ≤ n → (n ≡ NO_DIGIT) × (o ≡ None)
no_digit None n is small big = (is, refl)
no_digit (Some v) n is small big = absurd (let under : v < 16 = grind (arith, nat_tests) in omega arith)

-- a number below 16 in the table is the value of the digit
pub digit_read : (c : ℕ) → c < 256 → get_or DIGITS c 0 < 16 → hex_digit c ≡ Some (get_or DIGITS c 0)
digit_read c within small = a_digit (hex_digit c) (get_or DIGITS c 0) (number_of c within) small

-- another byte is no digit
pub digit_refused : (c : ℕ) → c < 256 → 16 ≤ get_or DIGITS c 0 → (get_or DIGITS c 0 ≡ NO_DIGIT) × (hex_digit c ≡ None)
digit_refused c within big =
    let same : 0 + c ≡ c = omega arith in
    no_digit (hex_digit c) (get_or DIGITS c 0) (number_of c within) (ap (λ b. is_small (hex_digit b)) (sym same) ∙ small_at 256 0 c all_small within) big

-- The number at the front of a line.
use Rattle.std.proofs.Common.{◌≡◌, ℕ, zero, suc, ◌+◌, ◌-◌, ◌*◌, ◌^◌, ◌<◌, ◌≤◌, min, Bool, true, false, List, [], ◌∷◌, ◌++◌, take, drop, get_or, refl, ap, ◌∙◌, sym, inl, inr, arith}
use Rattle.std.specs.Prelude.{length, map, Option, Some, None, option_map, if◌then◌else◌}
use Rattle.std.specs.List.{list_all, position_or_len}
use Rattle.std.proofs.lemmas.Bool.{cases_Bool, cases_lt}
use Rattle.std.proofs.lemmas.List.{drop_more, drop_all}
use Rattle.std.proofs.lemmas.Option.{some_pair_parts}
use Rattle.script_model.specs.Lexing.{is_blank, is_digit, digits_from, number, words}
use Rattle.script.specs.Said.{cut_number}
use Rattle.script.specs.Reading.{cut_before, first_number}
use Rattle.script.proofs.WordLemmas.{words-word, position-within}

-- ---- cut numbers

digits_from-above : (n : ℕ) (bytes : List ℕ) → n ≤ digits_from n bytes
digits_from-above n [] = omega arith
digits_from-above n (b ∷ bytes) = omega (arith, digits_from-above (10 * n + (b - 48)) bytes)

cut_at : (most n : ℕ) (bytes : List ℕ) → min (digits_from (min n most) bytes) most ≡ min (digits_from n bytes) most
cut_at most n bytes = elim (cases_lt n most) [
  | inl below ↦ let same : min n most ≡ n = omega arith in ap (λ m. min (digits_from m bytes) most) same
  | inr above ↦ omega (arith, digits_from-above n bytes, digits_from-above (min n most) bytes)
]

cut_digits : (n : ℕ) (bytes : List ℕ) → cut_number (digits_from (cut_number n) bytes) ≡ cut_number (digits_from n bytes)
cut_digits n bytes = cut_at (2 ^ 64 - 1) n bytes

-- ---- a number and the words after it

-- what the bytes before the first blank spell, after a number that they go on from
abbrev pub spelled : ℕ → List ℕ → Option (ℕ × List (List ℕ))
spelled n [] = Some (n, [])
spelled n (b ∷ bytes) = if is_blank b then Some (n, words bytes) else (if is_digit b then spelled (cut_number (10 * n + (b - 48))) bytes else None)

abbrev pub found : ℕ → List (List ℕ) → Option (ℕ × List (List ℕ))
found n others = Some (n, others)

-- at a blank
pub spelled_to_blank : (n i : ℕ) (xs : List ℕ) → i < length xs → is_blank (get_or xs i 0) ≡ true → spelled n (drop i xs) ≡ found n (words (drop i xs))
spelled_to_blank n i xs within blank = rw (drop_more xs i 0 within) (simp blank)

-- at another byte
pub spelled_no : (n i : ℕ) (xs : List ℕ) → i < length xs → is_blank (get_or xs i 0) ≡ false → is_digit (get_or xs i 0) ≡ false → spelled n (drop i xs) ≡ None
spelled_no n i xs within word other = rw (drop_more xs i 0 within) (simp (word, other))

-- at the end
pub spelled_all : (n i : ℕ) (xs : List ℕ) → length xs ≤ i → spelled n (drop i xs) ≡ found n []
spelled_all n i xs end = rw (drop_all i xs end) refl

-- the same, in the words of the first word
abbrev first_spelled : ℕ → List ℕ → List (List ℕ) → Option (ℕ × List (List ℕ))
first_spelled n word others = option_map (cut_before others) (if list_all is_digit word then Some (digits_from n word) else None)

same_spelled : (all : Bool) (m n : ℕ) (others : List (List ℕ)) → cut_number m ≡ cut_number n → option_map (cut_before others) (if all then Some m else None) ≡ option_map (cut_before others) (if all then Some n else None)
same_spelled true m n others same = ap (λ v. found v others) same
same_spelled false m n others same = refl

not_cut : (n : ℕ) (others : List (List ℕ)) → n ≤ 2 ^ 64 - 1 → found n others ≡ found (cut_number n) others
not_cut n others small = let same : n ≡ cut_number n = omega arith in ap (λ v. found v others) same

spelled_word : (n : ℕ) (xs : List ℕ) → n ≤ 2 ^ 64 - 1 → spelled n xs ≡ first_spelled n (take (position_or_len is_blank xs) xs) (words (drop (position_or_len is_blank xs) xs))
spelled_word n [] small = not_cut n [] small
spelled_word n (b ∷ xs) small = elim (cases_Bool (is_blank b)) [
  | inl blank ↦ simp blank (not_cut n (words xs) small)
  | inr word ↦
      let next : 1 + position_or_len is_blank xs ≡ suc (position_or_len is_blank xs) = omega arith in
      elim (cases_Bool (is_digit b)) [
        | inl digit ↦
            let m : ℕ = 10 * n + (b - 48) in
            let rest = spelled_word (cut_number m) xs (omega arith) in
            let same = same_spelled (list_all is_digit (take (position_or_len is_blank xs) xs)) (digits_from (cut_number m) (take (position_or_len is_blank xs) xs)) (digits_from m (take (position_or_len is_blank xs) xs)) (words (drop (position_or_len is_blank xs) xs)) (cut_digits m (take (position_or_len is_blank xs) xs)) in
            simp (word, digit, next) (rest ∙ same)
        | inr other ↦ simp (word, other, next)
      ]
]

-- a word of one byte or more is a number where all its bytes are digits
number_some : (n : ℕ) (xs : List ℕ) → 0 < n → 0 < length xs → number (take n xs) ≡ (if list_all is_digit (take n xs) then Some (digits_from 0 (take n xs)) else None)
number_some zero xs some more = absurd (omega arith)
number_some (suc n) [] some more = absurd (omega arith)
number_some (suc n) (x ∷ xs) some more = refl

pub spelled_first : (xs : List ℕ) → 0 < position_or_len is_blank xs → spelled 0 xs ≡ first_number (words xs)
spelled_first xs begins =
    let more : 0 < length xs = omega (arith, position-within xs) in
    spelled_word 0 xs (omega arith)
    ∙ ap (option_map (cut_before (words (drop (position_or_len is_blank xs) xs)))) (sym (number_some (position_or_len is_blank xs) xs begins more))
    ∙ ap first_number (sym (words-word xs begins))

-- a line whose first word is a number
pub record First (line : List (List ℕ)) (n : ℕ) (rest : List (List ℕ)) : Type 0 where
  pub word : List ℕ
  pub value : ℕ
  pub begins : line ≡ word ∷ rest
  pub spells : number word ≡ Some value
  pub is_cut : cut_number value ≡ n

first_at : (word : List ℕ) (others : List (List ℕ)) (n : ℕ) (rest : List (List ℕ)) (value : Option ℕ) → number word ≡ value → option_map (cut_before others) value ≡ Some (n, rest) → First (word ∷ others) n rest
first_at word others n rest None is first = absurd (cc)
first_at word others n rest (Some value) is first =
    let parts = some_pair_parts (cut_number value) n others rest first in
    record { word = word; value = value; begins = ap (λ left. word ∷ left) parts.1; spells = is; is_cut = parts.0 }

pub first_of : (line : List (List ℕ)) (n : ℕ) (rest : List (List ℕ)) → first_number line ≡ Some (n, rest) → First line n rest
first_of [] n rest first = absurd (cc)
first_of (word ∷ others) n rest first = first_at word others n rest (number word) refl first

-- ---- lines of numbers

-- numbers, and those after them
abbrev pub after : List ℕ → Option (List ℕ) → Option (List ℕ)
after ns rest = option_map (λ others. ns ++ map cut_number others) rest

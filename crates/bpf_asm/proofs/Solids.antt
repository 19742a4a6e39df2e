-- Bytes that stand within a word or an operand, and the places where a text is cut.
use Rattle.std.proofs.Common.{◌≡◌, ℕ, Bool, true, false, List, [], ◌∷◌, ◌++◌, refl, sym, ◌∙◌, arith}
use Rattle.std.specs.Prelude.{◌==◌, ◌&&◌, length, not, slice_index}
use Rattle.std.specs.List.{list_all, slice_split, position_or_len}
use Rattle.std.proofs.lemmas.Bool.{and_parts}
use Rattle.std.proofs.lemmas.Bool.Decides.{nat_tests}
use Rattle.std.proofs.lemmas.List.Folds.{list_all-append}
use Rattle.bpf_asm.specs.Lexing.{is_blank, is_digit, is_word_byte}

-- no blank, no line end, and neither `,` nor `:` nor `;`
abbrev pub is_solid : ℕ → Bool
is_solid b = not (is_blank b) && (not (b == 10) && (not (b == 44) && (not (b == 58) && not (b == 59))))

-- neither a line end nor `;`
abbrev pub is_inner : ℕ → Bool
is_inner b = not (b == 10) && not (b == 59)

pub word_solid : (b : ℕ) → is_word_byte b ≡ true → is_solid b ≡ true
word_solid b is = grind (arith, nat_tests)

pub digit_solid : (b : ℕ) → is_digit b ≡ true → is_solid b ≡ true
digit_solid b is = grind (arith, nat_tests)

pub solid_inner : (b : ℕ) → is_solid b ≡ true → is_inner b ≡ true
solid_inner b is = grind (arith, nat_tests)

pub solid_not_blank : (b : ℕ) → is_solid b ≡ true → not (is_blank b) ≡ true
solid_not_blank b is = (and_parts _ _ is).0

pub solid_no_comma : (b : ℕ) → is_solid b ≡ true → not (b == 44) ≡ true
solid_no_comma b is = grind (arith, nat_tests)

pub not_true : (b : Bool) → not b ≡ true → b ≡ false
not_true true is = sym is
not_true false is = refl

-- ---- tests on all bytes

pub all_weaker : (p q : ℕ → Bool) (xs : List ℕ) → ((b : ℕ) → p b ≡ true → q b ≡ true) → list_all p xs ≡ true → list_all q xs ≡ true
all_weaker p q [] weaker all = refl
all_weaker p q (x ∷ xs) weaker all =
    let parts = and_parts (p x) (list_all p xs) all in
    simp (weaker x parts.0, all_weaker p q xs weaker parts.1)

pub all_both : (p : ℕ → Bool) (xs ys : List ℕ) → list_all p xs ≡ true → list_all p ys ≡ true → list_all p (xs ++ ys) ≡ true
all_both p xs ys first second = list_all-append p xs ys ∙ simp (first, second)

-- ---- cuts

pub split_at : (p : ℕ → Bool) (xs : List ℕ) (y : ℕ) (ys : List ℕ) → list_all (λ b. not (p b)) xs ≡ true → p y ≡ true → slice_split p (xs ++ (y ∷ ys)) ≡ xs ∷ slice_split p ys
split_at p [] y ys none is = simp is
split_at p (x ∷ xs) y ys none is =
    let parts = and_parts (not (p x)) (list_all (λ b. not (p b)) xs) none in
    simp (not_true (p x) parts.0, split_at p xs y ys parts.1 is)

pub split_whole : (p : ℕ → Bool) (xs : List ℕ) → list_all (λ b. not (p b)) xs ≡ true → slice_split p xs ≡ xs ∷ []
split_whole p [] none = refl
split_whole p (x ∷ xs) none =
    let parts = and_parts (not (p x)) (list_all (λ b. not (p b)) xs) none in
    simp (not_true (p x) parts.0, split_whole p xs parts.1)

pub position_none : (p : ℕ → Bool) (xs : List ℕ) → list_all (λ b. not (p b)) xs ≡ true → position_or_len p xs ≡ length xs
position_none p [] none = refl
position_none p (x ∷ xs) none =
    let parts = and_parts (not (p x)) (list_all (λ b. not (p b)) xs) none in
    let rest = position_none p xs parts.1 in
    simp (not_true (p x) parts.0, rest) (omega arith)

pub position_at : (p : ℕ → Bool) (xs : List ℕ) (y : ℕ) (ys : List ℕ) → list_all (λ b. not (p b)) xs ≡ true → p y ≡ true → position_or_len p (xs ++ (y ∷ ys)) ≡ length xs
position_at p [] y ys none is = simp is
position_at p (x ∷ xs) y ys none is =
    let parts = and_parts (not (p x)) (list_all (λ b. not (p b)) xs) none in
    let rest = position_at p xs y ys parts.1 is in
    simp (not_true (p x) parts.0, rest) (omega arith)

-- ---- ends

abbrev pub last_or : ℕ → List ℕ → ℕ
last_or d [] = d
last_or d (b ∷ text) = last_or b text

pub last_behind : (d : ℕ) (xs : List ℕ) (y : ℕ) (ys : List ℕ) → last_or d (xs ++ (y ∷ ys)) ≡ last_or y ys
last_behind d [] y ys = refl
last_behind d (x ∷ xs) y ys = last_behind x xs y ys

pub last_all : (p : ℕ → Bool) (d : ℕ) (xs : List ℕ) → p d ≡ true → list_all p xs ≡ true → p (last_or d xs) ≡ true
last_all p d [] is all = is
last_all p d (x ∷ xs) is all =
    let parts = and_parts (p x) (list_all p xs) all in
    last_all p x xs parts.0 parts.1

pub last_index : (d b : ℕ) (xs : List ℕ) → slice_index (b ∷ xs) (length xs) ≡ last_or b xs
last_index d b [] = refl
last_index d b (x ∷ xs) = last_index d x xs

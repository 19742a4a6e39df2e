-- The words of a line, one after another.
use Rattle.std.proofs.Common.{◌≡◌, ℕ, zero, suc, ◌+◌, ◌<◌, ◌≤◌, Bool, true, false, not, List, [], ◌∷◌, take, drop, filter, refl, ap, ◌∙◌, sym, inl, inr, eqb, ◌≢◌, arith}
use Rattle.std.specs.Prelude.{length, ◌==◌, IsTrue, ◌↔◌}
use Rattle.std.specs.List.{slice_split, position_or_len}
use Rattle.std.specs.Cmp.Lexicographic.{pointwise}
use Rattle.std.proofs.lemmas.Bool.{cases_Bool}
use Rattle.std.proofs.lemmas.Bool.Decides.{nat_tests}
use Rattle.std.proofs.lemmas.Slice.Eq.{bytes_eq-Decides}
use Rattle.std.proofs.lemmas.List.Sums.{prefix_len-le-length}
use Rattle.script_model.specs.Lexing.{is_blank, is_empty, words, same_bytes}

-- the parts that are not empty
abbrev parts_of : (ℕ → Bool) → List ℕ → List (List ℕ)
parts_of p xs = filter (λ word. not (is_empty word)) (slice_split p xs)

-- the first part of a list, and the others
record Parts (p : ℕ → Bool) (xs : List ℕ) : Type 0 where
  others : List (List ℕ)
  split : slice_split p xs ≡ take (position_or_len p xs) xs ∷ others
  rest : filter (λ word. not (is_empty word)) others ≡ parts_of p (drop (position_or_len p xs) xs)

parts_yes : (p : ℕ → Bool) (x : ℕ) (xs : List ℕ) → p x ≡ true → Parts p (x ∷ xs)
parts_yes p x xs passes = record { others = slice_split p xs; split = simp passes; rest = simp passes }

parts_no : (p : ℕ → Bool) (x : ℕ) (xs : List ℕ) → p x ≡ false → Parts p xs → Parts p (x ∷ xs)
parts_no p x xs fails found =
    let next : 1 + position_or_len p xs ≡ suc (position_or_len p xs) = omega arith in
    record { others = found.others; split = simp (fails, found.split, next); rest = simp (fails, next) found.rest }

parts : (p : ℕ → Bool) (xs : List ℕ) → Parts p xs
parts p [] = record { others = []; split = refl; rest = refl }
parts p (x ∷ xs) = elim (cases_Bool (p x)) [ inl passes ↦ parts_yes p x xs passes | inr fails ↦ parts_no p x xs fails (parts p xs) ]

-- a part of one element or more is kept
kept : (n : ℕ) (xs : List ℕ) (others : List (List ℕ)) → 0 < n → 0 < length xs → filter (λ word. not (is_empty word)) (take n xs ∷ others) ≡ take n xs ∷ filter (λ word. not (is_empty word)) others
kept zero xs others some more = absurd (omega arith)
kept (suc n) [] others some more = absurd (omega arith)
kept (suc n) (x ∷ xs) others some more = refl

parts_first : (p : ℕ → Bool) (xs : List ℕ) → 0 < position_or_len p xs → Parts p xs → parts_of p xs ≡ take (position_or_len p xs) xs ∷ parts_of p (drop (position_or_len p xs) xs)
parts_first p xs begins found =
    let more : 0 < length xs = omega (arith, prefix_len-le-length (λ b. not (p b)) xs) in
    ap (filter (λ word. not (is_empty word))) found.split ∙ kept (position_or_len p xs) xs found.others begins more ∙ ap (λ others. take (position_or_len p xs) xs ∷ others) found.rest

pub position-within : (xs : List ℕ) → position_or_len is_blank xs ≤ length xs
position-within xs = prefix_len-le-length (λ b. not (is_blank b)) xs

-- a line that does not begin with a blank
pub words-word : (xs : List ℕ) → 0 < position_or_len is_blank xs → words xs ≡ take (position_or_len is_blank xs) xs ∷ words (drop (position_or_len is_blank xs) xs)
words-word xs begins = parts_first is_blank xs begins (parts is_blank xs)

-- such a line has a word
pub words_some : (xs : List ℕ) → 0 < position_or_len is_blank xs → words xs ≢ []
words_some xs begins = λ none. let both = sym (words-word xs begins) ∙ none in cc

pub no_words : (xs : List ℕ) (none : Bool) → none ≡ (length xs == 0) → (0 < length xs → 0 < position_or_len is_blank xs) → IsTrue none ↔ (words xs ≡ [])
no_words [] none is begins = (λ _. refl, λ _. is)
no_words (x ∷ xs) none is begins = (λ holds. absurd (grind (arith, nat_tests)), λ empty. absurd (words_some (x ∷ xs) (begins (omega arith)) empty))

pub same_bytes-pointwise : (as' bs : List ℕ) → pointwise eqb as' bs ≡ same_bytes as' bs
same_bytes-pointwise [] [] = refl
same_bytes-pointwise [] (b ∷ bs) = refl
same_bytes-pointwise (a ∷ as') [] = refl
same_bytes-pointwise (a ∷ as') (b ∷ bs) = simp (same_bytes-pointwise as' bs)

pub same_bytes-true : (as' bs : List ℕ) → same_bytes as' bs ≡ true → as' ≡ bs
same_bytes-true as' bs same = let decides = bytes_eq-Decides as' bs in decides.0 (same_bytes-pointwise as' bs ∙ same)

-- The place of a word in a set's list.
use Rattle.std.proofs.Common.{◌≡◌, ℕ, suc, ◌+◌, ◌<◌, ◌≤◌, List, ◌∷◌, ◌++◌, length, get_or, take, drop, Result, Ok, Err, sym, ap, ◌∙◌, arith, length-drop, add-one, inl, inr}
use Rattle.std.specs.Ordering.{nat_cmp}
use Rattle.std.specs.List.Sorted.{IsBinarySearchResult}
use Rattle.std.proofs.lemmas.Bool.{cases_lt}
use Rattle.std.proofs.lemmas.List.{length-take-le, take-append-drop, get_or-take, get_or-drop, drop_more}
use Rattle.std.proofs.lemmas.List.Sorted.{searched}
use Rattle.word_sets.specs.declared.places.TheConstants.{WORD_LIMIT}
use Rattle.word_sets.specs.Words.{has_word, with_word, without_word, IsSet, IsPlace}
use Rattle.word_sets.proofs.Within.{rises}
use Rattle.word_sets.proofs.Parts.{AllBelow, AllAbove, with_at, without_at, has_at, lacks_at}

front_below : (w : ℕ) (xs : List ℕ) (i : ℕ) → i ≤ length xs → ((k : ℕ) → k < i → get_or xs k 0 < w) → AllBelow w (take i xs)
front_below w xs i le h k l =
    let short : k < i = omega (arith, length-take-le i xs le) in omega (arith, get_or-take i xs k 0 short, h k short)

back_above : (w : ℕ) (xs : List ℕ) (i : ℕ) → ((k : ℕ) → i ≤ k → k < length xs → w < get_or xs k 0) → AllAbove w (drop i xs)
back_above w xs i h k l =
    let in' : i + k < length xs = omega (arith, length-drop i xs) in
    omega (arith, get_or-drop i xs k 0, h (i + k) (omega arith) in')

missing : (w : ℕ) (xs : List ℕ) (i : ℕ) → i ≤ length xs → ((k : ℕ) → k < i → get_or xs k 0 < w) → ((k : ℕ) → i ≤ k → k < length xs → w < get_or xs k 0) → IsPlace w xs (Err i)
missing w xs i le low high =
    let whole = take-append-drop i xs in
    let front = front_below w xs i le low in
    let back = back_above w xs i high in
    (le, sym (ap (with_word w) (sym whole) ∙ with_at w (take i xs) (drop i xs) front back), ap (has_word w) (sym whole) ∙ lacks_at w (take i xs) (drop i xs) front back)

found : (w : ℕ) (xs : List ℕ) (i : ℕ) → i < length xs → get_or xs i 0 ≡ w → IsSet xs → IsPlace w xs (Ok i)
found w xs i lt is set' =
    let front = front_below w xs i (omega arith) (λ k h. omega (arith, rises 0 WORD_LIMIT xs set' k i h lt)) in
    let back = back_above w xs (suc i) (λ k h l. omega (arith, rises 0 WORD_LIMIT xs set' i k (omega arith) l)) in
    let rest : drop i xs ≡ w ∷ drop (suc i) xs = drop_more xs i 0 lt ∙ ap (λ y. y ∷ drop (i + 1) xs) is ∙ ap (λ n. w ∷ drop n xs) (add-one i) in
    let whole : take i xs ++ w ∷ drop (suc i) xs ≡ xs = ap (λ l. take i xs ++ l) (sym rest) ∙ take-append-drop i xs in
    (lt, sym (ap (without_word w) (sym whole) ∙ without_at w (take i xs) (drop (suc i) xs) front back), ap (has_word w) (sym whole) ∙ has_at w (take i xs) (drop (suc i) xs) front back)

ascending : (xs : List ℕ) → IsSet xs → (i j : ℕ) → i ≤ j → j < length xs → get_or xs i 0 ≤ get_or xs j 0
ascending xs s i j le lt =
    elim (cases_lt i j) [
      | inl below ↦ omega (arith, rises 0 WORD_LIMIT xs s i j below lt)
      | inr above ↦ (let same : get_or xs i 0 ≡ get_or xs j 0 = ap (λ n. get_or xs n 0) (let e : i ≡ j = omega arith in e) in omega (arith, same))
    ]

-- what a binary search answers is the word's place
pub placed : (w : ℕ) (xs : List ℕ) (r : Result ℕ ℕ) → IsSet xs → IsBinarySearchResult (λ y. nat_cmp y w) xs r → IsPlace w xs r
placed w xs (Ok i) s h = let f = searched xs w (Ok i) h (ascending xs s) in found w xs i f.0 f.1 s
placed w xs (Err i) s h = let f = searched xs w (Err i) h (ascending xs s) in missing w xs i f.0 f.1 f.2

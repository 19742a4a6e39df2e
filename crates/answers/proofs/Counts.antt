-- How many of a vertex's targets pass a test, target by target.
use Rattle.std.proofs.Common.{◌≡◌, ◌==◌, ◌&&◌, not, ℕ, ◌+◌, ◌≤◌, ◌<◌, Bool, true, false, List, length, get_or, refl, ap, ◌∙◌, arith}
use Rattle.std.specs.Int.{from_bool}
use Rattle.std.specs.Prelude.{slice_index, filter, take, cond}
use Rattle.std.proofs.lemmas.List.{take_all}
use Rattle.std.proofs.lemmas.List.Filters.{length-filter_more}
use Rattle.answers.specs.Cores.{is_after, is_at_least}

-- another vertex, whose core number is no less
abbrev pub as_high : List ℕ → ℕ → ℕ → Bool
as_high numbers v u = is_at_least (slice_index numbers v) (slice_index numbers u) && not (u == v)

-- another vertex, which comes after
abbrev pub later : (numbers places : List ℕ) → ℕ → ℕ → Bool
later numbers places v u = is_after numbers places v u && not (u == v)

abbrev worth : Bool → ℕ
worth b = cond b 1 0

as_number : (b : Bool) → from_bool b ≡ worth b
as_number true = refl
as_number false = refl

pub at_most_one : (b : Bool) → from_bool b ≤ 1
at_most_one true = omega arith
at_most_one false = omega arith

pub count_on : (p : ℕ → Bool) (xs : List ℕ) (i d x count more : ℕ) → i < length xs → get_or xs i d ≡ x
    → count ≡ length (filter p (take i xs)) → more ≡ from_bool (p x) → count + more ≡ length (filter p (take (i + 1) xs))
count_on p xs i d x count more within here so_far is =
    let last : worth (p (get_or xs i d)) ≡ worth (p x) = ap (λ (y : ℕ). worth (p y)) here in
    omega (arith, length-filter_more p xs i d within, last, so_far, is, as_number (p x))

pub count_all : (p : ℕ → Bool) (xs : List ℕ) (i count : ℕ) → length xs ≤ i → count ≡ length (filter p (take i xs)) → count ≡ length (filter p xs)
count_all p xs i count past so_far = so_far ∙ ap (λ (ys : List ℕ). length (filter p ys)) (take_all i xs past)

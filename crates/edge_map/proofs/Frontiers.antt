-- A frontier's length, and its pieces.
use Rattle.std.proofs.Common.{◌≡◌, ℕ, suc, zero, ◌+◌, ◌-◌, ◌*◌, ◌<◌, ◌≤◌, min, List, length, take, drop, slice_index, get_or, All, subst, length-drop, sym, ap, ◌∙◌, inl, inr, arith, length-take}
use Rattle.std.specs.List.Sorted.{IsStrictlyIncreasing}
use Rattle.std.proofs.lemmas.Bool.{cases_lt}
use Rattle.std.proofs.lemmas.Grind.{get_or_default_zero}
use Rattle.std.proofs.lemmas.List.Kept.{AllPairs-from_increasing}
use Rattle.std.proofs.lemmas.List.{take_all, length-take}
use Rattle.edge_map.specs.Maps.{IsFrontier}
use Rattle.edge_map.specs.Pieces.{piece_of}

at_least : (f : List ℕ) → IsStrictlyIncreasing f → (k : ℕ) → k < length f → k ≤ slice_index f k
at_least f up zero inside = omega arith
at_least f up (suc k) inside =
    let before = at_least f up k (omega arith) in
    let next : slice_index f k < slice_index f (k + 1) = up k (omega arith) in
    let same : slice_index f (k + 1) ≡ slice_index f (suc k) = ap (slice_index f) (omega arith) in
    omega (arith, before, next, same)

-- vertices that ascend below a number are no more than it
pub frontier_short : (n : ℕ) (f : List ℕ) → IsFrontier n f → length f ≤ n
frontier_short n f is = elim (cases_lt n (length f)) [
  | inr few ↦ few
  | inl many ↦ (
      let at : n ≤ slice_index f n = at_least f is.0 n (omega arith) in
      let below : slice_index f n < n = is.1 n 0 (omega arith) in
      let none : ⊥ = omega (arith, at, below) in
      absurd none)
]

-- vertices that ascend are below a number where the last one is
pub below_the_last : (n : ℕ) (f : List ℕ) (last : ℕ) → IsStrictlyIncreasing f → last + 1 ≡ length f → slice_index f last < n → All (λ v. v < n) f
below_the_last n f last up end below = λ k d h.
    let here : get_or f last d ≡ slice_index f last = get_or_default_zero f last d (omega arith) in
    elim (cases_lt k last) [
      | inl lt ↦ (let pair : get_or f k d < get_or f last d = AllPairs-from_increasing f up k last d lt (omega arith) in omega arith)
      | inr ge ↦ (
          let same : k ≡ last = omega arith in
          subst (λ i. get_or f i d < n) (sym same) (subst (λ v. v < n) (sym here) below))
    ]

-- and where all are, the last one is
pub last_below : (n : ℕ) (f : List ℕ) (last : ℕ) → last + 1 ≡ length f → All (λ v. v < n) f → slice_index f last < n
last_below n f last end all = all last 0 (omega arith)

-- the places of a piece, up to the end of the frontier
pub piece_places : (f : List ℕ) (number until : ℕ) → until ≡ min (length f) (number * 64 + 64) → take (until - number * 64) (drop (number * 64) f) ≡ piece_of f number
piece_places f number until is =
    let from : number * 64 ≡ 64 * number = omega arith in
    let there : take 64 (drop (number * 64) f) ≡ piece_of f number = ap (λ n. take 64 (drop n f)) from in
    let long = length-drop (number * 64) f in
    let same : take (until - number * 64) (drop (number * 64) f) ≡ take 64 (drop (number * 64) f) = elim (cases_lt (length f) (number * 64 + 64)) [
      | inr far ↦ (let whole : until - number * 64 ≡ 64 = omega (arith, is, far) in ap (λ n. take n (drop (number * 64) f)) whole)
      | inl near ↦ (
          let rest : length (drop (number * 64) f) ≤ until - number * 64 = omega (arith, is, near, long) in
          let few : length (drop (number * 64) f) ≤ 64 = omega (arith, near, long) in
          take_all _ (drop (number * 64) f) rest ∙ sym (take_all 64 (drop (number * 64) f) few))
    ] in
    same ∙ there

pub part_short : (xs : List ℕ) (n : ℕ) → n ≤ 64 → length (take n xs) ≤ 64
part_short xs n few = omega (arith, length-take n xs)

-- Where the pieces of a list begin of which each has one width, but for the last.
use Rattle.std.proofs.Common.{◌≡◌, ℕ, zero, suc, ◌+◌, ◌*◌, ◌/◌, ◌%◌, ◌<◌, ◌≤◌, min, List, [], ◌∷◌, length, get_or, take, sym, inl, inr, arith}
use Rattle.std.proofs.lemmas.Bool.{cases_lt}
use Rattle.std.proofs.Math.Nat.{div-add-mod, mul-le-mul_left}
use Rattle.shards.specs.Pages.{AreFull}

abbrev pub total : List ℕ → ℕ
total [] = 0
total (size ∷ sizes) = size + total sizes

next : (w i : ℕ) → w * suc i ≡ w + w * i
next w i = omega arith

pub no_times : (w : ℕ) → w * 0 ≡ 0
no_times w = omega arith

-- so many pieces begin before the end
pub before_end : (w n parts count : ℕ) → 0 < w → count ≡ parts / w + min 1 (parts % w) → n < count → w * n < parts
before_end w n parts count some is h =
    elim (cases_lt 0 (parts % w)) [
      | inl left ↦ (let le : n ≤ parts / w = omega (arith, is) in omega (arith, mul-le-mul_left w le, div-add-mod parts w))
      | inr exact ↦ (let le : suc n ≤ parts / w = omega (arith, is) in omega (arith, mul-le-mul_left w le, next w n, div-add-mod parts w))
    ]

-- and past all of them stands nothing
pub past_end : (w n parts count : ℕ) → 0 < w → count ≡ parts / w + min 1 (parts % w) → count ≤ n → parts ≤ w * n
past_end w n parts count some is h =
    elim (cases_lt 0 (parts % w)) [
      | inl left ↦ (
          let le : suc (parts / w) ≤ n = omega (arith, is) in
          let small : parts % w < w = omega arith in
          omega (arith, mul-le-mul_left w le, next w (parts / w), div-add-mod parts w, small))
      | inr exact ↦ (let le : parts / w ≤ n = omega (arith, is) in omega (arith, mul-le-mul_left w le, div-add-mod parts w))
    ]

pub next_times : (w i : ℕ) → w * (i + 1) ≡ w * i + w
next_times w i = omega arith

-- the sizes after the first
tail_full : (w : ℕ) (size : ℕ) (sizes : List ℕ) → AreFull w (size ∷ sizes) → AreFull w sizes
tail_full w size sizes all = record {
  full = λ i h. all.full (suc i) (omega arith);
  few = λ i h. all.few (suc i) (omega arith);
}

-- before the i-th piece stand i full ones
pub starts : (w : ℕ) (sizes : List ℕ) (i : ℕ) → AreFull w sizes → i < length sizes → total (take i sizes) ≡ w * i
starts w [] i all h = absurd (omega arith)
starts w (size ∷ sizes) zero all h = sym (no_times w)
starts w (size ∷ sizes) (suc i) all h =
    let first : size ≡ w = all.full 0 (omega arith) in
    let rest = starts w sizes i (tail_full w size sizes all) (omega arith) in
    omega (arith, first, rest, next w i)

-- past all pieces
pub past_pieces : (w : ℕ) (sizes : List ℕ) (i : ℕ) → AreFull w sizes → length sizes ≤ i → total sizes ≤ w * i
past_pieces w [] i all h = omega arith
past_pieces w (size ∷ sizes) zero all h = absurd (omega arith)
past_pieces w (size ∷ sizes) (suc i) all h =
    let first : size ≤ w = all.few 0 (omega arith) in
    let rest = past_pieces w sizes i (tail_full w size sizes all) (omega arith) in
    omega (arith, first, rest, next w i)

-- past the last place of a piece that is not full
pub past_piece : (w : ℕ) (sizes : List ℕ) (i k : ℕ) → AreFull w sizes → i < length sizes → get_or sizes i 0 ≤ k → k < w → total sizes ≤ w * i + k
past_piece w [] i k all h past small = absurd (omega arith)
past_piece w (size ∷ sizes) zero k all h past small =
    elim (cases_lt 0 (length sizes)) [
      | inl some ↦ (let full : size ≡ w = all.full 0 (omega arith) in absurd (omega arith))
      | inr none ↦ (
          let rest = past_pieces w sizes 0 (tail_full w size sizes all) none in
          let own : size ≤ k = past in
          omega (arith, rest, own, no_times w))
    ]
past_piece w (size ∷ sizes) (suc i) k all h past small =
    let first : size ≤ w = all.few 0 (omega arith) in
    let rest = past_piece w sizes i k (tail_full w size sizes all) (omega arith) past small in
    omega (arith, first, rest, next w i)

-- The parts of a text, one after another.
use Rattle.std.proofs.Common.{◌≡◌, ◌≤◌, ◌<◌, ◌+◌, ℕ, suc, Bool, List, [], ◌∷◌, take, drop, refl, inl, inr, arith}
use Rattle.std.specs.Prelude.{length}
use Rattle.std.specs.List.{slice_split, position_or_len}
use Rattle.std.proofs.lemmas.Bool.{cases_Bool}

-- no separator
pub split_none : (p : ℕ → Bool) (xs : List ℕ) → length xs ≤ position_or_len p xs → slice_split p xs ≡ xs ∷ []
split_none p [] none = refl
split_none p (x ∷ xs) none = elim (cases_Bool (p x)) [
  | inl passes ↦ absurd (let n : suc (length xs) ≤ 0 = (simp passes at none) in omega arith)
  | inr fails ↦
      let rest : length xs ≤ position_or_len p xs = (let n : suc (length xs) ≤ 1 + position_or_len p xs = (simp fails at none) in omega arith) in
      simp (fails, split_none p xs rest)
]

pub split_first : (p : ℕ → Bool) (xs : List ℕ) → position_or_len p xs < length xs → slice_split p xs ≡ take (position_or_len p xs) xs ∷ slice_split p (drop (position_or_len p xs + 1) xs)
split_first p [] some = absurd (omega arith)
split_first p (x ∷ xs) some = elim (cases_Bool (p x)) [
  | inl passes ↦ simp passes
  | inr fails ↦
      let rest : position_or_len p xs < length xs = (let n : 1 + position_or_len p xs < suc (length xs) = (simp fails at some) in omega arith) in
      let next : 1 + position_or_len p xs ≡ suc (position_or_len p xs) = omega arith in
      let over : suc (position_or_len p xs) + 1 ≡ suc (position_or_len p xs + 1) = omega arith in
      simp (fails, split_first p xs rest, next, over)
]

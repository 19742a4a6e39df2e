-- Texts and their bytes.
use Rattle.std.proofs.Common.{◌≡◌, ◌≤◌, ℕ, Bool, not, List, [], ◌∷◌, refl, eqb, length}
use Rattle.std.specs.List.{position_or_len}
use Rattle.std.proofs.lemmas.List.Sums.{prefix_len-le-length}
use Rattle.std.specs.Cmp.Lexicographic.{pointwise}
use Rattle.bpf_asm.specs.Lexing.{same_bytes}

pub same_bytes-pointwise : (as' bs : List ℕ) → pointwise eqb as' bs ≡ same_bytes as' bs
same_bytes-pointwise [] [] = refl
same_bytes-pointwise [] (b ∷ bs) = refl
same_bytes-pointwise (a ∷ as') [] = refl
same_bytes-pointwise (a ∷ as') (b ∷ bs) = simp (same_bytes-pointwise as' bs)

pub position-within : (p : ℕ → Bool) (xs : List ℕ) → position_or_len p xs ≤ length xs
position-within p xs = prefix_len-le-length (λ b. not (p b)) xs

-- The places of words in lists of one and of two.
use Rattle.std.proofs.Common.{◌≡◌, ℕ, zero, suc, ◌-◌, ◌<◌, ◌≤◌, true, false, [], ◌∷◌, Result, Ok, Err, refl, arith}
use Rattle.word_sets.specs.declared.places.TheConstants.{WORD_LIMIT}
use Rattle.word_sets.specs.Words.{IsPlace}

pub only_place : (r : Result ℕ ℕ) → IsPlace (WORD_LIMIT - 1) ((WORD_LIMIT - 1) ∷ []) r → r ≡ Ok 0
only_place (Ok zero) is = refl
only_place (Ok (suc i)) is = absurd (let few : suc i < 1 = is.0 in omega (arith, few))
only_place (Err i) is = absurd (let lacks : true ≡ false = is.2 in cc)

pub place_between : (r : Result ℕ ℕ) → IsPlace 4 (3 ∷ 5 ∷ []) r → r ≡ Err 1
place_between (Ok i) is = absurd (let has : false ≡ true = is.2 in cc)
place_between (Err zero) is = absurd (let turned : 4 ∷ 3 ∷ 5 ∷ [] ≡ 3 ∷ 4 ∷ 5 ∷ [] = is.1 in cc)
place_between (Err (suc zero)) is = refl
place_between (Err (suc (suc zero))) is = absurd (let turned : 3 ∷ 5 ∷ 4 ∷ [] ≡ 3 ∷ 4 ∷ 5 ∷ [] = is.1 in cc)
place_between (Err (suc (suc (suc i)))) is = absurd (let few : suc (suc (suc i)) ≤ 2 = is.0 in omega (arith, few))

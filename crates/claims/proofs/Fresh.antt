-- A counter of which nothing is claimed.
use Rattle.std.proofs.Common.{◌≡◌, ℕ, true, List, [], refl, subst, ◌∙◌, arith, inl, inr}
use Rattle.std.specs.Prelude.{nat_lt}
use Rattle.std.proofs.lemmas.Bool.{cases_lt}
use Rattle.std.proofs.lemmas.Bool.Decides.{nat_tests}
use Rattle.claims.specs.Claims.{AreAllBelow, times, once_below}

pub none_claimed : (count : ℕ) (xs : List ℕ) → AreAllBelow count xs → xs ≡ [] → count ≡ 0
none_claimed count xs all none =
    let zero : 0 ≡ once_below count 0 = subst (λ l. times 0 l ≡ once_below count 0) none (all 0) in
    elim (cases_lt 0 count) [
      | inl some ↦ (
          let test : nat_lt 0 count ≡ true = grind (arith, nat_tests) in
          let one : once_below count 0 ≡ 1 = rw test refl in
          absurd (let never : 0 ≡ 1 = zero ∙ one in cc)
          )
      | inr least ↦ omega (arith, least)
    ]

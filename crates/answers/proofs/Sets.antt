-- Sets that pass the test are independent.
use Rattle.std.proofs.Common.{sym, inl, inr}
use Rattle.answers.specs.Independent.{SetsAreIndependent}
use Rattle.answers.proofs.Walks.{ends}

pub independent : SetsAreIndependent
independent g marks is = (
  λ u v first second touch. elim touch [
    | inl edge ↦ sym (is.apart u (ends g u v edge).0 first v edge second)
    | inr edge ↦ is.apart v (ends g v u edge).0 second u edge first
  ],
  λ v vertex outside. (let found = is.beside v vertex outside in (found.0, inr found.1, found.2)),
)

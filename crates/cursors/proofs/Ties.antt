-- What a cursor lends, as an event of the store.
use Rattle.std.proofs.Common.{◌≡◌, ◌<◌, ℕ, Option, Some, None, MatchOption, List, [], ◌++◌, length, sym, subst}
use Rattle.past_model.specs.Past.{Past}
use Rattle.handle_model.specs.Calls.{IsLend}
use Rattle.handle_model.proofs.Lending.{lends_are}

pub lend_is : {X : Type 0} (words : X → List ℕ) (o : Option X) (old new : List ℕ)
    → MatchOption o ((old ≡ []) × (new ≡ [])) (λ s. (0 < length (words s)) × (old ≡ words s ++ new))
    → (past : Past) (vertex : ℕ) → MatchOption o (IsLend past vertex old None new) (λ s. IsLend past vertex old (Some (words s)) new)
lend_is words None old new (was, is) past vertex =
    subst (λ l. IsLend past vertex l None new) (sym was) (subst (λ l. IsLend past vertex [] None l) (sym is) (lends_are.1 past vertex))
lend_is words (Some s) old new (some, is) past vertex =
    subst (λ l. IsLend past vertex l (Some (words s)) new) (sym is) (lends_are.0 past vertex (words s) new some)

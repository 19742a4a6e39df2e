-- The version that waits to be shown.
use Rattle.std.proofs.Common.{◌≡◌, List, [], ◌∷◌, ◌++◌, fold, Option, Some, None, unwrap_or, Result, Ok, Err, IfOk, MatchResult, MatchOption, refl, sym, ap, ◌∙◌, subst, arith}
use Rattle.history.specs.Moment.{Moment, Begins}
use Rattle.history.proofs.Moments.{begins_itself}
use Rattle.store.specs.declared.board.board_view.BoardView.{BoardView}
use Rattle.store.specs.Showing.{Showing, with_waiting, after_show, first_of, IsBoard}

-- what holds of the one that is there
pub at_some : {A : Type 0} (N : Type 0) (P : A → Type 0) (found : Option A) (x : A) → found ≡ Some x → MatchOption found N P → P x
at_some N P found x is holds = let all : MatchOption (Some x) N P = subst (λ (o : Option _). MatchOption o N P) is holds in all

none_waits : (ms : List Moment) → first_of ms ≡ None → ms ≡ []
none_waits [] none = refl
none_waits (m ∷ ms) none = absurd (cc none)

one_waits : (shown m : Moment) (ms : List Moment) (g : BoardView) → IsBoard shown [] g → ms ≡ m ∷ [] → Begins shown m → IsBoard shown ms g
one_waits shown m ms g board is later =
    subst (λ (l : List Moment). IsBoard shown l g) (sym is) (record { known = board.known; one = omega arith; later = (later, tt) })

after_none : (old : List Moment) (m : Moment) → first_of old ≡ None → old ++ m ∷ [] ≡ m ∷ []
after_none old m free = ap (λ (l : List Moment). l ++ m ∷ []) (none_waits old free)

-- a version is handed in, or comes back
pub appends : (shown : Moment) (g : BoardView) (old new : List Moment) (m : Moment) (answer : Result (Unit {0}) Moment)
    → IsBoard shown old g → first_of old ≡ None → Begins shown m
    → MatchResult answer (λ _. new ≡ old ++ m ∷ []) (λ back. (back ≡ m) × (new ≡ old)) → IsBoard shown new g
appends shown g old new m (Ok u) board free later is =
    one_waits shown m new g (subst (λ (l : List Moment). IsBoard shown l g) (none_waits old free) board) (is ∙ after_none old m free) later
appends shown g old new m (Err back) board free later is = subst (λ (l : List Moment). IsBoard shown l g) (sym is.1) board

-- then it is what waits
pub ok_appends : {E : Type 0} (now : Showing) (shown : Moment) (old new : List Moment) (m : Moment) (answer : Result (Unit {0}) E) (R : E → Type 0)
    → record { shown = shown; waiting = first_of old } ≡ now → now.waiting ≡ None
    → MatchResult answer (λ _. new ≡ old ++ m ∷ []) R
    → IfOk answer (λ _. record { shown = shown; waiting = first_of new } ≡ with_waiting now m)
ok_appends now shown old new m (Ok u) R eq free is =
    let first : first_of new ≡ Some m = ap first_of (is ∙ after_none old m (ap (λ (s : Showing). s.waiting) eq ∙ free)) in
    λ i. record { shown = ap (λ (s : Showing). s.shown) eq i; waiting = first i }
ok_appends now shown old new m (Err e) R eq free is = tt

-- where only what is shown already is handed in, it is shown still
pub shows_same : (shown : Moment) (old new : List Moment) (answer : Result (Unit {0}) Moment) → old ≡ []
    → MatchResult answer (λ _. new ≡ old ++ shown ∷ []) (λ back. (back ≡ shown) × (new ≡ old)) → fold (λ _ m. m) shown new ≡ shown
shows_same shown old new (Ok u) none is = ap (fold (λ _ m. m) shown) (is ∙ ap (λ (l : List Moment). l ++ shown ∷ []) none)
shows_same shown old new (Err back) none is = ap (fold (λ _ m. m) shown) (is.1 ∙ none)

-- what comes to be shown is what waited, and continues what was shown
pub shows_later : (shown : Moment) (g : BoardView) (all : List Moment) → IsBoard shown all g → Begins shown (fold (λ _ m. m) shown all)
shows_later shown g [] board = begins_itself shown
shows_later shown g (m ∷ []) board = board.later.0
shows_later shown g (m ∷ k ∷ all) board = (let one = board.one in absurd (omega arith))

pub shows_first : (shown : Moment) (g : BoardView) (all : List Moment) → IsBoard shown all g → fold (λ _ m. m) shown all ≡ unwrap_or (first_of all) shown
shows_first shown g [] board = refl
shows_first shown g (m ∷ []) board = refl
shows_first shown g (m ∷ k ∷ all) board = (let one = board.one in absurd (omega arith))

pub ok_shows : {E : Type 0} (now : Showing) (shown then : Moment) (g : BoardView) (old new : List Moment) (answer : Result (Unit {0}) E) (R : E → Type 0)
    → IsBoard shown old g → record { shown = shown; waiting = first_of old } ≡ now
    → MatchResult answer (λ _. (then ≡ fold (λ _ m. m) shown old) × (new ≡ [])) R
    → IfOk answer (λ _. record { shown = then; waiting = first_of new } ≡ after_show now)
ok_shows now shown then g old new (Ok u) R board eq is =
    let last : then ≡ unwrap_or now.waiting now.shown = is.0 ∙ shows_first shown g old board ∙ ap (λ (s : Showing). unwrap_or s.waiting s.shown) eq in
    λ i. record { shown = last i; waiting = ap first_of is.1 i }
ok_shows now shown then g old new (Err e) R board eq is = tt

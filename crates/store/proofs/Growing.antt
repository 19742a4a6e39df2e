-- What is shown grows, so that what the passes know still begins it.
use Rattle.std.proofs.Common.{◌≡◌, ◌≢◌, ℕ, true, false, List, [], ◌∷◌, ◌++◌, set, refl, sym, subst, ⊎_elim}
use mathlib.Core.Option.{some, some-ne-none}
use lib.ListN.{get_elem?}
use Rattle.left_right.specs.Register.{Admits, TurnsAt, Forks, Merges}
use Rattle.atomic_table.proofs.Lists.{at_set, at_snoc}
use Rattle.history.specs.Moment.{Moment, Begins}
use Rattle.history.proofs.Moments.{begins_itself, begins_onwards}
use Rattle.store.specs.declared.board.board_view.BoardView.{BoardView}
use Rattle.store.specs.BoardViews.{board_view, stranger}
use Rattle.store.specs.BoardRule.{Keeps, Looks}

-- what a pass knows begins what is shown
abbrev pub KnowsOf : Moment → BoardView → Type 0
KnowsOf shown v = v.knows ≡ true → Begins v.version shown

pub nothing : (shown : Moment) → KnowsOf shown stranger
nothing shown = λ (knows : false ≡ true). absurd cc

-- a pass more
pub keeps_more : (shown : Moment) (views : List BoardView) (w : BoardView) → Keeps shown views → KnowsOf shown w → Keeps shown (views ++ w ∷ [])
keeps_more shown views w keeps new pass v at = ⊎_elim (keeps pass v) (λ (is : w ≡ v). subst (KnowsOf shown) is new) (at_snoc views w v pass at)

-- a pass that knows something else
pub keeps_set : (shown : Moment) (views : List BoardView) (seat : ℕ) (w : BoardView) → Keeps shown views → KnowsOf shown w → Keeps shown (set views seat w)
keeps_set shown views seat w keeps new pass v at = ⊎_elim
    (λ (is : (pass ≡ seat) × (w ≡ v)). subst (KnowsOf shown) is.1 new)
    (λ (is : (pass ≢ seat) × (get_elem? views pass ≡ some v)). keeps pass v is.1)
    (at_set views seat pass w v at)

-- a later moment
pub keeps_later : (shown later : Moment) (views : List BoardView) → Begins shown later → Keeps shown views → Keeps later views
keeps_later shown later views longer keeps pass v at knows = begins_onwards v.version shown later (keeps pass v at knows) longer

-- a step that shows a later moment, or looks at the same
pub looks : (before after : Moment) (views : List BoardView) (seat : ℕ) (v : BoardView) → Begins before after → Keeps before views → get_elem? views seat ≡ some v
    → (w : BoardView) × Keeps after (set views seat w) × Looks v before after w
looks before after views seat v longer keeps at =
    (board_view after, keeps_set after views seat (board_view after) (keeps_later before after views longer keeps) (λ knows. begins_itself after), (keeps seat v at, refl))

-- a stranger alone
pub begins : (shown : Moment) → Keeps shown (stranger ∷ [])
begins shown = keeps_more shown [] stranger (λ pass v at. absurd (some-ne-none v (sym at))) (nothing shown)

module _ {T : Type 0} (moment : T → Moment) where
  abbrev pub Kept : T → List BoardView → Type 0
  Kept x views = Keeps (moment x) views

  pub admits : Admits Kept stranger
  admits x views keeps = keeps_more (moment x) views stranger keeps (nothing (moment x))

  pub turns : (before after : T) (seat : ℕ) (v : BoardView) → Begins (moment before) (moment after)
      → TurnsAt Kept seat v before after (λ v x y w. Looks v (moment x) (moment y) w)
  turns before after seat v longer views keeps at = looks (moment before) (moment after) views seat v longer keeps at

  pub forks : (seat : ℕ) (v : BoardView) → Forks Kept seat v v v
  forks seat v x views keeps at = keeps_more (moment x) (set views seat v) v (keeps_set (moment x) views seat v keeps (keeps seat v at)) (keeps seat v at)

  pub merges : (seat : ℕ) (v : BoardView) (other : ℕ) (w : BoardView) → Merges Kept seat v other w w stranger
  merges seat v other w x views keeps at apart at' =
      let theirs : KnowsOf (moment x) w = ⊎_elim
      (λ (is : (other ≡ seat) × (w ≡ w)). absurd (apart is.0))
      (λ (is : (other ≢ seat) × (get_elem? views other ≡ some w)). keeps other w is.1)
      (at_set views seat other w w at') in
      keeps_set (moment x) (set views seat w) other stranger (keeps_set (moment x) views seat w keeps theirs) (nothing (moment x))

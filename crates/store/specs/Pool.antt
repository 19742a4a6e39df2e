-- The rule of the pool of readers that nobody has: all are of one store, and each pass knows which.
use Rattle.std.specs.Prelude.{◌≡◌, ◌⊎◌, ℕ, true, false, List, [], ◌∷◌}
use Rattle.std.specs.List.{AllByRecursion}
use mathlib.Core.Option.{some}
use lib.ListN.{get_elem?}
use Rattle.history.specs.Moment.{Moment, OneStore}
use Rattle.store.specs.declared.board.board_view.BoardView.{BoardView}
use Rattle.store.specs.declared.board.member.Member.{Member}
use Rattle.store.specs.BoardViews.{stranger, Knows}

-- a pass that knows of a moment of the store
abbrev pub member : Moment → Member
member m = record { sole = false; of = m }

-- the only pass, which knows nothing yet
abbrev pub maker : Member
maker = record { sole = true; of = stranger.version }

abbrev pub IsMember : Moment → Member → Type 0
IsMember store v = (v.sole ≡ false) × OneStore store v.of

-- the readers, by what they know, and the passes are of the store of this moment
pub record AreOf (store : Moment) (readers : List BoardView) (views : List Member) : Type 0 where
  pub readers_are : AllByRecursion (Knows store) readers
  pub members_are : (pass : ℕ) (v : Member) → get_elem? views pass ≡ some v → IsMember store v

-- nothing was put in, and one pass is there; or all are of one store
abbrev pub Pools : List BoardView → List Member → Type 0
Pools readers views = ((readers ≡ []) × (views ≡ maker ∷ [])) ⊎ ((store : Moment) × AreOf store readers views)

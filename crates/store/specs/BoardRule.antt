-- The rule of the board, and what its steps show.
use Rattle.std.specs.Prelude.{◌≡◌, ℕ, true, List}
use mathlib.Core.Option.{some}
use lib.ListN.{get_elem?}
use Rattle.history.specs.Moment.{Moment, Begins}
use Rattle.store.specs.declared.board.board_view.BoardView.{BoardView}
use Rattle.store.specs.BoardViews.{board_view}

-- each moment that a pass knows begins the one that is shown
abbrev pub Keeps : Moment → List BoardView → Type 0
Keeps shown views = (pass : ℕ) (v : BoardView) → get_elem? views pass ≡ some v → v.knows ≡ true → Begins v.version shown

-- what was known begins what was shown before the step, and what is shown after it is known
abbrev pub Looks : BoardView → Moment → Moment → BoardView → Type 0
Looks v before after w = (v.knows ≡ true → Begins v.version before) × (w ≡ board_view after)

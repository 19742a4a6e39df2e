-- What the two sides of the board are seen as.
use Rattle.std.specs.Prelude.{◌≡◌, ◌≤◌, length, List, [], ◌∷◌, Option, Some, None, unwrap_or}
use Rattle.std.specs.List.{AllByRecursion}
use Rattle.history.specs.Moment.{Moment, Begins}
use Rattle.store.specs.declared.board.board_view.BoardView.{BoardView}
use Rattle.store.specs.BoardViews.{board_view, stranger}

-- the moment that readers are shown, and the one that was handed in and is not shown yet
pub record Showing : Type 0 where
  pub shown : Moment
  pub waiting : Option Moment

abbrev pub showing : Moment → Showing
showing m = record { shown = m; waiting = None }

-- the moment waits to be shown
abbrev pub with_waiting : Showing → Moment → Showing
with_waiting s m = record { shown = s.shown; waiting = Some m }

-- what waited is shown
abbrev pub after_show : Showing → Showing
after_show s = record { shown = unwrap_or s.waiting s.shown; waiting = None }

-- the first of those that wait
abbrev pub first_of : List Moment → Option Moment
first_of [] = None
first_of (m ∷ ms) = Some m

-- what the writer, if there is one, shows, and what waits
abbrev pub seen_as : {W : Type 0} → Option W → (W → Moment) → (W → List Moment) → Showing
seen_as None shown waiting = showing stranger.version
seen_as (Some w) shown waiting = record { shown = shown w; waiting = first_of (waiting w) }

-- the writer knows what is shown, and one moment at most waits, which continues it
pub record IsBoard (shown : Moment) (waiting : List Moment) (knows : BoardView) : Type 0 where
  pub known : knows ≡ board_view shown
  pub one : length waiting ≤ 1
  pub later : AllByRecursion (Begins shown) waiting

-- What a pass of the board knows: a version's moment, or nothing.
use Rattle.std.specs.Prelude.{◌≡◌, true, false}
use Rattle.history.specs.Moment.{Moment, opening_moment, OneStore}
use Rattle.store.specs.declared.board.board_view.BoardView.{BoardView}

abbrev pub board_view : Moment → BoardView
board_view m = record { knows = true; version = m }

-- the moment of a stranger stands for none
abbrev pub stranger : BoardView
stranger = record { knows = false; version = opening_moment 0 (record { number = 0; log_name = 0; cells_name = 0 }) }

-- it knows of the store that m is of
abbrev pub Knows : Moment → BoardView → Type 0
Knows m g = (g.knows ≡ true) × OneStore m g.version

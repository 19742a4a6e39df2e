use Rattle.std.proofs.Common.{◌≡◌}
use Rattle.left_right.specs.Sides.{view as board_view_of}
use Rattle.crossbeam_queue.specs.Passes.{view as member_of, IsPassOf}
use Rattle.store.specs.Pool.{member}
use Rattle.store.proofs.board.opening.seat_all.Given as goal

abbrev pub invariant-seats : goal.invariant-seats
invariant-seats l = record {
  pass : IsPassOf l.pool l.membership;
  member : member_of l.membership ≡ member (board_view_of l.fn.writer.desk.place).version;
  shown : l.writer.desk.shown ≡ l.fn.writer.desk.shown;
  log : l.writer.log ≡ l.fn.writer.log;
  behind : l.writer.behind ≡ l.fn.writer.behind;
  knows : board_view_of l.writer.desk.place ≡ board_view_of l.fn.writer.desk.place;
}

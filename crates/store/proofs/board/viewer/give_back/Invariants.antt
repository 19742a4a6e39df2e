use Rattle.std.proofs.Common.{◌≡◌}
use Rattle.left_right.specs.Sides.{view as board_view_of}
use Rattle.crossbeam_queue.specs.Passes.{view as member_of, IsPassOf}
use Rattle.store.specs.BoardViews.{Knows}
use Rattle.store.proofs.board.viewer.give_back.Given as goal

abbrev pub invariant-tries : goal.invariant-tries
invariant-tries l = record {
  pass : IsPassOf l.pool l.membership;
  same : member_of l.membership ≡ member_of l.fn.membership;
  knows : Knows (member_of l.fn.membership).of (board_view_of l.reader.place);
}

use Rattle.left_right.specs.Sides.{view}
use Rattle.crossbeam_queue.specs.Passes.{view as member_of}
use Rattle.history.specs.Moment.{moment_of}
use Rattle.store.specs.BoardViews.{Knows}
use Rattle.store.proofs.Pooling.{knows_as}
use Rattle.store.proofs.board.viewer.Viewer.drop.Goals as goal

pub give_back-requires-clause-knows : goal.give_back-requires-clause-knows
give_back-requires-clause-knows c =
    let member = c.self.invariant.3 in
    let mine = moment_of c.self.inside.vertex_count c.self.inside.known in
    let knows : Knows mine (view c.in-Some.reader.place) = rw c.in-Some.is at c.self.invariant.1 in
    knows_as mine (member_of c.self.inside.membership).of (view c.in-Some.reader.place) member.1 knows

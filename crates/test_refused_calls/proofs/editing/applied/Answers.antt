use Rattle.past_model.specs.Edits.{after_batch}
use Rattle.test_refused_calls.proofs.editing.applied.Goals as goal

pub returns : goal.returns
returns g c =
    let before = c.requires in
    let done = c.in_ok-next.ensures.applied in
    record {
      graph = after_batch c.args.batch.now before.graph;
      small = before.small;
      table = done.1.table before.graph (done.0.1 before.graph before.table) before.table;
    }

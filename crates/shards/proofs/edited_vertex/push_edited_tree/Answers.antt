use Rattle.std.proofs.Common.{ap, ◌∙◌}
use Rattle.past_model.specs.declared.home.Home.TheVariants.{Tree}
use Rattle.past_model.specs.Homes.{home_after}
use Rattle.shards.proofs.PutLemmas.{own_targets}
use Rattle.shards.proofs.edited_vertex.push_edited_tree.Goals as goal

pub edited_tree-requires : goal.edited_tree-requires
edited_tree-requires c = own_targets _ c.args.tree.now c.requires.edits

pub returns : goal.returns
returns c = record {
  after = c.in_ok-next.next;
  to = c.after-home.result;
  pushed = c.in_ok-push_moved.ensures;
  moved = c.after-home.ensures ∙ ap (home_after Tree) c.len.ensures.len;
  merged = c.in_ok-next.ensures;
}

use Rattle.std.proofs.Common.{Vec, Global, ap, ◌∙◌}
use Rattle.neighbour_btree.specs.declared.tree.NeighbourTree.{NeighbourTree}
use Rattle.arrayvec.specs.ArrayVec.{ArrayVec}
use Rattle.shards.specs.declared.lists.Place.{Place}
use Rattle.shards.proofs.ListLemmas.{kept_same}
use Rattle.shards.proofs.lists.Lists.taken.Goals as goal

pub returns : goal.returns
returns c =
    kept_same c.args.self.now _ c.requires (ap (λ (v : ArrayVec Place). v.items) c.replace-places.ensures.value) c.in_ok-shorts.ensures.words c.in_ok-shorts.ensures.ends (c.in_ok-blocks.ensures.items ∙ c.deref.ensures.value) c.in_ok-array.ensures
    (ap (λ (v : Vec NeighbourTree Global). v.items) c.replace-trees.ensures.value)

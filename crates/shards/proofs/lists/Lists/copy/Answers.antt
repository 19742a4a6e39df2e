use Rattle.std.proofs.Common.{◌∙◌}
use Rattle.shards.proofs.ListLemmas.{kept_same}
use Rattle.shards.proofs.lists.Lists.copy.Goals as goal

pub returns : goal.returns
returns c =
    kept_same c.args.self.now _ c.requires (c.copied-places.ensures ∙ c.deref.ensures.0) c.in_ok-shorts.ensures.words c.in_ok-shorts.ensures.ends (c.in_ok-blocks.ensures.items ∙ c.deref-2.ensures.value) c.in_ok-array.ensures (c.in_ok-trees.ensures ∙ c.deref-3.ensures.value)

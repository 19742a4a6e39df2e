use Rattle.std.proofs.Common.{◌≡◌, length, map, sym, ap, subst, ◌∙◌}
use Rattle.std.specs.Arc.{arc_value}
use Rattle.shards.specs.Pages.{AreFull}
use Rattle.shard_table.specs.Blocks.{AreHoused, parts_in, sizes_of}
use Rattle.shard_table.proofs.BlockLemmas.{same_parts, same_sizes}
use Rattle.shard_table.proofs.table.Table.share.Goals as goal

pub invariant_of-result : goal.invariant_of-result
invariant_of-result c =
    let new = c.in_ok-blocks.blocks.items in
    let old = c.self.inside.blocks.items in
    let values : map arc_value new ≡ map arc_value old = c.in_ok-blocks.ensures ∙ ap (map arc_value) c.deref.ensures.value in
    let parts : parts_in old ≡ parts_in new = sym (same_parts new old values) in
    let sizes : sizes_of old ≡ sizes_of new = sym (same_sizes new old values) in (
      subst (AreFull c.self.inside.width.shards) sizes c.self.invariant.0,
      c.self.invariant.1 ∙ ap length parts,
      subst AreHoused parts c.self.invariant.2,
    )

pub returns : goal.returns
returns c = same_parts c.in_ok-blocks.blocks.items c.self.inside.blocks.items (c.in_ok-blocks.ensures ∙ ap (map arc_value) c.deref.ensures.value) ∙ c.self.view_is

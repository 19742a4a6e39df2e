use Rattle.std.proofs.Common.{get_or, set, refl, sym, ap, subst, ◌∙◌}
use Rattle.shards.specs.declared.lists.Place.TheVariants.{InTree}
use Rattle.shards.specs.Put.{AreOwnEdits}
use Rattle.shards.proofs.ReplacedLemmas.{inside_places, row_at_place, tree_edited, tree_read}
use Rattle.shards.proofs.in_place.edit_tree_of.Goals as goal

pub edit_tree-requires : goal.edit_tree-requires
edit_tree-requires c =
    let lists = c.args.lists.now in
    let tree = c.index_mut-tree.result.now in
    let read = c.index_mut-tree.ensures.value ∙ ap (λ n. get_or lists.trees.items n tree) c.from.ensures in
    let inside = inside_places lists c.args.vertex c.requires.inside in
    subst (AreOwnEdits c.args.edits.now.items) (row_at_place lists c.args.vertex (InTree c.args.number) inside c.requires.own ∙ sym (tree_read lists c.args.vertex c.args.number c.index_mut-tree.result.now c.requires.kept inside c.requires.own read)) c.requires.edits

pub returns : goal.returns
returns c =
    let lists = c.args.lists.now in
    let tree = c.index_mut-tree.result.now in
    let read = c.index_mut-tree.ensures.value ∙ ap (λ n. get_or lists.trees.items n tree) c.from.ensures in
    let inside = inside_places lists c.args.vertex c.requires.inside in
    tree_edited c.args.edits.now.items lists _ c.args.vertex c.args.number c.index_mut-tree.result.now c.edit_tree.new.tree c.in_ok-done.done c.requires.kept inside c.requires.own refl refl refl refl (ap (λ n. set lists.trees.items n c.edit_tree.new.tree) c.from.ensures) (tree_read lists c.args.vertex c.args.number c.index_mut-tree.result.now c.requires.kept inside c.requires.own read) c.in_ok-done.ensures

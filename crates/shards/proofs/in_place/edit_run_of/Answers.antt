use Rattle.std.proofs.Common.{refl, subst}
use Rattle.shards.specs.declared.lists.Place.TheVariants.{InArray}
use Rattle.shards.specs.Put.{AreOwnEdits}
use Rattle.shards.proofs.ReplacedLemmas.{inside_places, own_there, row_at_place, run_edited}
use Rattle.shards.proofs.in_place.edit_run_of.Goals as goal

pub edit_run-requires-clause-open : goal.edit_run-requires-clause-open
edit_run-requires-clause-open c =
    let lists = c.args.lists.now in
    own_there lists c.args.vertex (InArray c.args.run) c.requires.kept (inside_places lists c.args.vertex c.requires.inside) c.requires.own

pub edit_run-requires-clause-edits : goal.edit_run-requires-clause-edits
edit_run-requires-clause-edits c =
    let lists = c.args.lists.now in
    subst (AreOwnEdits c.args.edits.now.items) (row_at_place lists c.args.vertex (InArray c.args.run) (inside_places lists c.args.vertex c.requires.inside) c.requires.own) c.requires.edits

pub returns : goal.returns
returns c =
    let lists = c.args.lists.now in
    run_edited c.args.edits.now.items lists _ c.args.vertex c.args.run c.in_ok-done.done c.requires.kept (inside_places lists c.args.vertex c.requires.inside) c.requires.own refl refl refl c.in_ok-done.ensures refl

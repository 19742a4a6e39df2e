use Rattle.std.proofs.Common.{◌/◌, ◌<◌, sym, subst}
use Rattle.std.specs.List.{AllByRecursion}
use Rattle.past_model.specs.Edits.{source_of}
use Rattle.shard_table.specs.Made.{AreMade}
use Rattle.shard_table.proofs.RangeLemmas.{in_ranges}
use Rattle.batch_apply.proofs.OneRange.{range_inside, own_edits, one_made}
use Rattle.batch_apply.proofs.one_range.edit_range.Goals as goal

pub of-requires : goal.of-requires
of-requires g c =
    let given = c.requires.editable in
    subst (λ n. AllByRecursion (λ e. source_of e / 256 < n) c.args.edits.now) (sym c.count.ensures) (in_ranges given.graph c.args.table.now c.args.edits.now given.table given.below)

pub edit-edited-requires-clause-range : goal.edit-edited-requires-clause-range
edit-edited-requires-clause-range g c =
    let given = c.requires.editable in
    range_inside given.graph c.args.table.now c.args.edits.now c.args.range given.table given.below c.requires.own

pub edit-edited-requires-clause-edits : goal.edit-edited-requires-clause-edits
edit-edited-requires-clause-edits g c =
    let given = c.requires.editable in
    own_edits given.graph c.args.table.now c.args.edits.now c.args.range given.small given.table given.below c.requires.own

pub with-requires-clause-made : goal.with-requires-clause-made
with-requires-clause-made g c =
    subst (λ groups. AreMade groups 0 c.args.table.now c.from_ref.result.now) (sym c.in_ok-groups.ensures)
    (one_made c.count.result c.args.edits.now c.args.table.now c.args.range c.from_ref.result.now _ c.requires.own c.from_ref.ensures.value c.in_ok-made.ensures)

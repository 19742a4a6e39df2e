use Rattle.std.proofs.Common.{◌/◌, ◌<◌, sym, ap, subst, ◌∙◌, arith}
use Rattle.std.specs.List.{AllByRecursion}
use Rattle.past_model.specs.Edits.{source_of}
use Rattle.shards.specs.Groups.{Grouped}
use Rattle.shard_table.specs.Table.{IsEditable}
use Rattle.shard_table.specs.Made.{IsBatch}
use Rattle.shard_table.proofs.RangeLemmas.{in_ranges}
use Rattle.shard_table.proofs.TableLemmas.{few_parts}
use Rattle.batch_apply.proofs.Dealing.{all_ready, few_pieces}
use Rattle.batch_apply.proofs.edited.edit_table.Goals as goal

pub of-requires : goal.of-requires
of-requires g c =
    subst (λ n. AllByRecursion (λ e. source_of e / 256 < n) c.args.edits.now) (sym c.count.ensures) (in_ranges c.requires.graph c.args.table.now c.args.edits.now c.requires.table c.requires.below)

pub of-requires-2 : goal.of-requires-2
of-requires-2 g c = omega (arith, ap (λ (g : Grouped). g.count) c.in_ok-groups.ensures, c.count.ensures, few_parts c.requires.graph c.args.table.now c.requires.table c.requires.small)

pub edit_alone-requires-clause-batch : goal.edit_alone-requires-clause-batch
edit_alone-requires-clause-batch g c κs within =
    let is = c.in_ok-groups.ensures in
    record {
      by_range = ap (λ (g : Grouped). g.grouping) is;
      count = ap (λ (g : Grouped). g.count) is ∙ c.count.ensures;
      editable = subst (IsEditable c.args.table.now) (sym (ap (λ (g : Grouped). g.edits) is)) c.requires;
    }

pub edit_alone-requires-clause-ready : goal.edit_alone-requires-clause-ready
edit_alone-requires-clause-ready g c κs within =
    let parts = c.args.table.now in
    let groups = c.in_ok-groups.groups in
    let is = c.in_ok-groups.ensures in
    let batch : IsBatch groups parts = record {
      by_range = ap (λ (g : Grouped). g.grouping) is;
      count = ap (λ (g : Grouped). g.count) is ∙ c.count.ensures;
      editable = subst (IsEditable parts) (sym (ap (λ (g : Grouped). g.edits) is)) c.requires;
    } in
    all_ready groups parts c.in_ok-pieces.pieces batch c.in_ok-pieces.ensures

pub edit_alone-requires-clause-few : goal.edit_alone-requires-clause-few
edit_alone-requires-clause-few g c κs within =
    few_pieces c.in_ok-groups.groups c.in_ok-pieces.pieces c.in_ok-pieces.ensures
    (omega (arith, ap (λ (g : Grouped). g.count) c.in_ok-groups.ensures, c.count.ensures, few_parts c.requires.graph c.args.table.now c.requires.table c.requires.small))

pub invariant_of-deal-clause-ready : goal.invariant_of-deal-clause-ready
invariant_of-deal-clause-ready g c =
    let parts = c.args.table.now in
    let groups = c.in_ok-groups.groups in
    let is = c.in_ok-groups.ensures in
    let batch : IsBatch groups parts = record {
      by_range = ap (λ (g : Grouped). g.grouping) is;
      count = ap (λ (g : Grouped). g.count) is ∙ c.count.ensures;
      editable = subst (IsEditable parts) (sym (ap (λ (g : Grouped). g.edits) is)) c.requires;
    } in
    all_ready groups parts c.in_ok-pieces.pieces batch c.in_ok-pieces.ensures

pub invariant_of-deal-clause-few : goal.invariant_of-deal-clause-few
invariant_of-deal-clause-few g c =
    few_pieces c.in_ok-groups.groups c.in_ok-pieces.pieces c.in_ok-pieces.ensures
    (omega (arith, ap (λ (g : Grouped). g.count) c.in_ok-groups.ensures, c.count.ensures, few_parts c.requires.graph c.args.table.now c.requires.table c.requires.small))

pub put_in-requires-clause-few : goal.put_in-requires-clause-few
put_in-requires-clause-few g c =
    few_pieces c.in_ok-groups.groups c.in_ok-pieces.pieces c.in_ok-pieces.ensures
    (omega (arith, ap (λ (g : Grouped). g.count) c.in_ok-groups.ensures, c.count.ensures, few_parts c.requires.graph c.args.table.now c.requires.table c.requires.small))

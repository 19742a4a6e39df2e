use Rattle.std.proofs.Common.{set, sym, subst, subst₂, ◌∙◌}
use Rattle.std.specs.Arc.{arc_value}
use Rattle.shards.specs.Part.{AreEditsOf, IsPartAfter}
use Rattle.shard_table.specs.Table.{part_at}
use Rattle.stream_core.specs.Tables.{own_edits}
use Rattle.stream_core.specs.Work.{Work, IsEditable, IsWorkAfter, AreLeft, holding_of, lists_of}
use Rattle.stream_core.proofs.LeftLemmas.{open_inside, left_applied}
use Rattle.stream_core.proofs.WorkLemmas.{list_inside, range_inside, own_inside, own_read, work_applied}
use Rattle.stream_core.proofs.held.Held.apply.Goals as goal

pub index-requires : goal.index-requires
index-requires c =
    let w : Work = record { entry = c.self.inside.entry; done = c.self.inside.done.items; parts = c.self.inside.table } in
    list_inside w c.self.inside.left c.args.range c.self.invariant (subst (IsEditable c.args.range) (sym c.self.view_is) c.requires)

pub edited-requires-clause-inside : goal.edited-requires-clause-inside
edited-requires-clause-inside c =
    let w : Work = record { entry = c.self.inside.entry; done = c.self.inside.done.items; parts = c.self.inside.table } in
    range_inside w c.args.range (subst (IsEditable c.args.range) (sym c.self.view_is) c.requires)

pub edited-requires-clause-own : goal.edited-requires-clause-own
edited-requires-clause-own c =
    let h = c.self.inside in
    let w : Work = record { entry = h.entry; done = h.done.items; parts = h.table } in
    let range = c.args.range in
    let is : IsEditable range w = subst (IsEditable range) (sym c.self.view_is) c.requires in
    let own = own_read w h.left.items range c.index.result.now c.self.invariant is c.index.ensures in
    subst (AreEditsOf (part_at w.parts range)) (sym (c.deref.ensures.value ∙ own)) (own_inside w range is)

pub set-requires : goal.set-requires
set-requires c =
    let w : Work = record { entry = c.self.inside.entry; done = c.self.inside.done.items; parts = c.self.inside.table } in
    range_inside w c.args.range (subst (IsEditable c.args.range) (sym c.self.view_is) c.requires)

pub index_mut-requires : goal.index_mut-requires
index_mut-requires c =
    let w : Work = record { entry = c.self.inside.entry; done = c.self.inside.done.items; parts = c.self.inside.table } in
    list_inside w c.self.inside.left c.args.range c.self.invariant (subst (IsEditable c.args.range) (sym c.self.view_is) c.requires)

pub invariant_of-self-2 : goal.invariant_of-self-2
invariant_of-self-2 c =
    let h = c.self.inside in
    let w : Work = record { entry = h.entry; done = h.done.items; parts = h.table } in
    let range = c.args.range in
    let is : IsEditable range w = subst (IsEditable range) (sym c.self.view_is) c.requires in
    subst (λ done. AreLeft w.entry.batch done (lists_of (set h.left.items range c.new.result))) (sym c.in_ok-push.ensures.items)
    (left_applied w.entry.batch w.done h.left.items range c.new.result c.self.invariant (open_inside (holding_of w) h.left.items range c.self.invariant is.still_open) c.new.ensures.items)

pub returns-clause-ok : goal.returns-clause-ok
returns-clause-ok c =
    let h = c.self.inside in
    let w : Work = record { entry = h.entry; done = h.done.items; parts = h.table } in
    let range = c.args.range in
    let shard = arc_value c.in_ok-shard.shard in
    let is : IsEditable range w = subst (IsEditable range) (sym c.self.view_is) c.requires in
    let own = own_read w h.left.items range c.index.result.now c.self.invariant is c.index.ensures in
    let after : IsPartAfter (own_edits w.entry.batch range) (part_at w.parts range) shard =
    subst (λ es. IsPartAfter es (part_at w.parts range) shard) (c.deref.ensures.value ∙ own) c.in_ok-shard.ensures in
    subst (λ v. IsWorkAfter range v record w { done = c.push.new.self.items; parts = c.set.new.self }) c.self.view_is
    (subst₂ (λ done parts. IsWorkAfter range w record w { done = done; parts = parts }) (sym c.in_ok-push.ensures.items) (sym c.set.ensures) (work_applied w range shard is after))

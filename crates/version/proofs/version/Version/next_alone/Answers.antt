use Rattle.std.proofs.Common.{◌≡◌, ◌<◌, List, sym, subst, rules}
use Rattle.std.specs.Arc.{arc_value}
use Rattle.past_model.specs.declared.edit.Edit.{Edit}
use Rattle.past_model.specs.Edits.{AreEditsBelow}
use Rattle.past_model.specs.Past.{Past, number_of}
use Rattle.shards.specs.Part.{Part}
use Rattle.shard_table.specs.Table.{IsEditable, AreAfter, AreMoved}
use Rattle.version.specs.Ground.{past_on}
use Rattle.version.specs.Version.{IsMade}
use Rattle.version.proofs.VersionLemmas.{editable, made}
use Rattle.version.proofs.version.Version.next_alone.Goals as goal

pub edit_table_alone-requires : goal.edit_table_alone-requires
edit_table_alone-requires c =
    let past : Past = past_on c.self.inside.vertex_count (arc_value c.self.inside.epoch) c.self.inside.log in
    let below : AreEditsBelow past.vertex_count c.args.entry.now.batch = subst (λ (p : Past). AreEditsBelow p.vertex_count c.args.entry.now.batch) (sym c.self.view_is) c.requires.below in
    (subst (IsEditable (c.self.inside.shards)) (sym c.edits.ensures) (editable past (c.self.inside.shards) c.self.inside.edge_count c.args.entry.now.batch c.self.invariant below))

pub with_batch-requires : goal.with_batch-requires
with_batch-requires c =
    let past : Past = past_on c.self.inside.vertex_count (arc_value c.self.inside.epoch) c.self.inside.log in
    let parts : List Part = c.self.inside.shards in
    let below : AreEditsBelow past.vertex_count c.args.entry.now.batch = subst (λ (p : Past). AreEditsBelow p.vertex_count c.args.entry.now.batch) (sym c.self.view_is) c.requires.below in
    let room : number_of past < 4096 = subst (λ (p : Past). number_of p < 4096) (sym c.self.view_is) c.requires.room in
    let next = c.in_ok-made.made.0 in
    let counts = c.in_ok-made.made.1 in
    let after : AreAfter c.args.entry.now.batch parts next counts =
    (subst (λ (es : List Edit). AreAfter es parts next counts) c.edits.ensures c.in_ok-made.ensures.after) in
    let moved : AreMoved parts next = c.in_ok-made.ensures.homes in
    subst (λ (p : Past). IsMade p c.args.entry.now next counts) c.self.view_is
    (made past parts next c.self.inside.edge_count c.args.entry.now counts c.self.invariant below room after moved)

use Rattle.std.proofs.Common.{sym, subst}
use Rattle.shards.specs.Put.{AreOwnEdits}
use Rattle.shards.proofs.edited_vertex.push_edited.Goals as goal

pub push_edited_tree-requires-clause-edits : goal.push_edited_tree-requires-clause-edits
push_edited_tree-requires-clause-edits c = subst (AreOwnEdits c.args.scratch.now.own.items) (sym c.in-Some.ensures.list) c.requires.edits

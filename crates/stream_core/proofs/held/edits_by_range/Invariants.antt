use Rattle.std.proofs.Common.{take}
use Rattle.stream_core.specs.Work.{lists_of}
use Rattle.stream_core.proofs.LeftLemmas.{AreListed}
use Rattle.stream_core.proofs.held.edits_by_range.Given as goal

abbrev pub invariant-loop-edit : goal.invariant-loop-edit
invariant-loop-edit l = AreListed (take l.edit-index l.edits) l.count (lists_of l.lists.items)

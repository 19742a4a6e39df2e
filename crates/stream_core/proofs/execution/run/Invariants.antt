use Rattle.std.proofs.Common.{take}
use Rattle.store_model.specs.Core.{opening_core}
use Rattle.store_model.specs.Events.{Ran}
use Rattle.stream_core.proofs.execution.run.Given as goal

abbrev pub invariant-loop-event : goal.invariant-loop-event
invariant-loop-event l = Ran (opening_core l.vertex_count) (take l.event-index l.events) l.replies.items l.world

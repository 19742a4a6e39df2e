use Rattle.std.proofs.Common.{◌≡◌, [], replicate}
use Rattle.stream_core.specs.Work.{lists_of}
use Rattle.stream_core.proofs.held.empty_lists.Given as goal

abbrev pub invariant-loop : goal.invariant-loop
invariant-loop l = lists_of l.lists.items ≡ replicate l.counter []

use Rattle.std.proofs.Common.{◌≡◌, ◌+◌, ◌-◌, ◌*◌, length}
use Rattle.batch_apply.proofs.Dealing.{AreMadeOf}
use Rattle.batch_apply.proofs.hands.work.Given as goal

abbrev pub invariant-pieces : goal.invariant-pieces
invariant-pieces g l = record {
  place : l.next ≡ l.first + length l.made.items * l.step;
  each : AreMadeOf l.table l.pieces l.first l.step l.made.items;
}

abbrev pub decreases-pieces : goal.decreases-pieces
decreases-pieces g l = length l.pieces - l.next

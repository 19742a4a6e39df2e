use Rattle.std.proofs.Common.{◌≡◌, ◌-◌}
use Rattle.gapped_array.specs.Runs.{IsLayout, lists_in}
use Rattle.gapped_array.proofs.Packs.{IsPacked}
use Rattle.gapped_array.proofs.packing.pack.Given as goal

abbrev pub invariant-loop-vertex : goal.invariant-loop-vertex
invariant-loop-vertex l = record {
  layout : IsLayout l.cells.items l.segments l.runs.items;
  lists : lists_in l.cells.items l.runs.items ≡ lists_in l.initial.cells.items l.initial.runs.items;
  packed : IsPacked l.end l.segments l.runs.items;
}

abbrev pub decreases-loop-vertex : goal.decreases-loop-vertex
decreases-loop-vertex l = l.segments - l.end

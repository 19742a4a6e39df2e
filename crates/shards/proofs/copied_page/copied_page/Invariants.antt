use Rattle.std.proofs.Common.{◌≤◌, ◌-◌}
use Rattle.shards.proofs.CopiedLemmas.{AreCopied}
use Rattle.shards.proofs.copied_page.copied_page.Given as goal

abbrev pub invariant-loop-vertex : goal.invariant-loop-vertex
invariant-loop-vertex l = record {
  low : l.first ≤ l.vertex;
  high : l.vertex ≤ l.end;
  copied : AreCopied l.groups.edits l.first l.page l.fn.counts (l.vertex - l.first) l.lists l.counts;
}

abbrev pub decreases-loop-vertex : goal.decreases-loop-vertex
decreases-loop-vertex l = l.end - l.vertex

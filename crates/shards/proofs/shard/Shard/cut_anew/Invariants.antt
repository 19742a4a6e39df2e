use Rattle.shards.specs.Pages.{part_in}
use Rattle.shards.proofs.CutLemmas.{AreMadeTo}
use Rattle.shards.proofs.shard.Shard.cut_anew.Given as goal

abbrev pub invariant-loop-vertex : goal.invariant-loop-vertex
invariant-loop-vertex l = AreMadeTo l.groups.edits (part_in l.self-inside.range l.self-inside.pages.items) l.size.vertices l.vertices l.vertex l.pages.items l.scratch.lists l.counts

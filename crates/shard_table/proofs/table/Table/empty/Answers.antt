use Rattle.std.proofs.Common.{◌≡◌, ℕ, ◌+◌, List, length, sym, ap, subst, ◌∙◌, arith}
use Rattle.graph_model.specs.Graph.{empty_graph}
use Rattle.std.specs.declared.sync.Arc.{Arc}
use Rattle.std.specs.declared.alloc.Global.{Global}
use Rattle.std.specs.Arc.{arc_value}
use Rattle.std.proofs.lemmas.List.{length-map}
use Rattle.shards.specs.Part.{Part}
use Rattle.shard_table.specs.Table.{IsTable, IsPartAt, part_at, parts_of}
use Rattle.shard_table.specs.Blocks.{parts_in, AreInBlocks, AreHoused}
use Rattle.shard_table.proofs.HousedLemmas.{all_in_blocks, empty_parts_housed}
use Rattle.shard_table.proofs.TableLemmas.{few_parts}
use Rattle.shard_table.proofs.table.Table.empty.Goals as goal

-- parts of a graph without an edge, in blocks
housed : (n : ℕ) (shards : List (Arc Part Global)) (blocks : List (Arc (List Part) Global)) → IsTable (empty_graph n) (parts_of shards) → AreInBlocks (parts_of shards) → parts_in blocks ≡ parts_of shards → AreHoused (parts_in blocks)
housed n shards blocks table are is = subst AreHoused (sym is) (empty_parts_housed n 0 (parts_of shards) (λ k h. (let whole : k ≡ 0 + k = omega arith in subst (λ r. IsPartAt (empty_graph n) r (part_at (parts_of shards) k)) whole (table.each k h))) are)

pub of-width-requires : goal.of-width-requires
of-width-requires c =
    let size = length-map c.in_ok-shards.shards.items arc_value in
    omega (arith, few_parts (empty_graph c.args.vertex_count) (parts_of c.in_ok-shards.shards.items) c.in_ok-shards.ensures.table c.requires.most, size, c.len-count.ensures, c.in_ok-shards.shards.ok)

pub invariant_of-result : goal.invariant_of-result
invariant_of-result c =
    let shown : parts_in c.in_ok-blocks.blocks.items ≡ parts_of c.in_ok-shards.shards.items = c.in_ok-blocks.ensures.parts ∙ ap parts_of c.deref.ensures.value in (
      c.in_ok-blocks.ensures.full,
      (let long = ap length shown in let size = length-map c.in_ok-shards.shards.items arc_value in omega (arith, long, size, c.len-count.ensures, c.in_ok-shards.shards.ok)),
      housed c.args.vertex_count c.in_ok-shards.shards.items c.in_ok-blocks.blocks.items c.in_ok-shards.ensures.table c.in_ok-shards.ensures.homes shown,
    )

pub returns-clause-homes : goal.returns-clause-homes
returns-clause-homes c =
    let shown : parts_in c.in_ok-blocks.blocks.items ≡ parts_of c.in_ok-shards.shards.items = c.in_ok-blocks.ensures.parts ∙ ap parts_of c.deref.ensures.value in
    all_in_blocks (parts_in c.in_ok-blocks.blocks.items) (subst AreInBlocks (sym shown) c.in_ok-shards.ensures.homes)

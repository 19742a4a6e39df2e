use Rattle.std.proofs.Common.{◌≡◌, ℕ, List, length, sym, ap, subst, ◌∙◌, arith}
use Rattle.std.specs.Arc.{arc_value}
use Rattle.std.proofs.lemmas.List.{length-map}
use Rattle.shards.specs.Part.{Part}
use Rattle.shard_table.specs.Table.{IsTable, parts_of, home_in}
use Rattle.shard_table.specs.Blocks.{parts_in, AreHoused}
use Rattle.shard_table.proofs.ArrayLemmas.{parts_few, parts_housed, table_from, home_from, home_past}
use Rattle.shard_table.proofs.table.Table.of_lists.Goals as goal

pub of-width-requires : goal.of-width-requires
of-width-requires c =
    let size = length-map c.in_ok-shards.shards.items arc_value in
    omega (
      arith,
      parts_few c.args.starts.now c.args.targets.now c.args.vertex_count (parts_of c.in_ok-shards.shards.items) c.in_ok-shards.ensures c.requires.most,
      size,
      c.len-count.ensures,
      c.in_ok-shards.shards.ok,
    )

pub invariant_of-result : goal.invariant_of-result
invariant_of-result c =
    let shown : parts_in c.in_ok-blocks.blocks.items ≡ parts_of c.in_ok-shards.shards.items = c.in_ok-blocks.ensures.parts ∙ ap parts_of c.deref.ensures.value in (
      c.in_ok-blocks.ensures.full,
      (let long = ap length shown in let size = length-map c.in_ok-shards.shards.items arc_value in omega (arith, long, size, c.len-count.ensures, c.in_ok-shards.shards.ok)),
      subst AreHoused (sym shown) (parts_housed c.args.starts.now c.args.targets.now c.args.vertex_count (parts_of c.in_ok-shards.shards.items) c.in_ok-shards.ensures),
    )

pub returns-clause-table : goal.returns-clause-table
returns-clause-table c =
    let shown : parts_in c.in_ok-blocks.blocks.items ≡ parts_of c.in_ok-shards.shards.items = c.in_ok-blocks.ensures.parts ∙ ap parts_of c.deref.ensures.value in
    λ g own.
    subst (IsTable g) (sym shown) (table_from g c.args.starts.now c.args.targets.now c.args.vertex_count (parts_of c.in_ok-shards.shards.items) c.requires.count c.in_ok-shards.ensures own)

pub returns-clause-homes : goal.returns-clause-homes
returns-clause-homes c =
    let shown : parts_in c.in_ok-blocks.blocks.items ≡ parts_of c.in_ok-shards.shards.items = c.in_ok-blocks.ensures.parts ∙ ap parts_of c.deref.ensures.value in
    λ v below.
    ap (λ (l : List Part). home_in l v) shown ∙ home_from c.args.starts.now c.args.targets.now c.args.vertex_count (parts_of c.in_ok-shards.shards.items) v c.in_ok-shards.ensures below

pub returns-clause-outside : goal.returns-clause-outside
returns-clause-outside c =
    let shown : parts_in c.in_ok-blocks.blocks.items ≡ parts_of c.in_ok-shards.shards.items = c.in_ok-blocks.ensures.parts ∙ ap parts_of c.deref.ensures.value in
    λ v past.
    ap (λ (l : List Part). home_in l v) shown ∙ home_past c.args.starts.now c.args.targets.now c.args.vertex_count (parts_of c.in_ok-shards.shards.items) v c.in_ok-shards.ensures past

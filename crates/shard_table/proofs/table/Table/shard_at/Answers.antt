use Rattle.std.proofs.Common.{◌≡◌, ◌+◌, ◌*◌, ◌/◌, ◌%◌, ◌<◌, ◌≤◌, List, length, get_or, sym, ap, subst, ◌∙◌, arith}
use Rattle.std.specs.Arc.{arc_value}
use Rattle.std.proofs.lemmas.List.{length-map}
use Rattle.std.proofs.Math.Nat.{div-add-mod}
use Rattle.shards.specs.Part.{Part}
use Rattle.shard_table.specs.Table.{parts_of, part_at}
use Rattle.shard_table.specs.Blocks.{parts_in}
use Rattle.shard_table.proofs.TableLemmas.{shown_part}
use Rattle.shard_table.proofs.BlockLemmas.{part_in_block, part_inside, past_all, past_last}
use Rattle.shard_table.proofs.table.Table.shard_at.Goals as goal
use Rattle.shard_table.proofs.table.Table.shard_at.Goals.{After-shards}

-- the block that the range is looked for in
found : (c : After-shards) → let number = c.args.range / c.self.inside.width.shards in (number < length c.self.inside.blocks.items) × (parts_of c.shards.result.now ≡ arc_value (get_or c.self.inside.blocks.items number c.in_ok-get.field-0.now))
found c =
    let items = c.self.inside.blocks.items in
    let d = c.in_ok-get.field-0.now in
    let number = c.block_of-number.result in
    let is : number ≡ c.args.range / c.self.inside.width.shards = c.block_of-number.ensures in
    let blocks = c.deref.ensures.value in (
      subst (λ n. n < length items) is (subst (λ l. number < length l) blocks c.in_ok-get.ensures.lookup.3.0),
      c.shards.ensures
          ∙ c.deref-block.ensures
          ∙ ap arc_value c.in_ok-get.ensures.lookup.1
          ∙ ap (λ l. arc_value (get_or l number d)) blocks
          ∙ ap (λ n. arc_value (get_or items n d)) is,
    )

pub returns-in_err-get : goal.returns-in_err-get
returns-in_err-get c =
    let range = c.args.range in
    let w = c.self.inside.width.shards in
    let items = c.self.inside.blocks.items in
    let past : length items ≤ c.block_of-number.result = subst (λ l. length l ≤ c.block_of-number.result) c.deref.ensures.value c.in_err-get.ensures.lookup.3 in
    let beyond : length items ≤ range / w = subst (λ n. length items ≤ n) c.block_of-number.ensures past in
    let outside : length c.args.self.now ≤ range = subst (λ (p : List Part). length p ≤ range) c.self.view_is (past_all w items range c.self.invariant.0 beyond) in
    rw c.from_residual.ensures outside

pub returns-in_err-get-2 : goal.returns-in_err-get-2
returns-in_err-get-2 c =
    let range = c.args.range in
    let w = c.self.inside.width.shards in
    let block = found c.before.before.before.before in
    let few = ap length (sym block.1) ∙ length-map c.shards.result.now arc_value in
    let past = c.in_err-get-2.ensures.lookup.3 in
    let outside : length c.args.self.now ≤ range = subst (λ (p : List Part). length p ≤ range) c.self.view_is (past_last w c.self.inside.blocks.items range c.in_ok-get.field-0.now c.self.inside.width.some c.self.invariant.0 block.0 (omega (arith, few, past, c.place_of-place.ensures))) in
    rw c.from_residual-in_err-get-2.ensures outside

pub returns : goal.returns
returns c =
    let range = c.args.range in
    let w = c.self.inside.width.shards in
    let blocks = c.self.inside.blocks.items in
    let d = c.in_ok-get.field-0.now in
    let block = found c.before.before.before.before in
    let shards = c.shards.result.now in
    let place = c.place_of-place.result in
    let is : place ≡ range % w = c.place_of-place.ensures in
    let inner : place < length shards = c.in_ok-get-2.ensures.lookup.3.0 in
    let within : range % w < length (arc_value (get_or blocks (range / w) d)) = subst (λ n. range % w < n) (sym (length-map shards arc_value) ∙ ap length block.1) (subst (λ k. k < length shards) is inner) in
    let whole : w * (range / w) + range % w ≡ range = div-add-mod range w in
    let shard : c.deref-shard.result.now ≡ part_at c.args.self.now range =
    c.deref-shard.ensures
    ∙ ap arc_value c.in_ok-get-2.ensures.lookup.1
    ∙ shown_part shards place c.in_ok-get-2.field-0.now inner
    ∙ ap (part_at (parts_of shards)) is
    ∙ ap (λ l. part_at l (range % w)) block.1
    ∙ sym (part_in_block w blocks (range / w) (range % w) d c.self.invariant.0 block.0 within)
    ∙ ap (part_at (parts_in blocks)) whole
    ∙ ap (λ (p : List Part). part_at p range) c.self.view_is in
    let inside : range < length c.args.self.now = subst (λ (p : List Part). range < length p) c.self.view_is (subst (λ r. r < length (parts_in blocks)) whole (part_inside w blocks (range / w) (range % w) d c.self.invariant.0 block.0 within)) in
    (inside, shard)

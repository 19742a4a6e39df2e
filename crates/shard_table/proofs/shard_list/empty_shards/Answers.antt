use Rattle.std.proofs.Common.{◌≡◌, ◌<◌, ◌*◌, ◌-◌, ◌+◌, ℕ, [], min, length, replicate, sym, ap, subst, ◌∙◌, arith}
use Rattle.std.specs.Arc.{arc_value}
use Rattle.std.proofs.lemmas.List.{length_push, length-replicate}
use Rattle.past_model.specs.declared.home.Home.TheVariants.{Block}
use Rattle.graph_model.specs.Graph.{empty_graph}
use Rattle.shards.specs.Part.{Part}
use Rattle.shard_table.specs.Blocks.{AreInBlocks}
use Rattle.shard_table.specs.Table.{IsPartAt, parts_of, part_at}
use Rattle.shard_table.proofs.TableLemmas.{empty_part, empty_table, parts_push}
use Rattle.shard_table.proofs.HousedLemmas.{in_blocks_more}
use Rattle.shard_table.proofs.shard_list.empty_shards.Goals as goal

abbrev part : ℕ → ℕ → Part
part range size = record { range = range; rows = replicate size []; homes = replicate size Block }

pub loop-range-preserved : goal.loop-range-preserved
loop-range-preserved c =
    let n = c.args.vertex_count in
    let range = c.loop-range.range in
    let test = c.loop-range-test.true in
    let some : 256 * range < n = (let low = c.requires.some in omega arith) in
    let size : c.min.result ≡ min 256 (n - 256 * range) = (let is = c.min.ensures in omega arith) in
    let made : arc_value c.in_ok-new.field-0 ≡ part range (min 256 (n - 256 * range)) = c.in_ok-new.ensures.ok ∙ c.in_ok-shard.ensures ∙ ap (part range) size in
    let pushed = ap parts_of c.in_ok-push.ensures.items ∙ parts_push c.loop-range.shards.items c.in_ok-new.field-0 in
    record {
      count = ap length pushed ∙ length_push (parts_of c.loop-range.shards.items) (arc_value c.in_ok-new.field-0) ∙ ap (λ k. k + 1) c.loop-range.invariant.count;
      each = λ r h.
          subst (λ l. IsPartAt (empty_graph n) r (part_at l r)) (sym pushed)
          (empty_part n range (parts_of c.loop-range.shards.items) (arc_value c.in_ok-new.field-0) some c.loop-range.invariant.count c.loop-range.invariant.each made r (subst (λ l. r < length l) pushed h));
      homes = (
          let own : (arc_value c.in_ok-new.field-0).homes ≡ replicate (length (arc_value c.in_ok-new.field-0).rows) Block =
          subst (λ (p : Part). p.homes ≡ replicate (length p.rows) Block) (sym made) (ap (λ k. replicate k Block) (sym (length-replicate (min 256 (n - 256 * range)) []))) in
          subst AreInBlocks (sym pushed) (in_blocks_more (parts_of c.loop-range.shards.items) (arc_value c.in_ok-new.field-0) c.loop-range.invariant.homes own));
    }

pub returns-clause-table : goal.returns-clause-table
returns-clause-table c =
    let n = c.args.vertex_count in
    let test = c.loop-range-test.false in
    let ended = c.loop-range.auto.range-end in
    empty_table n (parts_of c.loop-range.shards.items) c.requires.some (omega (arith, c.loop-range.invariant.count)) c.loop-range.invariant.each

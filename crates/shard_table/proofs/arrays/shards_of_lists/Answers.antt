use Rattle.std.proofs.Common.{◌≡◌, ℕ, ◌+◌, ◌-◌, ◌*◌, ◌<◌, List, min, length, sym, ap, subst, ◌∙◌, arith}
use Rattle.std.specs.Arc.{arc_value}
use Rattle.std.proofs.lemmas.List.{length_push}
use Rattle.shards.specs.Arrays.{part_from}
use Rattle.shards.specs.Part.{Part}
use Rattle.shard_table.specs.Table.{parts_of, part_at}
use Rattle.shard_table.proofs.TableLemmas.{parts_push}
use Rattle.shard_table.proofs.ArrayLemmas.{part_more}
use Rattle.shard_table.proofs.arrays.shards_of_lists.Goals as goal

pub loop-range-preserved : goal.loop-range-preserved
loop-range-preserved c =
    let starts : List ℕ = c.args.lists.starts.now in
    let targets : List ℕ = c.args.lists.targets.now in
    let n : ℕ = c.args.vertex_count in
    let range : ℕ = c.loop-range.range in
    let before : List Part = parts_of c.loop-range.shards.items in
    let size : c.min-vertices.result ≡ min 256 (n - 256 * range) = (let is = c.min-vertices.ensures in omega arith) in
    let made : arc_value c.in_ok-new.field-0 ≡ part_from starts targets range (min 256 (n - 256 * range)) =
    c.in_ok-new.ensures.ok ∙ c.in_ok-shard.ensures ∙ ap (part_from starts targets range) size in
    let pushed = ap parts_of c.in_ok-push.ensures.items ∙ parts_push c.loop-range.shards.items c.in_ok-new.field-0 in
    record {
      count = ap length pushed ∙ length_push before (arc_value c.in_ok-new.field-0) ∙ ap (λ k. k + 1) c.loop-range.invariant.count;
      each = λ r h.
          subst (λ (l : List Part). part_at l r ≡ part_from starts targets r (min 256 (n - 256 * r))) (sym pushed)
          (part_more starts targets n range before (arc_value c.in_ok-new.field-0) c.loop-range.invariant.count c.loop-range.invariant.each made r (subst (λ (l : List Part). r < length l) pushed h));
    }

use Rattle.std.proofs.Common.{◌≡◌, ◌<◌, ◌≤◌, [], length, slice_index_or, sym, subst, rules, arith}
use Rattle.past_model.specs.declared.limits.TheConstants.{MOST_VERTICES}
use Rattle.shards.specs.Lists.{rows_of}
use Rattle.shards.specs.Part.{row_at, IsShard}
use Rattle.shards.proofs.PartLemmas.{few_targets}
use Rattle.shards.proofs.shard.Shard.targets.Goals as goal

pub invariant_of-result : goal.invariant_of-result
invariant_of-result c =
    let page = c.page_of.result.now in
    let few : length (row_at c.args.self.now c.args.vertex) ≤ MOST_VERTICES = few_targets c.args.self.now c.args.vertex (subst IsShard c.self.view_is c.self.invariant.2) c.requires in
    let row : slice_index_or (rows_of page) c.place_of.result [] ≡ row_at c.args.self.now c.args.vertex = search rules in
    record {
      kept = c.page_of.ensures.kept;
      inside = subst (λ n. n < length (rows_of page)) (sym c.place_of.ensures) c.page_of.ensures.inside;
      place_is = omega arith;
      small = subst (λ l. length l ≤ MOST_VERTICES) (sym row) few;
    }

use Rattle.std.proofs.Common.{◌≡◌, [], None, replicate, sym, ap, subst, ◌∙◌, arith}
use Rattle.history.specs.Moment.{Beginning, count_of, nothing_published}
use Rattle.stream_core.specs.Runs.{past_at}
use Rattle.stream_core.specs.World.{IsWorld}
use Rattle.stream_core.proofs.WorldLemmas.{first_world}
use Rattle.stream_core.proofs.world.World.new.Goals as goal

pub invariant_of-result : goal.invariant_of-result
invariant_of-result c =
    let n = c.args.vertex_count in
    let parts = c.in_ok-empty.field-0 in
    let all : c.loop.counter ≡ 16 = omega arith in (
      subst (λ (k : Beginning). IsWorld (past_at n k) c.new.result.items None parts c.loop.runs.items) (sym c.new-head.ensures)
          (subst (λ queue. IsWorld (past_at n (nothing_published c.new-head.result.0)) queue None parts c.loop.runs.items) (sym c.new.ensures.items)
          (subst (λ runs. IsWorld (past_at n (nothing_published c.new-head.result.0)) [] None parts runs) (sym (c.loop.invariant ∙ ap (λ k. replicate k None) all))
          (first_world n parts c.requires.some c.requires.most c.in_ok-empty.ensures))),
      ap (λ (k : Beginning). k.book) c.new-head.ensures,
      ap count_of (sym c.new-head.ensures),
    )

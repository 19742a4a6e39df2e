use Rattle.std.proofs.Common.{sym, ap, ◌∙◌, slice_get, arith}
use Rattle.std.proofs.lemmas.Option.{slice_get_past}
use Rattle.graph_model.proofs.Neighbours.{neighbours-outside}
use Rattle.cursors.proofs.LentLemmas.{first_lent}
use Rattle.cursors.proofs.answers.neighbour.Goals as goal

pub returns-in_err-shard : goal.returns-in_err-shard
returns-in_err-shard c = λ g table. c.from_residual.ensures ∙ sym (ap (λ l. slice_get l c.args.place) (neighbours-outside g c.args.vertex (c.in_err-shard.ensures.list g table)))

pub returns-then-place-from : goal.returns-then-place-from
returns-then-place-from c =
    λ g table.
    let from = c.from.ensures in
    let degree = c.degree.ensures.value in
    let test = c.if-place-from.true in
    c.copied.ensures ∙ c.first.ensures.value ∙ first_lent _ c.args.place c.lent_at.result.now c.lent_at.ensures.lent (omega arith) ∙ ap (λ l. slice_get l c.args.place) (c.in_ok-shard.ensures.list g table)

pub returns-else-place-from : goal.returns-else-place-from
returns-else-place-from c =
    λ g table.
    let from = c.from.ensures in
    let degree = c.degree.ensures.value in
    let test = c.if-place-from.false in
    sym (ap (λ l. slice_get l c.args.place) (sym (c.in_ok-shard.ensures.list g table)) ∙ slice_get_past _ c.args.place (omega arith))

use Rattle.std.proofs.Common.{◌<◌, ◌^◌, take, get_or, sym, ap, ◌∙◌, rules, arith}
use Rattle.std.proofs.lemmas.List.{take_more, take_all}
use Rattle.map_model.specs.EdgeMap.{reduction_of_numbers}
use Rattle.edge_fold.specs.Numbers.{combination}
use Rattle.edge_fold.proofs.Reductions.{reduced_more}
use Rattle.edge_map.proofs.alone.reduced.Goals as goal

pub numbers-preserved : goal.numbers-preserved
numbers-preserved c =
    let r = c.args.reduction in
    let numbers = c.args.numbers.now in
    let at = c.numbers.at in
    let n = get_or numbers at 0 in
    let small : n < 2 ^ 64 = search rules in
    c.combine-so_far.ensures ∙ ap (λ k. combination r k n) c.numbers.invariant ∙ sym (reduced_more r (take at numbers) n small)
    ∙ ap (reduction_of_numbers r) (sym (take_more numbers at 0 c.numbers-test.true))

pub returns : goal.returns
returns c = c.numbers.invariant ∙ ap (reduction_of_numbers c.args.reduction) (take_all c.numbers.at c.args.numbers.now (omega (arith, c.numbers-test.false)))

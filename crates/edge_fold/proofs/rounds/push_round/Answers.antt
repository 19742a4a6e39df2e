use Rattle.std.proofs.Common.{◌≡◌, take, ap, ◌∙◌, arith}
use Rattle.past_model.specs.Past.{graph_of}
use Rattle.map_model.specs.Pushes.{pushed}
use Rattle.edge_fold.specs.Inputs.{inputs_of}
use Rattle.edge_fold.specs.Numbers.{first_numbers}
use Rattle.edge_fold.proofs.Pushed.{no_push}
use Rattle.edge_fold.proofs.rounds.push_round.Goals as goal

pub returns-then-block-gt0-clause-values : goal.returns-then-block-gt0-clause-values
returns-then-block-gt0-clause-values c =
    let kept = c.push_kept-kept in
    let block = c.push_block-block in
    let s = c.args.span in
    let numbers = first_numbers c.args.mapped.now.program.now (graph_of c.args.mapped.now.version.now) (inputs_of c.args.mapped.now) s in
    let none : kept.result.count ≡ 0 = omega (arith, c.if-kept-gt0.false) in
    block.ensures.values
    ∙ ap (pushed c.args.reduction (take block.result.count s.targets.now) (numbers block.result.count))
    (no_push c.args.reduction s.targets.now (numbers kept.result.count) c.args.values.now kept.new.values kept.result.count none kept.ensures.values)

pub returns-clause-values : goal.returns-clause-values
returns-clause-values c =
    let kept = c.push_kept-kept in
    let block = c.push_block-block in
    let single = c.push_singly in
    let s = c.args.span in
    let numbers = first_numbers c.args.mapped.now.program.now (graph_of c.args.mapped.now.version.now) (inputs_of c.args.mapped.now) s in
    let none : kept.result.count ≡ 0 = omega (arith, c.if-kept-gt0.false) in
    let no_block : block.result.count ≡ 0 = omega (arith, c.if-block-gt0.false) in
    single.ensures.values
    ∙ ap (pushed c.args.reduction (take single.result.count s.targets.now) (numbers single.result.count))
    (no_push c.args.reduction s.targets.now (numbers block.result.count) kept.new.values block.new.values block.result.count no_block block.ensures.values
    ∙ no_push c.args.reduction s.targets.now (numbers kept.result.count) c.args.values.now kept.new.values kept.result.count none kept.ensures.values)

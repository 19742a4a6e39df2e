use Rattle.std.proofs.Common.{◌≡◌, ◌+◌, ◌-◌, ◌/◌, ◌≤◌, ◌<◌, ◌∙◌, ap, sym, length, set, arith}
use Rattle.std.proofs.lemmas.List.{get_or_read_under, length-set}
use Rattle.bpf_image.specs.Program.{units, IsImage}
use Rattle.verifier.proofs.Flowing.{Flows}
use Rattle.verifier.proofs.WeightTable.{WeightsFrom, past_end, called_few, next_few, weighed, more_weights}
use Rattle.verifier.specs.Functions.{function_end}
use Rattle.verifier.specs.Tables.{capped_weight}
use Rattle.verifier.proofs.weights.find_weight.Goals as goal

pub loop-behind-init : goal.loop-behind-init
loop-behind-init c =
    let same : units c.args.image.now ≡ length c.code.result.now / 8 = ap (λ xs. length xs / 8) (sym c.code.ensures.exact) in
    let size : length c.in_ok-weights.weights.items ≡ units c.args.image.now = (let ok = c.in_ok-weights.weights.ok in let len = c.in_ok-weights.ensures.len in omega (arith, ok, len, same)) in
    let known : WeightsFrom c.args.measure c.args.image.now c.in_ok-weights.weights.items (units c.args.image.now) = past_end c.args.measure c.args.image.now c.in_ok-weights.weights.items size in
    (size, λ q le. known q (omega (arith, le)))

pub weight_of-requires-clause-called : goal.weight_of-requires-clause-called
weight_of-requires-clause-called c =
    let passed : Flows c.args.image.now = record { decodes = c.requires.decodes; flow = c.requires.flow } in
    let same : units c.args.image.now ≡ length c.code.result.now / 8 = ap (λ xs. length xs / 8) (sym c.code.ensures.exact) in
    let pc = length c.code.result.now / 8 - 1 - c.loop-behind.behind in
    let known : WeightsFrom c.args.measure c.args.image.now c.deref.result.now (length c.code.result.now / 8 - 1 - c.loop-behind.behind + 1) = rw c.deref.ensures.value (λ q le. c.loop-behind.invariant.1 q (omega (arith, le, same, c.loop-behind-test.true))) in
    called_few c.args.measure c.args.image.now c.deref.result.now pc c.starting_at-found.result passed c.starting_at-found.ensures.exact known

pub weight_of-requires-clause-next : goal.weight_of-requires-clause-next
weight_of-requires-clause-next c =
    let passed : Flows c.args.image.now = record { decodes = c.requires.decodes; flow = c.requires.flow } in
    let same : units c.args.image.now ≡ length c.code.result.now / 8 = ap (λ xs. length xs / 8) (sym c.code.ensures.exact) in
    let pc = length c.code.result.now / 8 - 1 - c.loop-behind.behind in
    let known : WeightsFrom c.args.measure c.args.image.now c.deref.result.now (length c.code.result.now / 8 - 1 - c.loop-behind.behind + 1) = rw c.deref.ensures.value (λ q le. c.loop-behind.invariant.1 q (omega (arith, le, same, c.loop-behind-test.true))) in
    let end : c.from.result ≡ function_end c.args.image.now (length c.code.result.now / 8 - 1 - c.loop-behind.behind) = c.from.ensures ∙ c.requires.ends.1 pc (omega (arith, same, c.loop-behind-test.true)) in
    next_few c.args.measure c.args.image.now c.deref.result.now pc c.from.result c.starting_at-found.result passed c.starting_at-found.ensures.exact end known

pub loop-behind-preserved : goal.loop-behind-preserved
loop-behind-preserved c =
    let passed : Flows c.args.image.now = record { decodes = c.requires.decodes; flow = c.requires.flow } in
    let same : units c.args.image.now ≡ length c.code.result.now / 8 = ap (λ xs. length xs / 8) (sym c.code.ensures.exact) in
    let pc = length c.code.result.now / 8 - 1 - c.loop-behind.behind in
    let before : WeightsFrom c.args.measure c.args.image.now c.loop-behind.weights.items (length c.code.result.now / 8 - 1 - c.loop-behind.behind + 1) = λ q le. c.loop-behind.invariant.1 q (omega (arith, le, same, c.loop-behind-test.true)) in
    let known : WeightsFrom c.args.measure c.args.image.now c.deref.result.now (length c.code.result.now / 8 - 1 - c.loop-behind.behind + 1) = rw c.deref.ensures.value before in
    let end : c.from.result ≡ function_end c.args.image.now (length c.code.result.now / 8 - 1 - c.loop-behind.behind) = c.from.ensures ∙ c.requires.ends.1 pc (omega (arith, same, c.loop-behind-test.true)) in
    let is : c.weight_of.result ≡ capped_weight c.args.measure c.args.image.now (length c.code.result.now / 8 - 1 - c.loop-behind.behind) = c.weight_of.ensures ∙ weighed c.args.measure c.args.image.now c.deref.result.now pc c.from.result c.starting_at-found.result passed c.starting_at-found.ensures.exact end known in
    let lt : length c.code.result.now / 8 - 1 - c.loop-behind.behind < length c.loop-behind.weights.items = omega (arith, same, c.loop-behind-test.true, c.loop-behind.invariant.0) in
    let after : WeightsFrom c.args.measure c.args.image.now (set c.loop-behind.weights.items (length c.code.result.now / 8 - 1 - c.loop-behind.behind) c.weight_of.result) (length c.code.result.now / 8 - 1 - c.loop-behind.behind) = more_weights c.args.measure c.args.image.now c.loop-behind.weights.items pc c.weight_of.result lt is before in
    (length-set c.loop-behind.weights.items pc c.weight_of.result ∙ c.loop-behind.invariant.0, λ q le. after q (omega (arith, le, same)))

pub returns : goal.returns
returns c =
    let same : units c.args.image.now ≡ length c.code.result.now / 8 = ap (λ xs. length xs / 8) (sym c.code.ensures.exact) in
    let all : units c.args.image.now ≤ c.loop-behind.behind = omega (arith, same, c.loop-behind-test.false) in
    let known = c.loop-behind.invariant.1 in
    let image : IsImage c.args.image.now = c.code.ensures.image in
    let some : 0 < units c.args.image.now = (let least = image.code.some in omega (arith, least)) in
    get_or_read_under c.loop-behind.weights.items 0 (units c.args.image.now) c.index.result.now 0 c.index.ensures some (sym c.loop-behind.invariant.0) ∙ known 0 (omega (arith, all))

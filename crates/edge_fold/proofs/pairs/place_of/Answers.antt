use Rattle.std.proofs.Common.{◌≡◌, ◌+◌, ◌-◌, ◌/◌, ◌<◌, ◌≤◌, true, sym, ap, ◌∙◌, arith}
use Rattle.std.specs.Prelude.{slice_index}
use Rattle.std.proofs.lemmas.Bool.{ltb-true, ltb-false}
use Rattle.graph_model.specs.Graph.{neighbours, degree}
use Rattle.graph_model.specs.Views.{is_edge}
use Rattle.graph_model.proofs.Neighbours.{IsStrictlyIncreasing-neighbours}
use Rattle.past_model.specs.Past.{graph_of}
use Rattle.edge_fold.proofs.Places.{count_below, ascending}
use Rattle.edge_fold.proofs.pairs.place_of.Goals as goal

pub halves-init : goal.halves-init
halves-init c =
    let g = graph_of c.args.version.now in
    let many : c.degree-degree.result ≡ degree g c.args.source = c.degree-degree.ensures.value ∙ ap (degree g) c.from.ensures in
    record {
      order = omega arith;
      inside = omega (arith, many);
      below = λ i less. absurd (omega (arith, less));
      above = λ i more within. absurd (omega (arith, more, within, many));
    }

pub halves-preserved-then-is_below : goal.halves-preserved-then-is_below
halves-preserved-then-is_below c =
    let g = graph_of c.args.version.now in
    let all = neighbours g c.args.source in
    let middle = c.halves.low + (c.halves.high - c.halves.low) / 2 in
    let test = c.halves-test.true in
    let there : middle < c.halves.high = omega (arith, test) in
    let less : slice_index all middle < c.args.target = ltb-true (slice_index all middle) c.args.target (sym c.is_below.ensures ∙ c.if-is_below.true) in
    record {
      order = omega (arith, there);
      inside = c.halves.invariant.inside;
      below = λ i before. omega (arith, less, ascending all (IsStrictlyIncreasing-neighbours g c.args.source) i middle (omega (arith, before)) (omega (arith, there, c.halves.invariant.inside)));
      above = c.halves.invariant.above;
    }

pub halves-preserved : goal.halves-preserved
halves-preserved c =
    let g = graph_of c.args.version.now in
    let all = neighbours g c.args.source in
    let middle = c.halves.low + (c.halves.high - c.halves.low) / 2 in
    let test = c.halves-test.true in
    let there : middle < c.halves.high = omega (arith, test) in
    let more : c.args.target ≤ slice_index all middle = ltb-false (slice_index all middle) c.args.target (sym c.is_below.ensures ∙ c.if-is_below.false) in
    record {
      order = omega arith;
      inside = omega (arith, there, c.halves.invariant.inside);
      below = c.halves.invariant.below;
      above = λ i after within. omega (arith, more, ascending all (IsStrictlyIncreasing-neighbours g c.args.source) middle i after within);
    }

pub returns : goal.returns
returns c =
    let g = graph_of c.args.version.now in
    let yes : is_edge g c.args.source c.args.target ≡ true =
    ap (λ u. is_edge g u c.args.target) (sym c.from-2.ensures) ∙ ap (is_edge g c.from-2.result) (sym c.from-3.ensures) ∙ sym c.has_edge.ensures ∙ c.if-not-has_edge.false in
    let test = c.halves-test.false in
    let inv = c.halves.invariant in
    let count = count_below (neighbours g c.args.source) c.args.target c.halves.low (omega (arith, inv.order, inv.inside)) inv.below (λ i more within. inv.above i (omega (arith, more, test)) within) in
    rw yes (sym count)

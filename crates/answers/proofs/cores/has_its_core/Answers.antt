use Rattle.std.proofs.Common.{◌≡◌, ◌≤◌, ◌<◌, length, get_or, ap, ap₂, sym, ◌∙◌, arith}
use Rattle.std.specs.Int.{from_bool}
use Rattle.std.specs.Option.{unwrap_or}
use Rattle.std.proofs.lemmas.Bool.{leb-true, leb-false}
use Rattle.std.proofs.lemmas.Option.{unwrap_or-slice_get}
use Rattle.graph_model.specs.Graph.{degree, neighbours}
use Rattle.graph_model.specs.Views.{neighbour_at}
use Rattle.answers.proofs.Counts.{as_high, later, at_most_one, count_on, count_all}
use Rattle.answers.proofs.cores.has_its_core.Goals as goal

pub loop-place-preserved : goal.loop-place-preserved
loop-place-preserved g c =
    let graph = g.G.GraphView.graph c.args.graph.now in
    let v = c.args.vertex in
    let numbers = c.args.cores.now.numbers.now in
    let i = c.loop-place.place in
    let u = c.unwrap_or-target.result in
    let xs = neighbours graph v in
    let within : i < length xs = omega (arith, c.loop-place-test.true, c.degree-place-end.ensures ∙ ap (degree graph) c.from.ensures) in
    let asked = ap₂ (neighbour_at graph) (sym c.from-in-loop-place.ensures) (sym c.from-in-loop-place-2.ensures) ∙ sym c.neighbour.ensures in
    let here : get_or xs i v ≡ u = sym (unwrap_or-slice_get xs i v) ∙ ap (λ o. unwrap_or o v) asked ∙ sym c.unwrap_or-target.ensures in (
      count_on (as_high numbers v) xs i v u c.loop-place.enough c.from-enough.result within here
          c.loop-place.invariant.0 (c.from-enough.ensures ∙ ap from_bool c.is_as_high.ensures),
      count_on (later numbers c.args.cores.now.places.now v) xs i v u c.loop-place.few c.from-few.result within here
          c.loop-place.invariant.1 (c.from-few.ensures ∙ ap from_bool c.comes_after.ensures),
      omega (arith, c.loop-place.invariant.2, c.from-enough.ensures, at_most_one c.is_as_high.result),
      omega (arith, c.loop-place.invariant.3, c.from-few.ensures, at_most_one c.comes_after.result),
    )

pub returns-then-number-enough-clause-yes : goal.returns-then-number-enough-clause-yes
returns-then-number-enough-clause-yes g c few =
    let graph = g.G.GraphView.graph c.args.graph.now in
    let v = c.args.vertex in
    let xs = neighbours graph v in
    let numbers = c.args.cores.now.numbers.now in
    let past : length xs ≤ c.loop-place.place = omega (arith, c.loop-place-test.false, c.degree-place-end.ensures ∙ ap (degree graph) c.from.ensures) in
    record {
      enough = omega (arith, c.if-number-enough.true, c.entry_at-number.ensures, count_all (as_high numbers v) xs c.loop-place.place c.loop-place.enough past c.loop-place.invariant.0);
      few = omega (arith, leb-true c.loop-place.few c.entry_at-number.result few, c.entry_at-number.ensures, count_all (later numbers c.args.cores.now.places.now v) xs c.loop-place.place c.loop-place.few past c.loop-place.invariant.1);
    }

pub returns-then-number-enough-clause-no : goal.returns-then-number-enough-clause-no
returns-then-number-enough-clause-no g c more has =
    let graph = g.G.GraphView.graph c.args.graph.now in
    let v = c.args.vertex in
    let xs = neighbours graph v in
    let numbers = c.args.cores.now.numbers.now in
    let past : length xs ≤ c.loop-place.place = omega (arith, c.loop-place-test.false, c.degree-place-end.ensures ∙ ap (degree graph) c.from.ensures) in
    omega (arith, leb-false c.loop-place.few c.entry_at-number.result more, c.entry_at-number.ensures, count_all (later numbers c.args.cores.now.places.now v) xs c.loop-place.place c.loop-place.few past c.loop-place.invariant.1, has.few)

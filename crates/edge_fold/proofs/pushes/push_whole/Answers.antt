use Rattle.std.proofs.Common.{◌≡◌, ◌≤◌, length, inl, inr, refl, ◌∙◌, arith}
use Rattle.std.specs.Prelude.{slice_index}
use Rattle.graph_model.proofs.Neighbours.{length-neighbours}
use Rattle.past_model.specs.declared.limits.TheConstants.{MOST_VERTICES}
use Rattle.past_model.specs.Past.{graph_of}
use Rattle.past_model.proofs.Pasts.{vertex_count-graph_of}
use Rattle.map_model.proofs.PushedWhole.{push_parts_are_the_whole}
use Rattle.verifier.specs.Walks.{longest}
use Rattle.edge_fold.specs.Inputs.{inputs_of}
use Rattle.edge_fold.proofs.Pushed.{none_pushed_yet, with_budget}
use Rattle.edge_fold.proofs.pushes.push_whole.Goals as goal

pub parts-init : goal.parts-init
parts-init c =
    let m = c.args.mapped.now in
    record {
      place = record { inside = omega arith; within = omega arith; ended = λ _. refl };
      so_far = none_pushed_yet m.program.now (graph_of m.version.now) c.args.request.now.reduction (inputs_of m) c.args.request.now.frontier.now _ c.args.values.now refl refl refl c.nothing.ensures;
      long = refl;
      memory = c.requires.memory;
    }

pub parts-preserved : goal.parts-preserved
parts-preserved c =
    let m = c.args.mapped.now in
    record {
      place = c.push_some.ensures.place;
      so_far = c.push_some.ensures.so_far c.args.values.now
          (inr (with_budget m.program.now (graph_of m.version.now) c.args.request.now.reduction (inputs_of m) c.args.request.now.frontier.now c.parts.progress _ c.args.values.now c.parts.values c.parts.invariant.so_far));
      long = c.push_some.ensures.long ∙ c.parts.invariant.long;
      memory = c.push_some.ensures.memory;
    }

pub parts-smaller : goal.parts-smaller
parts-smaller c =
    let g = graph_of c.args.mapped.now.version.now in
    let f = c.args.request.now.frontier.now in
    let old = c.parts.progress in
    let new = c.push_some.new.progress in
    let small : g.vertex_count ≤ MOST_VERTICES = omega (arith, c.vertex_count-count.ensures.range, c.vertex_count-count.ensures.value, vertex_count-graph_of c.args.mapped.now.version.now) in
    let before : old.place ≤ MOST_VERTICES = omega (arith, c.parts.invariant.place.within, length-neighbours g (slice_index f old.vertex), small) in
    let after : new.place ≤ MOST_VERTICES = omega (arith, c.push_some.ensures.place.within, length-neighbours g (slice_index f new.vertex), small) in
    elim (c.push_some.ensures.on c.parts-test.true) [
      | inl further ↦ omega (arith, further, before, after, c.push_some.ensures.place.inside, c.parts-test.true)
      | inr same ↦ omega (arith, same.0, same.1, before, after, c.parts-test.true)
    ]

pub returns-clause-values : goal.returns-clause-values
returns-clause-values c =
    let m = c.args.mapped.now in
    let p = m.program.now in
    let at = c.parts.progress in
    let ended : at.vertex ≡ length c.args.request.now.frontier.now = omega (arith, c.parts.invariant.place.inside, c.parts-test.false) in
    (push_parts_are_the_whole p (longest p) (graph_of m.version.now) c.args.request.now.reduction (inputs_of m) c.args.request.now.frontier.now at c.args.values.now c.parts.values c.parts.invariant.so_far c.parts.invariant.place ended).0

pub returns-clause-edges : goal.returns-clause-edges
returns-clause-edges c =
    let m = c.args.mapped.now in
    let p = m.program.now in
    let at = c.parts.progress in
    let ended : at.vertex ≡ length c.args.request.now.frontier.now = omega (arith, c.parts.invariant.place.inside, c.parts-test.false) in
    (push_parts_are_the_whole p (longest p) (graph_of m.version.now) c.args.request.now.reduction (inputs_of m) c.args.request.now.frontier.now at c.args.values.now c.parts.values c.parts.invariant.so_far c.parts.invariant.place ended).1

pub returns-clause-total : goal.returns-clause-total
returns-clause-total c =
    let m = c.args.mapped.now in
    let p = m.program.now in
    let at = c.parts.progress in
    let ended : at.vertex ≡ length c.args.request.now.frontier.now = omega (arith, c.parts.invariant.place.inside, c.parts-test.false) in
    (push_parts_are_the_whole p (longest p) (graph_of m.version.now) c.args.request.now.reduction (inputs_of m) c.args.request.now.frontier.now at c.args.values.now c.parts.values c.parts.invariant.so_far c.parts.invariant.place ended).2

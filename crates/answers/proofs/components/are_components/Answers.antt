use Rattle.std.proofs.Common.{◌≡◌, ◌≤◌, ℕ, sym, subst, inl, inr, arith}
use Rattle.std.specs.Prelude.{slice_index}
use Rattle.std.proofs.lemmas.Bool.{cases_lt}
use Rattle.answers.specs.Components.{KeepsItsLabel, ReachesItsLabel}
use Rattle.answers.proofs.components.are_components.Goals as goal

pub loop-vertex-preserved : goal.loop-vertex-preserved
loop-vertex-preserved g c v below =
    let graph = g.G.GraphView.graph c.args.graph.now in
    let k = c.args.components.now in
    elim (cases_lt v c.loop-vertex.vertex) [
      | inl before ↦ c.loop-vertex.invariant v before
      | inr here ↦
          (let same : v ≡ c.loop-vertex.vertex = omega (arith, below, here) in
          subst (λ (u : ℕ). KeepsItsLabel graph k.labels.now u × (slice_index k.labels.now u ≤ u) × ReachesItsLabel graph k.labels.now k.parents.now k.steps.now u) (sym same) (
            c.keeps_its_label.ensures.yes c.if-not-keeps_its_label.false,
            omega (arith, c.if-entry_at-vertex.false, c.entry_at.ensures),
            c.reaches_its_label.ensures.yes c.if-not-reaches_its_label.false,
          ))
    ]

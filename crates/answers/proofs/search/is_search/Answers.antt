use Rattle.std.proofs.Common.{◌≡◌, ℕ, sym, subst, inl, inr, arith}
use Rattle.std.proofs.lemmas.Bool.{cases_lt}
use Rattle.answers.specs.Search.{LeadsNoFurther, IsReached}
use Rattle.answers.proofs.search.is_search.Goals as goal

pub loop-vertex-preserved : goal.loop-vertex-preserved
loop-vertex-preserved g c v below =
    let graph = g.G.GraphView.graph c.args.graph.now in
    let s = c.args.search.now in
    elim (cases_lt v c.loop-vertex.vertex) [
      | inl before ↦ c.loop-vertex.invariant v before
      | inr here ↦
          (let same : v ≡ c.loop-vertex.vertex = omega (arith, below, here) in
          subst (λ (u : ℕ). LeadsNoFurther graph s.levels.now u × IsReached graph s.root s.levels.now s.parents.now u) (sym same)
          (c.leads_no_further.ensures.yes c.if-not-leads_no_further.false, c.is_reached.ensures.yes c.if-not-is_reached.false))
    ]

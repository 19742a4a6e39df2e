use Rattle.std.proofs.Common.{ℕ, ◌+◌, ◌∷◌, sym, ap, subst, ◌∙◌}
use Rattle.past_model.specs.Past.{graph_of}
use Rattle.edge_fold.specs.declared.edge.Edge.{Edge}
use Rattle.edge_map.specs.Ahead.{Ahead, IsAt, edges_at}
use Rattle.edge_map.proofs.Walks.{one_edge, next_at}
use Rattle.edge_map.proofs.walk.Walk.next.Goals as goal

pub invariant_of-self : goal.invariant_of-self
invariant_of-self c =
    let w = c.self.inside in
    let g = graph_of w.version.now in
    next_at g w.source w.place w.degree c.in-Some.target c.next.new.self (subst (IsAt g w.source w.place w.degree) c.in-Some.ensures c.self.invariant)

pub returns-in-Some-clause-edges : goal.returns-in-Some-clause-edges
returns-in-Some-clause-edges c =
    let w = c.self.inside in
    let g = graph_of w.version.now in
    let first : ℕ → Edge = λ degree. record { source = w.source; target = c.in-Some.target; place = w.place; degree = degree } in
    ap (λ (a : Ahead). a.edges) (sym c.self.view_is)
    ∙ one_edge g w.source w.place c.in-Some.target c.next.new.self (sym c.in-Some.ensures ∙ c.self.invariant.left)
    ∙ ap (λ degree. first degree ∷ edges_at g w.source (w.place + 1)) (sym c.self.invariant.count)

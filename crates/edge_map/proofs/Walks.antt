-- The edges that a walk has ahead, at one place and at the next.
use Rattle.std.proofs.Common.{◌≡◌, ℕ, ◌+◌, ◌<◌, ◌≤◌, List, [], ◌∷◌, ◌++◌, length, get_or, drop, refl, sym, ap, ◌∙◌, arith}
use Rattle.std.specs.List.{flat_map}
use Rattle.std.proofs.lemmas.List.{drop_more, drop_all, drop-drop}
use Rattle.graph_model.specs.Graph.{Graph, numbers_below, neighbours, degree}
use Rattle.graph_model.proofs.Numbers.{length-numbers_below, get_or-numbers_below}
use Rattle.edge_fold.specs.declared.edge.Edge.{Edge}
use Rattle.edge_map.specs.Listing.{edges_from, edges_of, all_edges}
use Rattle.edge_map.specs.Ahead.{edges_at, edges_behind, IsAt}

-- the edges of a vertex and of all after it
pub on_is : (g : Graph) (vertex : ℕ) → vertex < g.vertex_count → flat_map (edges_of g) (drop vertex (numbers_below g.vertex_count)) ≡ edges_at g vertex 0
on_is g vertex inside =
    let n = numbers_below g.vertex_count in
    let here : get_or n vertex 0 ≡ vertex = get_or-numbers_below g.vertex_count vertex inside in
    ap (flat_map (edges_of g)) (drop_more n vertex 0 (omega (arith, length-numbers_below g.vertex_count)))
    ∙ ap (λ v. edges_of g v ++ flat_map (edges_of g) (drop (vertex + 1) n)) here

-- all edges, at the first vertex
pub all_at : (g : Graph) → 0 < g.vertex_count → all_edges g ≡ edges_at g 0 0
all_at g some = on_is g 0 some

-- after the last vertex there is no edge
pub none_behind : (g : Graph) (vertex : ℕ) → g.vertex_count ≤ vertex → flat_map (edges_of g) (drop vertex (numbers_below g.vertex_count)) ≡ []
none_behind g vertex past = ap (flat_map (edges_of g)) (drop_all vertex (numbers_below g.vertex_count) (omega (arith, length-numbers_below g.vertex_count)))

-- a vertex without a neighbour has no edge
pub idle : (g : Graph) (vertex : ℕ) → vertex < g.vertex_count → degree g vertex ≡ 0 → flat_map (edges_of g) (drop vertex (numbers_below g.vertex_count)) ≡ edges_behind g vertex
idle g vertex inside none =
    on_is g vertex inside ∙ ap (λ l. edges_from g vertex 0 l ++ edges_behind g vertex) (nil (neighbours g vertex) none)
  where
    nil : (l : List ℕ) → length l ≡ 0 → l ≡ []
    nil [] is = refl
    nil (x ∷ xs) is = absurd (omega arith)

-- one edge more
pub one_edge : (g : Graph) (source place target : ℕ) (left : List ℕ) → target ∷ left ≡ drop place (neighbours g source) → edges_at g source place ≡ record { source = source; target = target; place = place; degree = degree g source } ∷ edges_at g source (place + 1)
one_edge g source place target left is =
    let rest : left ≡ drop (place + 1) (neighbours g source) = ap (drop 1) is ∙ drop-drop 1 place (neighbours g source) in
    let first : Edge = record { source = source; target = target; place = place; degree = degree g source } in
    ap (λ l. edges_from g source place l ++ edges_behind g source) (sym is)
    ∙ ap (λ l. first ∷ (edges_from g source (place + 1) l ++ edges_behind g source)) rest

-- and where the walk stands then
pub next_at : (g : Graph) (source place degree_there target : ℕ) (left : List ℕ) → IsAt g source place degree_there (target ∷ left) → IsAt g source (place + 1) degree_there left
next_at g source place degree_there target left at = record {
  inside = at.inside;
  left = ap (drop 1) at.left ∙ drop-drop 1 place (neighbours g source);
  count = at.count;
  few = at.few;
}

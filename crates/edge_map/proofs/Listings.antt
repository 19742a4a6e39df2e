-- All edges of a graph with their numbers, vertex by vertex.
use Rattle.std.proofs.Common.{◌≡◌, ℕ, ◌+◌, List, [], ◌∷◌, ◌++◌, refl, ap, ◌∙◌}
use Rattle.std.specs.Prelude.{Option, Some, None}
use Rattle.std.specs.List.{flat_map, filter_map}
use Rattle.std.proofs.lemmas.List.Elements.{filter_map-append}
use Rattle.bpf_image.specs.Program.{Program}
use Rattle.map_model.specs.declared.listed_edge.ListedEdge.{ListedEdge}
use Rattle.bpf_model.specs.Run.{number_for}
use Rattle.map_model.specs.EdgeMap.{edge_record, edge_with_number, numbered_from, listed_of, listed_edges}
use Rattle.graph_model.specs.Graph.{Graph, numbers_below, neighbours, degree}
use Rattle.verifier.specs.Walks.{longest}
use Rattle.edge_fold.specs.declared.edge.Edge.{Edge}
use Rattle.edge_map.specs.Listing.{edges_from, edges_of, all_edges, listed_edge_of, listing}

-- one more in front, if there is one
one_more : {X : Type 0} (h : X → Option ListedEdge) (x : X) (o : Option ListedEdge) (xs : List X) (ys : List (Option ListedEdge)) → h x ≡ o → filter_map h xs ≡ filter_map (λ y. y) ys → filter_map h (x ∷ xs) ≡ filter_map (λ y. y) (o ∷ ys)
one_more h x None xs ys is same = rw is same
one_more h x (Some e) xs ys is same = rw is (ap (λ (l : List ListedEdge). e ∷ l) same)

vertex_listed : (p : Program) (g : Graph) (argument : List ℕ) (source place : ℕ) (targets : List ℕ) → listing p g argument (edges_from g source place targets) ≡ filter_map (λ edge. edge) (numbered_from p (longest p) g argument source place targets)
vertex_listed p g argument source place [] = refl
vertex_listed p g argument source place (target ∷ targets) =
    let e : Edge = record { source = source; target = target; place = place; degree = degree g source } in
    one_more (listed_edge_of p (longest p) g argument) e (edge_with_number source target (number_for p (longest p) g (edge_record g source target place argument))) (edges_from g source (place + 1) targets) (numbered_from p (longest p) g argument source (place + 1) targets) refl (vertex_listed p g argument source (place + 1) targets)

vertices_listed : (p : Program) (g : Graph) (argument sources : List ℕ) → listing p g argument (flat_map (edges_of g) sources) ≡ flat_map (listed_of p (longest p) g argument) sources
vertices_listed p g argument [] = refl
vertices_listed p g argument (source ∷ sources) =
    filter_map-append (listed_edge_of p (longest p) g argument) (edges_of g source) (flat_map (edges_of g) sources)
    ∙ ap (λ (l : List ListedEdge). l ++ listing p g argument (flat_map (edges_of g) sources)) (vertex_listed p g argument source 0 (neighbours g source))
    ∙ ap (λ (l : List ListedEdge). listed_of p (longest p) g argument source ++ l) (vertices_listed p g argument sources)

-- the listing of all edges is that of the graph
pub listing_all : (p : Program) (g : Graph) (argument : List ℕ) → listing p g argument (all_edges g) ≡ listed_edges p (longest p) g argument
listing_all p g argument = vertices_listed p g argument (numbers_below g.vertex_count)

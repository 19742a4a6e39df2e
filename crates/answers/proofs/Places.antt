-- The edges of a vertex by the places of their targets.
use Rattle.std.proofs.Common.{◌≡◌, ℕ, ◌<◌, ◌≤◌, true, Some, length, get_or, ap, subst, ◌∙◌, arith}
use Rattle.std.specs.List.{Contains}
use Rattle.std.proofs.lemmas.Option.{slice_get-get_or, slice_get_within, get_or_from_slice_get}
use Rattle.std.proofs.lemmas.List.Elements.{Contains-get_or}
use Rattle.graph_model.specs.Graph.{Graph, neighbours, degree}
use Rattle.graph_model.specs.Views.{is_edge, neighbour_at}
use Rattle.graph_model.proofs.ViewLemmas.{neighbour-is_edge, is_edge-neighbour}

-- what holds of the targets at all places holds of all edges
pub each_edge : (g : Graph) (v : ℕ) (P : ℕ → Type 0) (count : ℕ) → degree g v ≤ count
    → ((place u : ℕ) → place < count → neighbour_at g v place ≡ Some u → P u) → (u : ℕ) → is_edge g v u ≡ true → P u
each_edge g v P count enough each u edge =
    let at = neighbour-is_edge g v u edge in
    each at.0 u (omega (arith, at.1, enough)) (slice_get-get_or (neighbours g v) at.0 u at.1 ∙ ap Some at.2)

-- a target at a place is an edge's
pub edge_at : (g : Graph) (v place u : ℕ) → neighbour_at g v place ≡ Some u → is_edge g v u ≡ true
edge_at g v place u is =
    let within : place < length (neighbours g v) = slice_get_within (neighbours g v) place u is in
    let here : get_or (neighbours g v) place u ≡ u = get_or_from_slice_get (neighbours g v) place u u is in
    is_edge-neighbour g v u (subst (Contains (neighbours g v)) here (Contains-get_or (neighbours g v) place u within))

-- A search in a vertex's list.
use Rattle.std.proofs.Common.{ℕ, ◌<◌, ◌≤◌, length, Contains, subst, arith}
use Rattle.graph_model.proofs.Neighbours.{Contains-neighbours}
use Rattle.past_model.specs.declared.limits.TheConstants.{MOST_VERTICES}
use Rattle.shards.specs.Part.{Part, row_at, vertex_at, IsShard}

-- each target is one of a graph's vertices
pub no_far_target : (p : Part) (i t : ℕ) → IsShard p → i < length p.rows → MOST_VERTICES ≤ t → Contains (row_at p i) t → ⊥
no_far_target p i t is inside far c =
    let among = Contains-neighbours is.graph (vertex_at p i) t in
    let ends = among.0 (subst (λ l. Contains l t) (is.part.each i inside) c) in
    let low = ends.1 in
    let small = is.small in
    omega arith

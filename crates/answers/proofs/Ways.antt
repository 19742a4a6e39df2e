-- Levels that pass the test are distances.
use Rattle.std.proofs.Common.{◌≡◌, ℕ, zero, suc, ◌<◌, ◌≤◌, List, refl, sym, ap, ◌∙◌, inl, inr, arith}
use Rattle.std.proofs.lemmas.Bool.{cases_lt}
use Rattle.std.proofs.lemmas.List.{get_or_past}
use Rattle.graph_model.specs.Graph.{Graph}
use Rattle.answers.specs.Search.{Way, IsSearch, LevelsAreDistances, entry_of, not_found}

module _ (g : Graph) (root : ℕ) (levels parents : List ℕ) (is : IsSearch g root levels parents) where
  -- a vertex that was found has a place
  is_vertex : (v : ℕ) → entry_of levels v < not_found → v < g.vertex_count
  is_vertex v found =
      elim (cases_lt v g.vertex_count) [
        | inl inside ↦ inside
        | inr past ↦ absurd (let none = get_or_past levels v not_found (omega (arith, past, is.level_count)) in omega (arith, none, found))
      ]

  -- no way is shorter than a level
  shortest : (k v : ℕ) → Way g k root v → (entry_of levels v < not_found) × (entry_of levels v ≤ k)
  unfolding Way
  shortest zero v way =
      let same : entry_of levels v ≡ 0 = ap (entry_of levels) (sym way) ∙ is.begins in
      (omega (arith, same), omega (arith, same))
  shortest (suc k) v way =
      let before = shortest k way.0 way.1 in
      let after = is.leads way.0 (is_vertex way.0 before.0) before.0 v way.2 in
      (after.0, omega (arith, after.1, before.1))

  -- a way is as long as a level
  as_long : (k v : ℕ) → entry_of levels v ≡ k → entry_of levels v < not_found → Way g k root v
  unfolding Way
  as_long zero v level found =
      elim (is.reached v (is_vertex v found) found) [
        | inl same ↦ sym same
        | inr parent ↦ absurd (omega (arith, level, parent.1))
      ]
  as_long (suc k) v level found =
      elim (is.reached v (is_vertex v found) found) [
        | inl same ↦ absurd (let none : entry_of levels v ≡ 0 = ap (entry_of levels) same ∙ is.begins in omega (arith, none, level))
        | inr parent ↦ (
          entry_of parents v,
          as_long k (entry_of parents v) (omega (arith, level, parent.1)) (omega (arith, found, parent.1)),
          parent.0,
        )
      ]

pub distances : LevelsAreDistances
distances g root levels parents is v =
    (λ k way. shortest g root levels parents is k v way, λ found. as_long g root levels parents is (entry_of levels v) v refl found)

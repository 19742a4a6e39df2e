-- Strictly ascending vertices, and frontiers.
use Rattle.std.proofs.Common.{◌≡◌, ℕ, zero, suc, ◌+◌, ◌<◌, ◌≤◌, true, List, [], ◌∷◌, length, slice_index, All, refl, ap, inl, inr, arith}
use Rattle.std.specs.Prelude.{nat_lt}
use Rattle.std.specs.List.{list_all}
use Rattle.std.specs.List.Sorted.{IsStrictlyIncreasing}
use Rattle.std.proofs.lemmas.Bool.{and_parts, and_from, cases_lt, ltb-true, lt-ltb}
use Rattle.std.proofs.lemmas.List.Sums.{AllPass-from_list_all}
use Rattle.graph_model.specs.Graph.{Graph, numbers_below}
use Rattle.graph_model.proofs.Numbers.{numbers_below-ascend, numbers_below-are_below}
use Rattle.session_model.specs.Faults.{is_ascending, is_frontier}
use Rattle.session_model.specs.Responses.{frontier_of}

pub increasing : (vs : List ℕ) → is_ascending vs ≡ true → IsStrictlyIncreasing vs
increasing [] up k h = absurd (omega arith)
increasing (v ∷ []) up k h = absurd (omega arith)
increasing (v ∷ w ∷ vs) up zero h = ltb-true _ _ (and_parts _ _ up).0
increasing (v ∷ w ∷ vs) up (suc k) h =
    let next : suc k + 1 ≡ suc (k + 1) = omega arith in
    rw next (increasing (w ∷ vs) (and_parts _ _ up).1 k (omega arith))

pub ascending : (vs : List ℕ) → IsStrictlyIncreasing vs → is_ascending vs ≡ true
ascending [] up = refl
ascending (v ∷ []) up = refl
ascending (v ∷ w ∷ vs) up =
    and_from _ _ (lt-ltb _ _ (up 0 (omega arith))) (ascending (w ∷ vs) (λ k h. rest k (up (suc k) (omega arith))))
  where
    rest : (k : ℕ) → slice_index (v ∷ w ∷ vs) (suc k) < slice_index (v ∷ w ∷ vs) (suc k + 1) → slice_index (w ∷ vs) k < slice_index (w ∷ vs) (k + 1)
    rest k step = let next : suc k + 1 ≡ suc (k + 1) = omega arith in rw next at step

-- a frontier of ascending vertices of a graph, and all vertices where it is empty
pub frontier_ascends : (vs : List ℕ) (g : Graph) → is_ascending vs ≡ true → IsStrictlyIncreasing (frontier_of vs g)
frontier_ascends [] g up = numbers_below-ascend g.vertex_count
frontier_ascends (v ∷ vs) g up = increasing (v ∷ vs) up

pub frontier_is_below : (vs : List ℕ) (g : Graph) → list_all (λ v. nat_lt v g.vertex_count) vs ≡ true → All (λ v. v < g.vertex_count) (frontier_of vs g)
frontier_is_below [] g below = numbers_below-are_below g.vertex_count
frontier_is_below (v ∷ vs) g below = λ k d h. ltb-true _ _ (AllPass-from_list_all (λ x. nat_lt x g.vertex_count) (v ∷ vs) below k d h)

-- and back
pub ascends_back : (vs : List ℕ) (g : Graph) → IsStrictlyIncreasing (frontier_of vs g) → is_ascending vs ≡ true
ascends_back [] g up = refl
ascends_back (v ∷ vs) g up = ascending (v ∷ vs) up

pub below_back : (vs : List ℕ) (g : Graph) → All (λ v. v < g.vertex_count) (frontier_of vs g) → list_all (λ v. nat_lt v g.vertex_count) vs ≡ true
below_back [] g below = refl
below_back (v ∷ vs) g below = all_below (v ∷ vs) below
  where
    all_below : (ws : List ℕ) → All (λ v. v < g.vertex_count) ws → list_all (λ v. nat_lt v g.vertex_count) ws ≡ true
    all_below [] all = refl
    all_below (w ∷ ws) all = and_from _ _ (lt-ltb _ _ (all 0 0 (omega arith))) (all_below ws (λ k d h. all (suc k) d (omega arith)))

-- no frontier stands for all vertices
pub empty_frontier : (vs : List ℕ) (g : Graph) → length vs ≡ 0 → frontier_of vs g ≡ numbers_below g.vertex_count
empty_frontier [] g h = refl
empty_frontier (v ∷ vs) g h = absurd (omega arith)

at_least : (f : List ℕ) → IsStrictlyIncreasing f → (k : ℕ) → k < length f → k ≤ slice_index f k
at_least f up zero inside = omega arith
at_least f up (suc k) inside =
    let before = at_least f up k (omega arith) in
    let next : slice_index f k < slice_index f (k + 1) = up k (omega arith) in
    let same : slice_index f (k + 1) ≡ slice_index f (suc k) = ap (slice_index f) (omega arith) in
    omega (arith, before, next, same)

-- a frontier has no more vertices than its graph
pub frontier_few : (vs : List ℕ) (g : Graph) → is_frontier g.vertex_count vs ≡ true → length (frontier_of vs g) ≤ g.vertex_count
frontier_few vs g is =
    let parts = and_parts _ _ is in
    let n : ℕ = g.vertex_count in
    let f : List ℕ = frontier_of vs g in
    let up : IsStrictlyIncreasing f = frontier_ascends vs g parts.0 in
    let below : All (λ v. v < n) f = frontier_is_below vs g parts.1 in
    elim (cases_lt n (length f)) [
      | inr few ↦ few
      | inl many ↦ (
          let at : n ≤ slice_index f n = at_least f up n (omega arith) in
          let less : slice_index f n < n = below n 0 (omega arith) in
          absurd (omega (arith, at, less)))
    ]

-- Vertices without edges add no number to those of the vertices before them, and their values are what no number reduces to.
use Rattle.std.proofs.Common.{◌≡◌, ℕ, zero, suc, ◌+◌, ◌-◌, ◌*◌, ◌<◌, ◌≤◌, ◌++◌, ◌∷◌, List, [], length, take, drop, inl, inr, refl, sym, ap, ◌∙◌, append-nil, add-zero, arith}
use Rattle.std.specs.Prelude.{slice_index, ◌⊎◌}
use Rattle.std.specs.List.{filter_map}
use Rattle.std.proofs.lemmas.List.{map_more, nil_from_length, take_more, drop-drop}
use Rattle.std.proofs.Math.Nat.{mul-add}
use Rattle.bpf_image.specs.Program.{Program}
use Rattle.graph_model.specs.Graph.{Graph, neighbours, degree}
use Rattle.map_model.specs.declared.progress.Progress.{Progress}
use Rattle.map_model.specs.declared.reduction.Reduction.{Reduction}
use Rattle.map_model.specs.EdgeMap.{Inputs, numbers_with, exits_with, all_with, reduction_of_numbers}
use Rattle.map_model.specs.Parts.{numbers_before, values_for, IsBefore, cost_before}
use Rattle.edge_fold.proofs.RowFacts.{flat_map_more}

module _ (p : Program) (k : ℕ) (g : Graph) (inputs : Inputs) (frontier : List ℕ) where
  pub no_exits : (v : ℕ) → degree g v ≡ 0 → exits_with p k g inputs v ≡ []
  no_exits v none = ap (λ l. filter_map (λ number. number) (numbers_with p k g inputs v 0 l)) (nil_from_length (neighbours g v) none)

  -- vertices between two places have no edge
  abbrev pub HaveNone : ℕ → ℕ → Type 0
  HaveNone from to = (j : ℕ) → from ≤ j → j < to → degree g (slice_index frontier j) ≡ 0

  pub same_numbers : (i n to : ℕ) → to ≡ i + n → to ≤ length frontier → HaveNone i to
      → all_with p k g inputs (take to frontier) ≡ all_with p k g inputs (take i frontier)
  same_numbers i zero to is inside none = ap (λ j. all_with p k g inputs (take j frontier)) (is ∙ add-zero i)
  same_numbers i (suc n) to is inside none =
      let last = i + n in
      let next : to ≡ last + 1 = omega (arith, is) in
      let v = slice_index frontier last in
      let empty : exits_with p k g inputs v ≡ [] = no_exits v (none last (omega arith) (omega (arith, is))) in
      ap (λ j. all_with p k g inputs (take j frontier)) next
      ∙ flat_map_more (exits_with p k g inputs) frontier last 0 (omega (arith, is, inside))
      ∙ ap (λ l. all_with p k g inputs (take last frontier) ++ l) empty
      ∙ append-nil (all_with p k g inputs (take last frontier))
      ∙ same_numbers i n last refl (omega (arith, is, inside)) (λ j from before. none j from (omega (arith, is, before)))

  pub same_values : (r : Reduction) (values : List ℕ) (i n to : ℕ) → to ≡ i + n → to ≤ length frontier → length values ≡ length frontier → HaveNone i to
      → ((j : ℕ) → i ≤ j → j < to → slice_index values j ≡ reduction_of_numbers r [])
      → take i values ≡ values_for p k g r inputs (take i frontier) → take to values ≡ values_for p k g r inputs (take to frontier)
  same_values r values i zero to is inside long none written before =
      let here : to ≡ i = is ∙ add-zero i in
      ap (λ j. take j values) here ∙ before ∙ sym (ap (λ j. values_for p k g r inputs (take j frontier)) here)
  same_values r values i (suc n) to is inside long none written before =
      let last = i + n in
      let next : to ≡ last + 1 = omega (arith, is) in
      let v = slice_index frontier last in
      let empty : exits_with p k g inputs v ≡ [] = no_exits v (none last (omega arith) (omega (arith, is))) in
      let early = same_values r values i n last refl (omega (arith, is, inside)) long (λ j from below. none j from (omega (arith, is, below))) (λ j from below. written j from (omega (arith, is, below))) before in
      ap (λ j. take j values) next
      ∙ take_more values last 0 (omega (arith, is, inside, long))
      ∙ ap (λ l. l ++ slice_index values last ∷ []) early
      ∙ ap (λ n. values_for p k g r inputs (take last frontier) ++ n ∷ []) (written last (omega arith) (omega (arith, is)) ∙ ap (reduction_of_numbers r) (sym empty))
      ∙ sym (map_more (λ u. reduction_of_numbers r (exits_with p k g inputs u)) frontier last 0 (omega (arith, is, inside)))
      ∙ sym (ap (λ j. values_for p k g r inputs (take j frontier)) next)

  -- what vertices cost that add no number
  pub cost_past_some : (edge_cost vertex_cost old n : ℕ) (at next : Progress)
      → next.vertex ≡ at.vertex + n → numbers_before p k g inputs frontier next ≡ numbers_before p k g inputs frontier at
      → next.budget ≡ at.budget - vertex_cost * n
      → old ≤ at.budget + cost_before edge_cost vertex_cost p k g inputs frontier at
      → old ≤ next.budget + cost_before edge_cost vertex_cost p k g inputs frontier next
  cost_past_some edge_cost vertex_cost old n at next vertex same falls before =
      let product : edge_cost * length (numbers_before p k g inputs frontier next) ≡ edge_cost * length (numbers_before p k g inputs frontier at) = ap (λ l. edge_cost * length l) same in
      let vertices : vertex_cost * next.vertex ≡ vertex_cost * at.vertex + vertex_cost * n = ap (λ m. vertex_cost * m) vertex ∙ mul-add vertex_cost at.vertex n in
      omega (arith, before, falls, product, vertices)

  pub falls_past_some : (edge_cost vertex_cost old n : ℕ) (at next : Progress)
      → next.vertex ≡ at.vertex + n → numbers_before p k g inputs frontier next ≡ numbers_before p k g inputs frontier at
      → next.budget ≡ at.budget - vertex_cost * n
      → at.budget ≤ old - cost_before edge_cost vertex_cost p k g inputs frontier at
      → next.budget ≤ old - cost_before edge_cost vertex_cost p k g inputs frontier next
  falls_past_some edge_cost vertex_cost old n at next vertex same falls before =
      let product : edge_cost * length (numbers_before p k g inputs frontier next) ≡ edge_cost * length (numbers_before p k g inputs frontier at) = ap (λ l. edge_cost * length l) same in
      let vertices : vertex_cost * next.vertex ≡ vertex_cost * at.vertex + vertex_cost * n = ap (λ m. vertex_cost * m) vertex ∙ mul-add vertex_cost at.vertex n in
      omega (arith, before, falls, product, vertices)

-- a place further on is further than where the call began
pub past_later : (old at next : Progress) → ((old.vertex ≡ at.vertex) × (old.place ≡ at.place)) ⊎ IsBefore old at → at.vertex < next.vertex → IsBefore old next
past_later old at next (inl same) on = inl (omega (arith, same.0, on))
past_later old at next (inr (inl further)) on = inl (omega (arith, further, on))
past_later old at next (inr (inr further)) on = inl (omega (arith, further.0, on))

-- what is behind a later place stays where all behind an earlier one does
pub rest_behind : (values old : List ℕ) (i n to : ℕ) → to ≡ i + n → drop i values ≡ drop i old → drop to values ≡ drop to old
rest_behind values old i n to is same =
    ap (λ j. drop j values) is ∙ sym (drop-drop n i values) ∙ ap (drop n) same ∙ drop-drop n i old ∙ sym (ap (λ j. drop j old) is)

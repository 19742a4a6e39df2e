-- What a map in parts has written, from place to place.
use Rattle.std.proofs.Common.{◌≡◌, ℕ, suc, ◌+◌, ◌-◌, ◌*◌, ◌^◌, ◌%◌, ◌<◌, ◌≤◌, List, Option, Some, None, [], ◌∷◌, ◌++◌, length, take, drop, set, inl, inr, refl, sym, ap, subst, ◌∙◌, append-nil, append_assoc, length-append, zero-add, arith}
use Rattle.std.specs.Prelude.{slice_index, ◌⊎◌}
use Rattle.std.specs.List.{filter_map}
use Rattle.std.proofs.lemmas.List.{take_more, take_all, map_more, take-set, get_or-set_same, length-take-le, drop-set-lt, drop-drop}
use Rattle.std.proofs.lemmas.Bool.{cases_lt}
use Rattle.std.proofs.Math.Nat.{mod-eq_of_lt, mul-add}
use Rattle.bpf_image.specs.Program.{Program}
use Rattle.bpf_model.specs.Run.{number_for}
use Rattle.graph_model.specs.Graph.{Graph, neighbours, degree}
use Rattle.graph_model.proofs.Neighbours.{length-neighbours}
use Rattle.past_model.specs.declared.limits.TheConstants.{MOST_VERTICES}
use Rattle.map_model.specs.declared.reduction.Reduction.{Reduction}
use Rattle.map_model.specs.declared.progress.Progress.{Progress}
use Rattle.map_model.specs.EdgeMap.{input_record, numbers_with, exits_with, all_with, reduction_of_numbers}
use Rattle.map_model.specs.Parts.{first_exits, numbers_before, values_for, IsPlace, IsBefore, IsSoFar, HasBegun, cost_before}
use Rattle.verifier.specs.Walks.{longest}
use Rattle.edge_fold.specs.Numbers.{combination, exits_from}
use Rattle.edge_fold.proofs.Reductions.{reduced-append}
use Rattle.edge_fold.proofs.RowFacts.{flat_map_more}
use Rattle.edge_fold.proofs.Numbers.{found}
use Rattle.edge_fold.proofs.Written.{more_found}
use Rattle.map_model.specs.EdgeMap.{Inputs}

-- no more numbers than targets
pub few_found : (p : Program) (g : Graph) (inputs : Inputs) (source place : ℕ) (targets : List ℕ) → length (found p g inputs source place targets) ≤ length targets
few_found p g inputs source place [] = omega arith
few_found p g inputs source place (t ∷ ts) =
    let rest = few_found p g inputs source (place + 1) ts in
    elim (number_for p (longest p) g (input_record g source t place inputs)) as (λ (o : Option ℕ). length (filter_map (λ (number : Option ℕ). number) (o ∷ numbers_with p (longest p) g inputs source (place + 1) ts)) ≤ suc (length ts)) [
      | None ↦ omega (arith, rest)
      | Some n ↦ omega (arith, rest)
    ]

module _ (p : Program) (g : Graph) (inputs : Inputs) (frontier : List ℕ) where
  -- the numbers before a place, by its two parts
  abbrev pub before_at : (i k : ℕ) → List ℕ
  before_at i k = all_with p (longest p) g inputs (take i frontier) ++ first_exits p (longest p) g inputs (slice_index frontier i) k

  -- so many edges more of one vertex
  pub exits_more : (source k n : ℕ) → k ≤ degree g source
      → first_exits p (longest p) g inputs source (k + n) ≡ first_exits p (longest p) g inputs source k ++ exits_from p g inputs source k n
  exits_more source k n within =
      more_found p g inputs source 0 (neighbours g source) k n within
      ∙ ap (λ first. first_exits p (longest p) g inputs source k ++ found p g inputs source first (take n (drop k (neighbours g source)))) (zero-add k)

  pub whole_exits : (source k : ℕ) → k ≡ degree g source → first_exits p (longest p) g inputs source k ≡ exits_with p (longest p) g inputs source
  whole_exits source k all = ap (found p g inputs source 0) (take_all k (neighbours g source) (omega (arith, all)))

  pub before_more : (i k n : ℕ) → k ≤ degree g (slice_index frontier i)
      → before_at i (k + n) ≡ before_at i k ++ exits_from p g inputs (slice_index frontier i) k n
  before_more i k n within =
      let v = slice_index frontier i in
      let early = all_with p (longest p) g inputs (take i frontier) in
      ap (λ l. early ++ l) (exits_more v k n within)
      ∙ sym (append_assoc early (first_exits p (longest p) g inputs v k) (exits_from p g inputs v k n))

  -- all edges of one vertex
  pub before_next : (i k : ℕ) → i < length frontier → k ≡ degree g (slice_index frontier i) → before_at (i + 1) 0 ≡ before_at i k
  before_next i k inside all =
      let v = slice_index frontier i in
      append-nil (all_with p (longest p) g inputs (take (i + 1) frontier))
      ∙ flat_map_more (exits_with p (longest p) g inputs) frontier i 0 inside
      ∙ ap (λ l. all_with p (longest p) g inputs (take i frontier) ++ l) (sym (whole_exits v k all))

  few_exits : (v : ℕ) → g.vertex_count ≤ MOST_VERTICES → length (exits_with p (longest p) g inputs v) ≤ MOST_VERTICES
  few_exits v small = omega (arith, few_found p g inputs v 0 (neighbours g v), length-neighbours g v, small)

  few_numbers : (vs : List ℕ) → g.vertex_count ≤ MOST_VERTICES → length (all_with p (longest p) g inputs vs) ≤ length vs * MOST_VERTICES
  few_numbers [] small = omega arith
  few_numbers (v ∷ vs) small =
      omega (arith, few_exits v small, few_numbers vs small, length-append (exits_with p (longest p) g inputs v) (all_with p (longest p) g inputs vs))

  -- the numbers before a place can be counted
  pub few_before : (i k : ℕ) → g.vertex_count ≤ MOST_VERTICES → i ≤ length frontier → length frontier ≤ MOST_VERTICES → k ≤ degree g (slice_index frontier i)
      → length (before_at i k) < 2 ^ 63
  few_before i k small inside few within =
      let v = slice_index frontier i in
      let early = all_with p (longest p) g inputs (take i frontier) in
      omega (
        arith,
        length-append early (first_exits p (longest p) g inputs v k),
        few_numbers (take i frontier) small,
        length-take-le i frontier inside,
        few_found p g inputs v 0 (take k (neighbours g v)),
        length-take-le k (neighbours g v) within,
        length-neighbours g v,
        small,
        few,
        inside,
      )

  -- a place by its parts is the same place
  pub same_place : (at now : Progress) → now.vertex ≡ at.vertex → now.place ≡ at.place → IsPlace g frontier at → IsPlace g frontier now
  same_place at now vertex place is = record {
    inside = omega (arith, vertex, is.inside);
    within = rw (vertex, place) is.within;
    ended = λ ended. place ∙ is.ended (sym vertex ∙ ended);
  }

  -- what was there before is still no more
  pub same_cost : (edge_cost vertex_cost : ℕ) (at now : Progress) → now.vertex ≡ at.vertex → now.place ≡ at.place → now.budget ≡ at.budget
      → at.budget + cost_before edge_cost vertex_cost p (longest p) g inputs frontier at ≤ now.budget + cost_before edge_cost vertex_cost p (longest p) g inputs frontier now
  same_cost edge_cost vertex_cost at now vertex place budget = rw (vertex, place, budget) (omega arith)

  -- what so many edges more cost
  cost_on_is : (edge_cost vertex_cost n : ℕ) (at next : Progress)
      → next.vertex ≡ at.vertex → next.place ≡ at.place + n → at.place ≤ degree g (slice_index frontier at.vertex)
      → length (exits_from p g inputs (slice_index frontier at.vertex) at.place n) ≡ n
      → cost_before edge_cost vertex_cost p (longest p) g inputs frontier next ≡ cost_before edge_cost vertex_cost p (longest p) g inputs frontier at + edge_cost * n
  cost_on_is edge_cost vertex_cost n at next vertex place within long =
      let late = exits_from p g inputs (slice_index frontier at.vertex) at.place n in
      let early = numbers_before p (longest p) g inputs frontier at in
      let more : numbers_before p (longest p) g inputs frontier next ≡ early ++ late = rw (vertex, place) (before_more at.vertex at.place n within) in
      let count : length (numbers_before p (longest p) g inputs frontier next) ≡ length early + n = ap length more ∙ length-append early late ∙ ap (λ m. length early + m) long in
      let product : edge_cost * length (numbers_before p (longest p) g inputs frontier next) ≡ edge_cost * length early + edge_cost * n = ap (λ m. edge_cost * m) count ∙ mul-add edge_cost (length early) n in
      let vertices : vertex_cost * next.vertex ≡ vertex_cost * at.vertex = ap (λ m. vertex_cost * m) vertex in
      omega (arith, product, vertices)

  -- what one vertex more costs
  cost_past_is : (edge_cost vertex_cost : ℕ) (at next : Progress)
      → next.vertex ≡ at.vertex + 1 → next.place ≡ 0 → at.vertex < length frontier → at.place ≡ degree g (slice_index frontier at.vertex)
      → cost_before edge_cost vertex_cost p (longest p) g inputs frontier next ≡ cost_before edge_cost vertex_cost p (longest p) g inputs frontier at + vertex_cost
  cost_past_is edge_cost vertex_cost at next vertex place inside all =
      let same : numbers_before p (longest p) g inputs frontier next ≡ numbers_before p (longest p) g inputs frontier at = rw (vertex, place) (before_next at.vertex at.place inside all) in
      let product : edge_cost * length (numbers_before p (longest p) g inputs frontier next) ≡ edge_cost * length (numbers_before p (longest p) g inputs frontier at) = ap (λ l. edge_cost * length l) same in
      let vertices : vertex_cost * next.vertex ≡ vertex_cost * at.vertex + vertex_cost * 1 = ap (λ m. vertex_cost * m) vertex ∙ mul-add vertex_cost at.vertex 1 in
      omega (arith, product, vertices)

  pub cost_on : (edge_cost vertex_cost old n : ℕ) (at next : Progress)
      → next.vertex ≡ at.vertex → next.place ≡ at.place + n → at.place ≤ degree g (slice_index frontier at.vertex)
      → length (exits_from p g inputs (slice_index frontier at.vertex) at.place n) ≡ n → at.budget ≤ next.budget + edge_cost * n
      → old ≤ at.budget + cost_before edge_cost vertex_cost p (longest p) g inputs frontier at
      → old ≤ next.budget + cost_before edge_cost vertex_cost p (longest p) g inputs frontier next
  cost_on edge_cost vertex_cost old n at next vertex place within long falls before =
      omega (arith, before, falls, cost_on_is edge_cost vertex_cost n at next vertex place within long)

  pub cost_past : (edge_cost vertex_cost old : ℕ) (at next : Progress)
      → next.vertex ≡ at.vertex + 1 → next.place ≡ 0 → at.vertex < length frontier → at.place ≡ degree g (slice_index frontier at.vertex)
      → next.budget ≡ at.budget - vertex_cost
      → old ≤ at.budget + cost_before edge_cost vertex_cost p (longest p) g inputs frontier at
      → old ≤ next.budget + cost_before edge_cost vertex_cost p (longest p) g inputs frontier next
  cost_past edge_cost vertex_cost old at next vertex place inside all falls before =
      omega (arith, before, falls, cost_past_is edge_cost vertex_cost at next vertex place inside all)

  -- a budget falls by what they cost at least
  pub falls_on : (edge_cost vertex_cost old n : ℕ) (at next : Progress)
      → next.vertex ≡ at.vertex → next.place ≡ at.place + n → at.place ≤ degree g (slice_index frontier at.vertex)
      → length (exits_from p g inputs (slice_index frontier at.vertex) at.place n) ≡ n → next.budget ≤ at.budget - edge_cost * n
      → at.budget ≤ old - cost_before edge_cost vertex_cost p (longest p) g inputs frontier at
      → next.budget ≤ old - cost_before edge_cost vertex_cost p (longest p) g inputs frontier next
  falls_on edge_cost vertex_cost old n at next vertex place within long falls before =
      omega (arith, before, falls, cost_on_is edge_cost vertex_cost n at next vertex place within long)

  pub falls_past : (edge_cost vertex_cost old : ℕ) (at next : Progress)
      → next.vertex ≡ at.vertex + 1 → next.place ≡ 0 → at.vertex < length frontier → at.place ≡ degree g (slice_index frontier at.vertex)
      → next.budget ≡ at.budget - vertex_cost
      → at.budget ≤ old - cost_before edge_cost vertex_cost p (longest p) g inputs frontier at
      → next.budget ≤ old - cost_before edge_cost vertex_cost p (longest p) g inputs frontier next
  falls_past edge_cost vertex_cost old at next vertex place inside all falls before =
      omega (arith, before, falls, cost_past_is edge_cost vertex_cost at next vertex place inside all)

  -- nothing falls where nothing was done
  pub same_falls : (edge_cost vertex_cost : ℕ) (at now : Progress) → now.vertex ≡ at.vertex → now.place ≡ at.place → now.budget ≡ at.budget
      → now.budget ≤ at.budget + cost_before edge_cost vertex_cost p (longest p) g inputs frontier at - cost_before edge_cost vertex_cost p (longest p) g inputs frontier now
  same_falls edge_cost vertex_cost at now vertex place budget = rw (vertex, place, budget) (omega arith)

-- the values after those that were begun stay
pub rest_on : (values old : List ℕ) (i next value : ℕ) → drop i values ≡ drop i old → next ≡ i → drop (next + 1) (set values i value) ≡ drop (next + 1) old
rest_on values old i next value same is =
    drop-set-lt (next + 1) values i value (omega (arith, is)) ∙ sym (drop-drop 1 next values)
    ∙ ap (λ n. drop 1 (drop n values)) is ∙ ap (drop 1) same ∙ ap (λ n. drop 1 (drop n old)) (sym is) ∙ drop-drop 1 next old

pub rest_later : (values old : List ℕ) (i : ℕ) → drop i values ≡ drop i old → drop (i + 1) values ≡ drop (i + 1) old
rest_later values old i same = sym (drop-drop 1 i values) ∙ ap (drop 1) same ∙ drop-drop 1 i old

-- past a vertex a place is further than where the call began
pub past_further : (old at next : Progress) → ((old.vertex ≡ at.vertex) × (old.place ≡ at.place)) ⊎ IsBefore old at → next.vertex ≡ at.vertex + 1 → IsBefore old next
past_further old at next (inl same) is = inl (omega (arith, same.0, is))
past_further old at next (inr (inl further)) is = inl (omega (arith, further, is))
past_further old at next (inr (inr further)) is = inl (omega (arith, further.0, is))

-- some edges on, a place is further
pub on_further : (old at next : Progress) (n : ℕ) → ((old.vertex ≡ at.vertex) × (old.place ≡ at.place)) ⊎ IsBefore old at → next.vertex ≡ at.vertex → next.place ≡ at.place + n → 0 < n → IsBefore old next
on_further old at next n (inl same) vertex place some = inr (same.0 ∙ sym vertex, omega (arith, same.1, place, some))
on_further old at next n (inr (inl further)) vertex place some = inl (omega (arith, further, vertex))
on_further old at next n (inr (inr further)) vertex place some = inr (further.0 ∙ sym vertex, omega (arith, further.1, place, some))

module _ (p : Program) (g : Graph) (r : Reduction) (inputs : Inputs) (frontier : List ℕ) where
  -- a place that is given by its parts
  pub record StandsAt (at : Progress) (i k edges total : ℕ) : Type 0 where
    pub vertex : at.vertex ≡ i
    pub place : at.place ≡ k
    pub edges_are : at.edges ≡ edges
    pub total_is : at.total ≡ total

  -- what a vertex's first edges reduce to, of what they did before and of the next ones
  pub next_value : (at : Progress) (n value part : ℕ) (values : List ℕ) → IsSoFar p (longest p) g r inputs frontier at values
      → at.place ≤ degree g (slice_index frontier at.vertex)
      → (at.place ≡ 0 → value ≡ part) → (0 < at.place → value ≡ combination r (slice_index values at.vertex) part)
      → part ≡ reduction_of_numbers r (exits_from p g inputs (slice_index frontier at.vertex) at.place n)
      → value ≡ reduction_of_numbers r (first_exits p (longest p) g inputs (slice_index frontier at.vertex) (at.place + n))
  next_value at n value part values so within first later is =
      let v = slice_index frontier at.vertex in
      let early = first_exits p (longest p) g inputs v at.place in
      let late = exits_from p g inputs v at.place n in
      let more : first_exits p (longest p) g inputs v (at.place + n) ≡ early ++ late = exits_more p g inputs frontier v at.place n within in
      elim (cases_lt 0 at.place) [
        | inl some ↦ later some ∙ ap (λ b. combination r b part) (so.value_is some) ∙ ap (combination r (reduction_of_numbers r early)) is
            ∙ sym (ap (reduction_of_numbers r) more ∙ reduced-append r early late)
        | inr none ↦ (let zero : at.place ≡ 0 = omega (arith, none) in
            let nothing : early ≡ [] = ap (first_exits p (longest p) g inputs v) zero in
            first zero ∙ is ∙ sym (ap (reduction_of_numbers r) (more ∙ ap (λ l. l ++ late) nothing)))
      ]

  -- so many edges more of the vertex under way
  pub gone_on : (at next : Progress) (n value : ℕ) (values : List ℕ)
      → IsSoFar p (longest p) g r inputs frontier at values
      → at.vertex < length values → at.place ≤ degree g (slice_index frontier at.vertex)
      → value ≡ reduction_of_numbers r (first_exits p (longest p) g inputs (slice_index frontier at.vertex) (at.place + n))
      → length (exits_from p g inputs (slice_index frontier at.vertex) at.place n) ≡ n
      → length (before_at p g inputs frontier at.vertex at.place) + n < 2 ^ 64
      → StandsAt next at.vertex (at.place + n) ((at.edges + n) % 2 ^ 64)
      (combination r at.total (reduction_of_numbers r (exits_from p g inputs (slice_index frontier at.vertex) at.place n)))
      → IsSoFar p (longest p) g r inputs frontier next (set values at.vertex value)
  gone_on at next n value values so inside within is long small stands =
      let v = slice_index frontier at.vertex in
      let early = before_at p g inputs frontier at.vertex at.place in
      let late = exits_from p g inputs v at.place n in
      let more : before_at p g inputs frontier at.vertex (at.place + n) ≡ early ++ late = before_more p g inputs frontier at.vertex at.place n within in
      let now : numbers_before p (longest p) g inputs frontier next ≡ early ++ late = rw (stands.vertex, stands.place) more in
      record {
        values_are = rw stands.vertex (take-set values at.vertex value ∙ so.values_are);
        value_is = λ some. rw (stands.vertex, stands.place) (get_or-set_same values at.vertex value 0 inside ∙ is);
        edges_are = stands.edges_are ∙ mod-eq_of_lt (omega (arith, so.edges_are, small)) ∙ (omega (arith, so.edges_are, ap length now, length-append early late, long));
        total_is = stands.total_is ∙ ap (λ m. combination r m (reduction_of_numbers r late)) so.total_is ∙ sym (ap (reduction_of_numbers r) now ∙ reduced-append r early late);
      }

  -- past a vertex of which all edges are done
  pub gone_past : (at next : Progress) (values : List ℕ)
      → IsSoFar p (longest p) g r inputs frontier at values
      → at.vertex < length frontier → at.vertex < length values → at.place ≡ degree g (slice_index frontier at.vertex)
      → slice_index values at.vertex ≡ reduction_of_numbers r (first_exits p (longest p) g inputs (slice_index frontier at.vertex) at.place)
      → StandsAt next (at.vertex + 1) 0 at.edges at.total
      → IsSoFar p (longest p) g r inputs frontier next values
  gone_past at next values so inside long all is stands =
      let i = at.vertex in
      let v = slice_index frontier i in
      let same : numbers_before p (longest p) g inputs frontier next ≡ before_at p g inputs frontier i at.place =
      rw (stands.vertex, stands.place) (before_next p g inputs frontier i at.place inside all) in
      record {
        values_are = rw stands.vertex
            (take_more values i 0 long
            ∙ ap (λ l. l ++ slice_index values i ∷ []) so.values_are
            ∙ ap (λ n. values_for p (longest p) g r inputs (take i frontier) ++ n ∷ []) (is ∙ ap (reduction_of_numbers r) (whole_exits p g inputs frontier v at.place all))
            ∙ sym (map_more (λ u. reduction_of_numbers r (exits_with p (longest p) g inputs u)) frontier i 0 inside));
        value_is = λ some. absurd (omega (arith, some, stands.place));
        edges_are = stands.edges_are ∙ so.edges_are ∙ ap length (sym same);
        total_is = stands.total_is ∙ so.total_is ∙ ap (reduction_of_numbers r) (sym same);
      }

  none_so_far : (now : Progress) (values : List ℕ) → now.vertex ≡ 0 → now.place ≡ 0 → now.edges ≡ 0 → now.total ≡ reduction_of_numbers r []
      → IsSoFar p (longest p) g r inputs frontier now values
  none_so_far now values i k edges total =
      let none : numbers_before p (longest p) g inputs frontier now ≡ [] = rw (i, k) refl in
      record {
        values_are = rw i refl;
        value_is = λ some. absurd (omega (arith, some, k));
        edges_are = edges ∙ ap length (sym none);
        total_is = total ∙ ap (reduction_of_numbers r) (sym none);
      }

  -- where a map begins, or goes on
  pub begun : (at now : Progress) (values : List ℕ)
      → now.vertex ≡ at.vertex → now.place ≡ at.place
      → (at.vertex ≡ 0 → at.place ≡ 0 → (now.edges ≡ 0) × (now.total ≡ reduction_of_numbers r []))
      → ((0 < at.vertex) ⊎ (0 < at.place) → now ≡ at)
      → HasBegun p (longest p) g r inputs frontier at values
      → IsSoFar p (longest p) g r inputs frontier now values
  begun at now values vertex place first rest (inl zeros) =
      let totals = first zeros.0 zeros.1 in
      none_so_far now values (vertex ∙ zeros.0) (place ∙ zeros.1) totals.0 totals.1
  begun at now values vertex place first rest (inr so) =
      let later = (λ (some : (0 < at.vertex) ⊎ (0 < at.place)). subst (λ (t : Progress). IsSoFar p (longest p) g r inputs frontier t values) (sym (rest some)) so) in
      elim (cases_lt 0 at.vertex) [
        | inl some ↦ later (inl some)
        | inr none ↦ elim (cases_lt 0 at.place) [
          | inl some ↦ later (inr some)
          | inr nowhere ↦
              (let i : at.vertex ≡ 0 = omega (arith, none) in
              let k : at.place ≡ 0 = omega (arith, nowhere) in
              let totals = first i k in
              none_so_far now values (vertex ∙ i) (place ∙ k) totals.0 totals.1)
        ]
      ]

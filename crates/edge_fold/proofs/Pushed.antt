-- What a push in parts has left, from place to place.
use Rattle.std.proofs.Common.{◌≡◌, ℕ, ◌+◌, ◌^◌, ◌%◌, ◌<◌, ◌≤◌, List, Some, [], ◌∷◌, ◌++◌, length, take, drop, get_or, refl, sym, ap, subst, ◌∙◌, inl, inr, append-nil, append_assoc, length-append, length-drop, arith}
use Rattle.std.specs.Prelude.{slice_index, ◌⊎◌}
use Rattle.std.specs.List.{flat_map}
use Rattle.std.proofs.lemmas.List.{take_all, take_more, length-take-le}
use Rattle.std.proofs.lemmas.Bool.{cases_lt}
use Rattle.std.proofs.Math.Seq.{take-add}
use Rattle.std.proofs.Math.Nat.{mod-eq_of_lt}
use Rattle.bpf_image.specs.Program.{Program}
use Rattle.graph_model.specs.Graph.{Graph, neighbours, degree}
use Rattle.map_model.specs.declared.reduction.Reduction.{Reduction}
use Rattle.map_model.specs.declared.progress.Progress.{Progress}
use Rattle.bpf_model.specs.Run.{number_for}
use Rattle.map_model.specs.EdgeMap.{Inputs, input_record, reduction_of_numbers}
use Rattle.map_model.specs.Parts.{numbers_before}
use Rattle.map_model.specs.Pushes.{pushed}
use Rattle.map_model.specs.PushParts.{targets_before, IsPushedSoFar, HasBegunPush}
use Rattle.map_model.proofs.Pushes.{pushed_in_turn, pushed_long}
use Rattle.verifier.specs.Walks.{longest}
use Rattle.edge_fold.specs.Numbers.{combination, exits_from}
use Rattle.edge_fold.proofs.Reductions.{reduced-append}
use Rattle.edge_fold.proofs.RowFacts.{flat_map_more}
use Rattle.edge_fold.proofs.Numbers.{IsFolded, found, found_more, one_folded}
use Rattle.edge_fold.proofs.Written.{more_found}
use Rattle.edge_fold.proofs.Pieces.{some_folded}
use Rattle.edge_fold.proofs.Sofar.{before_at, before_more, before_next, StandsAt}

pub nothing_pushed : (r : Reduction) (numbers values : List ℕ) → pushed r [] numbers values ≡ values
unfolding pushed
nothing_pushed r numbers values = refl

-- no number went anywhere
pub no_push : (r : Reduction) (targets numbers old new : List ℕ) (count : ℕ) → count ≡ 0 → new ≡ pushed r (take count targets) numbers old → new ≡ old
no_push r targets numbers old new count zero is = is ∙ ap (λ k. pushed r (take k targets) numbers old) zero ∙ nothing_pushed r numbers old

-- the edges to the first targets are run, their numbers reduced, and pushed
pub record IsCarried (r : Reduction) (p : Program) (g : Graph) (inputs : Inputs) (source first : ℕ) (targets : List ℕ) (place so_far : ℕ) (old values : List ℕ) : Type 0 where
  pub folded : IsFolded r p g inputs source first targets place so_far
  pub pushed_are : values ≡ pushed r (take place targets) (found p g inputs source first (take place targets)) old

pub none_carried : (r : Reduction) (p : Program) (g : Graph) (inputs : Inputs) (source first : ℕ) (targets : List ℕ) (so_far : ℕ) (old : List ℕ)
    → IsFolded r p g inputs source first targets 0 so_far → IsCarried r p g inputs source first targets 0 so_far old old
none_carried r p g inputs source first targets so_far old folded = record { folded = folded; pushed_are = sym (nothing_pushed r [] old) }

-- one edge more
pub one_carried : (r : Reduction) (p : Program) (g : Graph) (inputs : Inputs) (source first : ℕ) (targets : List ℕ) (place so_far target n next : ℕ) (old values new : List ℕ)
    → IsCarried r p g inputs source first targets place so_far old values → place < length targets → target ≡ get_or targets place 0
    → number_for p (longest p) g (input_record g source target (first + place) inputs) ≡ Some n → n < 2 ^ 64 → next ≡ combination r so_far n
    → new ≡ pushed r (target ∷ []) (n ∷ []) values → IsCarried r p g inputs source first targets (place + 1) next old new
one_carried r p g inputs source first targets place so_far target n next old values new done inside is number small combines pushes =
    let early = found p g inputs source first (take place targets) in
    let more : found p g inputs source first (take (place + 1) targets) ≡ early ++ n ∷ [] = found_more p g inputs source first targets place target n inside is number in
    let row : take (place + 1) targets ≡ take place targets ++ target ∷ [] = take_more targets place 0 inside ∙ ap (λ t. take place targets ++ t ∷ []) (sym is) in
    let even : length (take place targets) ≡ length early = length-take-le place targets done.folded.within ∙ sym done.folded.count in
    record {
      folded = one_folded r p g inputs source first targets place so_far target n next done.folded inside is number small combines;
      pushed_are = pushes ∙ ap (pushed r (target ∷ []) (n ∷ [])) done.pushed_are
          ∙ sym (pushed_in_turn r (take place targets) (target ∷ []) early (n ∷ []) old even)
          ∙ ap (λ ts. pushed r ts (early ++ n ∷ []) old) (sym row)
          ∙ ap (λ ns. pushed r (take (place + 1) targets) ns old) (sym more);
    }

-- so many edges more
pub some_carried : (r : Reduction) (p : Program) (g : Graph) (inputs : Inputs) (source first : ℕ) (targets : List ℕ) (place count so_far value next : ℕ) (old values new : List ℕ)
    → IsCarried r p g inputs source first targets place so_far old values → place + count ≤ length targets
    → value ≡ reduction_of_numbers r (found p g inputs source (first + place) (take count (drop place targets)))
    → length (found p g inputs source (first + place) (take count (drop place targets))) ≡ count
    → next ≡ combination r so_far value
    → new ≡ pushed r (take count (drop place targets)) (found p g inputs source (first + place) (take count (drop place targets))) values
    → IsCarried r p g inputs source first targets (place + count) next old new
some_carried r p g inputs source first targets place count so_far value next old values new done fits row long combines pushes =
    let early = found p g inputs source first (take place targets) in
    let late = found p g inputs source (first + place) (take count (drop place targets)) in
    let more : found p g inputs source first (take (place + count) targets) ≡ early ++ late = more_found p g inputs source first targets place count done.folded.within in
    let even : length (take place targets) ≡ length early = length-take-le place targets done.folded.within ∙ sym done.folded.count in
    record {
      folded = some_folded r p g inputs source first targets place count so_far value next done.folded fits row long combines;
      pushed_are = pushes ∙ ap (pushed r (take count (drop place targets)) late) done.pushed_are
          ∙ sym (pushed_in_turn r (take place targets) (take count (drop place targets)) early late old even)
          ∙ ap (λ ts. pushed r ts (early ++ late) old) (sym (take-add place count targets))
          ∙ ap (λ ns. pushed r (take (place + count) targets) ns old) (sym more);
    }

pub carried_long : (r : Reduction) (p : Program) (g : Graph) (inputs : Inputs) (source first : ℕ) (targets : List ℕ) (place so_far : ℕ) (old values : List ℕ)
    → IsCarried r p g inputs source first targets place so_far old values → length values ≡ length old
carried_long r p g inputs source first targets place so_far old values done =
    ap length done.pushed_are ∙ pushed_long r (take place targets) (found p g inputs source first (take place targets)) old

module _ (g : Graph) (frontier : List ℕ) where
  -- the targets before a place, by its two parts
  abbrev pub targets_at : (i k : ℕ) → List ℕ
  targets_at i k = flat_map (neighbours g) (take i frontier) ++ take k (neighbours g (slice_index frontier i))

  -- so many edges more of one vertex
  pub targets_more : (i k n : ℕ) → targets_at i (k + n) ≡ targets_at i k ++ take n (drop k (neighbours g (slice_index frontier i)))
  targets_more i k n =
      let all = neighbours g (slice_index frontier i) in
      let early = flat_map (neighbours g) (take i frontier) in
      ap (λ l. early ++ l) (take-add k n all) ∙ sym (append_assoc early (take k all) (take n (drop k all)))

  -- all edges of one vertex
  pub targets_next : (i k : ℕ) → i < length frontier → k ≡ degree g (slice_index frontier i) → targets_at (i + 1) 0 ≡ targets_at i k
  targets_next i k inside all =
      let v = slice_index frontier i in
      append-nil (flat_map (neighbours g) (take (i + 1) frontier))
      ∙ flat_map_more (neighbours g) frontier i 0 inside
      ∙ ap (λ l. flat_map (neighbours g) (take i frontier) ++ l) (sym (take_all k (neighbours g v) (omega (arith, all))))

module _ (p : Program) (g : Graph) (r : Reduction) (inputs : Inputs) (frontier : List ℕ) where
  -- so many edges more of the vertex under way
  pub pushed_on : (at next : Progress) (n : ℕ) (first values new : List ℕ)
      → IsPushedSoFar p (longest p) g r inputs frontier at first values
      → at.place + n ≤ degree g (slice_index frontier at.vertex)
      → new ≡ pushed r (take n (drop at.place (neighbours g (slice_index frontier at.vertex)))) (exits_from p g inputs (slice_index frontier at.vertex) at.place n) values
      → length (exits_from p g inputs (slice_index frontier at.vertex) at.place n) ≡ n
      → length (before_at p g inputs frontier at.vertex at.place) + n < 2 ^ 64
      → StandsAt p g r inputs frontier next at.vertex (at.place + n) ((at.edges + n) % 2 ^ 64)
      (combination r at.total (reduction_of_numbers r (exits_from p g inputs (slice_index frontier at.vertex) at.place n)))
      → IsPushedSoFar p (longest p) g r inputs frontier next first new
  pushed_on at next n first values new so within is long small stands =
      let v = slice_index frontier at.vertex in
      let early = before_at p g inputs frontier at.vertex at.place in
      let late = exits_from p g inputs v at.place n in
      let gone = targets_at g frontier at.vertex at.place in
      let row = take n (drop at.place (neighbours g v)) in
      let more : before_at p g inputs frontier at.vertex (at.place + n) ≡ early ++ late = before_more p g inputs frontier at.vertex at.place n (omega (arith, within)) in
      let now : numbers_before p (longest p) g inputs frontier next ≡ early ++ late = rw (stands.vertex, stands.place) more in
      let there : targets_before g frontier next ≡ gone ++ row = rw (stands.vertex, stands.place) (targets_more g frontier at.vertex at.place n) in
      let wide : length row ≡ n = length-take-le n (drop at.place (neighbours g v)) (omega (arith, length-drop at.place (neighbours g v), within)) in
      record {
        values_are = is ∙ ap (pushed r row late) so.values_are ∙ sym (pushed_in_turn r gone row early late first so.each_has_one)
            ∙ ap (λ ts. pushed r ts (early ++ late) first) (sym there)
            ∙ ap (λ ns. pushed r (targets_before g frontier next) ns first) (sym now);
        each_has_one = ap length there ∙ length-append gone row ∙ (omega (arith, wide, long, so.each_has_one, ap length now, length-append early late));
        edges_are = stands.edges_are ∙ mod-eq_of_lt (omega (arith, so.edges_are, small)) ∙ (omega (arith, so.edges_are, ap length now, length-append early late, long));
        total_is = stands.total_is ∙ ap (λ m. combination r m (reduction_of_numbers r late)) so.total_is ∙ sym (ap (reduction_of_numbers r) now ∙ reduced-append r early late);
      }

  -- past a vertex of which all edges are done
  pub pushed_past : (at next : Progress) (first values : List ℕ)
      → IsPushedSoFar p (longest p) g r inputs frontier at first values
      → at.vertex < length frontier → at.place ≡ degree g (slice_index frontier at.vertex)
      → StandsAt p g r inputs frontier next (at.vertex + 1) 0 at.edges at.total
      → IsPushedSoFar p (longest p) g r inputs frontier next first values
  pushed_past at next first values so inside all stands =
      let same : numbers_before p (longest p) g inputs frontier next ≡ before_at p g inputs frontier at.vertex at.place =
      rw (stands.vertex, stands.place) (before_next p g inputs frontier at.vertex at.place inside all) in
      let there : targets_before g frontier next ≡ targets_at g frontier at.vertex at.place =
      rw (stands.vertex, stands.place) (targets_next g frontier at.vertex at.place inside all) in
      record {
        values_are = so.values_are ∙ ap (λ ts. pushed r ts (numbers_before p (longest p) g inputs frontier at) first) (sym there)
            ∙ ap (λ ns. pushed r (targets_before g frontier next) ns first) (sym same);
        each_has_one = ap length there ∙ so.each_has_one ∙ ap length (sym same);
        edges_are = stands.edges_are ∙ so.edges_are ∙ ap length (sym same);
        total_is = stands.total_is ∙ so.total_is ∙ ap (reduction_of_numbers r) (sym same);
      }

  pub none_pushed_yet : (now : Progress) (values : List ℕ) → now.vertex ≡ 0 → now.place ≡ 0 → now.edges ≡ 0 → now.total ≡ reduction_of_numbers r []
      → IsPushedSoFar p (longest p) g r inputs frontier now values values
  none_pushed_yet now values i k edges total =
      let none : numbers_before p (longest p) g inputs frontier now ≡ [] = rw (i, k) refl in
      let nowhere : targets_before g frontier now ≡ [] = rw (i, k) refl in
      record {
        values_are = sym (ap (λ ts. pushed r ts (numbers_before p (longest p) g inputs frontier now) values) nowhere ∙ nothing_pushed r (numbers_before p (longest p) g inputs frontier now) values);
        each_has_one = ap length nowhere ∙ ap length (sym none);
        edges_are = edges ∙ ap length (sym none);
        total_is = total ∙ ap (reduction_of_numbers r) (sym none);
      }

  -- what is left to spend does not matter
  pub with_budget : (at : Progress) (budget : ℕ) (first values : List ℕ) → IsPushedSoFar p (longest p) g r inputs frontier at first values
      → IsPushedSoFar p (longest p) g r inputs frontier (record { budget = budget; edges = at.edges; total = at.total; vertex = at.vertex; place = at.place }) first values
  with_budget at budget first values so =
      record { values_are = so.values_are; each_has_one = so.each_has_one; edges_are = so.edges_are; total_is = so.total_is }

  -- where a push begins, or goes on
  pub begun_push : (at now : Progress) (first values : List ℕ)
      → now.vertex ≡ at.vertex → now.place ≡ at.place
      → (at.vertex ≡ 0 → at.place ≡ 0 → (now.edges ≡ 0) × (now.total ≡ reduction_of_numbers r []))
      → ((0 < at.vertex) ⊎ (0 < at.place) → now ≡ at)
      → HasBegunPush p (longest p) g r inputs frontier at first values
      → IsPushedSoFar p (longest p) g r inputs frontier now first values
  begun_push at now first values vertex place zero rest (inl begins) =
      let totals = zero begins.0 begins.1 in
      subst (λ (old : List ℕ). IsPushedSoFar p (longest p) g r inputs frontier now old values) begins.2
      (none_pushed_yet now values (vertex ∙ begins.0) (place ∙ begins.1) totals.0 totals.1)
  begun_push at now first values vertex place zero rest (inr so) =
      let later = (λ (some : (0 < at.vertex) ⊎ (0 < at.place)). subst (λ (t : Progress). IsPushedSoFar p (longest p) g r inputs frontier t first values) (sym (rest some)) so) in
      elim (cases_lt 0 at.vertex) [
        | inl some ↦ later (inl some)
        | inr none ↦ elim (cases_lt 0 at.place) [
          | inl some ↦ later (inr some)
          | inr nowhere ↦
              (let i : at.vertex ≡ 0 = omega (arith, none) in
              let k : at.place ≡ 0 = omega (arith, nowhere) in
              let totals = zero i k in
              let none_there : targets_before g frontier at ≡ [] = rw (i, k) refl in
              let same : values ≡ first = so.values_are ∙ ap (λ ts. pushed r ts (numbers_before p (longest p) g inputs frontier at) first) none_there ∙ nothing_pushed r (numbers_before p (longest p) g inputs frontier at) first in
              subst (λ (old : List ℕ). IsPushedSoFar p (longest p) g r inputs frontier now old values) same
              (none_pushed_yet now values (vertex ∙ i) (place ∙ k) totals.0 totals.1))
        ]
      ]

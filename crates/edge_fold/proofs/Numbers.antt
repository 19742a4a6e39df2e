-- The exit numbers of a vertex's edges, one edge after another.
use Rattle.std.proofs.Common.{◌≡◌, ℕ, suc, ◌+◌, ◌-◌, ◌^◌, ◌<◌, ◌≤◌, List, Option, None, [], ◌∷◌, ◌++◌, length, take, drop, get_or, Some, refl, length-drop, sym, ap, ◌∙◌, add-zero, arith}
use Rattle.std.specs.List.{filter_map}
use Rattle.std.specs.Int.{w32, to_le_bytes}
use Rattle.std.proofs.lemmas.List.{take-append-drop, take_more, take_all, drop-drop, length_push, length-append, length-take-le}
use Rattle.std.proofs.Math.Seq.{take-add, take-append_seam, drop-append_seam}
use Rattle.std.proofs.lemmas.List.Elements.{filter_map-append}
use Rattle.bpf_image.specs.Program.{Program}
use Rattle.graph_model.specs.Graph.{Graph}
use Rattle.past_model.specs.declared.limits.TheConstants.{MOST_VERTICES}
use Rattle.map_model.specs.declared.reduction.Reduction.{Reduction}
use Rattle.map_model.specs.declared.reduction.Reduction.TheVariants.{Max}
use Rattle.map_model.specs.declared.limits.TheConstants.{EDGE_BYTES}
use Rattle.bpf_model.specs.Run.{number_for}
use Rattle.map_model.specs.EdgeMap.{record_of, input_record, numbers_with, reduction_of_numbers}
use Rattle.verifier.specs.Walks.{longest}
use Rattle.edge_fold.specs.declared.edge.Edge.{Edge}
use Rattle.edge_fold.specs.Numbers.{combination, record_bytes, BeginAlike}
use Rattle.edge_fold.proofs.Reductions.{reduced_more, reduced-append}
use Rattle.map_model.specs.EdgeMap.{Inputs}

-- the exit numbers of the edges to some targets
abbrev pub found : Program → Graph → Inputs → ℕ → ℕ → List ℕ → List ℕ
found p g inputs source place targets =
    filter_map (λ number. number) (numbers_with p (longest p) g inputs source place targets)

pub numbers_with-append : (p : Program) (steps : ℕ) (g : Graph) (inputs : Inputs) (source place : ℕ) (xs ys : List ℕ)
    → numbers_with p steps g inputs source place (xs ++ ys)
    ≡ numbers_with p steps g inputs source place xs ++ numbers_with p steps g inputs source (place + length xs) ys
numbers_with-append p steps g inputs source place [] ys =
    ap (λ n. numbers_with p steps g inputs source n ys) (sym (add-zero place))
numbers_with-append p steps g inputs source place (x ∷ xs) ys =
    let next : (place + 1) + length xs ≡ place + suc (length xs) = omega arith in
    ap (λ l. number_for p steps g (input_record g source x place inputs) ∷ l)
    (numbers_with-append p steps g inputs source (place + 1) xs ys
    ∙ ap (λ n. numbers_with p steps g inputs source (place + 1) xs ++ numbers_with p steps g inputs source n ys) next)

-- one edge more
pub found_more : (p : Program) (g : Graph) (inputs : Inputs) (source first : ℕ) (targets : List ℕ) (i target n : ℕ)
    → i < length targets → target ≡ get_or targets i 0
    → number_for p (longest p) g (input_record g source target (first + i) inputs) ≡ Some n
    → found p g inputs source first (take (i + 1) targets) ≡ found p g inputs source first (take i targets) ++ n ∷ []
found_more p g inputs source first targets i target n within is number =
    let more : take (i + 1) targets ≡ take i targets ++ target ∷ [] =
    take_more targets i 0 within ∙ ap (λ t. take i targets ++ t ∷ []) (sym is) in
    let long : length (take i targets) ≡ i = length-take-le i targets (omega arith) in
    let early = numbers_with p (longest p) g inputs source first (take i targets) in
    let last : numbers_with p (longest p) g inputs source (first + length (take i targets)) (target ∷ []) ≡ Some n ∷ [] =
    ap (λ k. number_for p (longest p) g (input_record g source target (first + k) inputs) ∷ []) long ∙ ap (λ x. x ∷ []) number in
    ap (found p g inputs source first) more
    ∙ ap (filter_map (λ number. number)) (numbers_with-append p (longest p) g inputs source first (take i targets) (target ∷ []) ∙ ap (λ l. early ++ l) last)
    ∙ filter_map-append (λ number. number) early (Some n ∷ [])

-- the edges to the first targets are run, and their numbers reduced
pub record IsFolded (r : Reduction) (p : Program) (g : Graph) (inputs : Inputs) (source first : ℕ) (targets : List ℕ) (place so_far : ℕ) : Type 0 where
  pub value : so_far ≡ reduction_of_numbers r (found p g inputs source first (take place targets))
  pub count : length (found p g inputs source first (take place targets)) ≡ place
  pub within : place ≤ length targets

pub none_folded : (r : Reduction) (p : Program) (g : Graph) (inputs : Inputs) (source first : ℕ) (targets : List ℕ) (so_far : ℕ) → so_far ≡ reduction_of_numbers r [] → IsFolded r p g inputs source first targets 0 so_far
none_folded r p g inputs source first targets so_far is = record { value = is; count = refl; within = omega arith }

-- one edge more
pub one_folded : (r : Reduction) (p : Program) (g : Graph) (inputs : Inputs) (source first : ℕ) (targets : List ℕ) (place so_far target n next : ℕ)
    → IsFolded r p g inputs source first targets place so_far → place < length targets → target ≡ get_or targets place 0
    → number_for p (longest p) g (input_record g source target (first + place) inputs) ≡ Some n → n < 2 ^ 64 → next ≡ combination r so_far n
    → IsFolded r p g inputs source first targets (place + 1) next
one_folded r p g inputs source first targets place so_far target n next done inside is number small combines =
    let early = found p g inputs source first (take place targets) in
    let more : found p g inputs source first (take (place + 1) targets) ≡ early ++ n ∷ [] = found_more p g inputs source first targets place target n inside is number in
    record {
      value = combines ∙ ap (λ k. combination r k n) done.value ∙ sym (reduced_more r early n small) ∙ ap (reduction_of_numbers r) (sym more);
      count = ap length more ∙ length_push early n ∙ ap (λ k. k + 1) done.count;
      within = omega arith;
    }

-- where all are run, the numbers are those of all targets
pub all_folded : (r : Reduction) (p : Program) (g : Graph) (inputs : Inputs) (source first : ℕ) (targets : List ℕ) (place so_far : ℕ)
    → IsFolded r p g inputs source first targets place so_far → length targets ≤ place
    → (so_far ≡ reduction_of_numbers r (found p g inputs source first targets)) × (length (found p g inputs source first targets) ≡ length targets)
all_folded r p g inputs source first targets place so_far done ended =
    let within = done.within in
    let whole : take place targets ≡ targets = take_all place targets ended in (
      done.value ∙ ap (λ l. reduction_of_numbers r (found p g inputs source first l)) whole,
      ap (λ l. length (found p g inputs source first l)) (sym whole) ∙ done.count ∙ omega arith,
    )

-- nothing is left after the last
pub none_left : (targets : List ℕ) (place : ℕ) → drop place targets ≡ [] → length targets ≤ place
none_left targets place ended = omega (arith, ap length ended, length-drop place targets)

-- targets that stand in a row after those that are run
pub row_behind : (targets slice left : List ℕ) (place : ℕ) → drop place targets ≡ slice ++ left → place ≤ length targets
    → (take (place + length slice) targets ≡ take place targets ++ slice) × (drop (place + length slice) targets ≡ left) × (place + length slice ≤ length targets)
row_behind targets slice left place is within =
    let ahead : take (length slice) (drop place targets) ≡ slice = ap (take (length slice)) is ∙ take-append_seam slice left in
    let behind : drop (length slice) (drop place targets) ≡ left = ap (drop (length slice)) is ∙ drop-append_seam slice left in
    let long : length targets - place ≡ length slice + length left = sym (length-drop place targets) ∙ ap length is ∙ length-append slice left in (
      take-add place (length slice) targets ∙ ap (λ l. take place targets ++ l) ahead,
      sym (drop-drop (length slice) place targets) ∙ behind,
      omega (arith, long, within),
    )

-- as many as a vertex may have are few
pub few_in_row : (targets slice left : List ℕ) (place degree : ℕ) → drop place targets ≡ slice ++ left → place ≤ length targets
    → degree ≡ length targets → degree ≤ MOST_VERTICES → place + length slice ≤ MOST_VERTICES
few_in_row targets slice left place degree is within same small = omega (arith, (row_behind targets slice left place is within).2, same, small)

-- edges in a row more
pub row_folded : (r : Reduction) (p : Program) (g : Graph) (inputs : Inputs) (source : ℕ) (targets slice left : List ℕ) (place so_far value next : ℕ)
    → IsFolded r p g inputs source 0 targets place so_far → drop place targets ≡ slice ++ left
    → value ≡ reduction_of_numbers r (found p g inputs source place slice) → length (found p g inputs source place slice) ≡ length slice
    → next ≡ combination r so_far value → IsFolded r p g inputs source 0 targets (place + length slice) next
row_folded r p g inputs source targets slice left place so_far value next done is row count combines =
    let behind = row_behind targets slice left place is done.within in
    let early = found p g inputs source 0 (take place targets) in
    let late = found p g inputs source place slice in
    let long : 0 + length (take place targets) ≡ place = (let n = length-take-le place targets done.within in omega (arith, n)) in
    let more : found p g inputs source 0 (take (place + length slice) targets) ≡ early ++ late =
    ap (found p g inputs source 0) behind.0
    ∙ ap (filter_map (λ number. number)) (numbers_with-append p (longest p) g inputs source 0 (take place targets) slice
    ∙ ap (λ n. numbers_with p (longest p) g inputs source 0 (take place targets) ++ numbers_with p (longest p) g inputs source n slice) long)
    ∙ filter_map-append (λ number. number) (numbers_with p (longest p) g inputs source 0 (take place targets)) (numbers_with p (longest p) g inputs source place slice) in
    record {
      value =
          combines ∙ ap (λ k. combination r k value) done.value ∙ ap (combination r (reduction_of_numbers r early)) row
          ∙ sym (reduced-append r early late) ∙ ap (reduction_of_numbers r) (sym more);
      count = ap length more ∙ length-append early late ∙ ap (λ n. n + length late) done.count ∙ ap (λ n. place + n) count;
      within = behind.2;
    }

-- the number of an edge that is alone in its row
pub alone : (o : Option ℕ) (value : ℕ) → value ≡ reduction_of_numbers Max (filter_map (λ (number : Option ℕ). number) (o ∷ []))
    → length (filter_map (λ (number : Option ℕ). number) (o ∷ [])) ≡ 1 → o ≡ Some value
alone None value is one = absurd (omega (arith, one))
alone (Some n) value is one = (let same : n ≡ value = omega (arith, is) in ap (λ k. Some k) same)

-- another target and another place in a record
targeted_bytes : (source target place degree first second : ℕ) (argument : List ℕ) →
    let old = record_of source first second degree argument in
    take 4 old ++ to_le_bytes w32 target ++ to_le_bytes w32 place ++ drop 12 old
    ≡ record_of source target place degree argument
targeted_bytes source target place degree first second argument = refl

pub targeted : (e : Edge) (argument bytes new : List ℕ) → let old = take (length argument + EDGE_BYTES) bytes in
    new ≡ take 4 old ++ to_le_bytes w32 e.target ++ to_le_bytes w32 e.place ++ drop 12 old → BeginAlike e argument bytes → new ≡ record_bytes e argument
targeted e argument bytes new is (before, source, degree, begun) =
    is
    ∙ ap (λ (xs : List ℕ). take 4 xs ++ to_le_bytes w32 e.target ++ to_le_bytes w32 e.place ++ drop 12 xs) begun
    ∙ targeted_bytes before.source e.target e.place before.degree before.target before.place argument
    ∙ ap (λ (n : ℕ). record_of n e.target e.place before.degree argument) source
    ∙ ap (λ (n : ℕ). record_of e.source e.target e.place n argument) degree

-- bytes begin with the record of an edge from a source with so many neighbours
pub record IsBegun (source degree : ℕ) (argument bytes : List ℕ) : Type 0 where
  pub edge : Edge
  pub same_source : edge.source ≡ source
  pub same_degree : edge.degree ≡ degree
  pub record_is : take (length argument + EDGE_BYTES) bytes ≡ record_bytes edge argument

-- the edges from a place on, beside those before it
pub rest_folded : (r : Reduction) (p : Program) (g : Graph) (inputs : Inputs) (source first : ℕ) (targets : List ℕ) (place so_far value next : ℕ)
    → IsFolded r p g inputs source first targets place so_far
    → value ≡ reduction_of_numbers r (found p g inputs source (first + place) (drop place targets)) → length (found p g inputs source (first + place) (drop place targets)) ≡ length (drop place targets)
    → next ≡ combination r so_far value
    → (next ≡ reduction_of_numbers r (found p g inputs source first targets)) × (length (found p g inputs source first targets) ≡ length targets)
rest_folded r p g inputs source first targets place so_far value next done row count combines =
    let early = found p g inputs source first (take place targets) in
    let late = found p g inputs source (first + place) (drop place targets) in
    let long : first + length (take place targets) ≡ first + place = ap (λ n. first + n) (length-take-le place targets done.within) in
    let more : found p g inputs source first targets ≡ early ++ late =
    ap (found p g inputs source first) (sym (take-append-drop place targets))
    ∙ ap (filter_map (λ number. number)) (numbers_with-append p (longest p) g inputs source first (take place targets) (drop place targets)
    ∙ ap (λ n. numbers_with p (longest p) g inputs source first (take place targets) ++ numbers_with p (longest p) g inputs source n (drop place targets)) long)
    ∙ filter_map-append (λ number. number) (numbers_with p (longest p) g inputs source first (take place targets)) (numbers_with p (longest p) g inputs source (first + place) (drop place targets)) in (
      combines ∙ ap (λ k. combination r k value) done.value ∙ ap (combination r (reduction_of_numbers r early)) row
          ∙ sym (reduced-append r early late) ∙ ap (reduction_of_numbers r) (sym more),
      ap length more ∙ length-append early late ∙ ap (λ n. n + length late) done.count ∙ ap (λ n. place + n) count ∙ omega (arith, length-drop place targets, done.within),
    )

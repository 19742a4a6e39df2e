-- The parts of a job, put together.
use Rattle.std.proofs.Common.{◌≡◌, ℕ, ◌+◌, ◌*◌, ◌^◌, ◌<◌, ◌≤◌, List, [], ◌∷◌, ◌++◌, All, length, length-append, get_or, replicate, refl, sym, ap, ◌∙◌, arith, Option, Some, None}
use Rattle.std.specs.Prelude.{slice_index, IfSome}
use Rattle.std.specs.Borrow.{Bor}
use Rattle.std.specs.List.{flat_map, filter_map}
use Rattle.std.proofs.lemmas.List.{append_assoc, length-replicate, map-append}
use Rattle.std.proofs.lemmas.List.Concat.{length-flat_map}
use Rattle.std.proofs.lemmas.List.Sums.{sum_by-le}
use Rattle.std.proofs.lemmas.Grind.{flat_map-append}
use Rattle.bpf_image.specs.Program.{Program}
use Rattle.bpf_model.specs.Run.{number_for}
use Rattle.graph_model.specs.Graph.{Graph, neighbours, degree}
use Rattle.graph_model.proofs.Neighbours.{length-neighbours}
use Rattle.map_model.specs.declared.reduction.Reduction.{Reduction}
use Rattle.map_model.specs.declared.row.Row.{Row}
use Rattle.map_model.specs.EdgeMap.{Inputs, input_record, exits_with, all_with, row_with, rows_with, reduction_of_numbers}
use Rattle.map_model.specs.Parts.{place_of, pair_numbers}
use Rattle.map_model.specs.Pushes.{joined, pushed}
use Rattle.map_model.specs.PushParts.{pushed_edges}
use Rattle.map_model.proofs.Pushes.{pushed_long}
use Rattle.map_model.proofs.Joined.{pushes_join}
use Rattle.verifier.specs.Walks.{longest}
use Rattle.edge_fold.specs.Laws.{EveryEdgeHasItsNumber}
use Rattle.edge_fold.specs.Numbers.{combination}
use Rattle.edge_fold.specs.Rows.{reported_rows}
use Rattle.edge_fold.specs.declared.rows.Rows.TheVariants.{OfSources}
use Rattle.edge_fold.proofs.Reductions.{total_more}
use Rattle.edge_fold.proofs.RowFacts.{told_append}
use Rattle.edge_map.specs.declared.job.JobOutcome.{JobOutcome}
use Rattle.edge_map.specs.declared.job.Wanted.{Wanted}
use Rattle.edge_map.specs.declared.job.Wanted.TheVariants.{Rows, Values, Pushed, Own}
use Rattle.edge_map.specs.Jobs.{begins_with, parts_together, job_exits, job_numbers, job_rows, IsDone}

-- ---- what a push begins with

pub first_long : (r : Reduction) (n : ℕ) (before : Option (Bor (List ℕ))) → IfSome before (λ numbers. length numbers.now ≡ n) → length (begins_with r n before) ≡ n
first_long r n None long = length-replicate n (reduction_of_numbers r [])
first_long r n (Some numbers) long = long

-- ---- the numbers of two parts

pairs_of_two : (p : Program) (steps : ℕ) (g : Graph) (inputs : Inputs) (xs ys us vs : List ℕ) → length xs ≡ length us
    → pair_numbers p steps g inputs (xs ++ ys) (us ++ vs) ≡ pair_numbers p steps g inputs xs us ++ pair_numbers p steps g inputs ys vs
pairs_of_two p steps g inputs [] ys [] vs same = refl
pairs_of_two p steps g inputs [] ys (u ∷ us) vs same = absurd (omega (arith, same))
pairs_of_two p steps g inputs (x ∷ xs) ys [] vs same = absurd (omega (arith, same))
pairs_of_two p steps g inputs (x ∷ xs) ys (u ∷ us) vs same =
    let first : List ℕ = filter_map (λ number. number) (number_for p steps g (input_record g x u (place_of g x u) inputs) ∷ []) in
    ap (λ (l : List ℕ). first ++ l) (pairs_of_two p steps g inputs xs ys us vs (omega (arith, same)))
    ∙ sym (append_assoc first (pair_numbers p steps g inputs xs us) (pair_numbers p steps g inputs ys vs))

exits_of_two : (wanted : Wanted) (p : Program) (g : Graph) (inputs : Inputs) (xs ys : List ℕ)
    → job_exits wanted p g inputs (xs ++ ys) ≡ job_exits wanted p g inputs xs ++ job_exits wanted p g inputs ys
exits_of_two Rows p g inputs xs ys = flat_map-append (exits_with p (longest p) g inputs) xs ys
exits_of_two Values p g inputs xs ys = flat_map-append (exits_with p (longest p) g inputs) xs ys
exits_of_two Pushed p g inputs xs ys = flat_map-append (exits_with p (longest p) g inputs) xs ys
exits_of_two Own p g inputs xs ys = pairs_of_two p (longest p) g inputs xs ys xs ys refl

rows_of_two : (wanted : Wanted) (p : Program) (g : Graph) (r : Reduction) (inputs : Inputs) (xs ys : List ℕ)
    → job_rows wanted p g r inputs (xs ++ ys) ≡ job_rows wanted p g r inputs xs ++ job_rows wanted p g r inputs ys
rows_of_two Rows p g r inputs xs ys =
    ap (λ (rows : List Row). reported_rows OfSources g rows) (map-append (row_with p (longest p) g r inputs) xs ys)
    ∙ told_append OfSources g (rows_with p (longest p) g r inputs xs) (rows_with p (longest p) g r inputs ys)
rows_of_two Values p g r inputs xs ys = refl
rows_of_two Pushed p g r inputs xs ys = refl
rows_of_two Own p g r inputs xs ys = refl

-- a push of two parts of a frontier, the second into what no number reduces to, joined
pushed_of_two : (p : Program) (g : Graph) (r : Reduction) (inputs : Inputs) (xs ys first : List ℕ)
    → EveryEdgeHasItsNumber p g inputs → ((v : ℕ) → slice_index first v < 2 ^ 64) → length first ≡ g.vertex_count
    → joined r (pushed_edges p (longest p) g r inputs xs first) (pushed_edges p (longest p) g r inputs ys (replicate g.vertex_count (reduction_of_numbers r [])))
    ≡ pushed_edges p (longest p) g r inputs (xs ++ ys) first
pushed_of_two p g r inputs xs ys first each small long =
    let ts : List ℕ = flat_map (neighbours g) xs in
    let us : List ℕ = flat_map (neighbours g) ys in
    let ns : List ℕ = all_with p (longest p) g inputs xs in
    let ms : List ℕ = all_with p (longest p) g inputs ys in
    let same : length ts ≡ length ns = length-flat_map (neighbours g) xs ∙ sym (each xs) in
    let none : ℕ = reduction_of_numbers r [] in
    ap (λ (n : ℕ). joined r (pushed r ts ns first) (pushed r us ms (replicate n none))) (sym long)
    ∙ sym (pushes_join r ts us ns ms first same small)
    ∙ ap (λ (l : List ℕ). pushed r l (ns ++ ms) first) (sym (flat_map-append (neighbours g) xs ys))
    ∙ ap (λ (l : List ℕ). pushed r (flat_map (neighbours g) (xs ++ ys)) l first) (sym (flat_map-append (exits_with p (longest p) g inputs) xs ys))

numbers_of_two : (wanted : Wanted) (p : Program) (g : Graph) (r : Reduction) (inputs : Inputs) (xs ys first : List ℕ)
    → EveryEdgeHasItsNumber p g inputs → ((v : ℕ) → slice_index first v < 2 ^ 64) → length first ≡ g.vertex_count
    → parts_together wanted r (job_numbers wanted p g r inputs xs first) (job_numbers wanted p g r inputs ys (replicate g.vertex_count (reduction_of_numbers r [])))
    ≡ job_numbers wanted p g r inputs (xs ++ ys) first
numbers_of_two Rows p g r inputs xs ys first each small long = refl
numbers_of_two Values p g r inputs xs ys first each small long =
    sym (map-append (λ v. reduction_of_numbers r (exits_with p (longest p) g inputs v)) xs ys)
numbers_of_two Pushed p g r inputs xs ys first each small long = pushed_of_two p g r inputs xs ys first each small long
numbers_of_two Own p g r inputs xs ys first each small long = sym (pairs_of_two p (longest p) g inputs xs ys xs ys refl)

-- two parts of a job are the job of both
pub both_done : (wanted : Wanted) (p : Program) (g : Graph) (r : Reduction) (inputs : Inputs) (xs ys first : List ℕ) (early late out : JobOutcome)
    → EveryEdgeHasItsNumber p g inputs → ((v : ℕ) → slice_index first v < 2 ^ 64) → length first ≡ g.vertex_count
    → IsDone wanted p g r inputs xs first early → IsDone wanted p g r inputs ys (replicate g.vertex_count (reduction_of_numbers r [])) late
    → out.count ≡ early.count + late.count → out.total ≡ combination r early.total late.total
    → out.numbers.items ≡ parts_together wanted r early.numbers.items late.numbers.items → out.rows.items ≡ early.rows.items ++ late.rows.items
    → IsDone wanted p g r inputs (xs ++ ys) first out
both_done wanted p g r inputs xs ys first early late out each small long a b count total numbers rows =
    let exits = job_exits wanted p g inputs in
    let all : exits (xs ++ ys) ≡ exits xs ++ exits ys = exits_of_two wanted p g inputs xs ys in
    record {
      count = count ∙ omega (arith, a.count, b.count, ap length all, length-append (exits xs) (exits ys));
      total = total_more r early.total late.total out.total (exits xs) (exits ys) (exits (xs ++ ys)) a.total b.total all total;
      numbers = numbers ∙ ap (λ (l : List ℕ). parts_together wanted r l late.numbers.items) a.numbers
          ∙ ap (λ (l : List ℕ). parts_together wanted r (job_numbers wanted p g r inputs xs first) l) b.numbers
          ∙ numbers_of_two wanted p g r inputs xs ys first each small long;
      rows = rows ∙ ap (λ (l : List Row). l ++ late.rows.items) a.rows ∙ ap (λ (l : List Row). job_rows wanted p g r inputs xs ++ l) b.rows
          ∙ sym (rows_of_two wanted p g r inputs xs ys);
    }

-- ---- how many they are

one_few : (o : Option ℕ) → length (filter_map (λ (number : Option ℕ). number) (o ∷ [])) ≤ 1
one_few None = omega arith
one_few (Some n) = omega arith

pairs_few : (p : Program) (steps : ℕ) (g : Graph) (inputs : Inputs) (xs us : List ℕ) → length (pair_numbers p steps g inputs xs us) ≤ length xs
pairs_few p steps g inputs [] us = omega arith
pairs_few p steps g inputs (x ∷ xs) [] = omega arith
pairs_few p steps g inputs (x ∷ xs) (u ∷ us) =
    let o : Option ℕ = number_for p steps g (input_record g x u (place_of g x u) inputs) in
    let first : List ℕ = filter_map (λ (number : Option ℕ). number) (o ∷ []) in
    omega (arith, one_few o, pairs_few p steps g inputs xs us, length-append first (pair_numbers p steps g inputs xs us))

edges_few : (p : Program) (g : Graph) (inputs : Inputs) (xs : List ℕ) (m : ℕ) → EveryEdgeHasItsNumber p g inputs → g.vertex_count ≤ m
    → length (all_with p (longest p) g inputs xs) ≤ length xs * m
edges_few p g inputs xs m each few =
    let all : All (λ v. degree g v ≤ m) xs = λ k d inside. omega (arith, length-neighbours g (get_or xs k d), few) in
    omega (arith, each xs, sum_by-le (degree g) m xs all)

pub exits_few : (wanted : Wanted) (p : Program) (g : Graph) (inputs : Inputs) (xs : List ℕ) → EveryEdgeHasItsNumber p g inputs → g.vertex_count ≤ 268435456
    → length (job_exits wanted p g inputs xs) ≤ length xs * 268435456
exits_few Rows p g inputs xs each few = edges_few p g inputs xs 268435456 each few
exits_few Values p g inputs xs each few = edges_few p g inputs xs 268435456 each few
exits_few Pushed p g inputs xs each few = edges_few p g inputs xs 268435456 each few
exits_few Own p g inputs xs each few = omega (arith, pairs_few p (longest p) g inputs xs xs)

-- the arrays of a push have a number for each vertex
pub pushed_alike : (wanted : Wanted) (p : Program) (g : Graph) (r : Reduction) (inputs : Inputs) (xs ys first : List ℕ) (early late : JobOutcome)
    → length first ≡ g.vertex_count → IsDone wanted p g r inputs xs first early → IsDone wanted p g r inputs ys (replicate g.vertex_count (reduction_of_numbers r [])) late
    → wanted ≡ Pushed → length early.numbers.items ≡ length late.numbers.items
pushed_alike wanted p g r inputs xs ys first early late long a b is =
    let none : List ℕ = replicate g.vertex_count (reduction_of_numbers r []) in
    let one : early.numbers.items ≡ pushed_edges p (longest p) g r inputs xs first =
    a.numbers ∙ ap (λ (w : Wanted). job_numbers w p g r inputs xs first) is in
    let other : late.numbers.items ≡ pushed_edges p (longest p) g r inputs ys none =
    b.numbers ∙ ap (λ (w : Wanted). job_numbers w p g r inputs ys none) is in
    ap length one ∙ pushed_long r (flat_map (neighbours g) xs) (all_with p (longest p) g inputs xs) first ∙ long
    ∙ sym (ap length other ∙ pushed_long r (flat_map (neighbours g) ys) (all_with p (longest p) g inputs ys) none ∙ length-replicate g.vertex_count (reduction_of_numbers r []))

-- Numbers that are written to their places.
use Rattle.std.proofs.Common.{slice_set, ◌≡◌, ℕ, zero, suc, ◌+◌, ◌-◌, ◌<◌, ◌≤◌, List, Some, [], ◌∷◌, ◌++◌, length, take, drop, get_or, refl, length-drop, sym, ap, subst, ◌∙◌, append_assoc, append-nil, lt-ltb, Bool, true, arith}
use Rattle.std.specs.Prelude.{nat_lt}
use Rattle.std.specs.List.{filter_map}
use Rattle.std.proofs.lemmas.List.{take_more, take_all, take_at, take-set-le, drop_all, get_or-set_same, length-set, length-append, length-take-le}
use Rattle.std.proofs.lemmas.List.Elements.{filter_map-append}
use Rattle.std.proofs.lemmas.Grind.{flat_map-append}
use Rattle.std.proofs.lemmas.Slice.{take-put_mid}
use Rattle.std.proofs.Math.Seq.{take-add}
use borrow.Rule.Slice.PartMut.{put_mid}
use Rattle.bpf_image.specs.Program.{Program}
use Rattle.graph_model.specs.Graph.{Graph, neighbours, degree, numbers_below, count_pairs, edge_count}
use Rattle.bpf_model.specs.Run.{number_for}
use Rattle.map_model.specs.EdgeMap.{input_record, numbers_with, exits_with, all_with}
use Rattle.verifier.specs.Walks.{longest}
use Rattle.edge_fold.proofs.Numbers.{found, found_more, numbers_with-append}
use Rattle.map_model.specs.EdgeMap.{Inputs}

module _ (p : Program) (g : Graph) (inputs : Inputs) (source first : ℕ) (targets : List ℕ) where
  -- the first targets' numbers stand in a list
  pub lanes_found : (numbers : List ℕ) (count : ℕ) → count ≤ length targets → count ≤ length numbers
      → ((i : ℕ) → i < count → number_for p (longest p) g (input_record g source (get_or targets i 0) (first + i) inputs) ≡ Some (get_or numbers i 0))
      → found p g inputs source first (take count targets) ≡ take count numbers
  lanes_found numbers zero inside long have = refl
  lanes_found numbers (suc k) inside long have =
      let step : suc k ≡ k + 1 = omega arith in
      let n = get_or numbers k 0 in
      let whole : found p g inputs source first (take (k + 1) targets) ≡ take (k + 1) numbers =
      found_more p g inputs source first targets k (get_or targets k 0) n (omega (arith, inside)) refl (have k (omega arith))
      ∙ ap (λ l. l ++ n ∷ []) (lanes_found numbers k (omega (arith, inside)) (omega (arith, long)) (λ i below. have i (omega (arith, below))))
      ∙ sym (take_more numbers k 0 (omega (arith, long))) in
      subst (λ m. found p g inputs source first (take m targets) ≡ take m numbers) (sym step) whole

  -- so many targets more
  pub more_found : (at count : ℕ) → at ≤ length targets
      → found p g inputs source first (take (at + count) targets)
      ≡ found p g inputs source first (take at targets) ++ found p g inputs source (first + at) (take count (drop at targets))
  more_found at count within =
      let early = numbers_with p (longest p) g inputs source first (take at targets) in
      let late = numbers_with p (longest p) g inputs source (first + at) (take count (drop at targets)) in
      ap (found p g inputs source first) (take-add at count targets)
      ∙ ap (filter_map (λ number. number)) (numbers_with-append p (longest p) g inputs source first (take at targets) (take count (drop at targets))
      ∙ ap (λ n. early ++ numbers_with p (longest p) g inputs source (first + n) (take count (drop at targets))) (length-take-le at targets within))
      ∙ filter_map-append (λ number. number) early late

-- the numbers of the first targets are written
pub record IsWritten (p : Program) (g : Graph) (inputs : Inputs) (source first : ℕ) (targets numbers : List ℕ) (at : ℕ) : Type 0 where
  pub within : at ≤ length targets
  pub long : length numbers ≡ length targets
  pub written : take at numbers ≡ found p g inputs source first (take at targets)

-- a list in which a part is replaced has the same length
pub length_put : (a k : ℕ) (xs ys : List ℕ) → a + k ≤ length xs → length ys ≡ k → length (put_mid a k xs ys) ≡ length xs
length_put a k xs ys fits long =
    let parts : length (put_mid a k xs ys) ≡ length (take a xs) + length (ys ++ drop k (drop a xs)) = length-append (take a xs) (ys ++ drop k (drop a xs)) in
    omega (arith, fits, long, parts, length-append ys (drop k (drop a xs)), length-take-le a xs (omega (arith, fits)), length-drop k (drop a xs), length-drop a xs)

-- so many more are written, from the place of the first that is not
pub more_written : (p : Program) (g : Graph) (inputs : Inputs) (source first : ℕ) (targets numbers : List ℕ) (at k n : ℕ) (part tail : List ℕ)
    → IsWritten p g inputs source first targets numbers at → at + k ≤ length numbers → length part ≡ k → n ≤ k → length tail + n ≡ k
    → part ≡ found p g inputs source (first + at) (take n (drop at targets)) ++ tail
    → IsWritten p g inputs source first targets (put_mid at k numbers part) (at + n)
more_written p g inputs source first targets numbers at k n part tail done fits long few rest is =
    let late = found p g inputs source (first + at) (take n (drop at targets)) in
    let count : length late ≡ n = omega (arith, ap length is, length-append late tail, long, rest) in
    let before : length (take at numbers) ≡ at = length-take-le at numbers (omega (arith, fits)) in
    let both : length (take at numbers ++ late) ≡ at + n = omega (arith, length-append (take at numbers) late, before, count) in
    let behind = drop k (drop at numbers) in
    let parts : put_mid at k numbers part ≡ (take at numbers ++ late) ++ (tail ++ behind) =
    ap (λ l. take at numbers ++ (l ++ behind)) is
    ∙ ap (λ l. take at numbers ++ l) (append_assoc late tail behind)
    ∙ sym (append_assoc (take at numbers) late (tail ++ behind)) in
    record {
      within = omega (arith, done.long, fits, few);
      long = length_put at k numbers part fits long ∙ done.long;
      written = ap (take (at + n)) parts ∙ take_at (take at numbers ++ late) (tail ++ behind) (at + n) both
          ∙ ap (λ l. l ++ late) done.written ∙ sym (more_found p g inputs source first targets at n done.within);
    }

-- all of them
pub all_written : (p : Program) (g : Graph) (inputs : Inputs) (source first : ℕ) (targets numbers : List ℕ) (at : ℕ)
    → IsWritten p g inputs source first targets numbers at → length targets ≤ at → numbers ≡ found p g inputs source first targets
all_written p g inputs source first targets numbers at done ended =
    sym (take_all at numbers (omega (arith, done.long, ended))) ∙ done.written ∙ ap (found p g inputs source first) (take_all at targets ended)

-- the same of a part that reaches to the end of the numbers, by what it held
pub part_written : (p : Program) (g : Graph) (inputs : Inputs) (source first : ℕ) (targets numbers rest part : List ℕ) (at n : ℕ)
    → IsWritten p g inputs source first targets numbers at → rest ≡ drop at targets → n ≤ length rest
    → length part ≡ length (take (length numbers - at) (drop at numbers))
    → part ≡ found p g inputs source (first + at) (take n rest) ++ drop n (take (length numbers - at) (drop at numbers))
    → IsWritten p g inputs source first targets (put_mid at (length numbers - at) numbers part) (at + n)
part_written p g inputs source first targets numbers rest part at n done same few long is =
    let left = length numbers - at in
    let old = take left (drop at numbers) in
    let whole = length-drop at numbers in
    let held : length old ≡ left = omega (arith, length-take-le left (drop at numbers) (omega (arith, whole))) in
    let size : n ≤ left = omega (arith, few, ap length same, length-drop at targets, done.long) in
    more_written p g inputs source first targets numbers at left n part (drop n old) done (omega (arith, done.long, done.within))
    (omega (arith, long, held)) size (omega (arith, length-drop n old, held, size))
    (is ∙ ap (λ xs. found p g inputs source (first + at) (take n xs) ++ drop n old) same)

-- all of the rest is written
pub rest_written : (p : Program) (g : Graph) (inputs : Inputs) (source first : ℕ) (targets numbers rest part : List ℕ) (at : ℕ)
    → IsWritten p g inputs source first targets numbers at → rest ≡ drop at targets
    → length part ≡ length (take (length numbers - at) (drop at numbers)) → part ≡ found p g inputs source (first + at) rest
    → put_mid at (length numbers - at) numbers part ≡ found p g inputs source first targets
rest_written p g inputs source first targets numbers rest part at done same long is =
    let left = length numbers - at in
    let old = take left (drop at numbers) in
    let whole = length-drop at numbers in
    let held : length old ≡ left = omega (arith, length-take-le left (drop at numbers) (omega (arith, whole))) in
    let count : length rest ≡ left = omega (arith, ap length same, length-drop at targets, done.long) in
    let none : drop (length rest) old ≡ [] = drop_all (length rest) old (omega (arith, count, held)) in
    let parts : part ≡ found p g inputs source (first + at) (take (length rest) rest) ++ drop (length rest) old =
    is ∙ ap (found p g inputs source (first + at)) (sym (take_all (length rest) rest (omega arith)))
    ∙ sym (append-nil (found p g inputs source (first + at) (take (length rest) rest)))
    ∙ ap (λ l. found p g inputs source (first + at) (take (length rest) rest) ++ l) (sym none) in
    all_written p g inputs source first targets (put_mid at left numbers part) (at + length rest)
    (part_written p g inputs source first targets numbers rest part at (length rest) done same (omega arith) long parts)
    (omega (arith, ap length same, length-drop at targets, done.within))

-- one more is written
pub one_written : (p : Program) (g : Graph) (inputs : Inputs) (source first : ℕ) (targets numbers : List ℕ) (at n : ℕ)
    → IsWritten p g inputs source first targets numbers at → at < length targets
    → number_for p (longest p) g (input_record g source (get_or targets at 0) (first + at) inputs) ≡ Some n
    → IsWritten p g inputs source first targets (slice_set numbers at n) (at + 1)
one_written p g inputs source first targets numbers at n done inside is =
    let long = length-set numbers at n in
    let here : at < length numbers = omega (arith, done.long, inside) in
    record {
      within = omega (arith, inside);
      long = long ∙ done.long;
      written = take_more (slice_set numbers at n) at 0 (omega (arith, here, long))
          ∙ ap (λ l. l ++ get_or (slice_set numbers at n) at 0 ∷ []) (take-set-le at numbers at n (omega arith) ∙ done.written)
          ∙ ap (λ k. found p g inputs source first (take at targets) ++ k ∷ []) (get_or-set_same numbers at n 0 here)
          ∙ sym (found_more p g inputs source first targets at (get_or targets at 0) n inside refl is);
    }

-- the numbers of the edges of the first vertices are written
pub record AreWritten (p : Program) (g : Graph) (inputs : Inputs) (numbers : List ℕ) (sources at : ℕ) : Type 0 where
  pub place : at ≡ count_pairs sources g.vertex_count g.has_edge
  pub long : length numbers ≡ edge_count g
  pub written : take at numbers ≡ all_with p (longest p) g inputs (numbers_below sources)

-- how many edges there are from one vertex more
pub pairs_more : (g : Graph) (m : ℕ) → m < g.vertex_count
    → count_pairs (m + 1) g.vertex_count g.has_edge ≡ count_pairs m g.vertex_count g.has_edge + degree g m
unfolding count_pairs neighbours
pairs_more g m below =
    let next : m + 1 ≡ suc m = omega arith in
    let inside : nat_lt m g.vertex_count ≡ true = lt-ltb m g.vertex_count below in
    ap (λ n. count_pairs n g.vertex_count g.has_edge) next ∙ rw inside refl

-- more vertices have no fewer edges
pub pairs_grow : (n : ℕ) (test : ℕ → ℕ → Bool) (m more : ℕ) → count_pairs m n test ≤ count_pairs (m + more) n test
unfolding count_pairs
pairs_grow n test m zero = let same : m + zero ≡ m = omega arith in omega (arith, ap (λ k. count_pairs k n test) same)
pairs_grow n test m (suc more) =
    let next : m + suc more ≡ suc (m + more) = omega arith in
    omega (arith, pairs_grow n test m more, ap (λ k. count_pairs k n test) next)

-- the next vertex's edges have places
pub places_left : (g : Graph) (m at : ℕ) → m < g.vertex_count → at ≡ count_pairs m g.vertex_count g.has_edge → at + degree g m ≤ edge_count g
places_left g m at below is =
    let end : g.vertex_count ≡ (m + 1) + (g.vertex_count - (m + 1)) = omega (arith, below) in
    let grown = pairs_grow g.vertex_count g.has_edge (m + 1) (g.vertex_count - (m + 1)) in
    let whole : count_pairs (m + 1) g.vertex_count g.has_edge ≤ count_pairs g.vertex_count g.vertex_count g.has_edge =
    subst (λ n. count_pairs (m + 1) g.vertex_count g.has_edge ≤ count_pairs n g.vertex_count g.has_edge) (sym end) grown in
    omega (arith, whole, is, pairs_more g m below)

pub none_written : (p : Program) (g : Graph) (inputs : Inputs) (numbers : List ℕ) → length numbers ≡ edge_count g → AreWritten p g inputs numbers 0 0
unfolding count_pairs
none_written p g inputs numbers long = record { place = refl; long = long; written = refl }

pub vertex_written : (p : Program) (g : Graph) (inputs : Inputs) (numbers : List ℕ) (source at k : ℕ) (part : List ℕ)
    → AreWritten p g inputs numbers source at → source < g.vertex_count → k ≡ degree g source → length part ≡ k
    → part ≡ exits_with p (longest p) g inputs source → AreWritten p g inputs (put_mid at k numbers part) (source + 1) (at + k)
vertex_written p g inputs numbers source at k part done below many long is =
    let fits : at + k ≤ length numbers = omega (arith, places_left g source at below done.place, many, done.long) in
    let next : source + 1 ≡ suc source = omega arith in
    let more : all_with p (longest p) g inputs (numbers_below (source + 1))
    ≡ all_with p (longest p) g inputs (numbers_below source) ++ exits_with p (longest p) g inputs source =
    ap (λ n. all_with p (longest p) g inputs (numbers_below n)) next
    ∙ flat_map-append (exits_with p (longest p) g inputs) (numbers_below source) (source ∷ [])
    ∙ ap (λ l. all_with p (longest p) g inputs (numbers_below source) ++ l) (append-nil (exits_with p (longest p) g inputs source)) in
    record {
      place = omega (arith, done.place, many, pairs_more g source below);
      long = length_put at k numbers part fits long ∙ done.long;
      written = take-put_mid at k numbers part (at + k) (omega (arith, long)) (omega (arith, fits))
          ∙ ap (λ l. take at numbers ++ l) is ∙ ap (λ l. l ++ exits_with p (longest p) g inputs source) done.written ∙ sym more;
    }

pub all_are_written : (p : Program) (g : Graph) (inputs : Inputs) (numbers : List ℕ) (sources at : ℕ) → AreWritten p g inputs numbers sources at
    → sources ≡ g.vertex_count → numbers ≡ all_with p (longest p) g inputs (numbers_below g.vertex_count)
all_are_written p g inputs numbers sources at done all =
    let end : at ≡ length numbers = done.place ∙ ap (λ n. count_pairs n g.vertex_count g.has_edge) all ∙ sym done.long in
    sym (take_all at numbers (omega (arith, end))) ∙ done.written ∙ ap (λ n. all_with p (longest p) g inputs (numbers_below n)) all

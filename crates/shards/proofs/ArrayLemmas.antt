-- Parts whose lists stand in sorted arrays.
use Rattle.std.proofs.Common.{◌≡◌, ◌⊎◌, ℕ, zero, suc, ◌+◌, ◌-◌, ◌*◌, ◌/◌, ◌%◌, ◌<◌, ◌≤◌, Bool, true, false, ◌&&◌, ltb, min, List, [], ◌∷◌, ◌++◌, length, get_or, map, filter, refl, sym, ap, subst, ◌∙◌, inl, inr, append-nil, append_assoc, lt-ltb, arith}
use Rattle.std.specs.declared.sync.Arc.{Arc}
use Rattle.std.specs.declared.alloc.Global.{Global}
use Rattle.std.specs.Arc.{arc_value}
use Rattle.std.proofs.lemmas.List.{length-map, map_push, get_or-map}
use Rattle.past_model.specs.declared.limits.TheConstants.{MOST_VERTICES, MOST_RANGES}
use Rattle.past_model.specs.declared.home.Home.TheVariants.{Block}
use Rattle.past_model.specs.Homes.{IsHomeOf}
use Rattle.past_model.proofs.HomeLemmas.{homes_hold}
use Rattle.graph_model.specs.Graph.{Graph, neighbours, numbers_below}
use Rattle.graph_model.proofs.Numbers.{length-numbers_below, get_or-numbers_below}
use Rattle.graph_model.proofs.Neighbours.{neighbours-within}
use Rattle.word_sets.specs.Words.{has_word, IsWithin, IsSet}
use Rattle.word_sets.proofs.Members.{has-filter, bounds_of, same_words}
use Rattle.word_sets.proofs.Targets.{IsWithin-numbers_below, has-numbers_below}
use Rattle.word_sets.proofs.Within.{IsWithin-filter}
use Rattle.shards.specs.declared.lists.Lists.{Lists}
use Rattle.shards.specs.Lists.{rows_of, homes_of, AreKept}
use Rattle.shards.specs.Pages.{rows_in, homes_in, ArePages}
use Rattle.shards.specs.Part.{IsShard, AreHomes}
use Rattle.shards.specs.Arrays.{list_of, first_home, rows_from, homes_from, part_from, AreLists}
use Rattle.shards.proofs.SizeLemmas.{no_times, next_times, past_end}
use Rattle.shards.proofs.PageLemmas.{AreFirst, none_first, one_first, all_first, rows_push, homes_push}

abbrev Page : Type 0
Page = Arc Lists Global

-- ---- something of each vertex from one on

pub one_from : {X : Type 0} (f : ℕ → X) (first count : ℕ) → map (λ k. f (first + k)) (numbers_below (count + 1)) ≡ map (λ k. f (first + k)) (numbers_below count) ++ f (first + count) ∷ []
one_from f first count =
    let next : count + 1 ≡ suc count = omega arith in
    ap (λ n. map (λ k. f (first + k)) (numbers_below n)) next ∙ map_push (λ k. f (first + k)) (numbers_below count) count

pub more_from : {X : Type 0} (f : ℕ → X) (first a b : ℕ) → map (λ k. f (first + k)) (numbers_below (a + b)) ≡ map (λ k. f (first + k)) (numbers_below a) ++ map (λ k. f (first + a + k)) (numbers_below b)
more_from {X = X} f first a zero =
    let none : a + 0 ≡ a = omega arith in
    ap (λ n. map (λ k. f (first + k)) (numbers_below n)) none ∙ sym (append-nil (map (λ k. f (first + k)) (numbers_below a)))
more_from {X = X} f first a (suc b) =
    let next : a + suc b ≡ suc (a + b) = omega arith in
    let here : first + (a + b) ≡ first + a + b = omega arith in
    let own : List X = map (λ k. f (first + k)) (numbers_below a) in
    let rest : List X = map (λ k. f (first + a + k)) (numbers_below b) in
    ap (λ n. map (λ k. f (first + k)) (numbers_below n)) next
    ∙ map_push (λ k. f (first + k)) (numbers_below (a + b)) (a + b)
    ∙ ap (λ l. l ++ f (first + (a + b)) ∷ []) (more_from f first a b)
    ∙ append_assoc own rest (f (first + (a + b)) ∷ [])
    ∙ ap (λ n. own ++ (rest ++ f n ∷ [])) here
    ∙ ap (λ l. own ++ l) (sym (map_push (λ k. f (first + a + k)) (numbers_below b) b))

pub length-from : {X : Type 0} (f : ℕ → X) (first count : ℕ) → length (map (λ k. f (first + k)) (numbers_below count)) ≡ count
length-from f first count = length-map (numbers_below count) (λ k. f (first + k)) ∙ length-numbers_below count

pub at_from : {X : Type 0} (f : ℕ → X) (first count i : ℕ) (d : X) → i < count → get_or (map (λ k. f (first + k)) (numbers_below count)) i d ≡ f (first + i)
at_from f first count i d h =
    get_or-map (λ k. f (first + k)) (numbers_below count) i 0 d (omega (arith, h, length-numbers_below count)) ∙ ap (λ k. f (first + k)) (get_or-numbers_below count i h)

-- ---- pages

-- the first pages of the lists of so many vertices from one on
pub record AreFrom (starts targets : List ℕ) (first w vertices number : ℕ) (pages : List Page) : Type 0 where
  pub cut : AreFirst w vertices number pages
  pub rows : rows_in pages ≡ rows_from starts targets first (min vertices (w * number))
  pub homes : homes_in pages ≡ homes_from starts targets first (min vertices (w * number))

pub none_from : (starts targets : List ℕ) (first w vertices : ℕ) (pages : List Page) → pages ≡ [] → AreFrom starts targets first w vertices 0 pages
none_from starts targets first w vertices pages is = record {
  cut = none_first w vertices pages is;
  rows = ap rows_in is ∙ ap (rows_from starts targets first) none;
  homes = ap homes_in is ∙ ap (homes_from starts targets first) none;
}
  where
    none : 0 ≡ min vertices (w * 0)
    none = omega (arith, no_times w)

pub page_more : (starts targets : List ℕ) (first w vertices number : ℕ) (pages : List Page) (page : Page) → w * number < vertices → AreFrom starts targets first w vertices number pages → AreKept (arc_value page)
    → rows_of (arc_value page) ≡ rows_from starts targets (first + w * number) (min w (vertices - w * number))
    → homes_of (arc_value page) ≡ homes_from starts targets (first + w * number) (min w (vertices - w * number))
    → AreFrom starts targets first w vertices (number + 1) (pages ++ page ∷ [])
page_more starts targets first w vertices number pages page some are kept rows homes =
    let full : min vertices (w * number) ≡ w * number = omega (arith, some) in
    let size : ℕ = min w (vertices - w * number) in
    let before : w * number + min w (vertices - w * number) ≡ min vertices (w * (number + 1)) = omega (arith, some, next_times w number) in
    record {
      cut = one_first w vertices number pages page some are.cut kept (ap length rows ∙ length-from (list_of starts targets) (first + w * number) size);
      rows =
          rows_push pages page
          ∙ ap (λ l. l ++ rows_of (arc_value page)) (are.rows ∙ ap (rows_from starts targets first) full)
          ∙ ap (λ l. rows_from starts targets first (w * number) ++ l) rows
          ∙ sym (more_from (list_of starts targets) first (w * number) size)
          ∙ ap (rows_from starts targets first) before;
      homes =
          homes_push pages page
          ∙ ap (λ l. l ++ homes_of (arc_value page)) (are.homes ∙ ap (homes_from starts targets first) full)
          ∙ ap (λ l. homes_from starts targets first (w * number) ++ l) homes
          ∙ sym (more_from (λ v. first_home (list_of starts targets v)) first (w * number) size)
          ∙ ap (homes_from starts targets first) before;
    }

pub all_from : (starts targets : List ℕ) (first w vertices number count : ℕ) (pages : List Page) → 0 < w → count ≡ vertices / w + min 1 (vertices % w) → number ≡ count → AreFrom starts targets first w vertices number pages
    → ArePages w pages × (rows_in pages ≡ rows_from starts targets first vertices) × (homes_in pages ≡ homes_from starts targets first vertices)
all_from starts targets first w vertices number count pages some is all are =
    let past : vertices ≤ w * number = past_end w number vertices count some is (omega arith) in
    let whole : min vertices (w * number) ≡ vertices = omega (arith, past) in (
      (all_first w vertices number count pages some is all are.cut).0,
      are.rows ∙ ap (rows_from starts targets first) whole,
      are.homes ∙ ap (homes_from starts targets first) whole,
    )

-- ---- shards

-- the graph in which a vertex has an edge to each word of its list
abbrev graph_in : List ℕ → List ℕ → Graph
graph_in starts targets = record { vertex_count = MOST_VERTICES; has_edge = λ u v. has_word v (list_of starts targets u) }

and_below : (v n : ℕ) (xs : List ℕ) → IsWithin 0 n xs → (has_word v xs && ltb v n) ≡ has_word v xs
and_below v n xs set = elim (one_or_other (has_word v xs)) [
  | inl has ↦ (let below : ltb v n ≡ true = lt-ltb v n (bounds_of 0 n v xs set has).1 in rw (has, below) refl)
  | inr lacks ↦ rw lacks refl
]
  where
    one_or_other : (b : Bool) → (b ≡ true) ⊎ (b ≡ false)
    one_or_other true = inl refl
    one_or_other false = inr refl

-- words below n that pass the test of being in a set are that set
pub set_is_filter : (n : ℕ) (xs : List ℕ) → IsWithin 0 n xs → filter (λ v. has_word v xs) (numbers_below n) ≡ xs
set_is_filter n xs set =
    same_words 0 n (filter (λ v. has_word v xs) (numbers_below n)) xs (IsWithin-filter (λ v. has_word v xs) 0 n (numbers_below n) (IsWithin-numbers_below n)) set (λ v.
    has-filter (λ w. has_word w xs) v (numbers_below n) ∙ ap (λ t. has_word v xs && t) (has-numbers_below n v) ∙ and_below v n xs set)

own_neighbours : (starts targets : List ℕ) (v : ℕ) → v < MOST_VERTICES → IsSet (list_of starts targets v) → list_of starts targets v ≡ neighbours (graph_in starts targets) v
own_neighbours starts targets v below set = sym (neighbours-within (graph_in starts targets) v below ∙ set_is_filter MOST_VERTICES (list_of starts targets v) set)

pub homes_of_part : (starts targets : List ℕ) (range vertices : ℕ) → AreHomes (part_from starts targets range vertices)
homes_of_part starts targets range vertices =
    let first : ℕ = 256 * range in
    let homes : length (homes_from starts targets first vertices) ≡ vertices = length-from (λ v. first_home (list_of starts targets v)) first vertices in
    let rows : length (rows_from starts targets first vertices) ≡ vertices = length-from (list_of starts targets) first vertices in
    record {
      count = homes ∙ sym rows;
      each = λ i h. (
          let inside : i < vertices = omega (arith, h, homes) in
          subst (λ home. IsHomeOf home (length (get_or (rows_from starts targets first vertices) i []))) (sym (at_from (λ v. first_home (list_of starts targets v)) first vertices i Block inside))
          (subst (λ row. IsHomeOf (first_home (list_of starts targets (first + i))) (length {A = ℕ} row)) (sym (at_from (list_of starts targets) first vertices i [] inside))
          (homes_hold Block (length (list_of starts targets (first + i))))));
    }

pub shard_from : (starts targets : List ℕ) (range vertices : ℕ) → range < MOST_RANGES → 1 ≤ vertices → vertices ≤ 256 → AreLists starts targets → 256 * range + vertices < length starts → IsShard (part_from starts targets range vertices)
shard_from starts targets range vertices low some few lists inside =
    let first : ℕ = 256 * range in
    let rows : length (rows_from starts targets first vertices) ≡ vertices = length-from (list_of starts targets) first vertices in
    record {
      low = low;
      some = omega (arith, rows);
      few = omega (arith, rows);
      graph = graph_in starts targets;
      small = refl;
      part = record {
        within = omega (arith, rows);
        each = λ i h. (
            let own : i < vertices = omega (arith, rows) in
            at_from (list_of starts targets) first vertices i [] own ∙ own_neighbours starts targets (first + i) (omega arith) (lists.sets (first + i) (omega arith)));
      };
      homes = homes_of_part starts targets range vertices;
    }

pub length-part_from : (starts targets : List ℕ) (range vertices : ℕ) → length (rows_from starts targets (256 * range) vertices) ≡ vertices
length-part_from starts targets range vertices = length-from (list_of starts targets) (256 * range) vertices

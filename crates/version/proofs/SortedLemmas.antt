-- A version of sorted arrays.
use Rattle.std.proofs.Common.{◌≡◌, ℕ, zero, suc, ◌+◌, ◌-◌, ◌<◌, ◌≤◌, Bool, true, false, List, [], ◌∷◌, ◌++◌, length, map, filter, get_or, drop, refl, sym, ap, ◌∙◌, inl, inr, eqb, eq-eqb, le_trans, Some, arith}
use Rattle.std.specs.List.{list_any}
use Rattle.std.specs.Prelude.{◌==◌}
use Rattle.std.proofs.Math.Path.{fun_ext}
use Rattle.std.proofs.lemmas.Bool.{cases_lt, cases_eq, ne_eqb, false≢true}
use Rattle.std.proofs.lemmas.List.{map_push, get_or-map, get_or_past, length-map, length-take, length-drop}
use Rattle.past_model.specs.declared.limits.TheConstants.{MOST_VERTICES}
use Rattle.past_model.specs.declared.entry.Entry.{Entry}
use Rattle.past_model.specs.declared.home.Home.TheVariants.{Block}
use Rattle.past_model.specs.Past.{Base, graph_of, base_graph}
use Rattle.graph_model.specs.Graph.{IsGraph, numbers_below, count_pairs, edge_count}
use Rattle.graph_model.proofs.Numbers.{length-numbers_below, get_or-numbers_below}
use Rattle.graph_model.proofs.Neighbours.{neighbours-within}
use Rattle.graph_model.proofs.Pairs.{count_pairs-zero, count_pairs-suc}
use Rattle.word_sets.specs.Words.{has_word}
use Rattle.word_sets.proofs.Within.{IsWithin-wider}
use Rattle.word_sets.proofs.Members.{bounds_of}
use Rattle.shards.specs.Arrays.{start_at, list_of, first_home, AreLists}
use Rattle.shard_table.specs.Arrays.{AreListsOf}
use Rattle.shards.specs.Part.{Part}
use Rattle.shard_table.specs.Table.{IsTable, row_in, home_in, base_in}
use Rattle.shards.proofs.ArrayLemmas.{set_is_filter}
use Rattle.version.specs.Version.{IsVersion, IsVertexCount}
use Rattle.version.specs.Ground.{Ground, ground, past_on}
use Rattle.version.specs.Sorted.{AreStarts, AreSorted, past_of}
use Rattle.version.proofs.VersionLemmas.{list_is}

-- ---- where the lists lie

before_last : (k n : ℕ) (starts targets : List ℕ) (v : ℕ) → AreStarts n starts targets → v + k ≡ n → start_at starts v ≤ length targets
before_last zero n starts targets v are is =
    let here : v ≡ n = omega (arith, is) in
    omega (arith, are.last, ap (start_at starts) here)
before_last (suc k) n starts targets v are is =
    le_trans (are.ascending v (omega (arith, is))) (before_last k n starts targets (v + 1) are (omega (arith, is)))

pub starts_within : (n : ℕ) (starts targets : List ℕ) (v : ℕ) → AreStarts n starts targets → v ≤ n → start_at starts v ≤ length targets
starts_within n starts targets v are le = before_last (n - v) n starts targets v are (omega arith)

pub length-list_of : (n : ℕ) (starts targets : List ℕ) (v : ℕ) → AreStarts n starts targets → v < n → length (list_of starts targets v) + start_at starts v ≡ start_at starts (v + 1)
length-list_of n starts targets v are below =
    let low = are.ascending v below in
    let high = starts_within n starts targets (v + 1) are (omega arith) in
    omega (arith, low, high, length-take (start_at starts (v + 1) - start_at starts v) (drop (start_at starts v) targets), length-drop (start_at starts v) targets)

pub lists_of : (n : ℕ) (starts targets : List ℕ) → n ≤ MOST_VERTICES → AreSorted n starts targets → AreLists starts targets
lists_of n starts targets small are = record {
  ascending = λ v h. are.places.ascending v (omega (arith, h, are.count));
  within = λ v h. starts_within n starts targets (v + 1) are.places (omega (arith, h, are.count));
  sets = λ v h. IsWithin-wider 0 0 n MOST_VERTICES (list_of starts targets v) (omega arith) small (are.lists v (omega (arith, h, are.count)));
}

-- ---- the graph

at_vertex : {X : Type 0} (f : ℕ → X) (n v : ℕ) (d : X) → v < n → get_or (map f (numbers_below n)) v d ≡ f v
at_vertex f n v d lt = get_or-map f (numbers_below n) v 0 d (omega (arith, length-numbers_below n)) ∙ ap f (get_or-numbers_below n v lt)

no_vertex : {X : Type 0} (f : ℕ → X) (n v : ℕ) (d : X) → n ≤ v → get_or (map f (numbers_below n)) v d ≡ d
no_vertex f n v d le = get_or_past (map f (numbers_below n)) v d (omega (arith, length-map (numbers_below n) f, length-numbers_below n))

turned : (a b : ℕ) → eqb a b ≡ eqb b a
turned a b = elim (cases_eq a b) [
  | inl same ↦ eq-eqb a b same ∙ sym (eq-eqb b a (sym same))
  | inr other ↦ ne_eqb a b other ∙ sym (ne_eqb b a (λ is. other (sym is)))
]

-- a pair is an edge where the target is a word of its source's list
edge_is : (n : ℕ) (starts targets : List ℕ) (u v : ℕ) → u < n → (base_graph (past_of n starts targets)).has_edge u v ≡ has_word v (list_of starts targets u)
edge_is n starts targets u v below =
    ap (list_any (λ w. v == w)) (at_vertex (list_of starts targets) n u [] below)
    ∙ ap (λ (test : ℕ → Bool). list_any test (list_of starts targets u)) (fun_ext (λ w. turned v w))

row_is : (n : ℕ) (starts targets : List ℕ) (v : ℕ) → AreSorted n starts targets → v < n → filter ((base_graph (past_of n starts targets)).has_edge v) (numbers_below n) ≡ list_of starts targets v
row_is n starts targets v are below =
    ap (λ (test : ℕ → Bool). filter test (numbers_below n)) (fun_ext (λ w. edge_is n starts targets v w below)) ∙ set_is_filter n (list_of starts targets v) (are.lists v below)

pub graph_of_lists : (n : ℕ) (starts targets : List ℕ) → AreSorted n starts targets → AreListsOf (graph_of (past_of n starts targets)) starts targets
graph_of_lists n starts targets are = record {
  count = are.count;
  each = λ v below. neighbours-within (base_graph (past_of n starts targets)) v below ∙ row_is n starts targets v are below;
}

counted : (n : ℕ) (starts targets : List ℕ) (k : ℕ) → AreSorted n starts targets → k ≤ n → count_pairs k n (base_graph (past_of n starts targets)).has_edge ≡ start_at starts k
counted n starts targets zero are le = count_pairs-zero n (base_graph (past_of n starts targets)).has_edge ∙ sym are.places.first
counted n starts targets (suc k) are le =
    let next : suc k ≡ k + 1 = omega arith in
    let below : k < n = omega arith in
    omega (
      arith,
      count_pairs-suc k n (base_graph (past_of n starts targets)).has_edge,
      counted n starts targets k are (omega arith),
      ap (length {A = ℕ}) (row_is n starts targets k are below),
      length-list_of n starts targets k are.places below,
      ap (start_at starts) next,
    )

pub edges_are : (n : ℕ) (starts targets : List ℕ) → AreSorted n starts targets → length targets ≡ edge_count (graph_of (past_of n starts targets))
edges_are n starts targets are = sym (counted n starts targets n are (omega arith) ∙ are.places.last)

base_is_graph : (n : ℕ) (starts targets : List ℕ) → AreSorted n starts targets → IsGraph (base_graph (past_of n starts targets))
base_is_graph n starts targets are u v edge = elim (cases_lt u n) [
  | inl below ↦ (below, (bounds_of 0 n v (list_of starts targets u) (are.lists u below) (sym (edge_is n starts targets u v below) ∙ edge)).1)
  | inr past ↦ absurd (no_edge (sym (ap (list_any (λ w. v == w)) (no_vertex (list_of starts targets) n u [] past)) ∙ edge))
]
  where
    no_edge : false ≡ true → ⊥
    no_edge is = false≢true is

-- ---- the version

same_below : {X : Type 0} (f g : ℕ → X) (n : ℕ) → ((v : ℕ) → v < n → f v ≡ g v) → map f (numbers_below n) ≡ map g (numbers_below n)
same_below f g zero same = refl
same_below {X = X} f g (suc n) same =
    map_push f (numbers_below n) n
    ∙ ap (λ (l : List X). l ++ f n ∷ []) (same_below f g n (λ v h. same v (omega arith)))
    ∙ ap (λ x. map g (numbers_below n) ++ x ∷ []) (same n (omega arith))
    ∙ sym (map_push g (numbers_below n) n)

pub base_of_lists : (n : ℕ) (starts targets : List ℕ) (parts : List Part) → AreSorted n starts targets → IsTable (graph_of (past_of n starts targets)) parts
    → ((v : ℕ) → v < n → home_in parts v ≡ first_home (list_of starts targets v)) → base_in n parts ≡ (past_of n starts targets).base
base_of_lists n starts targets parts are table homes =
    let rows : map (row_in parts) (numbers_below n) ≡ map (list_of starts targets) (numbers_below n) =
    same_below (row_in parts) (list_of starts targets) n (λ v below. list_is (graph_of (past_of n starts targets)) parts table v ∙ (graph_of_lists n starts targets are).each v below) in
    let all : map (home_in parts) (numbers_below n) ≡ map (λ v. first_home (list_of starts targets v)) (numbers_below n) =
    same_below (home_in parts) (λ v. first_home (list_of starts targets v)) n homes in
    λ i. record { rows = rows i; homes = all i }

-- what is made of such a base is that past
pub past_is : (n : ℕ) (starts targets : List ℕ) (parts : List Part) (g : Ground) (log : List Entry) → AreSorted n starts targets → IsTable (graph_of (past_of n starts targets)) parts
    → ((v : ℕ) → v < n → home_in parts v ≡ first_home (list_of starts targets v)) → g ≡ ground (Some parts) [] → log ≡ [] → past_on n g log ≡ past_of n starts targets
past_is n starts targets parts g log are table homes is none =
    ap (λ (h : Ground). past_on n h log) is
    ∙ ap (λ (l : List Entry). past_on n (ground (Some parts) []) l) none
    ∙ ap (λ (b : Base). record (past_of n starts targets) { base = b }) (base_of_lists n starts targets parts are table homes)

pub version_of_lists : (n : ℕ) (starts targets : List ℕ) (parts : List Part) → IsVertexCount n → AreSorted n starts targets → IsTable (graph_of (past_of n starts targets)) parts
    → ((v : ℕ) → v < n → home_in parts v ≡ first_home (list_of starts targets v)) → ((v : ℕ) → n ≤ v → home_in parts v ≡ Block) → IsVersion (past_of n starts targets) parts (length targets)
version_of_lists n starts targets parts h are table homes outside = record {
  table = table;
  homes = λ v. elim (cases_lt v n) [
    | inl below ↦ homes v below ∙ sym (at_vertex (λ w. first_home (list_of starts targets w)) n v Block below)
    | inr past ↦ outside v past ∙ sym (no_vertex (λ w. first_home (list_of starts targets w)) n v Block past)
  ];
  edges_are = edges_are n starts targets are;
  some = h.0;
  most = h.1;
  past = record {
    base = base_is_graph n starts targets are;
    homes = λ v past. no_vertex (λ w. first_home (list_of starts targets w)) n v Block past;
    log = tt;
  };
  short = omega arith;
  epochs = omega arith;
}

-- A version's graph, the first version, and the next.
use Rattle.std.proofs.Common.{◌≡◌, ℕ, ◌+◌, ◌-◌, ◌*◌, ◌/◌, ◌%◌, ◌<◌, ◌≤◌, Bool, true, false, List, [], length, map, Contains, sym, ap, subst, refl, ◌∙◌, inl, inr, le_trans, mul-le-mul, arith}
use Rattle.std.proofs.lemmas.Bool.{cases_lt}
use Rattle.std.proofs.lemmas.List.{get_or_past, length_push}
use Rattle.past_model.specs.declared.limits.TheConstants.{MOST_VERTICES, MOST_EPOCHS}
use Rattle.past_model.specs.declared.home.Home.{Home}
use Rattle.past_model.specs.declared.home.Home.TheVariants.{Block}
use Rattle.past_model.specs.declared.edit.Edit.{Edit}
use Rattle.past_model.specs.declared.entry.Entry.{Entry}
use Rattle.graph_model.specs.Graph.{Graph, neighbours, numbers_below, edge_count, empty_graph}
use Rattle.past_model.specs.Edits.{after_batch, added, removed, AreEditsBelow}
use Rattle.past_model.specs.Past.{Past, graph_of, number_of, epoch_of, opening, longer}
use Rattle.past_model.specs.Epochs.{mark_of, base_of, branched, rebased}
use Rattle.past_model.proofs.Epochs.{graph_of-branched, home_of-branched, IsPast-branched, graph_of-rebased, home_of-rebased, IsPast-rebased}
use Rattle.past_model.specs.Homes.{home_after, home_of}
use Rattle.graph_model.specs.Views.{is_edge}
use Rattle.past_model.proofs.HomeLemmas.{home_of_longer}
use Rattle.graph_model.proofs.Neighbours.{neighbours-outside}
use Rattle.graph_model.proofs.ViewLemmas.{neighbour-is_edge, is_edge-neighbour}
use Rattle.past_model.proofs.Batches.{change_of_size, edge_count-empty_graph, edge_count-le, new_edges-le}
use Rattle.past_model.proofs.Pasts.{graph_of-longer, vertex_count-graph_of, number_of-longer, IsPast-longer, IsPast-opening}
use Rattle.shards.specs.declared.counts.Counts.{Counts}
use Rattle.shards.specs.Part.{Part, row_at, vertex_at}
use Rattle.shard_table.specs.Table.{IsTable, IsEditable, AreAfter, AreMoved, part_at, row_in, home_in, base_in}
use Rattle.version.specs.Version.{IsVersion, IsVertexCount, IsMade}

-- edits below a version's vertices are below its graph's
below_graph : (p : Past) (es : List Edit) → AreEditsBelow p.vertex_count es → AreEditsBelow (graph_of p).vertex_count es
below_graph p es below = subst (λ n. AreEditsBelow n es) (sym (vertex_count-graph_of p)) below

few_vertices : (p : Past) (parts : List Part) (edges : ℕ) → IsVersion p parts edges → (graph_of p).vertex_count ≤ MOST_VERTICES
few_vertices p parts edges v = subst (λ n. n ≤ MOST_VERTICES) (sym (vertex_count-graph_of p)) v.most

-- a version's parts can be edited
pub editable : (p : Past) (parts : List Part) (edges : ℕ) (es : List Edit) → IsVersion p parts edges → AreEditsBelow p.vertex_count es → IsEditable parts es
editable p parts edges es v below = record {
  graph = graph_of p;
  small = few_vertices p parts edges v;
  table = v.table;
  below = below_graph p es below;
}

pub first_version : (n : ℕ) (parts : List Part) → IsVertexCount n → IsTable (empty_graph n) parts → ((v : ℕ) → home_in parts v ≡ Block) → IsVersion (opening n) parts 0
first_version n parts h table homes = record {
  table = table;
  homes = homes;
  edges_are = sym (edge_count-empty_graph n);
  some = h.0;
  most = h.1;
  past = IsPast-opening n;
  short = omega arith;
  epochs = omega arith;
}

-- a version's edges are few
pub few_edges : (p : Past) (parts : List Part) (edges : ℕ) → IsVersion p parts edges → edges ≤ MOST_VERTICES * MOST_VERTICES
few_edges p parts edges v =
    let n = few_vertices p parts edges v in
    subst (λ k. k ≤ MOST_VERTICES * MOST_VERTICES) (sym v.edges_are) (le_trans (edge_count-le (graph_of p)) (mul-le-mul n n))

-- what a batch did to a version
pub record Did (p : Past) (e : Entry) (edges : ℕ) (counts : Counts) : Type 0 where
  pub gained : counts.added ≡ added e.batch (graph_of p)
  pub lost : counts.removed ≡ removed e.batch (graph_of p)
  pub change : edge_count (graph_of (longer p e)) + counts.removed ≡ edges + counts.added
  pub few : counts.added ≤ MOST_VERTICES * MOST_VERTICES

pub did : (p : Past) (parts next : List Part) (edges : ℕ) (e : Entry) (counts : Counts) → IsVersion p parts edges → AreEditsBelow p.vertex_count e.batch → AreAfter e.batch parts next counts → Did p e edges counts
did p parts next edges e counts v below after =
    let low = below_graph p e.batch below in
    let gained = after.gained (graph_of p) low v.table in
    let lost = after.lost (graph_of p) low v.table in
    let size = change_of_size e.batch (graph_of p) in
    let longer_is = ap edge_count (graph_of-longer p e) in
    let edges_are = v.edges_are in
    let n = few_vertices p parts edges v in
    record {
      gained = gained;
      lost = lost;
      change = omega (arith, gained, lost, size, longer_is, edges_are);
      few = subst (λ k. k ≤ MOST_VERTICES * MOST_VERTICES) (sym gained) (le_trans (new_edges-le (graph_of p) (after_batch e.batch (graph_of p))) (mul-le-mul n n));
    }

-- a vertex's list in a table is its list in the graph
pub list_is : (g : Graph) (parts : List Part) → IsTable g parts → (v : ℕ) → row_in parts v ≡ neighbours g v
list_is g parts table v = elim (cases_lt v g.vertex_count) [
  | inl inside ↦ (
      let here : v / 256 < length parts = (table.ranges (v / 256)).1 (omega arith) in
      let part = table.each (v / 256) here in
      let number = part.number in
      let low : v % 256 < length (part_at parts (v / 256)).rows = omega (arith, part.size) in
      let whole : vertex_at (part_at parts (v / 256)) (v % 256) ≡ v = omega (arith, number) in
      part.part.each (v % 256) low ∙ ap (neighbours g) whole)
  | inr outside ↦ none outside ∙ sym (neighbours-outside g v outside)
]
  where
    none : g.vertex_count ≤ v → row_in parts v ≡ []
    none outside = elim (cases_lt (v / 256) (length parts)) [
      | inl here ↦ get_or_past (part_at parts (v / 256)).rows (v % 256) [] (omega (arith, (table.each (v / 256) here).size))
      | inr past ↦ ap (λ (p : Part). row_at p (v % 256)) (get_or_past parts (v / 256) (record { range = 0; rows = []; homes = [] }) past)
    ]

-- the homes after one batch more
next_home : (p : Past) (parts next : List Part) (e : Entry) → ((v : ℕ) → home_in parts v ≡ home_of p v) → IsTable (graph_of (longer p e)) next → AreMoved parts next → (v : ℕ) → home_in next v ≡ home_of (longer p e) v
next_home p parts next e homes table moved v =
    moved v
    ∙ ap (λ (home : Home). home_after home (length (row_in next v))) (homes v)
    ∙ ap (λ row. home_after (home_of p v) (length {A = ℕ} row)) (list_is (graph_of (longer p e)) next table v)
    ∙ sym (home_of_longer p e v)

-- the next version
pub next_version : (p : Past) (parts next : List Part) (edges : ℕ) (e : Entry) (counts : Counts) → IsVersion p parts edges → AreEditsBelow p.vertex_count e.batch → number_of p < 4096 → AreAfter e.batch parts next counts → AreMoved parts next → IsVersion (longer p e) next (edges + counts.added - counts.removed)
next_version p parts next edges e counts v below short after moved =
    let done = did p parts next edges e counts v below after in
    let change = done.change in
    let table : IsTable (graph_of (longer p e)) next = subst (λ g. IsTable g next) (sym (graph_of-longer p e)) (after.table (graph_of p) (below_graph p e.batch below) v.table) in
    record {
      table = table;
      homes = next_home p parts next e v.homes table moved;
      edges_are = omega (arith, change);
      some = v.some;
      most = v.most;
      past = IsPast-longer p e v.past below;
      short = omega (arith, number_of-longer p e);
      epochs = v.epochs;
    }

-- what a batch made of a version's parts, as `with_batch` asks for it
pub made : (p : Past) (parts next : List Part) (edges : ℕ) (e : Entry) (counts : Counts) → IsVersion p parts edges → AreEditsBelow p.vertex_count e.batch → number_of p < 4096 → AreAfter e.batch parts next counts → AreMoved parts next → IsMade p e next counts
made p parts next edges e counts v below short after moved =
    let done = did p parts next edges e counts v below after in
    let few = done.few in
    let change = done.change in
    let so_far = few_edges p parts edges v in
    let edges_are = v.edges_are in
    record {
      gained = done.gained;
      lost = done.lost;
      room = short;
      few = omega (arith, few, so_far, edges_are);
      some = omega (arith, change, edges_are);
      version = subst (λ n. IsVersion (longer p e) next (n + counts.added - counts.removed)) edges_are (next_version p parts next edges e counts v below short after moved);
    }

-- a rebase has the same parts
pub rebased_version : (p : Past) (parts : List Part) (edges : ℕ) → IsVersion p parts edges → epoch_of p < MOST_EPOCHS → IsVersion (rebased p) parts edges
rebased_version p parts edges v room = record {
  table = subst (λ g. IsTable g parts) (sym (graph_of-rebased p v.past)) v.table;
  homes = λ w. v.homes w ∙ sym (home_of-rebased p w v.past);
  edges_are = v.edges_are ∙ ap edge_count (sym (graph_of-rebased p v.past));
  some = v.some;
  most = v.most;
  past = IsPast-rebased p v.past;
  short = omega arith;
  epochs = omega (arith, length_push p.marks (mark_of p.log));
}

-- and so has a branch
pub branched_version : (p : Past) (parts : List Part) (edges : ℕ) → IsVersion p parts edges → IsVersion (branched p) parts edges
branched_version p parts edges v = record {
  table = subst (λ g. IsTable g parts) (sym (graph_of-branched p v.past)) v.table;
  homes = λ w. v.homes w ∙ sym (home_of-branched p w v.past);
  edges_are = v.edges_are ∙ ap edge_count (sym (graph_of-branched p v.past));
  some = v.some;
  most = v.most;
  past = IsPast-branched p v.past;
  short = omega arith;
  epochs = omega arith;
}

-- these are the base of both
pub base_is : (p : Past) (parts : List Part) (edges : ℕ) → IsVersion p parts edges → base_in p.vertex_count parts ≡ base_of p
base_is p parts edges v = λ i. record {
  rows = map (λ w. list_is (graph_of p) parts v.table w i) (numbers_below p.vertex_count);
  homes = map (λ w. v.homes w i) (numbers_below p.vertex_count);
}

same_bool : (a b : Bool) → (a ≡ true → b ≡ true) → (b ≡ true → a ≡ true) → a ≡ b
same_bool true b to from = sym (to refl)
same_bool false true to from = from refl
same_bool false false to from = refl

-- a pair is an edge of a version where its target is among its source's neighbours
pub edge_listed : (p : Past) (u v : ℕ) (b : Bool) → (b ≡ true → Contains (neighbours (graph_of p) u) v) → (Contains (neighbours (graph_of p) u) v → b ≡ true) → b ≡ is_edge (graph_of p) u v
edge_listed p u v b to from =
    same_bool b (is_edge (graph_of p) u v) (λ t. is_edge-neighbour (graph_of p) u v (to t)) (λ e. from (neighbour-is_edge (graph_of p) u v e))

-- The homes of the lists of many parts, after edits.
use Rattle.std.proofs.Common.{◌≡◌, ℕ, zero, suc, ◌+◌, ◌/◌, ◌%◌, ◌<◌, List, [], ◌∷◌, ◌++◌, length, get_or, take, replicate, refl, sym, ap, subst, subst₂, ◌∙◌, inl, inr, arith}
use Rattle.std.specs.declared.sync.Arc.{Arc}
use Rattle.std.specs.declared.alloc.Global.{Global}
use Rattle.std.specs.Arc.{arc_value}
use Rattle.std.proofs.lemmas.Bool.{cases_lt}
use Rattle.std.proofs.lemmas.List.{get_or_past, get_or-replicate, length-replicate}
use Rattle.std.proofs.lemmas.List.Concat.{flat_map-cons}
use Rattle.std.proofs.Math.Seq.{take-suc}
use Rattle.past_model.specs.declared.home.Home.TheVariants.{Block}
use Rattle.graph_model.specs.Graph.{empty_graph}
use Rattle.past_model.specs.Homes.{home_after, IsHomeOf}
use Rattle.past_model.proofs.HomeLemmas.{homes_hold, homes_stay}
use Rattle.graph_model.proofs.Neighbours.{neighbours-empty_graph}
use Rattle.shards.specs.Part.{Part, row_at, home_at, vertex_at, AreHomes}
use Rattle.shard_table.specs.Table.{IsPartAt, part_at, home_in, AreMoved}
use Rattle.shard_table.specs.Blocks.{parts_in, AreInBlocks, AreHoused, IsRehoused, AreRehoused}
use Rattle.shard_table.proofs.BlockLemmas.{blocks_push}

abbrev Blocks : Type 0
Blocks = List (Arc (List Part) Global)

abbrev nothing : Part
nothing = record { range = 0; rows = []; homes = [] }

pub housed_at : (parts : List Part) (k : ℕ) → AreHoused parts → k < length parts → AreHomes (part_at parts k)
housed_at [] k housed h = absurd (omega arith)
housed_at (p ∷ ps) zero housed h = housed.0
housed_at (p ∷ ps) (suc k) housed h = housed_at ps k housed.1 (omega arith)

left_housed : (ps qs : List Part) → AreHoused (ps ++ qs) → AreHoused ps
left_housed [] qs housed = tt
left_housed (p ∷ ps) qs housed = (housed.0, left_housed ps qs housed.1)

right_housed : (ps qs : List Part) → AreHoused (ps ++ qs) → AreHoused qs
right_housed [] qs housed = housed
right_housed (p ∷ ps) qs housed = right_housed ps qs housed.1

-- the parts of a block of a table
pub block_housed : (blocks : Blocks) (i : ℕ) (d : Arc (List Part) Global) → AreHoused (parts_in blocks) → i < length blocks → AreHoused (arc_value (get_or blocks i d))
block_housed [] i d housed h = absurd (omega arith)
block_housed (block ∷ blocks) zero d housed h = left_housed (arc_value block) (parts_in blocks) (subst AreHoused (flat_map-cons arc_value block blocks) housed)
block_housed (block ∷ blocks) (suc i) d housed h = block_housed blocks i d (right_housed (arc_value block) (parts_in blocks) (subst AreHoused (flat_map-cons arc_value block blocks) housed)) (omega arith)

-- ---- parts that stay, and parts after edits

pub part_stays : (p : Part) → AreHomes p → IsRehoused p p
part_stays p are = record {
  count = refl;
  homes = record { count = refl; each = λ i h. sym (homes_stay (home_at p i) (length (row_at p i)) (are.each i h)) };
}

pub parts_stay : (ps : List Part) → AreHoused ps → AreRehoused ps ps
parts_stay [] housed = tt
parts_stay (p ∷ ps) housed = (part_stays p housed.0, parts_stay ps housed.1)

pub rehoused_append : (ps qs more after : List Part) → AreRehoused ps qs → AreRehoused more after → AreRehoused (ps ++ more) (qs ++ after)
rehoused_append [] [] more after first last = last
rehoused_append [] (q ∷ qs) more after first last = absurd first
rehoused_append (p ∷ ps) [] more after first last = absurd first
rehoused_append (p ∷ ps) (q ∷ qs) more after first last = (first.0, rehoused_append ps qs more after first.1 last)

-- one part more
pub rehoused_next : (parts next : List Part) (k : ℕ) (q : Part) → k < length parts → AreRehoused (take k parts) next → IsRehoused (part_at parts k) q → AreRehoused (take (k + 1) parts) (next ++ q ∷ [])
rehoused_next parts next k q h so_far one =
    let more : suc k ≡ k + 1 = omega arith in
    subst (λ l. AreRehoused l (next ++ q ∷ [])) (sym (take-suc parts k nothing h) ∙ ap (λ n. take n parts) more)
    (rehoused_append (take k parts) next (part_at parts k ∷ []) (q ∷ []) so_far (one, tt))

-- and one block more
pub rehoused_block : (old new : Blocks) (i : ℕ) (block d : Arc (List Part) Global) → i < length old → AreRehoused (parts_in (take i old)) (parts_in new) → AreRehoused (arc_value (get_or old i d)) (arc_value block) → AreRehoused (parts_in (take (i + 1) old)) (parts_in (new ++ block ∷ []))
rehoused_block old new i block d h so_far one =
    let more : suc i ≡ i + 1 = omega arith in
    subst₂ AreRehoused (sym (blocks_push (take i old) (get_or old i d)) ∙ ap parts_in (sym (take-suc old i d h) ∙ ap (λ n. take n old) more)) (sym (blocks_push new block))
    (rehoused_append (parts_in (take i old)) (parts_in new) (arc_value (get_or old i d)) (arc_value block) so_far one)

-- ---- where they are from then on

housed_part : (p q : Part) → AreHomes p → IsRehoused p q → AreHomes q
housed_part p q are after = record {
  count = after.homes.count ∙ are.count ∙ sym after.count;
  each = λ i h. subst (λ home. IsHomeOf home (length (row_at q i))) (sym (after.homes.each i h)) (homes_hold (home_at p i) (length (row_at q i)));
}

pub housed_after : (ps qs : List Part) → AreHoused ps → AreRehoused ps qs → AreHoused qs
housed_after [] [] housed after = tt
housed_after [] (q ∷ qs) housed after = absurd after
housed_after (p ∷ ps) [] housed after = absurd after
housed_after (p ∷ ps) (q ∷ qs) housed after = (housed_part p q housed.0 after.0, housed_after ps qs housed.1 after.1)

moved_at : (p q : Part) (i : ℕ) → AreHomes p → IsRehoused p q → home_at q i ≡ home_after (home_at p i) (length (row_at q i))
moved_at p q i are after = elim (cases_lt i (length q.homes)) [
  | inl lt ↦ after.homes.each i lt
  | inr ge ↦ (
      let count = after.count in
      let homes = after.homes.count in
      let own = are.count in
      get_or_past q.homes i Block ge
      ∙ ap (λ row. home_after Block (length {A = ℕ} row)) (sym (get_or_past q.rows i [] (omega (arith, count, homes, own, ge))))
      ∙ ap (λ home. home_after home (length (row_at q i))) (sym (get_or_past p.homes i Block (omega (arith, homes, ge)))))
]

moved_in : (ps qs : List Part) (range i : ℕ) → AreHoused ps → AreRehoused ps qs → home_at (part_at qs range) i ≡ home_after (home_at (part_at ps range) i) (length (row_at (part_at qs range) i))
moved_in [] [] range i housed after = refl
moved_in [] (q ∷ qs) range i housed after = absurd after
moved_in (p ∷ ps) [] range i housed after = absurd after
moved_in (p ∷ ps) (q ∷ qs) zero i housed after = moved_at p q i housed.0 after.0
moved_in (p ∷ ps) (q ∷ qs) (suc range) i housed after = moved_in ps qs range i housed.1 after.1

pub all_rehoused : (ps qs : List Part) → AreHoused ps → AreRehoused ps qs → AreMoved ps qs
all_rehoused ps qs housed after = λ v. moved_in ps qs (v / 256) (v % 256) housed after

-- ---- the first table

pub in_blocks_more : (ps : List Part) (p : Part) → AreInBlocks ps → p.homes ≡ replicate (length p.rows) Block → AreInBlocks (ps ++ p ∷ [])
in_blocks_more [] p are is = (is, tt)
in_blocks_more (first ∷ ps) p are is = (are.0, in_blocks_more ps p are.1 is)

in_block : (p : Part) (i : ℕ) → p.homes ≡ replicate (length p.rows) Block → home_at p i ≡ Block
in_block p i is = ap (λ homes. get_or homes i Block) is ∙ elim (cases_lt i (length p.rows)) [
  | inl lt ↦ get_or-replicate (length p.rows) i Block Block lt
  | inr ge ↦ get_or_past (replicate (length p.rows) Block) i Block (omega (arith, ge, length-replicate (length p.rows) Block))
]

block_at : (ps : List Part) (range i : ℕ) → AreInBlocks ps → home_at (part_at ps range) i ≡ Block
block_at [] range i are = refl
block_at (p ∷ ps) zero i are = in_block p i are.0
block_at (p ∷ ps) (suc range) i are = block_at ps range i are.1

pub all_in_blocks : (ps : List Part) → AreInBlocks ps → (v : ℕ) → home_in ps v ≡ Block
all_in_blocks ps are v = block_at ps (v / 256) (v % 256) are

-- a part of a graph without an edge has room for its lists
empty_housed : (n range : ℕ) (p : Part) → IsPartAt (empty_graph n) range p → p.homes ≡ replicate (length p.rows) Block → AreHomes p
empty_housed n range p is homes = record {
  count = ap length homes ∙ length-replicate (length p.rows) Block;
  each = λ i h. (
      let inside : i < length p.rows = omega (arith, h, ap length homes, length-replicate (length p.rows) Block) in
      let none : length (row_at p i) ≡ 0 = ap length (is.part.each i inside ∙ neighbours-empty_graph n (vertex_at p i)) in
      subst (λ home. IsHomeOf home (length (row_at p i))) (sym (in_block p i homes)) (omega (arith, none)));
}

pub empty_parts_housed : (n from : ℕ) (ps : List Part) → ((k : ℕ) → k < length ps → IsPartAt (empty_graph n) (from + k) (part_at ps k)) → AreInBlocks ps → AreHoused ps
empty_parts_housed n from [] each are = tt
empty_parts_housed n from (p ∷ ps) each are = (
  empty_housed n (from + 0) p (each 0 (omega arith)) are.0,
  empty_parts_housed n (from + 1) ps (λ k h. (let next : from + suc k ≡ from + 1 + k = omega arith in subst (λ r. IsPartAt (empty_graph n) r (part_at ps k)) next (each (suc k) (omega arith)))) are.1,
)

-- A table of parts: the first one, its blocks, and a vertex's part in it.
use Rattle.std.proofs.Common.{◌≡◌, ℕ, ◌+◌, ◌-◌, ◌*◌, ◌/◌, ◌<◌, ◌≤◌, min, List, [], ◌∷◌, ◌++◌, length, get_or, replicate, refl, sym, subst, ◌∙◌, inl, inr, arith}
use Rattle.std.specs.declared.sync.Arc.{Arc}
use Rattle.std.specs.declared.alloc.Global.{Global}
use Rattle.std.specs.Arc.{arc_value}
use Rattle.std.proofs.lemmas.Bool.{cases_lt}
use Rattle.std.proofs.lemmas.List.{length_push, get_or_append_left, get_or_push, get_or-replicate, length-replicate, get_or-map, map_push, map-append}
use Rattle.past_model.specs.declared.limits.TheConstants.{MOST_VERTICES, MOST_RANGES}
use Rattle.past_model.specs.declared.home.Home.TheVariants.{Block}
use Rattle.graph_model.specs.Graph.{Graph, empty_graph}
use Rattle.graph_model.proofs.Neighbours.{neighbours-empty_graph}
use Rattle.shards.specs.Part.{Part}
use Rattle.shard_table.specs.Table.{IsTable, IsPartAt, parts_of, part_at}

abbrev nothing : Part
nothing = record { range = 0; rows = []; homes = [] }

-- one part more of a graph without an edge
pub empty_part : (n range : ℕ) (parts : List Part) (p : Part) → 256 * range < n → length parts ≡ range → ((r : ℕ) → r < length parts → IsPartAt (empty_graph n) r (part_at parts r)) → p ≡ record { range = range; rows = replicate (min 256 (n - 256 * range)) []; homes = replicate (min 256 (n - 256 * range)) Block }
    → (r : ℕ) → r < length (parts ++ p ∷ []) → IsPartAt (empty_graph n) r (part_at (parts ++ p ∷ []) r)
empty_part n range parts p some long so_far is r h =
    elim (cases_lt r (length parts)) [
      | inl lt ↦ subst (IsPartAt (empty_graph n) r) (sym (get_or_append_left parts (p ∷ []) nothing r lt)) (so_far r lt)
      | inr ge ↦ (
          let same : length parts ≡ r = omega (arith, length_push parts p) in
          let size : length {A = List ℕ} (replicate (min 256 (n - 256 * range)) []) ≡ min 256 (n - 256 * range) = length-replicate (min 256 (n - 256 * range)) [] in
          subst (IsPartAt (empty_graph n) r) (sym (get_or_push parts p nothing r same ∙ is))
          (subst (λ k. IsPartAt (empty_graph n) k (record { range = range; rows = replicate (min 256 (n - 256 * range)) []; homes = replicate (min 256 (n - 256 * range)) Block })) (sym long ∙ same) record {
            number = refl;
            size = size;
            part = record {
              within = omega (arith, size);
              each = λ i low. get_or-replicate (min 256 (n - 256 * range)) i [] [] (omega (arith, size)) ∙ sym (neighbours-empty_graph n (256 * range + i));
            };
          }))
    ]

-- and they are all
pub empty_table : (n : ℕ) (parts : List Part) → 1 ≤ n → length parts ≡ (n - 1) / 256 + 1 → ((r : ℕ) → r < length parts → IsPartAt (empty_graph n) r (part_at parts r)) → IsTable (empty_graph n) parts
empty_table n parts some long each = record {
  ranges = λ r. (λ h. omega (arith, long), λ h. omega (arith, long));
  each = each;
}

-- a shard more in a table is a part more
pub parts_push : (shards : List (Arc Part Global)) (shard : Arc Part Global) → parts_of (shards ++ shard ∷ []) ≡ parts_of shards ++ arc_value shard ∷ []
parts_push shards shard = map_push arc_value shards shard

-- the part that a shard of a list shows
pub shown_part : (shards : List (Arc Part Global)) (k : ℕ) (d : Arc Part Global) → k < length shards → arc_value (get_or shards k d) ≡ part_at (parts_of shards) k
shown_part shards k d h = sym (get_or-map arc_value shards k d nothing h)

-- ---- a vertex's shard

pub range_past : (g : Graph) (parts : List Part) (range : ℕ) → IsTable g parts → length parts ≤ range → g.vertex_count ≤ 256 * range
range_past g parts range table past =
    let outside : 256 * range < g.vertex_count → ⊥ = λ h. (let within = (table.ranges range).1 h in omega arith) in
    omega (arith, outside)

pub parts_append : (xs ys : List (Arc Part Global)) → parts_of (xs ++ ys) ≡ parts_of xs ++ parts_of ys
parts_append xs ys = map-append arc_value xs ys

-- a table of a graph that is no larger than one may be has few parts
pub few_parts : (g : Graph) (parts : List Part) → IsTable g parts → g.vertex_count ≤ MOST_VERTICES → length parts ≤ MOST_RANGES
few_parts g parts table small =
    elim (cases_lt 0 (length parts)) [
      | inl some ↦ (let last = (table.ranges (length parts - 1)).0 (omega arith) in omega arith)
      | inr none ↦ omega arith
    ]

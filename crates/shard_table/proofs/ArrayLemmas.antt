-- A table whose lists stand in sorted arrays.
use Rattle.std.proofs.Common.{◌≡◌, ℕ, suc, ◌+◌, ◌-◌, ◌*◌, ◌/◌, ◌%◌, ◌<◌, ◌≤◌, min, List, [], ◌∷◌, ◌++◌, length, refl, sym, ap, subst, ◌∙◌, inl, inr, arith}
use Rattle.std.proofs.lemmas.Bool.{cases_lt}
use Rattle.std.proofs.lemmas.List.{length_push, get_or_append_left, get_or_push, get_or_past}
use Rattle.past_model.specs.declared.limits.TheConstants.{MOST_VERTICES, MOST_RANGES}
use Rattle.past_model.specs.declared.home.Home.TheVariants.{Block}
use Rattle.graph_model.specs.Graph.{Graph}
use Rattle.shards.specs.Arrays.{list_of, first_home, rows_from, homes_from, part_from}
use Rattle.shards.specs.Part.{Part, AreHomes, home_at}
use Rattle.shards.proofs.ArrayLemmas.{length-from, at_from, length-part_from, homes_of_part}
use Rattle.shard_table.specs.Arrays.{ArePartsOf, AreListsOf}
use Rattle.shard_table.specs.Blocks.{AreHoused}
use Rattle.shard_table.specs.Table.{IsTable, IsPartAt, part_at, home_in}

abbrev nothing : Part
nothing = record { range = 0; rows = []; homes = [] }

abbrev size_at : ℕ → ℕ → ℕ
size_at n range = min 256 (n - 256 * range)

pub part_more : (starts targets : List ℕ) (n range : ℕ) (parts : List Part) (p : Part) → length parts ≡ range → ((r : ℕ) → r < length parts → part_at parts r ≡ part_from starts targets r (size_at n r)) → p ≡ part_from starts targets range (size_at n range)
    → (r : ℕ) → r < length (parts ++ p ∷ []) → part_at (parts ++ p ∷ []) r ≡ part_from starts targets r (size_at n r)
part_more starts targets n range parts p long so_far is r h =
    elim (cases_lt r (length parts)) [
      | inl lt ↦ get_or_append_left parts (p ∷ []) nothing r lt ∙ so_far r lt
      | inr ge ↦ (
          let same : length parts ≡ r = omega (arith, length_push parts p) in
          get_or_push parts p nothing r same ∙ is ∙ ap (λ k. part_from starts targets k (size_at n k)) (sym long ∙ same))
    ]

pub parts_from : (starts targets : List ℕ) (n : ℕ) (parts : List Part) → 1 ≤ n → length parts ≡ (n - 1) / 256 + 1 → ((r : ℕ) → r < length parts → part_at parts r ≡ part_from starts targets r (size_at n r)) → ArePartsOf starts targets n parts
parts_from starts targets n parts some long each = record {
  ranges = λ r. (λ h. omega (arith, long), λ h. omega (arith, long));
  each = each;
}

pub parts_few : (starts targets : List ℕ) (n : ℕ) (parts : List Part) → ArePartsOf starts targets n parts → n ≤ MOST_VERTICES → length parts ≤ MOST_RANGES
parts_few starts targets n parts are small =
    elim (cases_lt 0 (length parts)) [
      | inl some ↦ (let last = (are.ranges (length parts - 1)).0 (omega arith) in omega arith)
      | inr none ↦ omega arith
    ]

pub table_from : (g : Graph) (starts targets : List ℕ) (n : ℕ) (parts : List Part) → length starts ≡ n + 1 → ArePartsOf starts targets n parts → AreListsOf g starts targets → IsTable g parts
table_from g starts targets n parts long are own =
    let same : n ≡ g.vertex_count = omega (arith, long, own.count) in
    record {
      ranges = λ r. (
        λ h. (let low = (are.ranges r).0 h in omega (arith, low, same)),
        λ h. (are.ranges r).1 (omega (arith, h, same)),
      );
      each = λ r h. (
          let size : ℕ = size_at n r in
          let low = (are.ranges r).0 h in
          let rows : length (rows_from starts targets (256 * r) size) ≡ size = length-part_from starts targets r size in
          subst (IsPartAt g r) (sym (are.each r h)) record {
            number = refl;
            size = rows ∙ ap (λ k. min 256 (k - 256 * r)) same;
            part = record {
              within = omega (arith, rows, low, same);
              each = λ i inside. (
                  let low_i : i < size = omega (arith, inside, rows) in
                  at_from (list_of starts targets) (256 * r) size i [] low_i ∙ sym (own.each (256 * r + i) (omega (arith, low_i, low, same))));
            };
          });
    }

all_housed : (parts : List Part) → ((k : ℕ) → k < length parts → AreHomes (part_at parts k)) → AreHoused parts
all_housed [] each = tt
all_housed (p ∷ ps) each = (each 0 (omega arith), all_housed ps (λ k h. each (suc k) (omega arith)))

pub parts_housed : (starts targets : List ℕ) (n : ℕ) (parts : List Part) → ArePartsOf starts targets n parts → AreHoused parts
parts_housed starts targets n parts are = all_housed parts (λ k h. subst AreHomes (sym (are.each k h)) (homes_of_part starts targets k (size_at n k)))

pub home_from : (starts targets : List ℕ) (n : ℕ) (parts : List Part) (v : ℕ) → ArePartsOf starts targets n parts → v < n → home_in parts v ≡ first_home (list_of starts targets v)
home_from starts targets n parts v are below =
    let here : v / 256 < length parts = (are.ranges (v / 256)).1 (omega arith) in
    let whole : 256 * (v / 256) + v % 256 ≡ v = omega arith in
    ap (λ (p : Part). home_at p (v % 256)) (are.each (v / 256) here)
    ∙ at_from (λ w. first_home (list_of starts targets w)) (256 * (v / 256)) (size_at n (v / 256)) (v % 256) Block (omega arith)
    ∙ ap (λ w. first_home (list_of starts targets w)) whole

pub home_past : (starts targets : List ℕ) (n : ℕ) (parts : List Part) (v : ℕ) → ArePartsOf starts targets n parts → n ≤ v → home_in parts v ≡ Block
home_past starts targets n parts v are past = elim (cases_lt (v / 256) (length parts)) [
  | inl here ↦ (
      let size : ℕ = size_at n (v / 256) in
      let homes : length (homes_from starts targets (256 * (v / 256)) size) ≡ size = length-from (λ w. first_home (list_of starts targets w)) (256 * (v / 256)) size in
      ap (λ (p : Part). home_at p (v % 256)) (are.each (v / 256) here) ∙ get_or_past (homes_from starts targets (256 * (v / 256)) size) (v % 256) Block (omega (arith, homes)))
  | inr none ↦ ap (λ (p : Part). home_at p (v % 256)) (get_or_past parts (v / 256) nothing none)
]

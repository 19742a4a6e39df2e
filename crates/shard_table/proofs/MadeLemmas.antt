-- Edited shards, put in one after another.
use Rattle.std.proofs.Common.{◌≡◌, ℕ, zero, suc, ◌+◌, ◌*◌, ◌<◌, ◌≤◌, List, [], ◌∷◌, length, get_or, nat_lt, true, false, refl, sym, ap, subst, subst₂, ◌∙◌, inl, inr, arith}
use Rattle.std.specs.Borrow.{Bor}
use Rattle.std.specs.declared.sync.Arc.{Arc}
use Rattle.std.specs.declared.alloc.Global.{Global}
use Rattle.std.proofs.lemmas.Bool.{cases_lt, cases_Bool, lt-ltb, true≢false}
use Rattle.std.proofs.lemmas.List.{length-map, get_or-map}
use Rattle.std.specs.Arc.{arc_value}
use Rattle.past_model.specs.declared.edit.Edit.{Edit}
use Rattle.graph_model.specs.Graph.{Graph}
use Rattle.shards.specs.declared.groups.Grouping.TheVariants.{ByRange}
use Rattle.shards.specs.declared.edited_shard.EditedShard.{EditedShard}
use Rattle.shards.specs.Groups.{Grouped, edits_of, is_filled, filled_below}
use Rattle.shards.specs.Part.{Part, IsPartAfter, AreCounts, AreHomesAfter}
use Rattle.shard_table.specs.Table.{IsTable, part_at}
use Rattle.shard_table.specs.Made.{IsMade, AreMade, IsNoneBelow}
use Rattle.shard_table.proofs.RangeLemmas.{range_edits}
use Rattle.shards.specs.Pages.{AreFull}
use Rattle.shard_table.specs.Blocks.{parts_in, sizes_of}
use Rattle.shard_table.proofs.BlockLemmas.{part_in_block, part_inside}
use Rattle.shards.proofs.FilledLemmas.{filled_is, none_between}

abbrev Blocks : Type 0
Blocks = List (Arc (List Part) Global)

-- the edits of a group are those of a range
pub edits_in : (groups : Grouped) → groups.grouping ≡ ByRange → (range : ℕ) → edits_of groups range ≡ range_edits groups.count groups.edits range
edits_in groups by_range range = ap (λ k. edits_of record { grouping = k; count = groups.count; edits = groups.edits } range) by_range

-- the next one is of the next shard that is edited
pub next_made : (groups : Grouped) (shards : List Part) (made : List (Bor EditedShard)) (first place next : ℕ) → AreMade groups first shards made → place < length shards → (edits_of groups (first + place) ≡ [] → ⊥) → next ≡ length (filled_below groups (first + place))
    → (next < length made) × ((d : Bor EditedShard) → IsMade (part_at shards place) (edits_of groups (first + place)) (get_or made next d).now)
next_made groups shards made first place next all h some is =
    subst (λ n. (n < length made) × ((d : Bor EditedShard) → IsMade (part_at shards place) (edits_of groups (first + place)) (get_or made n d).now)) (sym is) (all place h (filled_is groups (first + place) some))

-- an edited shard that there is
one_of : {A : Type 0} (xs : List A) → 0 < length xs → A
one_of [] some = absurd (omega arith)
one_of (x ∷ xs) some = x

-- a group that is not filled has no edit
unfilled : (l : List Edit) → nat_lt 0 (length l) ≡ false → l ≡ []
unfilled [] none = refl
unfilled (x ∷ xs) none = absurd (true≢false (sym (lt-ltb 0 (suc (length xs)) (omega arith)) ∙ none))

-- where the next one is of no range up to one, that range has no edit if none before it has
next_none : (k : ℕ) (groups : Grouped) (g : Graph) (parts : List Part) (made : List (Bor EditedShard)) (first next : ℕ) → IsTable g parts → AreMade groups 0 parts made → next ≡ length (filled_below groups first) → first + suc k ≤ length parts → IsNoneBelow made next (first + suc k)
    → ((range : ℕ) → first ≤ range → range < first + k → edits_of groups range ≡ []) → edits_of groups (first + k) ≡ []
next_none k groups g parts made first next table all is within past before =
    elim (cases_Bool (is_filled groups (first + k))) [
      | inl some ↦ (
          let zero_is : 0 + (first + k) ≡ first + k = omega arith in
          let fact = all (first + k) (omega arith) (subst (λ r. is_filled groups r ≡ true) (sym zero_is) some) in
          let place : length (filled_below groups (0 + (first + k))) ≡ next = ap (λ r. length (filled_below groups r)) zero_is ∙ ap length (none_between k groups first before) ∙ sym is in
          let inside : next < length made = omega (arith, place, fact.0) in
          let d = one_of made (omega arith) in
          let far = past inside d in
          let own : (arc_value (get_or made next d).now.shard).range ≡ first + k = subst (λ n. (arc_value (get_or made n d).now.shard).range ≡ first + k) place ((fact.1 d).after.range ∙ (table.each (first + k) (omega arith)).number) in
          absurd (omega arith))
      | inr none ↦ unfilled (edits_of groups (first + k)) none
    ]

-- so none of the ranges up to an end has an edit where it is of no range below that
pub none_made : (k : ℕ) (groups : Grouped) (g : Graph) (parts : List Part) (made : List (Bor EditedShard)) (first next : ℕ) → IsTable g parts → AreMade groups 0 parts made → next ≡ length (filled_below groups first) → first + k ≤ length parts → IsNoneBelow made next (first + k)
    → (range : ℕ) → first ≤ range → range < first + k → edits_of groups range ≡ []
none_made zero groups g parts made first next table all is within past = λ range low high. absurd (omega arith)
none_made (suc k) groups g parts made first next table all is within past =
    λ range low high.
    let before = none_made k groups g parts made first next table all is (omega arith) (λ inside d. (let far = past inside d in omega arith)) in
    elim (cases_lt range (first + k)) [
      | inl lt ↦ before range low lt
      | inr ge ↦ (let same : first + k ≡ range = omega arith in subst (λ r. edits_of groups r ≡ []) same (next_none k groups g parts made first next table all is within past before))
    ]

-- what was done to it
pub done_to : (groups : Grouped) (range : ℕ) (p : Part) (e : EditedShard) → groups.grouping ≡ ByRange → IsMade p (edits_of groups range) e
    → IsPartAfter (range_edits groups.count groups.edits range) p (arc_value e.shard) × AreCounts (range_edits groups.count groups.edits range) p e.counts × AreHomesAfter p (arc_value e.shard)
done_to groups range p e by_range made =
    let own = edits_in groups by_range range in (
      subst (λ es. IsPartAfter es p (arc_value e.shard)) own made.after,
      subst (λ es. AreCounts es p e.counts) own made.counted,
      made.homes,
    )

-- the shards of a block, among all
pub block_made : (w : ℕ) (groups : Grouped) (made : List (Bor EditedShard)) (blocks : Blocks) (n : ℕ) (d : Arc (List Part) Global) (shards : List Part) → AreFull w (sizes_of blocks) → n < length blocks → shards ≡ arc_value (get_or blocks n d) → AreMade groups 0 (parts_in blocks) made → AreMade groups (w * n) shards made
block_made w groups made blocks n d shards full h is all =
    λ k within some.
    let at : k < length (arc_value (get_or blocks n d)) = subst (λ l. k < length l) is within in
    let place : 0 + (w * n + k) ≡ w * n + k = omega arith in
    let fact = all (w * n + k) (part_inside w blocks n k d full h at) (subst (λ r. is_filled groups r ≡ true) (sym place) some) in
    subst₂ (λ p r. (length (filled_below groups r) < length made) × ((e : Bor EditedShard) → IsMade p (edits_of groups r) (get_or made (length (filled_below groups r)) e).now)) (part_in_block w blocks n k d full h at ∙ ap (λ l. part_at l k) (sym is)) place fact

-- a block before the last has all its shards
pub full_block : (w : ℕ) (blocks : Blocks) (i : ℕ) (d : Arc (List Part) Global) → AreFull w (sizes_of blocks) → i + 1 < length blocks → length (arc_value (get_or blocks i d)) ≡ w
full_block w blocks i d full more =
    sym (get_or-map (λ block. length (arc_value block)) blocks i d 0 (omega arith))
    ∙ full.full i (omega (arith, length-map blocks (λ block. length (arc_value block))))

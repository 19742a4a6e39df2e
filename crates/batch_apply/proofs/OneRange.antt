-- Edits that are all of one range: they are its group, and no other group has an edit.
use Rattle.std.proofs.Common.{◌≡◌, ◌≢◌, ◌==◌, ℕ, ◌+◌, ◌/◌, ◌<◌, ◌≤◌, true, List, [], ◌∷◌, length, get_or, All, Bor, sym, ap, subst, ◌∙◌, inl, inr, arith}
use Rattle.std.specs.List.{AllByRecursion}
use Rattle.std.proofs.lemmas.Bool.{cases_lt, true≢false}
use Rattle.std.proofs.lemmas.List.Elements.{All-weaker}
use Rattle.past_model.specs.declared.limits.TheConstants.{MOST_VERTICES}
use Rattle.past_model.specs.declared.edit.Edit.{Edit}
use Rattle.past_model.specs.Edits.{source_of, AreEditsBelow}
use Rattle.graph_model.specs.Graph.{Graph}
use Rattle.shards.specs.declared.edited_shard.EditedShard.{EditedShard}
use Rattle.shards.specs.Groups.{is_filled, edits_of, filled_below}
use Rattle.shards.specs.Part.{Part, AreEditsOf}
use Rattle.shard_table.specs.Table.{IsTable, part_at}
use Rattle.shard_table.specs.Made.{IsMade, AreMade}
use Rattle.shards.proofs.FilledLemmas.{empty_is, none_between}
use Rattle.shard_table.proofs.RangeLemmas.{in_ranges, range_own}
use Rattle.batch_apply.specs.Splits.{AreOfRange, range_of, edits_in, by_ranges}
use Rattle.batch_apply.proofs.Cuts.{none_in, each_in}

-- the range is one of the graph's
first_inside : (es : List Edit) (n range : ℕ) → AllByRecursion (λ e. source_of e / 256 < n) es → AreOfRange range es → range < n
first_inside [] n range inside own = (let some = own.some in absurd (omega arith))
first_inside (e ∷ es) n range inside own =
    let first : range_of e ≡ range = own.own 0 e (omega arith) in
    let below = inside.0 in
    omega arith

pub range_inside : (g : Graph) (parts : List Part) (es : List Edit) (range : ℕ) → IsTable g parts → AreEditsBelow g.vertex_count es → AreOfRange range es → range < length parts
range_inside g parts es range table below own = first_inside es (length parts) range (in_ranges g parts es table below) own

-- they are edits of its part
pub own_edits : (g : Graph) (parts : List Part) (es : List Edit) (range : ℕ) → g.vertex_count ≤ MOST_VERTICES → IsTable g parts → AreEditsBelow g.vertex_count es → AreOfRange range es → AreEditsOf (part_at parts range) es
own_edits g parts es range small table below own =
    subst (AreEditsOf (part_at parts range)) (each_in es range own.own)
    (range_own g (part_at parts range) 0 es range small (table.each range (range_inside g parts es range table below own)) below)

-- no other range has one
others_empty : (count : ℕ) (es : List Edit) (range group : ℕ) → AreOfRange range es → (range ≡ group → ⊥) → edits_of (by_ranges count es) group ≡ []
others_empty count es range group own other =
    none_in es group (All-weaker (λ e. range_of e ≡ range) (λ e. range_of e ≢ group) (λ e is same. other (sym is ∙ same)) es own.own)

filled_own : (count : ℕ) (es : List Edit) (range group : ℕ) → AreOfRange range es → is_filled (by_ranges count es) group ≡ true → range ≡ group
filled_own count es range group own some =
    let not_empty : (range ≡ group → ⊥) → ⊥ = λ other. true≢false (sym some ∙ empty_is (by_ranges count es) group (others_empty count es range group own other)) in
    elim (cases_lt range group) [
      | inl lt ↦ absurd (not_empty (λ same. absurd (omega arith)))
      | inr ge ↦ elim (cases_lt group range) [
        | inl gt ↦ absurd (not_empty (λ same. absurd (omega arith)))
        | inr le ↦ omega arith
      ]
    ]

-- so the shard that was made of them is all that was made
pub one_made : (count : ℕ) (es : List Edit) (parts : List Part) (range : ℕ) (made : List (Bor EditedShard)) (e : Bor EditedShard) → AreOfRange range es → made ≡ e ∷ [] → IsMade (part_at parts range) es e.now → AreMade (by_ranges count es) 0 parts made
one_made count es parts range made e own is fact =
    λ k within some.
    let g = by_ranges count es in
    let here : range ≡ 0 + k = filled_own count es range (0 + k) own some in
    let same : range ≡ k = omega arith in
    let first : length (filled_below g (0 + k)) ≡ 0 = ap length (none_between k g 0 (λ group low high. others_empty count es range group own (λ is. absurd (omega arith)))) in
    let all : edits_of g (0 + k) ≡ es = ap (edits_of g) (sym here) ∙ each_in es range own.own in (
      omega (arith, first, ap length is),
      λ d. (
          let at : get_or made (length (filled_below g (0 + k))) d ≡ e = ap (λ n. get_or made n d) first ∙ ap (λ l. get_or l 0 d) is in
          subst (λ (b : Bor EditedShard). IsMade (part_at parts k) (edits_of g (0 + k)) b.now) (sym at)
          (subst (λ es'. IsMade (part_at parts k) es' e.now) (sym all) (subst (λ r. IsMade (part_at parts r) es e.now) same fact))),
    )

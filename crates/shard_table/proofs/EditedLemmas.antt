-- Parts of some ranges under edit, one part or one block after another.
use Rattle.std.proofs.Common.{◌≡◌, ℕ, suc, ◌+◌, ◌-◌, ◌*◌, ◌^◌, ◌<◌, ◌≤◌, Bool, List, [], ◌∷◌, ◌++◌, length, refl, sym, ap, ap₂, subst, inl, inr, le_trans, mul-le-mul, length-append, add-zero, arith}
use Rattle.std.proofs.lemmas.Bool.{cases_lt}
use Rattle.std.proofs.lemmas.List.{get_or_append_left, get_or-append_right}
use Rattle.past_model.specs.declared.limits.TheConstants.{MOST_VERTICES}
use Rattle.past_model.specs.declared.edit.Edit.{Edit}
use Rattle.graph_model.specs.Graph.{Graph, count_pairs}
use Rattle.past_model.specs.Edits.{after_batch, added, removed, AreEditsBelow}
use Rattle.graph_model.proofs.Pairs.{count_pairs-le}
use Rattle.shards.specs.declared.counts.Counts.{Counts}
use Rattle.shards.specs.Part.{Part, IsPart, IsPartAfter, AreCounts}
use Rattle.shard_table.specs.Table.{IsTable, IsPartAt, AreAfter, part_at}
use Rattle.shards.specs.Begun.{is_new, is_gone}
use Rattle.shard_table.specs.Blocks.{ArePartsFrom, AreEdited, vertices_in, count_in}
use Rattle.shards.proofs.PartLemmas.{count_none}
use Rattle.shard_table.proofs.RangeLemmas.{range_edits, range_below, part_after, range_gained, range_lost, no_edit, same_part}

abbrev nothing : Part
nothing = record { range = 0; rows = []; homes = [] }

abbrev pub none : Counts
none = record { added = 0; removed = 0 }

abbrev pub sum_of : Counts → Counts → Counts
sum_of c d = record { added = c.added + d.added; removed = c.removed + d.removed }

-- no part yet
pub none_edited : (es : List Edit) (g : Graph) (first : ℕ) → AreEdited es g first [] none
none_edited es g first = record {
  each = λ k h. absurd (omega arith);
  gained = omega (arith, ap (λ r. count_in g r (is_new es g)) (add-zero first));
  lost = omega (arith, ap (λ r. count_in g r (is_gone es g)) (add-zero first));
}

-- the part of one range
pub one_edited : (es : List Edit) (g : Graph) (p q : Part) (more : Counts) (count range : ℕ) → IsPartAt g range p → 256 * range < g.vertex_count → q.range ≡ p.range → length q.rows ≡ length p.rows → IsPart (after_batch (range_edits count es range) g) q
    → more.added ≡ added (range_edits count es range) g → more.removed ≡ removed (range_edits count es range) g → AreEdited es g range (q ∷ []) more
one_edited es g p q more count range at inside number size part gained lost = record {
  each = λ k h. (let zero_is : 0 ≡ k = omega arith in
      subst (λ k. IsPartAt (after_batch es g) (range + k) (part_at (q ∷ []) k)) zero_is (subst (λ r. IsPartAt (after_batch es g) r q) (sym (add-zero range)) (part_after g p q count es range at number size part)));
  gained = omega (arith, gained, range_gained count es g range inside);
  lost = omega (arith, lost, range_lost count es g range inside);
}

-- parts, and parts after them
pub more_edited : (es : List Edit) (g : Graph) (first : ℕ) (parts rest : List Part) (counts more : Counts) → AreEdited es g first parts counts → AreEdited es g (first + length parts) rest more → AreEdited es g first (parts ++ rest) (sum_of counts more)
more_edited es g first parts rest counts more before behind =
    let long = length-append parts rest in
    let new = before.gained in
    let gone = before.lost in
    let more_new = behind.gained in
    let more_gone = behind.lost in
    let end : first + length parts + length rest ≡ first + length (parts ++ rest) = omega (arith, long) in
    record {
      each = λ k h. elim (cases_lt k (length parts)) [
        | inl lt ↦ subst (IsPartAt (after_batch es g) (first + k)) (sym (get_or_append_left parts rest nothing k lt)) (before.each k lt)
        | inr ge ↦ (
            let place : k - length parts < length rest = omega (arith, long, h, ge) in
            let range : first + length parts + (k - length parts) ≡ first + k = omega (arith, ge) in
            subst (λ q. IsPartAt (after_batch es g) (first + k) q) (sym (get_or-append_right parts rest (length parts) k nothing refl ge))
            (subst (λ r. IsPartAt (after_batch es g) r (part_at rest (k - length parts))) range (behind.each (k - length parts) place)))
      ];
      gained = omega (arith, new, more_new, ap (λ r. count_in g r (is_new es g)) end);
      lost = omega (arith, gone, more_gone, ap (λ r. count_in g r (is_gone es g)) end);
    }

-- parts that nothing was done to after others
pub same_counts : (es : List Edit) (g : Graph) (first : ℕ) (parts : List Part) (counts : Counts) → AreEdited es g first parts (sum_of counts none) → AreEdited es g first parts counts
same_counts es g first parts counts done = subst (AreEdited es g first parts) (ap₂ (λ a r. record { added = a; removed = r }) (add-zero counts.added) (add-zero counts.removed)) done

-- ---- one part

-- a range that edits are of
pub range_edited : (es : List Edit) (g : Graph) (p q : Part) (more : Counts) (count range : ℕ) → IsPartAt g range p → 256 * range < g.vertex_count → AreEditsBelow g.vertex_count es → IsPartAfter (range_edits count es range) p q → AreCounts (range_edits count es range) p more
    → AreEdited es g range (q ∷ []) more
range_edited es g p q more count range at inside below after counted =
    let own = range_below g.vertex_count count es range below in
    one_edited es g p q more count range at inside after.range after.count (after.part g own at.part) (counted.gained g own at.part) (counted.lost g own at.part)

-- a range that none is of keeps its part
pub range_kept : (es : List Edit) (g : Graph) (p : Part) (count range : ℕ) → IsPartAt g range p → 256 * range < g.vertex_count → range_edits count es range ≡ [] → AreEdited es g range (p ∷ []) none
range_kept es g p count range at inside unedited =
    let nothing_more = no_edit g (range_edits count es range) unedited in
    one_edited es g p p none count range at inside refl refl (same_part g p (range_edits count es range) unedited at.part) (sym nothing_more.0) (sym nothing_more.1)

-- ---- a block

pub rest_from : (g : Graph) (first : ℕ) (p : Part) (parts : List Part) → ArePartsFrom g first (p ∷ parts) → ArePartsFrom g (first + 1) parts
rest_from g first p parts all = record {
  inside = λ k h. (let in_all = all.inside (k + 1) (omega arith) in omega arith);
  each = λ k h. (
      let place : first + suc k ≡ first + 1 + k = omega arith in
      subst (λ r. IsPartAt g r (part_at parts k)) place (all.each (suc k) (omega arith)));
}

-- parts of ranges that no edit is of
pub block_kept : (es : List Edit) (g : Graph) (count first : ℕ) (parts : List Part) → ArePartsFrom g first parts → ((range : ℕ) → first ≤ range → range < first + length parts → range_edits count es range ≡ []) → AreEdited es g first parts none
block_kept es g count first [] all unedited = none_edited es g first
block_kept es g count first (p ∷ parts) all unedited =
    let inside : 256 * first < g.vertex_count = (let in_all = all.inside 0 (omega arith) in omega arith) in
    let at : IsPartAt g first p = subst (λ r. IsPartAt g r p) (add-zero first) (all.each 0 (omega arith)) in
    more_edited es g first (p ∷ []) parts none none
    (range_kept es g p count first at inside (unedited first (omega arith) (omega arith)))
    (block_kept es g count (first + 1) parts (rest_from g first p parts all) (λ r low high. unedited r (omega arith) (omega arith)))

-- ---- counts

-- what was done to some parts is little
pub few_edited : (es : List Edit) (g : Graph) (first : ℕ) (parts : List Part) (counts : Counts) → g.vertex_count ≤ MOST_VERTICES → AreEdited es g first parts counts → (counts.added ≤ MOST_VERTICES * MOST_VERTICES) × (counts.removed ≤ MOST_VERTICES * MOST_VERTICES)
few_edited es g first parts counts small done =
    let n = g.vertex_count in
    let end = first + length parts in
    let short : vertices_in n end ≤ MOST_VERTICES = omega arith in
    let new : count_in g end (is_new es g) ≤ MOST_VERTICES * MOST_VERTICES = le_trans (count_pairs-le (vertices_in n end) n (is_new es g)) (mul-le-mul short small) in
    let gone : count_in g end (is_gone es g) ≤ MOST_VERTICES * MOST_VERTICES = le_trans (count_pairs-le (vertices_in n end) n (is_gone es g)) (mul-le-mul short small) in
    let gained = done.gained in
    let lost = done.lost in
    (omega (arith, gained, new), omega (arith, lost, gone))

-- so two such counts have a sum
pub few_together : (c d : Counts) → (c.added ≤ MOST_VERTICES * MOST_VERTICES) × (c.removed ≤ MOST_VERTICES * MOST_VERTICES) → (d.added ≤ MOST_VERTICES * MOST_VERTICES) × (d.removed ≤ MOST_VERTICES * MOST_VERTICES) → (c.added + d.added < 2 ^ 64) × (c.removed + d.removed < 2 ^ 64)
few_together c d few more =
    let a = few.0 in
    let b = few.1 in
    let x = more.0 in
    let y = more.1 in
    (omega (arith, a, x), omega (arith, b, y))

-- what was done to a part alone is little
pub few_counted : (es : List Edit) (g : Graph) (p : Part) (more : Counts) (count range : ℕ) → g.vertex_count ≤ MOST_VERTICES → IsPartAt g range p → 256 * range < g.vertex_count → AreEditsBelow g.vertex_count es → (q : Part) → IsPartAfter (range_edits count es range) p q → AreCounts (range_edits count es range) p more
    → (more.added ≤ MOST_VERTICES * MOST_VERTICES) × (more.removed ≤ MOST_VERTICES * MOST_VERTICES)
few_counted es g p more count range small at inside below q after counted =
    few_edited es g range (q ∷ []) more small (range_edited es g p q more count range at inside below after counted)

-- ---- all parts

-- all ranges are done
pub all_edited : (es : List Edit) (before parts : List Part) (counts : Counts) → length parts ≡ length before → ((g : Graph) → AreEditsBelow g.vertex_count es → IsTable g before → AreEdited es g 0 parts counts) → AreAfter es before parts counts
all_edited es before parts counts long done = record {
  table = λ g below table. record {
    ranges = λ r. (λ h. (table.ranges r).0 (subst (λ n. r < n) long h), λ h. subst (λ n. r < n) (sym long) ((table.ranges r).1 h));
    each = λ r h. (let same : 0 + r ≡ r = omega arith in subst (λ k. IsPartAt (after_batch es g) k (part_at parts r)) same ((done g below table).each r h));
  };
  gained = λ g below table. (
      let is = (done g below table).gained in
      omega (arith, is, start g (is_new es g), end g (is_new es g), ap (λ m. count_pairs m g.vertex_count (is_new es g)) (whole g table)));
  lost = λ g below table. (
      let is = (done g below table).lost in
      omega (arith, is, start g (is_gone es g), end g (is_gone es g), ap (λ m. count_pairs m g.vertex_count (is_gone es g)) (whole g table)));
}
  where
    start : (g : Graph) (test : ℕ → ℕ → Bool) → count_in g 0 test ≡ 0
    start g test = count_none (vertices_in g.vertex_count 0) g.vertex_count test (λ w x h. absurd (omega arith))

    end : (g : Graph) (test : ℕ → ℕ → Bool) → count_in g (0 + length parts) test ≡ count_in g (length parts) test
    end g test = (let same : 0 + length parts ≡ length parts = omega arith in ap (λ r. count_in g r test) same)

    whole : (g : Graph) → IsTable g before → vertices_in g.vertex_count (length parts) ≡ g.vertex_count
    whole g table =
        let past : 256 * length before < g.vertex_count → ⊥ = λ h. (let inside = (table.ranges (length before)).1 h in omega arith) in
        omega (arith, long, past)

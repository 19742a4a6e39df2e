-- A table of parts: the first one, and one under edit.
use Rattle.std.proofs.Common.{◌≡◌, ◌==◌, ℕ, ◌+◌, ◌-◌, ◌*◌, ◌/◌, ◌<◌, Bool, true, false, ◌||◌, cond, if◌then◌else◌, List, [], ◌∷◌, ◌++◌, length, set, refl, sym, ap, subst, ◌∙◌, inl, inr, eqb-true, eq-eqb, length-set, arith}
use Rattle.std.specs.List.{AllByRecursion, list_any, list_all}
use Rattle.std.proofs.lemmas.Bool.{cases_eq, cases_Bool, and_parts, false_from_ne_true, false≢true}
use Rattle.std.proofs.lemmas.List.{get_or-set_same, get_or-set_other}
use Rattle.std.proofs.lemmas.List.Folds.{list_any-append}
use Rattle.past_model.specs.declared.edit.Edit.{Edit}
use Rattle.graph_model.specs.Graph.{Graph}
use Rattle.past_model.specs.Edits.{source_of, after_batch, AreEditsBelow}
use Rattle.shards.specs.Part.{Part, IsPartAfter}
use Rattle.shard_table.specs.Table.{IsTable, IsPartAt, part_at}
use Rattle.shard_table.proofs.RangeLemmas.{range_below, part_after, same_part}
use Rattle.store_model.specs.Core.{range_of, is_done}
use Rattle.stream_core.specs.Tables.{own_edits, IsTableInWork}

abbrev nothing : Part
nothing = record { range = 0; rows = []; homes = [] }

-- ---- a table under edit

-- the edits of a range, where one more stands before them
pub own_cons : (P : List Edit → Type 0) (e : Edit) (es : List Edit) (range : ℕ) → (range_of e ≡ range → P (e ∷ own_edits es range)) → P (own_edits es range) → P (own_edits (e ∷ es) range)
own_cons P e es range with_it without =
    elim (cases_Bool (range_of e == range)) [
      | inl t ↦ subst (λ b. P (cond b (e ∷ own_edits es range) (own_edits es range))) (sym t) (with_it (eqb-true (range_of e) range t))
      | inr f ↦ subst (λ b. P (cond b (e ∷ own_edits es range) (own_edits es range))) (sym f) without
    ]

-- the table has the range of each edit
pub in_ranges : (n count : ℕ) (es : List Edit) → ((range : ℕ) → 256 * range < n → range < count) → AreEditsBelow n es → AllByRecursion (λ e. range_of e < count) es
in_ranges n count [] within below = tt
in_ranges n count (e ∷ es) within below = ((let low = below.0.0 in within (source_of e / 256) (omega arith)), in_ranges n count es within below.1)

pub range_within : (n range : ℕ) (es : List Edit) → AreEditsBelow n es → list_any (λ e. range_of e == range) es ≡ true → 256 * range < n
range_within n range [] below some = absurd (false≢true some)
range_within n range (e ∷ es) below some =
    elim (cases_Bool (range_of e == range)) [
      | inl t ↦ (let mine = eqb-true (range_of e) range t in let low = below.0.0 in omega arith)
      | inr f ↦ range_within n range es below.1 (sym (ap (λ b. b || list_any (λ e. range_of e == range) es) f) ∙ some)
    ]

-- the first table of a batch in work
pub table_begun : (g : Graph) (es : List Edit) (parts : List Part) → IsTable g parts → IsTableInWork g es [] parts
table_begun g es parts table = record { ranges = table.ranges; each = table.each }

is_done-push : (done : List ℕ) (range r : ℕ) → is_done (done ++ range ∷ []) r ≡ (is_done done r || ((range == r) || false))
is_done-push done range r = list_any-append (λ x. x == r) done (range ∷ [])

or_true : (b : Bool) → (b || true) ≡ true
or_true true = refl
or_true false = refl

or_false : (b : Bool) → (b || false) ≡ b
or_false true = refl
or_false false = refl

pub done_now : (done : List ℕ) (range r : ℕ) → range ≡ r → is_done (done ++ range ∷ []) r ≡ true
done_now done range r same = is_done-push done range r ∙ ap (λ b. is_done done r || (b || false)) (eq-eqb range r same) ∙ or_true (is_done done r)

pub done_before : (done : List ℕ) (range r : ℕ) → (range ≡ r → ⊥) → is_done (done ++ range ∷ []) r ≡ is_done done r
done_before done range r other =
    is_done-push done range r ∙ ap (λ b. is_done done r || (b || false)) (false_from_ne_true (range == r) (λ t. other (eqb-true range r t))) ∙ or_false (is_done done r)

-- one range more is done
pub table_applied : (g : Graph) (es : List Edit) (done : List ℕ) (parts : List Part) (range : ℕ) (q : Part) → AreEditsBelow g.vertex_count es → IsTableInWork g es done parts → range < length parts → is_done done range ≡ false
    → IsPartAfter (own_edits es range) (part_at parts range) q → IsTableInWork g es (done ++ range ∷ []) (set parts range q)
table_applied g es done parts range q below table inside undone after =
    let long : length (set parts range q) ≡ length parts = length-set parts range q in
    let at : IsPartAt g range (part_at parts range) = subst (λ b. IsPartAt (if b then after_batch es g else g) range (part_at parts range)) undone (table.each range inside) in
    record {
      ranges = λ r. (λ h. (table.ranges r).0 (subst (λ n. r < n) long h), λ h. subst (λ n. r < n) (sym long) ((table.ranges r).1 h));
      each = λ r h. elim (cases_eq range r) [
        | inl same ↦
            subst (λ b. IsPartAt (if b then after_batch es g else g) r (part_at (set parts range q) r)) (sym (done_now done range r same))
            (subst (λ k. IsPartAt (after_batch es g) k (part_at (set parts range q) k)) same
            (subst (IsPartAt (after_batch es g) range) (sym (get_or-set_same parts range q nothing inside))
            (part_after g (part_at parts range) q 0 es range at after.range after.count (after.part g (range_below g.vertex_count 0 es range below) at.part))))
        | inr other ↦
            subst (λ b. IsPartAt (if b then after_batch es g else g) r (part_at (set parts range q) r)) (sym (done_before done range r other))
            (subst (IsPartAt (if is_done done r then after_batch es g else g) r) (sym (get_or-set_other parts range r q nothing (λ e. other (sym e))))
            (table.each r (subst (λ n. r < n) long h)))
      ];
    }

-- a range that no edit is of
pub own_none : (es : List Edit) (done : List ℕ) (r : ℕ) → list_all (λ e. is_done done (range_of e)) es ≡ true → is_done done r ≡ false → own_edits es r ≡ []
own_none [] done r all undone = refl
own_none (e ∷ es) done r all undone =
    let parts = and_parts (is_done done (range_of e)) (list_all (λ e. is_done done (range_of e)) es) all in
    own_cons (λ l. l ≡ []) e es r (λ mine. absurd (false≢true (sym undone ∙ ap (is_done done) (sym mine) ∙ parts.0))) (own_none es done r parts.1 undone)

-- where each edit's range is done, it is the table after the batch
pub table_whole : (g : Graph) (es : List Edit) (done : List ℕ) (parts : List Part) → list_all (λ e. is_done done (range_of e)) es ≡ true → IsTableInWork g es done parts → IsTable (after_batch es g) parts
table_whole g es done parts all table = record {
  ranges = table.ranges;
  each = λ r h. elim (cases_Bool (is_done done r)) [
    | inl t ↦ subst (λ b. IsPartAt (if b then after_batch es g else g) r (part_at parts r)) t (table.each r h)
    | inr f ↦ (
        let at : IsPartAt g r (part_at parts r) = subst (λ b. IsPartAt (if b then after_batch es g else g) r (part_at parts r)) f (table.each r h) in
        part_after g (part_at parts r) (part_at parts r) 0 es r at refl refl (same_part g (part_at parts r) (own_edits es r) (own_none es done r all f) at.part))
  ];
}

-- The edits that are left to do, by range.
use Rattle.std.proofs.Common.{◌≡◌, ◌==◌, ℕ, ◌<◌, ◌≤◌, Bool, true, false, not, ◌||◌, ◌&&◌, cond, if◌then◌else◌, List, [], ◌∷◌, ◌++◌, Vec, length, get_or, set, replicate, refl, sym, ap, subst, ◌∙◌, inl, inr, eqb-true, eq-eqb, append-nil, length-set, arith}
use Rattle.std.specs.List.{AllByRecursion, list_any, list_all}
use Rattle.std.specs.declared.alloc.Global.{Global}
use Rattle.std.proofs.lemmas.Bool.{cases_lt, cases_eq, cases_Bool, false_from_ne_true, false≢true, and_from, or_left, or_right}
use Rattle.std.proofs.lemmas.List.{get_or_past, get_or-replicate, get_or-set_same, get_or-set_other, length-map, length-replicate, get_or-map, map-set}
use Rattle.std.proofs.lemmas.List.Elements.{filter-append}
use Rattle.std.proofs.lemmas.List.Recursion.{and_at, and_from_places}
use Rattle.std.proofs.lemmas.List.Folds.{list_all-map}
use Rattle.past_model.specs.declared.edit.Edit.{Edit}
use Rattle.store_model.specs.Core.{Holding, range_of, is_done, is_open, is_whole}
use Rattle.stream_core.specs.Tables.{own_edits}
use Rattle.stream_core.specs.Work.{lists_of, AreLeft}
use Rattle.stream_core.proofs.TableLemmas.{own_cons, own_none, done_now, done_before}

-- whether a list has no edit
abbrev is_empty : List Edit → Bool
is_empty [] = true
is_empty (e ∷ es) = false

is_empty-length : (es : List Edit) → (length es == 0) ≡ is_empty es
is_empty-length [] = refl
is_empty-length (e ∷ es) = false_from_ne_true (length (e ∷ es) == 0) (λ t. (let none = eqb-true (length (e ∷ es)) 0 t in omega (arith, none)))

is_empty-len : (v : Vec Edit Global) → (v.len == 0) ≡ is_empty v.items
is_empty-len v = ap (λ n. n == 0) v.ok.0 ∙ is_empty-length v.items

-- ---- what a test of the lists says

and_true : (b : Bool) → (b && true) ≡ b
and_true true = refl
and_true false = refl

and_false : (b : Bool) → (b && false) ≡ false
and_false true = refl
and_false false = refl

-- a range that some edit is of has an edit
any_own : (es : List Edit) (range : ℕ) → list_any (λ e. range_of e == range) es ≡ not (is_empty (own_edits es range))
any_own [] range = refl
any_own (e ∷ es) range =
    elim (cases_Bool (range_of e == range)) [
      | inl t ↦ subst (λ b. (b || list_any (λ e. range_of e == range) es) ≡ not (is_empty (cond b (e ∷ own_edits es range) (own_edits es range)))) (sym t) refl
      | inr f ↦ subst (λ b. (b || list_any (λ e. range_of e == range) es) ≡ not (is_empty (cond b (e ∷ own_edits es range) (own_edits es range)))) (sym f) (any_own es range)
    ]

open_by : (b : Bool) (es : List Edit) (range : ℕ) → (list_any (λ e. range_of e == range) es && not b) ≡ not (is_empty (if b then [] else own_edits es range))
open_by true es range = and_false (list_any (λ e. range_of e == range) es)
open_by false es range = and_true (list_any (λ e. range_of e == range) es) ∙ any_own es range

-- a range is open where its list has an edit
open_is : (h : Holding) (left : List (List Edit)) (range : ℕ) → AreLeft h.entry.batch h.done left → is_open h range ≡ not (is_empty (get_or left range []))
open_is h left range is = open_by (is_done h.done range) h.entry.batch range ∙ ap (λ l. not (is_empty l)) (sym (is.each range))

-- what was read at a place
pub read_left : (vectors : List (Vec Edit Global)) (range : ℕ) (v : Vec Edit Global) → range < length vectors → v ≡ get_or vectors range v → v.items ≡ get_or (lists_of vectors) range []
read_left vectors range v inside read =
    ap (λ (x : Vec Edit Global). x.items) read ∙ sym (get_or-map (λ (x : Vec Edit Global). x.items) vectors range v [] inside)

-- whether it has an edit is whether its range is open
pub open_read : (h : Holding) (vectors : List (Vec Edit Global)) (range : ℕ) (v : Vec Edit Global) → AreLeft h.entry.batch h.done (lists_of vectors) → range < length vectors → v ≡ get_or vectors range v → not (v.len == 0) ≡ is_open h range
open_read h vectors range v is inside read =
    ap not (is_empty-len v ∙ ap is_empty (read_left vectors range v inside read)) ∙ sym (open_is h (lists_of vectors) range is)

pub not_open_past : (h : Holding) (vectors : List (Vec Edit Global)) (range : ℕ) → AreLeft h.entry.batch h.done (lists_of vectors) → length vectors ≤ range → false ≡ is_open h range
not_open_past h vectors range is past =
    let long : length (lists_of vectors) ≤ range = subst (λ n. n ≤ range) (sym (length-map vectors (λ (v : Vec Edit Global). v.items))) past in
    sym (open_is h (lists_of vectors) range is ∙ ap (λ l. not (is_empty l)) (get_or_past (lists_of vectors) range [] long))

-- an open range has a place among the lists
pub open_inside : (h : Holding) (vectors : List (Vec Edit Global)) (range : ℕ) → AreLeft h.entry.batch h.done (lists_of vectors) → is_open h range ≡ true → range < length vectors
open_inside h vectors range is able =
    elim (cases_lt range (length vectors)) [
      | inl inside ↦ inside
      | inr past ↦ absurd (false≢true (not_open_past h vectors range is past ∙ able))
    ]

-- and what is left is all that is of it
pub left_own : (es : List Edit) (done : List ℕ) (left : List (List Edit)) (range : ℕ) → AreLeft es done left → is_done done range ≡ false → get_or left range [] ≡ own_edits es range
left_own es done left range is undone = is.each range ∙ ap (λ b. if b then [] else own_edits es range) undone

-- ---- nothing is left

true_from_not : (b : Bool) → not b ≡ false → b ≡ true
true_from_not true e = refl
true_from_not false e = sym e

empty_at : (left : List (List Edit)) (i : ℕ) → list_all is_empty left ≡ true → is_empty (get_or left i []) ≡ true
empty_at left i all =
    elim (cases_lt i (length left)) [
      | inl inside ↦ and_at (list_all is_empty) is_empty refl (λ _ _. refl) left i [] inside all
      | inr past ↦ ap is_empty (get_or_past left i [] past)
    ]

-- a range that some edit is of is done
done_by : (h : Holding) (left : List (List Edit)) (range : ℕ) → AreLeft h.entry.batch h.done left → list_all is_empty left ≡ true → list_any (λ e. range_of e == range) h.entry.batch ≡ true → is_done h.done range ≡ true
done_by h left range is none some =
    true_from_not (is_done h.done range) (sym (ap (λ b. b && not (is_done h.done range)) some) ∙ open_is h left range is ∙ ap not (empty_at left range none))

-- and so is the range of each edit
all_done : (es : List Edit) (done : List ℕ) → ((range : ℕ) → list_any (λ e. range_of e == range) es ≡ true → is_done done range ≡ true) → list_all (λ e. is_done done (range_of e)) es ≡ true
all_done [] done each = refl
all_done (e ∷ es) done each =
    and_from (is_done done (range_of e)) (list_all (λ e. is_done done (range_of e)) es)
    (each (range_of e) (or_left (range_of e == range_of e) (list_any (λ x. range_of x == range_of e) es) (eq-eqb (range_of e) (range_of e) refl)))
    (all_done es done (λ range some. each range (or_right (range_of e == range) (list_any (λ x. range_of x == range) es) some)))

none_left : (h : Holding) (left : List (List Edit)) → AreLeft h.entry.batch h.done left → is_whole h ≡ true → list_all is_empty left ≡ true
none_left h left is whole =
    and_from_places (list_all is_empty) is_empty refl (λ _ _. refl) left [] (λ range inside.
    elim (cases_Bool (is_done h.done range)) [
      | inl t ↦ ap is_empty (is.each range ∙ ap (λ b. if b then [] else own_edits h.entry.batch range) t)
      | inr f ↦ ap is_empty (left_own h.entry.batch h.done left range is f ∙ own_none h.entry.batch h.done range whole f)
    ])

same_test : (a b : Bool) → (a ≡ true → b ≡ true) → (b ≡ true → a ≡ true) → a ≡ b
same_test true b to from = sym (to refl)
same_test false true to from = from refl
same_test false false to from = refl

whole_by_lists : (h : Holding) (left : List (List Edit)) → AreLeft h.entry.batch h.done left → list_all is_empty left ≡ is_whole h
whole_by_lists h left is =
    same_test (list_all is_empty left) (is_whole h) (λ none. all_done h.entry.batch h.done (λ range some. done_by h left range is none some)) (none_left h left is)

-- the batch is whole where each list is empty
pub whole_is : (h : Holding) (vectors : List (Vec Edit Global)) → AreLeft h.entry.batch h.done (lists_of vectors) → list_all (λ v. v.len == 0) vectors ≡ is_whole h
whole_is h vectors is =
    (λ i. list_all (λ v. is_empty-len v i) vectors) ∙ sym (list_all-map is_empty (λ (v : Vec Edit Global). v.items) vectors) ∙ whole_by_lists h (lists_of vectors) is

-- ---- how the lists are made, and what an event leaves of them

-- a range past those of the edits has none
own_past : (count : ℕ) (es : List Edit) (range : ℕ) → AllByRecursion (λ e. range_of e < count) es → count ≤ range → own_edits es range ≡ []
own_past count [] range below past = refl
own_past count (e ∷ es) range below past =
    own_cons (λ l. l ≡ []) e es range (λ mine. (let low = below.0 in absurd (omega (arith, low, mine, past)))) (own_past count es range below.1 past)

-- the lists of the ranges below a number
pub record AreListed (es : List Edit) (count : ℕ) (lists : List (List Edit)) : Type 0 where
  pub count_is : length lists ≡ count
  pub each : (range : ℕ) → range < count → get_or lists range [] ≡ own_edits es range

-- before the first edit, no list has one
pub none_listed : (count : ℕ) (lists : List (List Edit)) → lists ≡ replicate count [] → AreListed [] count lists
none_listed count lists none = record {
  count_is = ap length none ∙ length-replicate count [];
  each = λ range inside. ap (λ l. get_or l range []) none ∙ get_or-replicate count range [] [] inside;
}

-- one edit more is behind those of its range, and of no other
own_with : (es : List Edit) (e : Edit) (range : ℕ) → range_of e ≡ range → own_edits (es ++ e ∷ []) range ≡ own_edits es range ++ e ∷ []
own_with es e range mine =
    filter-append (λ x. range_of x == range) es (e ∷ []) ∙ ap (λ b. own_edits es range ++ cond b (e ∷ []) []) (eq-eqb (range_of e) range mine)

own_without : (es : List Edit) (e : Edit) (range : ℕ) → (range_of e ≡ range → ⊥) → own_edits (es ++ e ∷ []) range ≡ own_edits es range
own_without es e range other =
    filter-append (λ x. range_of x == range) es (e ∷ [])
    ∙ ap (λ b. own_edits es range ++ cond b (e ∷ []) []) (false_from_ne_true (range_of e == range) (λ t. other (eqb-true (range_of e) range t)))
    ∙ append-nil (own_edits es range)

-- the edit is put behind the list of its range
pub listed_more : (es : List Edit) (count : ℕ) (vectors : List (Vec Edit Global)) (e : Edit) (v : Vec Edit Global)
    → range_of e < count → AreListed es count (lists_of vectors) → v.items ≡ get_or (lists_of vectors) (range_of e) [] ++ e ∷ []
    → AreListed (es ++ e ∷ []) count (lists_of (set vectors (range_of e) v))
listed_more es count vectors e v inside is put =
    let range = range_of e in
    let lists = lists_of vectors in
    let long : range < length lists = omega (arith, is.count_is, inside) in
    let now : get_or (set lists range v.items) range [] ≡ own_edits (es ++ e ∷ []) range =
    get_or-set_same lists range v.items [] long ∙ put ∙ ap (λ l. l ++ e ∷ []) (is.each range inside) ∙ sym (own_with es e range refl) in
    subst (AreListed (es ++ e ∷ []) count) (sym (map-set (λ (x : Vec Edit Global). x.items) vectors range v)) record {
      count_is = length-set lists range v.items ∙ is.count_is;
      each = λ r h. elim (cases_eq range r) [
        | inl same ↦ subst (λ k. get_or (set lists range v.items) k [] ≡ own_edits (es ++ e ∷ []) k) same now
        | inr other ↦ get_or-set_other lists range r v.items [] (λ k. other (sym k)) ∙ is.each r h ∙ sym (own_without es e r other)
      ];
    }

-- all lists, where nothing is done
pub all_listed : (es : List Edit) (count : ℕ) (lists : List (List Edit)) → AllByRecursion (λ e. range_of e < count) es → AreListed es count lists → AreLeft es [] lists
all_listed es count lists below is = record {
  each = λ range. elim (cases_lt range count) [
    | inl inside ↦ is.each range inside
    | inr past ↦ (
        let long : length lists ≤ range = omega (arith, is.count_is, past) in
        get_or_past lists range [] long ∙ sym (own_past count es range below past))
  ];
}

-- one range more is done
left_after : (es : List Edit) (done : List ℕ) (left : List (List Edit)) (range : ℕ) → AreLeft es done left → range < length left → AreLeft es (done ++ range ∷ []) (set left range [])
left_after es done left range is inside = record {
  each = λ r. elim (cases_eq range r) [
    | inl same ↦
        subst (λ k. get_or (set left range []) k [] ≡ []) same (get_or-set_same left range [] [] inside)
        ∙ ap (λ b. if b then [] else own_edits es r) (sym (done_now done range r same))
    | inr other ↦
        get_or-set_other left range r [] [] (λ e. other (sym e)) ∙ is.each r
        ∙ ap (λ b. if b then [] else own_edits es r) (sym (done_before done range r other))
  ];
}

pub left_applied : (es : List Edit) (done : List ℕ) (vectors : List (Vec Edit Global)) (range : ℕ) (none : Vec Edit Global) → AreLeft es done (lists_of vectors) → range < length vectors → none.items ≡ [] → AreLeft es (done ++ range ∷ []) (lists_of (set vectors range none))
left_applied es done vectors range none is inside empty =
    subst (AreLeft es (done ++ range ∷ [])) (sym (map-set (λ (v : Vec Edit Global). v.items) vectors range none ∙ ap (set (lists_of vectors) range) empty))
    (left_after es done (lists_of vectors) range is (subst (λ n. range < n) (sym (length-map vectors (λ (v : Vec Edit Global). v.items))) inside))

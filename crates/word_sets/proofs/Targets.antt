-- The neighbours of a vertex, as a set of words.
use Rattle.std.proofs.Common.{◌≡◌, ℕ, zero, suc, ◌<◌, Bool, true, false, not, ◌||◌, ◌&&◌, cond, eqb, ltb, List, [], ◌∷◌, Some, None, unwrap_or, refl, sym, ap, subst, ◌∙◌, arith, lt-ltb, le-ltb, inl, inr}
use Rattle.std.proofs.lemmas.Bool.{cases_lt, cases_eq, ne_eqb, eq-eqb}
use Rattle.std.proofs.lemmas.List.Folds.{list_any-append}
use Rattle.graph_model.specs.Graph.{Graph, neighbours, numbers_below}
use Rattle.past_model.specs.Edits.{after_batch}
use Rattle.past_model.specs.declared.edit.Edit.TheVariants.{Insert, Remove}
use Rattle.graph_model.proofs.Neighbours.{neighbours-within, neighbours-outside, neighbours_agree}
use Rattle.word_sets.specs.declared.places.TheConstants.{WORD_LIMIT}
use Rattle.word_sets.specs.Words.{has_word, with_word, without_word, IsWithin}
use Rattle.word_sets.specs.Laws.{NeighboursAreASet, InsertionIsOneWordMore, RemovalIsOneWordLess}
use Rattle.word_sets.proofs.Within.{IsWithin-append, IsWithin-filter, IsWithin-wider}
use Rattle.word_sets.proofs.Members.{IsWithin-with, IsWithin-without, has-filter, has-with, has-without, same_words}

pub IsWithin-numbers_below : (n : ℕ) → IsWithin 0 n (numbers_below n)
IsWithin-numbers_below zero = omega arith
IsWithin-numbers_below (suc n) =
    IsWithin-append 0 n (suc n) (numbers_below n) (n ∷ []) (IsWithin-numbers_below n) (omega arith, omega arith)

IsWithin-neighbours : (g : Graph) (v : ℕ) → IsWithin 0 g.vertex_count (neighbours g v)
IsWithin-neighbours g v =
    let P : List ℕ → Type 0 = λ l. IsWithin 0 g.vertex_count l in
    elim (cases_lt v g.vertex_count) [
      | inl lt ↦ subst P (sym (neighbours-within g v lt)) (IsWithin-filter (g.has_edge v) 0 g.vertex_count (numbers_below g.vertex_count) (IsWithin-numbers_below g.vertex_count))
      | inr ge ↦ (let none : IsWithin 0 g.vertex_count [] = omega arith in subst P (sym (neighbours-outside g v ge)) none)
    ]

pub neighbour_set : NeighboursAreASet
neighbour_set g v le =
    IsWithin-wider 0 0 g.vertex_count WORD_LIMIT (neighbours g v) (omega arith) le (IsWithin-neighbours g v)

number_more : (n b : ℕ) → (ltb b n || (eqb n b || false)) ≡ ltb b (suc n)
number_more n b =
    elim (cases_lt b n) [
      | inl lt ↦ (let e : ltb b n ≡ true = lt-ltb b n lt in rw e (sym (lt-ltb b (suc n) (omega arith))))
      | inr ge ↦ (
          let e : ltb b n ≡ false = le-ltb b n ge in
          elim (cases_eq n b) [
            | inl same ↦ (let f : eqb n b ≡ true = eq-eqb n b same in rw (e, f) (sym (lt-ltb b (suc n) (omega arith))))
            | inr other ↦ (let f : eqb n b ≡ false = ne_eqb n b other in rw (e, f) (sym (le-ltb b (suc n) (omega arith))))
          ])
    ]

pub has-numbers_below : (n b : ℕ) → has_word b (numbers_below n) ≡ ltb b n
has-numbers_below zero b = sym (le-ltb b zero (omega arith))
has-numbers_below (suc n) b =
    list_any-append (λ x. eqb x b) (numbers_below n) (n ∷ [])
    ∙ ap (λ t. t || (eqb n b || false)) (has-numbers_below n b)
    ∙ number_more n b

-- which words the neighbours of a vertex are
has-neighbours : (g : Graph) (u b : ℕ) → has_word b (neighbours g u) ≡ (ltb u g.vertex_count && (g.has_edge u b && ltb b g.vertex_count))
has-neighbours g u b =
    elim (cases_lt u g.vertex_count) [
      | inl lt ↦ (
          let e : ltb u g.vertex_count ≡ true = lt-ltb u g.vertex_count lt in
          ap (has_word b) (neighbours-within g u lt)
          ∙ has-filter (g.has_edge u) b (numbers_below g.vertex_count)
          ∙ ap (λ t. g.has_edge u b && t) (has-numbers_below g.vertex_count b)
          ∙ ap (λ t. t && (g.has_edge u b && ltb b g.vertex_count)) (sym e))
      | inr ge ↦ (
          let e : ltb u g.vertex_count ≡ false = le-ltb u g.vertex_count ge in
          ap (has_word b) (neighbours-outside g u ge) ∙ ap (λ t. t && (g.has_edge u b && ltb b g.vertex_count)) (sym e))
    ]

-- what one edit leaves of a pair
inserted_edge : (g : Graph) (u v b : ℕ) → (after_batch (Insert u v ∷ []) g).has_edge u b ≡ (eqb v b || g.has_edge u b)
inserted_edge g u v b =
    let e : eqb u u ≡ true = eq-eqb u u refl in
    rw e (elim (eqb v b) as (λ t. unwrap_or (cond t (Some true) None) (g.has_edge u b) ≡ (t || g.has_edge u b)) [ true ↦ refl | false ↦ refl ])

removed_edge : (g : Graph) (u v b : ℕ) → (after_batch (Remove u v ∷ []) g).has_edge u b ≡ (not (eqb v b) && g.has_edge u b)
removed_edge g u v b =
    let e : eqb u u ≡ true = eq-eqb u u refl in
    rw e (elim (eqb v b) as (λ t. unwrap_or (cond t (Some false) None) (g.has_edge u b) ≡ (not t && g.has_edge u b)) [ true ↦ refl | false ↦ refl ])

other_source : (g : Graph) (u v other b : ℕ) → eqb u other ≡ false → unwrap_or (cond (eqb u other && eqb v b) (Some true) None) (g.has_edge other b) ≡ g.has_edge other b
other_source g u v other b f = rw f refl

other_source' : (g : Graph) (u v other b : ℕ) → eqb u other ≡ false → unwrap_or (cond (eqb u other && eqb v b) (Some false) None) (g.has_edge other b) ≡ g.has_edge other b
other_source' g u v other b f = rw f refl

inserted_cases : (u v b n : ℕ) (h : Bool) → u < n → v < n → (ltb u n && ((eqb v b || h) && ltb b n)) ≡ (eqb b v || (ltb u n && (h && ltb b n)))
inserted_cases u v b n h p q =
    let e : ltb u n ≡ true = lt-ltb u n p in
    elim (cases_eq v b) [
      | inl same ↦ (
          let f : eqb v b ≡ true = eq-eqb v b same in
          let f' : eqb b v ≡ true = eq-eqb b v (sym same) in
          let l : ltb b n ≡ true = lt-ltb b n (omega arith) in rw (e, f, f', l) refl)
      | inr other ↦ (
          let f : eqb v b ≡ false = ne_eqb v b other in
          let f' : eqb b v ≡ false = ne_eqb b v (λ s. other (sym s)) in rw (e, f, f') refl)
    ]

pub inserted : InsertionIsOneWordMore
inserted g u v p q =
    let h = after_batch (Insert u v ∷ []) g in
    let n = g.vertex_count in (
      same_words 0 n (neighbours h u) (with_word v (neighbours g u)) (IsWithin-neighbours h u) (IsWithin-with 0 n v (neighbours g u) (omega arith) q (IsWithin-neighbours g u)) (λ b.
          has-neighbours h u b
          ∙ ap (λ t. ltb u n && (t && ltb b n)) (inserted_edge g u v b)
          ∙ inserted_cases u v b n (g.has_edge u b) p q
          ∙ ap (λ t. eqb b v || t) (sym (has-neighbours g u b))
          ∙ sym (has-with b v (neighbours g u))),
      λ other apart. neighbours_agree h g other refl (λ b. other_source g u v other b (ne_eqb u other (λ s. apart (sym s)))),
    )

removed_cases : (t m d l h : Bool) → m ≡ d → (t && ((not m && h) && l)) ≡ (not d && (t && (h && l)))
removed_cases true true true l h e = refl
removed_cases true false false l h e = refl
removed_cases false true true l h e = refl
removed_cases false false false l h e = refl
removed_cases t true false l h e = cc
removed_cases t false true l h e = cc

eqb_turned : (a b : ℕ) → eqb a b ≡ eqb b a
eqb_turned a b =
    elim (cases_eq a b) [
      | inl same ↦ eq-eqb a b same ∙ sym (eq-eqb b a (sym same))
      | inr other ↦ ne_eqb a b other ∙ sym (ne_eqb b a (λ s. other (sym s)))
    ]

pub removed : RemovalIsOneWordLess
removed g u v =
    let h = after_batch (Remove u v ∷ []) g in
    let n = g.vertex_count in (
      same_words 0 n (neighbours h u) (without_word v (neighbours g u)) (IsWithin-neighbours h u) (IsWithin-without 0 n v (neighbours g u) (IsWithin-neighbours g u)) (λ b.
          has-neighbours h u b
          ∙ ap (λ t. ltb u n && (t && ltb b n)) (removed_edge g u v b)
          ∙ removed_cases (ltb u n) (eqb v b) (eqb b v) (ltb b n) (g.has_edge u b) (eqb_turned v b)
          ∙ ap (λ t. not (eqb b v) && t) (sym (has-neighbours g u b))
          ∙ sym (has-without b v (neighbours g u))),
      λ other apart. neighbours_agree h g other refl (λ b. other_source' g u v other b (ne_eqb u other (λ s. apart (sym s)))),
    )

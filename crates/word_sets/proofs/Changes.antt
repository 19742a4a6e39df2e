-- When a set stays as it is, how long it is after a change, and that it stays a set.
use Rattle.std.proofs.Common.{◌≡◌, ℕ, suc, ◌+◌, ◌<◌, true, false, ◌||◌, eqb, ltb, List, [], ◌∷◌, length, filter, insert, remove, refl, sym, ap, subst, ◌∙◌, arith, lt-ltb, le-ltb, inl, inr}
use Rattle.std.proofs.lemmas.Bool.{cases_order, cases_eq, or_parts, ne_eqb, eq-eqb, eqb-false}
use Rattle.std.proofs.lemmas.List.{length-append}
use Rattle.word_sets.specs.declared.places.TheConstants.{WORD_LIMIT}
use Rattle.word_sets.specs.Words.{has_word, with_word, without_word, IsWithin, IsSet}
use Rattle.word_sets.proofs.Members.{IsWithin-with, IsWithin-without, has-with, same_words, bounds_of, lacks_below}

or_present : (v w : ℕ) (xs : List ℕ) → has_word w xs ≡ true → (eqb v w || has_word v xs) ≡ has_word v xs
or_present v w xs h =
    elim (cases_eq v w) [
      | inl same ↦ (let e : has_word v xs ≡ true = ap (λ n. has_word n xs) same ∙ h in rw e (elim (eqb v w) as (λ b. (b || true) ≡ true) [ true ↦ refl | false ↦ refl ]))
      | inr other ↦ (let e : eqb v w ≡ false = ne_eqb v w other in rw e refl)
    ]

-- a word that is there is not put in again
pub with_present : (low high w : ℕ) (xs : List ℕ) → IsWithin low high xs → has_word w xs ≡ true → with_word w xs ≡ xs
with_present low high w xs s h =
    let b = bounds_of low high w xs s h in
    same_words low high (with_word w xs) xs (IsWithin-with low high w xs b.0 b.1 s) s (λ v. has-with v w xs ∙ or_present v w xs h)

-- a word that is not there is not taken out
pub without_absent : (w : ℕ) (xs : List ℕ) → has_word w xs ≡ false → without_word w xs ≡ xs
without_absent w [] h = refl
without_absent w (x ∷ xs) h =
    let p = or_parts (eqb x w) (has_word w xs) h in
    let e : eqb x w ≡ false = p.0 in rw e (ap (λ l. x ∷ l) (without_absent w xs p.1))

length_sides : (w : ℕ) (xs : List ℕ) → has_word w xs ≡ false → length (filter (λ x. ltb x w) xs) + length (filter (λ x. ltb w x) xs) ≡ length xs
length_sides w [] h = refl
length_sides w (x ∷ xs) h =
    let p = or_parts (eqb x w) (has_word w xs) h in
    elim (cases_order x w) [
      | inl same ↦ absurd (eqb-false x w p.0 same)
      | inr (inl less) ↦ (
          let e : ltb x w ≡ true = lt-ltb x w less in
          let f : ltb w x ≡ false = le-ltb w x (omega arith) in rw (e, f) (omega (arith, length_sides w xs p.1)))
      | inr (inr more) ↦ (
          let e : ltb x w ≡ false = le-ltb x w (omega arith) in
          let f : ltb w x ≡ true = lt-ltb w x more in rw (e, f) (omega (arith, length_sides w xs p.1)))
    ]

pub length-with : (w : ℕ) (xs : List ℕ) → has_word w xs ≡ false → length (with_word w xs) ≡ length xs + 1
length-with w xs h =
    omega (arith, length-append (filter (λ x. ltb x w) xs) (w ∷ filter (λ x. ltb w x) xs), length_sides w xs h)

pub length-without : (low high w : ℕ) (xs : List ℕ) → IsWithin low high xs → has_word w xs ≡ true → length (without_word w xs) + 1 ≡ length xs
length-without low high w [] s h = cc
length-without low high w (x ∷ xs) s h =
    elim (cases_eq x w) [
      | inl same ↦ (
          let e : eqb x w ≡ true = eq-eqb x w same in
          let none : length (without_word w xs) ≡ length xs = ap length (without_absent w xs (lacks_below (suc x) high w xs s.1 (omega arith))) in
          rw e (omega (arith, none)))
      | inr other ↦ (
          let e : eqb x w ≡ false = ne_eqb x w other in
          let later : has_word w xs ≡ true = ap (λ b. b || has_word w xs) (sym e) ∙ h in
          rw e (omega (arith, length-without (suc x) high w xs s.1 later)))
    ]

-- it is a set after a word was put in at its place, or taken out
pub IsSet-insert : (w i : ℕ) (xs ys : List ℕ) → IsSet xs → w < WORD_LIMIT → ys ≡ insert xs i w → insert xs i w ≡ with_word w xs → IsSet ys
IsSet-insert w i xs ys s lt is place =
    subst IsSet (sym (is ∙ place)) (IsWithin-with 0 WORD_LIMIT w xs (omega arith) lt s)

pub IsSet-remove : (w i : ℕ) (xs ys : List ℕ) → IsSet xs → ys ≡ remove xs i → remove xs i ≡ without_word w xs → IsSet ys
IsSet-remove w i xs ys s is place =
    subst IsSet (sym (is ∙ place)) (IsWithin-without 0 WORD_LIMIT w xs s)

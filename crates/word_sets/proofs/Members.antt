-- Which words are in a set with one word more or one word less.
use Rattle.std.proofs.Common.{◌≡◌, ℕ, suc, ◌<◌, ◌≤◌, Bool, true, false, not, ◌||◌, ◌&&◌, cond, eqb, ltb, List, [], ◌∷◌, filter, refl, sym, ap, ap₂, subst, ◌∙◌, arith, lt-ltb, le-ltb, inl, inr}
use Rattle.std.proofs.lemmas.Bool.{cases_lt, cases_order, cases_eq, or_cases, ne_eqb, eq-eqb, eqb-true, false≢true, false_from_ne_true}
use Rattle.std.proofs.lemmas.List.{get_or_default}
use Rattle.std.proofs.lemmas.List.Folds.{list_any-append, Any-from_list_any, list_any-from_Any}
use Rattle.word_sets.specs.declared.places.TheConstants.{WORD_LIMIT}
use Rattle.word_sets.specs.Words.{has_word, with_word, without_word, IsWithin}
use Rattle.word_sets.specs.Laws.{MembersAreFound, OneWordMore, OneWordLess}
use Rattle.word_sets.proofs.Within.{IsWithin-filter, IsWithin-append, IsWithin-wider, IsWithin-length}

-- a filter by a test that implies being below w, or above it, tightens the bound
filter_below : (low high w : ℕ) (xs : List ℕ) → low ≤ w → IsWithin low high xs → IsWithin low w (filter (λ x. ltb x w) xs)
filter_below low high w [] le h = le
filter_below low high w (x ∷ xs) le h =
    elim (cases_lt x w) [
      | inl lt ↦ (let e : ltb x w ≡ true = lt-ltb x w lt in rw e (h.0, filter_below (suc x) high w xs (omega arith) h.1))
      | inr ge ↦ (let e : ltb x w ≡ false = le-ltb x w ge in rw e (filter_below low high w xs le (IsWithin-wider low (suc x) high high xs (omega (arith, h.0)) (omega arith) h.1)))
    ]

filter_above : (low high w : ℕ) (xs : List ℕ) → w < high → IsWithin low high xs → IsWithin (suc w) high (filter (λ x. ltb w x) xs)
filter_above low high w [] lt h = omega arith
filter_above low high w (x ∷ xs) lt h =
    elim (cases_lt w x) [
      | inl more ↦ (let e : ltb w x ≡ true = lt-ltb w x more in rw e (omega arith, IsWithin-filter (λ y. ltb w y) (suc x) high xs h.1))
      | inr less ↦ (let e : ltb w x ≡ false = le-ltb w x less in rw e (filter_above (suc x) high w xs lt h.1))
    ]

pub IsWithin-with : (low high w : ℕ) (xs : List ℕ) → low ≤ w → w < high → IsWithin low high xs → IsWithin low high (with_word w xs)
IsWithin-with low high w xs le lt h =
    IsWithin-append low w high (filter (λ x. ltb x w) xs) (w ∷ filter (λ x. ltb w x) xs) (filter_below low high w xs le h) (omega arith, filter_above low high w xs lt h)

pub IsWithin-without : (low high w : ℕ) (xs : List ℕ) → IsWithin low high xs → IsWithin low high (without_word w xs)
IsWithin-without low high w xs h = IsWithin-filter (λ x. not (eqb x w)) low high xs h

first_kept : (t e h f : Bool) → f ≡ (t && h) → cond t (e || f) f ≡ (t && (e || h))
first_kept true e h f r = ap (λ b. e || b) r
first_kept false e h f r = r

other_kept : (s t e h f : Bool) → e ≡ false → f ≡ (t && h) → cond s (e || f) f ≡ (t && (e || h))
other_kept true t e h f d r = rw d r
other_kept false t e h f d r = rw d r

has-cond : (v x : ℕ) (b : Bool) (xs : List ℕ) → has_word v (cond b (x ∷ xs) xs) ≡ cond b (eqb x v || has_word v xs) (has_word v xs)
has-cond v x true xs = refl
has-cond v x false xs = refl

-- a word among those that pass a test
pub has-filter : (p : ℕ → Bool) (v : ℕ) (xs : List ℕ) → has_word v (filter p xs) ≡ (p v && has_word v xs)
has-filter p v [] = elim (p v) as (λ b. false ≡ (b && false)) [ true ↦ refl | false ↦ refl ]
has-filter p v (x ∷ xs) =
    has-cond v x (p x) (filter p xs) ∙ elim (cases_eq x v) [
      | inl same ↦ ap (λ b. cond b (eqb x v || has_word v (filter p xs)) (has_word v (filter p xs))) (ap p same) ∙ first_kept (p v) (eqb x v) (has_word v xs) (has_word v (filter p xs)) (has-filter p v xs)
      | inr other ↦ other_kept (p x) (p v) (eqb x v) (has_word v xs) (has_word v (filter p xs)) (ne_eqb x v other) (has-filter p v xs)
    ]

or_false : (b : Bool) → (b || false) ≡ b
or_false true = refl
or_false false = refl

more_cases : (v w : ℕ) (h : Bool) → ((ltb v w && h) || (eqb w v || (ltb w v && h))) ≡ (eqb v w || h)
more_cases v w h =
    elim (cases_order v w) [
      | inl same ↦ (
          let e : eqb w v ≡ true = eq-eqb w v (sym same) in
          let f : eqb v w ≡ true = eq-eqb v w same in
          let a : ltb v w ≡ false = le-ltb v w (omega arith) in rw (e, f, a) refl)
      | inr (inl less) ↦ (
          let e : eqb w v ≡ false = ne_eqb w v (λ q. omega arith) in
          let f : eqb v w ≡ false = ne_eqb v w (λ q. omega arith) in
          let a : ltb v w ≡ true = lt-ltb v w less in
          let b : ltb w v ≡ false = le-ltb w v (omega arith) in rw (e, f, a, b) (or_false h))
      | inr (inr more) ↦ (
          let e : eqb w v ≡ false = ne_eqb w v (λ q. omega arith) in
          let f : eqb v w ≡ false = ne_eqb v w (λ q. omega arith) in
          let a : ltb v w ≡ false = le-ltb v w (omega arith) in
          let b : ltb w v ≡ true = lt-ltb w v more in rw (e, f, a, b) refl)
    ]

pub has-with : (v w : ℕ) (xs : List ℕ) → has_word v (with_word w xs) ≡ (eqb v w || has_word v xs)
has-with v w xs =
    list_any-append (λ x. eqb x v) (filter (λ x. ltb x w) xs) (w ∷ filter (λ x. ltb w x) xs)
    ∙ ap₂ (λ a b. a || (eqb w v || b)) (has-filter (λ x. ltb x w) v xs) (has-filter (λ x. ltb w x) v xs)
    ∙ more_cases v w (has_word v xs)

pub has-without : (v w : ℕ) (xs : List ℕ) → has_word v (without_word w xs) ≡ (not (eqb v w) && has_word v xs)
has-without v w xs = has-filter (λ x. not (eqb x w)) v xs

pub more : OneWordMore
more w xs s lt = (IsWithin-with 0 WORD_LIMIT w xs (omega arith) lt s, λ v. has-with v w xs)

pub less : OneWordLess
less w xs s = (IsWithin-without 0 WORD_LIMIT w xs s, λ v. has-without v w xs)

pub found_members : MembersAreFound
found_members w xs = (
  λ t. (
      let a = Any-from_list_any (λ x. eqb x w) xs t in
      let e : a.1 ≡ w = eqb-true a.1 w a.4 in
      (a.0, a.2, get_or_default xs a.0 w a.1 a.2 ∙ a.3 ∙ e)),
  λ c. list_any-from_Any (λ x. eqb x w) xs (c.0, w, c.1, c.2, eq-eqb w w refl),
)

pub bounds_of : (low high v : ℕ) (xs : List ℕ) → IsWithin low high xs → has_word v xs ≡ true → (low ≤ v) × (v < high)
bounds_of low high v [] h t = absurd (false≢true t)
bounds_of low high v (x ∷ xs) h t =
    elim (or_cases (eqb x v) (has_word v xs) t) [
      | inl at ↦ (let e = eqb-true x v at in (omega (arith, h.0, e), omega (arith, e, IsWithin-length (suc x) high xs h.1)))
      | inr later ↦ (let b = bounds_of (suc x) high v xs h.1 later in (omega (arith, h.0, b.0), b.1))
    ]

pub lacks_below : (low high v : ℕ) (xs : List ℕ) → IsWithin low high xs → v < low → has_word v xs ≡ false
lacks_below low high v xs h lt =
    false_from_ne_true (has_word v xs) (λ t. omega (arith, (bounds_of low high v xs h t).0))

has_itself : (x : ℕ) (xs : List ℕ) → has_word x (x ∷ xs) ≡ true
has_itself x xs = ap (λ b. b || has_word x xs) (eq-eqb x x refl)

-- no word is first in one list and stands after a larger first in the other
first_least : (low high x y : ℕ) (xs ys : List ℕ) → IsWithin low high (y ∷ ys) → ((v : ℕ) → has_word v (x ∷ xs) ≡ has_word v (y ∷ ys)) → y ≤ x
first_least low high x y xs ys k same =
    elim (or_cases (eqb y x) (has_word x ys) (sym (same x) ∙ has_itself x xs)) [
      | inl at ↦ omega (arith, eqb-true y x at)
      | inr later ↦ omega (arith, (bounds_of (suc y) high x ys k.1 later).0)
    ]

tail_has : (low high x v : ℕ) (xs ys : List ℕ) → IsWithin (suc x) high xs → IsWithin (suc x) high ys → has_word v (x ∷ xs) ≡ has_word v (x ∷ ys) → has_word v xs ≡ has_word v ys
tail_has low high x v xs ys h k same =
    elim (cases_eq x v) [
      | inl at ↦ lacks_below (suc x) high v xs h (omega arith) ∙ sym (lacks_below (suc x) high v ys k (omega arith))
      | inr other ↦ (let e : eqb x v ≡ false = ne_eqb x v other in ap (λ b. b || has_word v xs) (sym e) ∙ same ∙ ap (λ b. b || has_word v ys) e)
    ]

-- two sets with the same words are one
pub same_words : (low high : ℕ) (xs ys : List ℕ) → IsWithin low high xs → IsWithin low high ys → ((v : ℕ) → has_word v xs ≡ has_word v ys) → xs ≡ ys
same_words low high [] [] h k same = refl
same_words low high [] (y ∷ ys) h k same = absurd (false≢true (same y ∙ has_itself y ys))
same_words low high (x ∷ xs) [] h k same = absurd (false≢true (sym (same x) ∙ has_itself x xs))
same_words low high (x ∷ xs) (y ∷ ys) h k same =
    let one : x ≡ y = omega (arith, first_least low high x y xs ys k same, first_least low high y x ys xs h (λ v. sym (same v))) in
    let k' : IsWithin (suc x) high ys = let P : ℕ → Type 0 = λ n. IsWithin (suc n) high ys in subst P (sym one) k.1 in
    let same' : (v : ℕ) → has_word v (x ∷ xs) ≡ has_word v (x ∷ ys) = λ v. same v ∙ ap (λ n. has_word v (n ∷ ys)) (sym one) in
    ap (λ l. x ∷ l) (same_words (suc x) high xs ys h.1 k' (λ v. tail_has low high x v xs ys h.1 k' (same' v))) ∙ ap (λ n. n ∷ ys) one

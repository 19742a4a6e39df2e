-- A word that is put in and taken out again.
use Rattle.std.proofs.Common.{◌≡◌, ℕ, ◌<◌, ◌&&◌, ◌||◌, not, Bool, true, false, List, eqb, inl, inr, refl, sym, ap, ◌∙◌, arith}
use Rattle.std.proofs.lemmas.Bool.{cases_Bool}
use Rattle.std.proofs.lemmas.Bool.Decides.{nat_tests}
use Rattle.word_sets.specs.Words.{IsSet, has_word, with_word, without_word}
use Rattle.word_sets.specs.declared.places.TheConstants.{WORD_LIMIT}
use Rattle.word_sets.proofs.Changes.{with_present}
use Rattle.word_sets.proofs.Members.{IsWithin-with, IsWithin-without, has-with, has-without, same_words}

others_stay : (v w : ℕ) (xs : List ℕ) → has_word w xs ≡ false → (not (eqb v w) && (eqb v w || has_word v xs)) ≡ has_word v xs
others_stay v w xs lacks =
    elim (cases_Bool (eqb v w)) [
      | inl same ↦ (let is : v ≡ w = grind (arith, nat_tests) in rw same (sym (ap (λ u. has_word u xs) is ∙ lacks)))
      | inr other ↦ rw other refl
    ]

-- what was missing is missing again
pub without_with : (w : ℕ) (xs : List ℕ) → IsSet xs → w < WORD_LIMIT → has_word w xs ≡ false → without_word w (with_word w xs) ≡ xs
without_with w xs set below lacks =
    same_words 0 WORD_LIMIT (without_word w (with_word w xs)) xs (IsWithin-without 0 WORD_LIMIT w (with_word w xs) (IsWithin-with 0 WORD_LIMIT w xs (omega arith) below set)) set
    (λ v. has-without v w (with_word w xs) ∙ ap (λ h. not (eqb v w) && h) (has-with v w xs) ∙ others_stay v w xs lacks)

not_true : (b : Bool) → not b ≡ true → b ≡ false
not_true true is = absurd (let never : false ≡ true = is in cc)
not_true false is = refl

not_false : (b : Bool) → not b ≡ false → b ≡ true
not_false true is = refl
not_false false is = absurd (let never : true ≡ false = is in cc)

-- a word that was new is put in and taken out
pub taken_out : (w : ℕ) (xs more less : List ℕ) (added : Bool) → IsSet xs → w < WORD_LIMIT → added ≡ not (has_word w xs) → added ≡ true
    → more ≡ with_word w xs → less ≡ without_word w more → less ≡ xs
taken_out w xs more less added set below is new more_is less_is =
    less_is ∙ ap (without_word w) more_is ∙ without_with w xs set below (not_true (has_word w xs) (sym is ∙ new))

-- a word that was there is put in
pub still_there : (w : ℕ) (xs more : List ℕ) (added : Bool) → IsSet xs → added ≡ not (has_word w xs) → added ≡ false
    → more ≡ with_word w xs → more ≡ xs
still_there w xs more added set is old more_is =
    more_is ∙ with_present 0 WORD_LIMIT w xs set (not_false (has_word w xs) (sym is ∙ old))

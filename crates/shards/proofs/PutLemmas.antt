-- Edits that are put into a list one after another do to it what their merge does.
use Rattle.std.proofs.Common.{◌≡◌, ◌⊎◌, ℕ, zero, suc, ◌+◌, ◌<◌, ◌≤◌, Bool, true, false, not, ◌&&◌, ◌||◌, eqb, List, [], ◌∷◌, length, get_or, filter, refl, sym, ap, subst, ◌∙◌, inl, inr, eq-eqb, arith}
use Rattle.std.specs.List.{AllByRecursion}
use Rattle.std.proofs.lemmas.Bool.{cases_lt, cases_eq, ne_eqb}
use Rattle.std.proofs.lemmas.List.Elements.{All-nil, All-from_recursion}
use Rattle.std.proofs.lemmas.List.Folds.{list_any-append}
use Rattle.past_model.specs.declared.limits.TheConstants.{MOST_VERTICES}
use Rattle.past_model.specs.declared.edit.Edit.{Edit}
use Rattle.past_model.specs.declared.edit.Edit.TheVariants.{Insert, Remove}
use Rattle.graph_model.specs.Graph.{numbers_below}
use Rattle.past_model.specs.Edits.{source_of, target_of, inserts}
use Rattle.graph_model.proofs.Around.{one}
use Rattle.word_sets.specs.declared.places.TheConstants.{WORD_LIMIT}
use Rattle.word_sets.specs.Words.{has_word, with_word, without_word, IsSet, IsWithin}
use Rattle.word_sets.proofs.Within.{IsWithin-filter}
use Rattle.word_sets.proofs.Targets.{IsWithin-numbers_below}
use Rattle.word_sets.proofs.Members.{IsWithin-with, IsWithin-without, has-filter, has-with, has-without, same_words}
use Rattle.word_sets.proofs.Changes.{with_present, without_absent}
use Rattle.shards.specs.declared.counts.Counts.{Counts}
use Rattle.shards.specs.Merge.{AreEditsFrom, IsMerged, Merging}
use Rattle.shards.specs.Put.{AreOwnEdits, IsPut, put_words, put_counts}
use Rattle.shards.proofs.HomeLemmas.{set_merged}
use Rattle.shards.proofs.MergeLemmas.{IsMerging, test_after, test_after-own, test_after-other, idle_edit, changing_edit, count_after}

-- a merge under way that has not moved a word: all of them are left
abbrev pub unmoved : List ℕ → Counts → Merging
unmoved xs counts = record { merged = []; rest = xs; counts = counts }

or_true : (b : Bool) → (b || true) ≡ true
or_true true = refl
or_true false = refl

and_true : (b : Bool) → (b && true) ≡ b
and_true true = refl
and_true false = refl

has_number : (n t : ℕ) → t < n → has_word t (numbers_below n) ≡ true
has_number zero t low = absurd (omega arith)
has_number (suc n) t low =
    list_any-append (λ x. eqb x t) (numbers_below n) (n ∷ [])
    ∙ elim (cases_lt t n) [
      | inl lt ↦ ap (λ b. b || (eqb n t || false)) (has_number n t lt)
      | inr ge ↦ (let same : n ≡ t = omega arith in ap (λ b. has_word t (numbers_below n) || (b || false)) (eq-eqb n t same) ∙ or_true (has_word t (numbers_below n)))
    ]

-- the numbers below n that pass a test have one of them exactly if it passes
has_passed : (test : ℕ → Bool) (n t : ℕ) → t < n → has_word t (filter test (numbers_below n)) ≡ test t
has_passed test n t low = has-filter test t (numbers_below n) ∙ ap (λ b. test t && b) (has_number n t low) ∙ and_true (test t)

pub passed_within : (test : ℕ → Bool) (n : ℕ) → IsWithin 0 n (filter test (numbers_below n))
passed_within test n = IsWithin-filter test 0 n (numbers_below n) (IsWithin-numbers_below n)

-- a word that is the edit's target, or is not, before and after the edit
at_target : (e : Edit) (test : ℕ → Bool) (n v : ℕ) → v ≡ target_of e → target_of e < n → inserts e ≡ has_word v (filter (test_after e test) (numbers_below n))
at_target e test n v same low =
    sym (ap (λ w. has_word w (filter (test_after e test) (numbers_below n))) same ∙ has_passed (test_after e test) n (target_of e) low ∙ test_after-own e test)

off_target : (e : Edit) (test : ℕ → Bool) (n v : ℕ) → (v ≡ target_of e → ⊥) → has_word v (filter test (numbers_below n)) ≡ has_word v (filter (test_after e test) (numbers_below n))
off_target e test n v other =
    has-filter test v (numbers_below n)
    ∙ ap (λ b. b && has_word v (numbers_below n)) (sym (test_after-other e test v other))
    ∙ sym (has-filter (test_after e test) v (numbers_below n))

-- an edit of a list that a test lets through gives the list that the test after the edit lets through
pub put_passed : (e : Edit) (test : ℕ → Bool) (n : ℕ) → target_of e < n → put_words e (filter test (numbers_below n)) ≡ filter (test_after e test) (numbers_below n)
put_passed (Insert s t) test n low =
    let xs = filter test (numbers_below n) in
    let after = test_after (Insert s t) test in
    same_words 0 n (with_word t xs) (filter after (numbers_below n)) (IsWithin-with 0 n t xs (omega arith) low (passed_within test n)) (passed_within after n) (λ v.
    has-with v t xs
    ∙ elim (cases_eq v t) [
      | inl same ↦ ap (λ b. b || has_word v xs) (eq-eqb v t same) ∙ at_target (Insert s t) test n v same low
      | inr other ↦ ap (λ b. b || has_word v xs) (ne_eqb v t other) ∙ off_target (Insert s t) test n v other
    ])
put_passed (Remove s t) test n low =
    let xs = filter test (numbers_below n) in
    let after = test_after (Remove s t) test in
    same_words 0 n (without_word t xs) (filter after (numbers_below n)) (IsWithin-without 0 n t xs (passed_within test n)) (passed_within after n) (λ v.
    has-without v t xs
    ∙ elim (cases_eq v t) [
      | inl same ↦ ap (λ b. not b && has_word v xs) (eq-eqb v t same) ∙ at_target (Remove s t) test n v same low
      | inr other ↦ ap (λ b. not b && has_word v xs) (ne_eqb v t other) ∙ off_target (Remove s t) test n v other
    ])

-- an edit that says what is so changes no word and no count
put_idle : (e : Edit) (n : ℕ) (xs : List ℕ) (c : Counts) → IsWithin 0 n xs → has_word (target_of e) xs ≡ inserts e → (put_words e xs ≡ xs) × (put_counts e (has_word (target_of e) xs) c ≡ c)
put_idle (Insert s t) n xs c set there = (with_present 0 n t xs set there, ap (λ b. put_counts (Insert s t) b c) there)
put_idle (Remove s t) n xs c set gone = (without_absent t xs gone, ap (λ b. put_counts (Remove s t) b c) gone)

-- the pairs that are new under a test, and those that are gone
abbrev new_under : (ℕ → Bool) → (ℕ → Bool) → ℕ → ℕ
new_under p test n = length (filter (λ v. test v && not (p v)) (numbers_below n))

abbrev gone_under : (ℕ → Bool) → (ℕ → Bool) → ℕ → ℕ
gone_under p test n = length (filter (λ v. p v && not (test v)) (numbers_below n))

-- an edit of a target that no edit before named, and that says what is not so, counts once
put_counted : (e : Edit) (n : ℕ) (p test : ℕ → Bool) (c : Counts) → target_of e < n → test (target_of e) ≡ p (target_of e) → test (target_of e) ≡ not (inserts e) → c.added ≡ new_under p test n → c.removed ≡ gone_under p test n
    → ((put_counts e (test (target_of e)) c).added ≡ new_under p (test_after e test) n) × ((put_counts e (test (target_of e)) c).removed ≡ gone_under p (test_after e test) n)
put_counted (Insert s t) n p test c low same was gained lost =
    let after = test_after (Insert s t) test in
    let agree : (x : ℕ) → (x ≡ t → ⊥) → after x ≡ test x = λ x other. test_after-other (Insert s t) test x other in
    let more = count_after n t (λ v. after v && not (p v)) (λ v. test v && not (p v)) low (λ x other. ap (λ b. b && not (p x)) (agree x other)) in
    let less = count_after n t (λ v. p v && not (after v)) (λ v. p v && not (test v)) low (λ x other. ap (λ b. p x && not b) (agree x other)) in
    let now : after t ≡ true = test_after-own (Insert s t) test in
    let before : p t ≡ false = sym same ∙ was in
    let counts = ap (λ b. put_counts (Insert s t) b c) was in
    let new_before : one (test t && not (p t)) ≡ 0 = ap (λ b. one (b && not (p t))) was in
    let new_after : one (after t && not (p t)) ≡ 1 = ap (λ x. one (x && not (p t))) now ∙ ap (λ x. one (not x)) before in
    let gone_before : one (p t && not (test t)) ≡ 0 = ap (λ x. one (x && not (test t))) before in
    let gone_after : one (p t && not (after t)) ≡ 0 = ap (λ x. one (x && not (after t))) before in (
      ap (λ x. x.added) counts ∙ omega (arith, gained, more, new_before, new_after),
      ap (λ x. x.removed) counts ∙ omega (arith, lost, less, gone_before, gone_after),
    )
put_counted (Remove s t) n p test c low same was gained lost =
    let after = test_after (Remove s t) test in
    let agree : (x : ℕ) → (x ≡ t → ⊥) → after x ≡ test x = λ x other. test_after-other (Remove s t) test x other in
    let more = count_after n t (λ v. after v && not (p v)) (λ v. test v && not (p v)) low (λ x other. ap (λ b. b && not (p x)) (agree x other)) in
    let less = count_after n t (λ v. p v && not (after v)) (λ v. p v && not (test v)) low (λ x other. ap (λ b. p x && not b) (agree x other)) in
    let now : after t ≡ false = test_after-own (Remove s t) test in
    let before : p t ≡ true = sym same ∙ was in
    let counts = ap (λ b. put_counts (Remove s t) b c) was in
    let new_before : one (test t && not (p t)) ≡ 0 = ap (λ b. one (b && not (p t))) was ∙ ap (λ x. one (not x)) before in
    let new_after : one (after t && not (p t)) ≡ 0 = ap (λ x. one (x && not (p t))) now in
    let gone_before : one (p t && not (test t)) ≡ 0 = ap (λ x. one (x && not (test t))) before ∙ ap (λ x. one (not x)) was in
    let gone_after : one (p t && not (after t)) ≡ 1 = ap (λ x. one (x && not (after t))) before ∙ ap (λ x. one (not x)) now in (
      ap (λ x. x.added) counts ∙ omega (arith, gained, more, new_before, new_after),
      ap (λ x. x.removed) counts ∙ omega (arith, lost, less, gone_before, gone_after),
    )

same_or_not : (b c : Bool) → (b ≡ c) ⊎ (b ≡ not c)
same_or_not true true = inl refl
same_or_not true false = inr refl
same_or_not false true = inr refl
same_or_not false false = inl refl

-- one edit more is put in, where no later one has its target
pub put_one : (n : ℕ) (p : ℕ → Bool) (es : List Edit) (u i : ℕ) (xs ys : List ℕ) (c k : Counts) (e d : Edit) → IsMerging n p es u i (unmoved xs c) → AreEditsFrom u n es → i < length es → e ≡ get_or es i d
    → ((j : ℕ) (q : Edit) → i + 1 ≤ j → j < length es → target_of e < target_of (get_or es j q)) → IsPut e xs c ys k → IsMerging n p es u (i + 1) (unmoved ys k)
put_one n p es u i xs ys c k e d is from inside here later put =
    let t = target_of e in
    let own : (source_of e ≡ u) × (t < n) = subst (λ x. (source_of x ≡ u) × (target_of x < n)) (sym here) (All-from_recursion (λ x. (source_of x ≡ u) × (target_of x < n)) es from i d inside) in
    let same : is.test t ≡ p t = subst (λ x. is.test (target_of x) ≡ p (target_of x)) (sym here) (is.untouched i d (omega arith) inside) in
    let list : xs ≡ filter is.test (numbers_below n) = is.list in
    let there : has_word t xs ≡ is.test t = ap (has_word t) list ∙ has_passed is.test n t own.1 in
    elim (same_or_not (is.test t) (inserts e)) [
      | inl so ↦ (
          let idle = put_idle e n xs c (subst (IsWithin 0 n) (sym list) (passed_within is.test n)) (there ∙ so) in
          subst (λ l. IsMerging n p es u (i + 1) (unmoved l k)) (sym (put.words ∙ idle.0))
          (subst (λ m. IsMerging n p es u (i + 1) (unmoved xs m)) (sym (put.counted ∙ idle.1))
          (idle_edit n p es u i (unmoved xs c) d is inside (ap source_of (sym here) ∙ own.0) (ap (λ x. is.test (target_of x)) (sym here) ∙ so ∙ ap inserts here))))
      | inr changes ↦ (
          let once = put_counted e n p is.test c own.1 same changes is.gained is.lost in
          let counts : k ≡ put_counts e (is.test t) c = put.counted ∙ ap (λ b. put_counts e b c) there in
          changing_edit n p es u i (unmoved xs c) (unmoved ys k) e d is inside here own.0 own.1 later
          (put.words ∙ ap (put_words e) list ∙ put_passed e is.test n own.1)
          (λ y above. All-nil (λ x. x < y))
          (ap (λ m. m.added) counts ∙ once.0)
          (ap (λ m. m.removed) counts ∙ once.1))
    ]

-- one edit counts once at most
once_at_most : (e : Edit) (there : Bool) (c : Counts) → ((put_counts e there c).added ≤ c.added + 1) × ((put_counts e there c).removed ≤ c.removed + 1)
once_at_most (Insert s t) true c = (omega arith, omega arith)
once_at_most (Insert s t) false c = (omega arith, omega arith)
once_at_most (Remove s t) true c = (omega arith, omega arith)
once_at_most (Remove s t) false c = (omega arith, omega arith)

pub few_put : (e : Edit) (xs ys : List ℕ) (c k : Counts) → IsPut e xs c ys k → (k.added ≤ c.added + 1) × (k.removed ≤ c.removed + 1)
few_put e xs ys c k put = subst (λ m. (m.added ≤ c.added + 1) × (m.removed ≤ c.removed + 1)) (sym put.counted) (once_at_most e (has_word (target_of e) xs) c)

-- edits of a vertex go to vertices that a graph may have
targets_below : (u n : ℕ) (es : List Edit) → n ≡ MOST_VERTICES → AreEditsFrom u n es → AllByRecursion (λ e. target_of e < WORD_LIMIT) es
targets_below u n [] small from = tt
targets_below u n (e ∷ es) small from = (omega (arith, small, from.0.1), targets_below u n es small from.1)

pub own_targets : (es : List Edit) (row : List ℕ) → AreOwnEdits es row → AllByRecursion (λ e. target_of e < WORD_LIMIT) es
own_targets es row own = targets_below own.vertex own.limit es own.small own.edits

-- a vertex's list after its edits is a set
pub own_set : (es : List Edit) (row after : List ℕ) (more : Counts) → AreOwnEdits es row → ((u n : ℕ) (p : ℕ → Bool) → AreEditsFrom u n es → row ≡ filter p (numbers_below n) → IsMerged es u n p after more) → IsSet after
own_set es row after more own merged =
    set_merged es own.vertex own.limit own.has_target after more own.small (merged own.vertex own.limit own.has_target own.edits own.list)

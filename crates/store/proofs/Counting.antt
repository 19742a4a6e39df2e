-- How many entries the feeds have put.
use Rattle.std.proofs.Common.{◌≡◌, ◌≢◌, ℕ, zero, suc, lt_of_not-le, ◌+◌, ◌<◌, ◌≤◌, List, [], ◌∷◌, ◌++◌, length, refl, sym, ap, ◌∙◌, arith, append-nil, length-append}
use Rattle.std.proofs.lemmas.Bool.{eq-eqb, ne_eqb}
use native.Mathlib.Decide.{ℕ_discrete, dec_le}
use Rattle.past_model.specs.declared.entry.Entry.{Entry}
use Rattle.past_model.specs.declared.limits.TheConstants.{FEEDS}
use Rattle.store_model.specs.declared.limits.TheConstants.{QUEUE_PLACES}
use Rattle.past_model.specs.Past.{of_feed}
use Rattle.store.specs.QueueViews.{taker}
use Rattle.store.specs.QueueRule.{Left}

own_first : (p : ℕ) (x : Entry) (xs : List Entry) → x.feed ≡ p → of_feed p (x ∷ xs) ≡ x ∷ of_feed p xs
own_first p x xs is = rw (eq-eqb x.feed p is)

other_first : (p : ℕ) (x : Entry) (xs : List Entry) → x.feed ≢ p → of_feed p (x ∷ xs) ≡ of_feed p xs
other_first p x xs other = rw (ne_eqb x.feed p other)

abbrev NoneFrom : ℕ → List Entry → Type 0
NoneFrom n xs = (p : ℕ) → n ≤ p → of_feed p xs ≡ []

none_behind : (n : ℕ) (x : Entry) (xs : List Entry) → NoneFrom n (x ∷ xs) → NoneFrom n xs
none_behind n x xs none p le = elim (ℕ_discrete x.feed p) [
  | yes is ↦ (let some : x ∷ of_feed p xs ≡ [] = sym (own_first p x xs is) ∙ none p le in absurd (cc some))
  | no other ↦ sym (other_first p x xs other) ∙ none p le
]

-- how many entries of the first n feeds there are
abbrev total : ℕ → List Entry → ℕ
total zero xs = 0
total (suc n) xs = total n xs + length (of_feed n xs)

total_none : (n : ℕ) → 0 ≡ total n []
total_none zero = refl
total_none (suc n) = omega (arith, total_none n)

-- an entry of another feed changes nothing, and one of these is one more
total_other : (n : ℕ) (x : Entry) (xs : List Entry) → n ≤ x.feed → total n (x ∷ xs) ≡ total n xs
total_other zero x xs le = refl
total_other (suc n) x xs le =
    let rest = total_other n x xs (omega arith) in
    let same = ap (length {A = Entry}) (other_first n x xs (λ e. omega arith)) in omega arith

total_own : (n : ℕ) (x : Entry) (xs : List Entry) → x.feed < n → total n (x ∷ xs) ≡ total n xs + 1
total_own zero x xs lt = absurd (omega arith)
total_own (suc n) x xs lt = elim (ℕ_discrete x.feed n) [
  | yes is ↦ (let rest = total_other n x xs (omega arith) in let own = ap (length {A = Entry}) (own_first n x xs is) in omega arith)
  | no other ↦ (let rest = total_own n x xs (omega arith) in let same = ap (length {A = Entry}) (other_first n x xs other) in omega arith)
]

-- where there are entries of n feeds alone, they are those of the one, of the next, and so on
count_all : (n : ℕ) (xs : List Entry) → NoneFrom n xs → length xs ≡ total n xs
count_all n [] none = total_none n
count_all n (x ∷ xs) none = elim (dec_le n x.feed) [
  | yes le ↦ (let some : x ∷ of_feed x.feed xs ≡ [] = sym (own_first x.feed x xs refl) ∙ none x.feed le in absurd (cc some))
  | no lt ↦ (let rest = count_all n xs (none_behind n x xs none) in let one = total_own n x xs (lt_of_not-le lt) in omega arith)
]

same_total : (n : ℕ) (xs ys : List Entry) → ((k : ℕ) → k < n → of_feed k xs ≡ of_feed k ys) → total n xs ≡ total n ys
same_total zero xs ys same = refl
same_total (suc n) xs ys same =
    let rest = same_total n xs ys (λ k lt. same k (omega arith)) in
    let last = ap (length {A = Entry}) (same n (omega arith)) in omega arith

-- what was taken and what is left are as many, whenever that is known
count_same : (n : ℕ) (taken items taken' items' : List Entry) (ended : List (List Entry)) → length ended ≡ FEEDS
    → Left (taker n taken FEEDS ended) items → Left (taker n taken' FEEDS ended) items' → length taken + length items ≡ length taken' + length items'
count_same n taken items taken' items' ended all left left' =
    let a = count_all FEEDS (taken ++ items) left.unmade in
    let b = count_all FEEDS (taken' ++ items') left'.unmade in
    let same = same_total FEEDS (taken ++ items) (taken' ++ items') (λ k lt. left.ended k (omega arith) ∙ sym (left'.ended k (omega arith))) in
    omega (arith, length-append taken items, length-append taken' items')

-- there is room for one more that was taken
pub room : (n : ℕ) (taken start xs rest : List Entry) (x : Entry) (ended : List (List Entry)) → length ended ≡ FEEDS → Left (taker n taken FEEDS ended) start
    → Left (taker n ((taken ++ xs) ++ x ∷ []) FEEDS ended) rest → length xs < QUEUE_PLACES
room n taken start xs rest x ended all before after =
    let a = count_same n taken start ((taken ++ xs) ++ x ∷ []) rest ended all before after in
    let few = before.bounded in
    omega (arith, length-append (taken ++ xs) (x ∷ []), length-append taken xs)

-- where the queue holds nothing, what was taken since is what was left
pub is_left : (n : ℕ) (taken start xs items : List Entry) (ended : List (List Entry)) → length ended ≡ FEEDS → Left (taker n taken FEEDS ended) start
    → length items ≡ 0 → Left (taker n (taken ++ xs) FEEDS ended) items → Left (taker n taken FEEDS ended) xs
is_left n taken start xs [] ended all before none after =
    let whole : (taken ++ xs) ++ [] ≡ taken ++ xs = append-nil (taken ++ xs) in
    let a = count_same n taken start (taken ++ xs) [] ended all before after in
    let few = before.bounded in
    record {
      ended = λ k lt. ap (of_feed k) (sym whole) ∙ after.ended k lt;
      unmade = λ p le. ap (of_feed p) (sym whole) ∙ after.unmade p le;
      bounded = omega (arith, length-append taken xs);
    }
is_left n taken start xs (x ∷ items) ended all before none after = absurd (omega arith)

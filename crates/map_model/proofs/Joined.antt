-- Pushes into several arrays that are joined place by place.
use Rattle.std.proofs.Common.{◌≡◌, ℕ, zero, suc, ◌+◌, ◌^◌, ◌<◌, ◌≤◌, ◌==◌, min, max, sum, List, [], ◌∷◌, ◌++◌, length, get_or, set, replicate, refl, sym, ap, ap₂, ◌∙◌, subst, arith, inl, inr, zero-add, length-set, get_or-set_same, get_or-set_other}
use Rattle.std.specs.Prelude.{◌≢◌, if◌then◌else◌}
use Rattle.std.proofs.lemmas.Bool.{cases_eq, eq-eqb, ne_eqb}
use Rattle.std.proofs.lemmas.List.{ext_get_or, get_or-replicate, length-replicate}
use Rattle.std.proofs.lemmas.List.Sums.{sum_by-append}
use Rattle.map_model.specs.declared.reduction.Reduction.{Reduction}
use Rattle.map_model.specs.declared.reduction.Reduction.TheVariants.{Min, Max, Sum}
use Rattle.map_model.specs.EdgeMap.{least, greatest, reduction_of_numbers}
use Rattle.map_model.specs.Pushes.{joint, joined, pushed, numbers_to, changed, PushesJoin}
use Rattle.map_model.proofs.Pushes.{least_limit, pushed_long, pushed_reduce}

least_of_two : (xs ys : List ℕ) → least (xs ++ ys) ≡ min (least xs) (least ys)
least_of_two [] ys = omega (arith, least_limit ys)
least_of_two (x ∷ xs) ys = omega (arith, least_of_two xs ys)

greatest_of_two : (xs ys : List ℕ) → greatest (xs ++ ys) ≡ max (greatest xs) (greatest ys)
greatest_of_two [] ys = omega arith
greatest_of_two (x ∷ xs) ys = omega (arith, greatest_of_two xs ys)

-- numbers in two parts, the second with what no number reduces to
in_two_parts : (r : Reduction) (x : ℕ) (xs ys : List ℕ)
    → reduction_of_numbers r (x ∷ (xs ++ ys)) ≡ joint r (reduction_of_numbers r (x ∷ xs)) (reduction_of_numbers r (reduction_of_numbers r [] ∷ ys))
in_two_parts Min x xs ys = omega (arith, least_of_two xs ys, least_limit ys)
in_two_parts Max x xs ys = omega (arith, greatest_of_two xs ys)
in_two_parts Sum x xs ys =
    let a = reduction_of_numbers Sum (x ∷ xs) in
    let b = reduction_of_numbers Sum (0 ∷ ys) in
    let all : sum (x ∷ (xs ++ ys)) ≡ sum (x ∷ xs) + sum ys = sum_by-append (λ x. x) (x ∷ xs) ys in
    let rest : sum (0 ∷ ys) ≡ sum (0 ∷ []) + sum ys = sum_by-append (λ x. x) (0 ∷ []) ys in
    let both : sum (a ∷ b ∷ []) ≡ sum (a ∷ []) + sum (b ∷ []) = sum_by-append (λ x. x) (a ∷ []) (b ∷ []) in
    omega (arith, all, rest, both, zero-add a, zero-add b)

numbers_of_two : (v : ℕ) (ts us ns ms : List ℕ) → length ts ≡ length ns → numbers_to v (ts ++ us) (ns ++ ms) ≡ numbers_to v ts ns ++ numbers_to v us ms
unfolding numbers_to
numbers_of_two v [] us [] ms same = refl
numbers_of_two v [] us (n ∷ ns) ms same = absurd (omega (arith, same))
numbers_of_two v (t ∷ ts) us [] ms same = absurd (omega (arith, same))
numbers_of_two v (t ∷ ts) us (n ∷ ns) ms same =
    elim (cases_eq t v) [
      | inl here ↦ rw (eq-eqb t v here) (ap (λ xs. n ∷ xs) (numbers_of_two v ts us ns ms (omega (arith, same))))
      | inr other ↦ rw (ne_eqb t v other) (numbers_of_two v ts us ns ms (omega (arith, same)))
    ]

pub joined_long : (r : Reduction) (xs ys : List ℕ) → length (joined r xs ys) ≡ length xs
unfolding joined
joined_long r [] ys = refl
joined_long r (x ∷ xs) [] = refl
joined_long r (x ∷ xs) (y ∷ ys) = omega (arith, joined_long r xs ys)

pub joined_at_place : (r : Reduction) (xs ys : List ℕ) (v : ℕ) → v < length xs → length xs ≡ length ys → get_or (joined r xs ys) v 0 ≡ joint r (get_or xs v 0) (get_or ys v 0)
unfolding joined
joined_at_place r [] ys v inside same = absurd (omega (arith, inside))
joined_at_place r (x ∷ xs) [] v inside same = absurd (omega (arith, same))
joined_at_place r (x ∷ xs) (y ∷ ys) zero inside same = refl
joined_at_place r (x ∷ xs) (y ∷ ys) (suc v) inside same = joined_at_place r xs ys v (omega (arith, inside)) (omega (arith, same))

none_small : (r : Reduction) → reduction_of_numbers r [] < 2 ^ 64
none_small Min = omega arith
none_small Max = omega arith
none_small Sum = omega arith

pub pushes_join : PushesJoin
pushes_join r ts us ns ms values same small =
    let none = reduction_of_numbers r [] in
    let empty = replicate (length values) none in
    let empty_long : length empty ≡ length values = length-replicate (length values) none in
    let first = pushed r ts ns values in
    let second = pushed r us ms empty in
    let first_long : length first ≡ length values = pushed_long r ts ns values in
    let second_long : length second ≡ length values = pushed_long r us ms empty ∙ empty_long in
    let all_long : length (pushed r (ts ++ us) (ns ++ ms) values) ≡ length values = pushed_long r (ts ++ us) (ns ++ ms) values in
    ext_get_or 0 (pushed r (ts ++ us) (ns ++ ms) values) (joined r first second) (all_long ∙ sym first_long ∙ sym (joined_long r first second))
    (λ v below.
    let inside : v < length values = omega (arith, below, all_long) in
    let is_none : get_or empty v 0 ≡ none = get_or-replicate (length values) v none 0 inside in
    pushed_reduce r (ts ++ us) (ns ++ ms) values v inside (small v)
    ∙ ap (λ xs. reduction_of_numbers r (get_or values v 0 ∷ xs)) (numbers_of_two v ts us ns ms same)
    ∙ in_two_parts r (get_or values v 0) (numbers_to v ts ns) (numbers_to v us ms)
    ∙ sym (joined_at_place r first second v (omega (arith, inside, first_long)) (first_long ∙ sym second_long)
    ∙ ap₂ (joint r) (pushed_reduce r ts ns values v inside (small v))
    (pushed_reduce r us ms empty v (omega (arith, inside, empty_long)) (subst (λ k. k < 2 ^ 64) (sym is_none) (none_small r))
    ∙ ap (λ k. reduction_of_numbers r (k ∷ numbers_to v us ms)) is_none)))

-- ---- the loop that joins, and counts what changes

none_changed : (xs : List ℕ) → changed xs xs ≡ 0
unfolding changed
none_changed [] = refl
none_changed (x ∷ xs) = rw (eq-eqb x x refl) (zero-add (changed xs xs) ∙ none_changed xs)

-- a place more that may differ
pub changed_set : (old new : List ℕ) (t v : ℕ) → t < length old → length old ≡ length new → get_or old t 0 ≡ get_or new t 0
    → changed old (set new t v) ≡ (if get_or old t 0 == v then 0 else 1) + changed old new
unfolding changed
changed_set [] new t v inside same stays = absurd (omega (arith, inside))
changed_set (a ∷ old) [] t v inside same stays = absurd (omega (arith, same))
changed_set (a ∷ old) (b ∷ new) zero v inside same stays = rw (eq-eqb a b stays) (ap (λ n. (if a == v then 0 else 1) + n) (sym (zero-add (changed old new))))
changed_set (a ∷ old) (b ∷ new) (suc t) v inside same stays =
    let rest : changed old (set new t v) ≡ (if get_or old t 0 == v then 0 else 1) + changed old new = changed_set old new t v (omega (arith, inside)) (omega (arith, same)) stays in
    omega (arith, rest)

-- the places before one are joined
pub record JoinedTo (r : Reduction) (old others : List ℕ) (at : ℕ) (values : List ℕ) (count : ℕ) : Type 0 where
  pub long : length values ≡ length old
  pub done : (k : ℕ) → k < at → get_or values k 0 ≡ joint r (get_or old k 0) (get_or others k 0)
  pub ahead : (k : ℕ) → at ≤ k → get_or values k 0 ≡ get_or old k 0
  pub counted : count ≡ changed old values
  pub few : count ≤ at

pub none_joined : (r : Reduction) (old others : List ℕ) → JoinedTo r old others 0 old 0
none_joined r old others = record { long = refl; done = λ k below. absurd (omega (arith, below)); ahead = λ k from. refl; counted = sym (none_changed old); few = omega arith }

one_joined : (r : Reduction) (old others : List ℕ) (at : ℕ) (values : List ℕ) (count next v : ℕ) → at < length old → JoinedTo r old others at values count
    → v ≡ joint r (get_or values at 0) (get_or others at 0) → next ≡ (if get_or old at 0 == v then 0 else 1) + count → next ≤ count + 1
    → JoinedTo r old others (at + 1) (set values at v) next
one_joined r old others at values count next v inside so_far is sum_is small =
    let long = so_far.long in
    let there : get_or values at 0 ≡ get_or old at 0 = so_far.ahead at (omega arith) in
    record {
      long = length-set values at v ∙ long;
      done = λ k below. elim (cases_eq k at) [
        | inl same ↦ rw same (get_or-set_same values at v 0 (omega (arith, inside, long)) ∙ is ∙ ap (λ n. joint r n (get_or others at 0)) there)
        | inr other ↦ get_or-set_other values at k v 0 other ∙ so_far.done k (omega (arith, below, other))
      ];
      ahead = λ k from. get_or-set_other values at k v 0 (omega (arith, from)) ∙ so_far.ahead k (omega (arith, from));
      counted = sum_is ∙ ap (λ n. (if get_or old at 0 == v then 0 else 1) + n) so_far.counted ∙ sym (changed_set old values at v inside (sym long) (sym there));
      few = omega (arith, small, so_far.few);
    }

pub one_changed : (r : Reduction) (old others : List ℕ) (at : ℕ) (values : List ℕ) (count v : ℕ) → at < length old → JoinedTo r old others at values count
    → v ≡ joint r (get_or values at 0) (get_or others at 0) → v ≢ get_or values at 0 → JoinedTo r old others (at + 1) (set values at v) (count + 1)
one_changed r old others at values count v inside so_far is other =
    let apart : get_or old at 0 ≢ v = (λ e. other (sym e ∙ sym (so_far.ahead at (omega arith)))) in
    one_joined r old others at values count (count + 1) v inside so_far is (rw (ne_eqb (get_or old at 0) v apart) (omega arith)) (omega arith)

pub one_kept : (r : Reduction) (old others : List ℕ) (at : ℕ) (values : List ℕ) (count v : ℕ) → at < length old → JoinedTo r old others at values count
    → v ≡ joint r (get_or values at 0) (get_or others at 0) → v ≡ get_or values at 0 → JoinedTo r old others (at + 1) (set values at v) count
one_kept r old others at values count v inside so_far is same =
    let stays : get_or old at 0 ≡ v = sym (same ∙ so_far.ahead at (omega arith)) in
    one_joined r old others at values count count v inside so_far is (rw (eq-eqb (get_or old at 0) v stays) (omega arith)) (omega arith)

pub all_joined : (r : Reduction) (old others : List ℕ) (at : ℕ) (values : List ℕ) (count : ℕ) → length values ≤ at → length old ≡ length others → JoinedTo r old others at values count
    → values ≡ joined r old others
all_joined r old others at values count past same so_far =
    ext_get_or 0 values (joined r old others) (so_far.long ∙ sym (joined_long r old others))
    (λ k below. so_far.done k (omega (arith, below, past)) ∙ sym (joined_at_place r old others k (omega (arith, below, so_far.long)) same))

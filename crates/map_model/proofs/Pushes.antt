-- What a push leaves at each vertex.
use Rattle.std.proofs.Common.{◌≡◌, ℕ, ◌+◌, ◌-◌, ◌^◌, ◌%◌, ◌<◌, ◌≤◌, ◌==◌, sum, List, [], ◌∷◌, ◌++◌, length, get_or, set, drop, refl, sym, ap, ◌∙◌, subst, arith, inl, inr, zero-add, length-set}
use Rattle.std.specs.Prelude.{◌≢◌, if◌then◌else◌}
use Rattle.std.proofs.lemmas.Bool.{cases_eq, eq-eqb, ne_eqb}
use Rattle.std.proofs.lemmas.List.{get_or-set_same, get_or-set_other, drop_more, drop_all}
use Rattle.std.proofs.lemmas.List.Sums.{sum_by-append}
use Rattle.std.proofs.Math.Nat.{mod-eq_of_lt}
use Rattle.map_model.specs.declared.reduction.Reduction.{Reduction}
use Rattle.map_model.specs.declared.reduction.Reduction.TheVariants.{Min, Max, Sum}
use Rattle.map_model.specs.EdgeMap.{least, reduction_of_numbers}
use Rattle.map_model.specs.Pushes.{joint, pushed, numbers_to, changed}

pub least_limit : (xs : List ℕ) → least xs ≤ 2 ^ 64 - 1
least_limit [] = omega arith
least_limit (x ∷ xs) = omega (arith, least_limit xs)

-- a number that reduces to itself: one of 64 bits, and of the greatest any
abbrev Fits : Reduction → ℕ → Type 0
Fits Min n = n < 2 ^ 64
Fits Max n = 0 ≤ n
Fits Sum n = n < 2 ^ 64

fits : (r : Reduction) (n : ℕ) → n < 2 ^ 64 → Fits r n
fits Min n small = small
fits Max n small = omega arith
fits Sum n small = small

alone : (r : Reduction) (n : ℕ) → Fits r n → reduction_of_numbers r (n ∷ []) ≡ n
alone Min n small = omega (arith, small)
alone Max n small = omega arith
alone Sum n small = ap (λ k. k % 2 ^ 64) (zero-add n) ∙ mod-eq_of_lt small

joint_fits : (r : Reduction) (a b : ℕ) → Fits r (joint r a b)
joint_fits Min a b = omega arith
joint_fits Max a b = omega arith
joint_fits Sum a b = omega arith

-- two numbers first, and then the rest
joined_first : (r : Reduction) (a b : ℕ) (xs : List ℕ) → reduction_of_numbers r (joint r a b ∷ xs) ≡ reduction_of_numbers r (a ∷ b ∷ xs)
joined_first Min a b xs = omega (arith, least_limit xs)
joined_first Max a b xs = omega arith
joined_first Sum a b xs =
    let left : sum (joint Sum a b ∷ xs) ≡ sum (joint Sum a b ∷ []) + sum xs = sum_by-append (λ x. x) (joint Sum a b ∷ []) xs in
    let one : sum (joint Sum a b ∷ []) ≡ joint Sum a b = zero-add (joint Sum a b) in
    let right : sum (a ∷ b ∷ xs) ≡ sum (a ∷ b ∷ []) + sum xs = sum_by-append (λ x. x) (a ∷ b ∷ []) xs in
    omega (arith, left, one, right)

stands : (r : Reduction) (ts ns values : List ℕ) (v : ℕ) → v < length values → Fits r (get_or values v 0)
    → get_or (pushed r ts ns values) v 0 ≡ reduction_of_numbers r (get_or values v 0 ∷ numbers_to v ts ns)
unfolding pushed numbers_to
stands r [] ns values v inside fit = sym (alone r (get_or values v 0) fit)
stands r (t ∷ ts) [] values v inside fit = sym (alone r (get_or values v 0) fit)
stands r (t ∷ ts) (n ∷ ns) values v inside fit =
    let j = joint r (get_or values t 0) n in
    let more = set values t j in
    let long : v < length more = omega (arith, inside, length-set values t j) in
    elim (cases_eq t v) [
      | inl same ↦
          (let here : get_or more v 0 ≡ joint r (get_or values v 0) n =
          subst (λ k. get_or (set values k (joint r (get_or values k 0) n)) v 0 ≡ joint r (get_or values v 0) n) (sym same) (get_or-set_same values v (joint r (get_or values v 0) n) 0 inside) in
          let fits_there : Fits r (get_or more v 0) = subst (Fits r) (sym here) (joint_fits r (get_or values v 0) n) in
          rw (eq-eqb t v same) (stands r ts ns more v long fits_there
          ∙ ap (λ k. reduction_of_numbers r (k ∷ numbers_to v ts ns)) here
          ∙ joined_first r (get_or values v 0) n (numbers_to v ts ns)))
      | inr other ↦
          (let here : get_or more v 0 ≡ get_or values v 0 = get_or-set_other values t v j 0 (λ e. other (sym e)) in
          rw (ne_eqb t v other) (stands r ts ns more v long (subst (Fits r) (sym here) fit)
          ∙ ap (λ k. reduction_of_numbers r (k ∷ numbers_to v ts ns)) here))
    ]

pub pushed_reduce : (r : Reduction) (ts ns values : List ℕ) (v : ℕ) → v < length values → get_or values v 0 < 2 ^ 64
    → get_or (pushed r ts ns values) v 0 ≡ reduction_of_numbers r (get_or values v 0 ∷ numbers_to v ts ns)
pushed_reduce r ts ns values v inside small = stands r ts ns values v inside (fits r (get_or values v 0) small)

-- some numbers first, and then others
pub pushed_in_turn : (r : Reduction) (ts us ns ms values : List ℕ) → length ts ≡ length ns → pushed r (ts ++ us) (ns ++ ms) values ≡ pushed r us ms (pushed r ts ns values)
unfolding pushed
pushed_in_turn r [] us [] ms values same = refl
pushed_in_turn r [] us (n ∷ ns) ms values same = absurd (omega (arith, same))
pushed_in_turn r (t ∷ ts) us [] ms values same = absurd (omega (arith, same))
pushed_in_turn r (t ∷ ts) us (n ∷ ns) ms values same = pushed_in_turn r ts us ns ms (set values t (joint r (get_or values t 0) n)) (omega (arith, same))

pub pushed_long : (r : Reduction) (ts ns values : List ℕ) → length (pushed r ts ns values) ≡ length values
unfolding pushed
pushed_long r [] ns values = refl
pushed_long r (t ∷ ts) [] values = refl
pushed_long r (t ∷ ts) (n ∷ ns) values = pushed_long r ts ns (set values t (joint r (get_or values t 0) n)) ∙ length-set values t (joint r (get_or values t 0) n)

-- the numbers before a place have gone to their targets
pub record IsPushed (r : Reduction) (targets numbers old : List ℕ) (at : ℕ) (values : List ℕ) : Type 0 where
  pub rest : pushed r (drop at targets) (drop at numbers) values ≡ pushed r targets numbers old
  pub long : length values ≡ length old

pub none_pushed : (r : Reduction) (targets numbers old : List ℕ) → IsPushed r targets numbers old 0 old
none_pushed r targets numbers old = record { rest = refl; long = refl }

first_pushed : (r : Reduction) (t n : ℕ) (ts ns values : List ℕ) → pushed r (t ∷ ts) (n ∷ ns) values ≡ pushed r ts ns (set values t (joint r (get_or values t 0) n))
unfolding pushed
first_pushed r t n ts ns values = refl

none_left : (r : Reduction) (ns values : List ℕ) → pushed r [] ns values ≡ values
unfolding pushed
none_left r ns values = refl

pub one_pushed : (r : Reduction) (targets numbers old : List ℕ) (at : ℕ) (values next : List ℕ) → at < length targets → length targets ≤ length numbers → IsPushed r targets numbers old at values
    → next ≡ set values (get_or targets at 0) (joint r (get_or values (get_or targets at 0) 0) (get_or numbers at 0)) → IsPushed r targets numbers old (at + 1) next
one_pushed r targets numbers old at values next inside enough so_far is =
    let t = get_or targets at 0 in
    let n = get_or numbers at 0 in
    let ts : drop at targets ≡ t ∷ drop (at + 1) targets = drop_more targets at 0 inside in
    let ns : drop at numbers ≡ n ∷ drop (at + 1) numbers = drop_more numbers at 0 (omega (arith, inside, enough)) in
    record {
      rest = ap (pushed r (drop (at + 1) targets) (drop (at + 1) numbers)) is
          ∙ sym (first_pushed r t n (drop (at + 1) targets) (drop (at + 1) numbers) values)
          ∙ sym (ap (λ xs. pushed r xs (n ∷ drop (at + 1) numbers) values) ts)
          ∙ sym (ap (λ xs. pushed r (drop at targets) xs values) ns)
          ∙ so_far.rest;
      long = ap length is ∙ length-set values t (joint r (get_or values t 0) n) ∙ so_far.long;
    }

pub all_pushed : (r : Reduction) (targets numbers old : List ℕ) (at : ℕ) (values : List ℕ) → length targets ≤ at → IsPushed r targets numbers old at values → values ≡ pushed r targets numbers old
all_pushed r targets numbers old at values past so_far =
    sym (ap (λ xs. pushed r xs (drop at numbers) values) (drop_all at targets past) ∙ none_left r (drop at numbers) values) ∙ so_far.rest

-- the places before one are counted
pub record IsCounted (old new : List ℕ) (at count : ℕ) : Type 0 where
  pub rest : count + changed (drop at old) (drop at new) ≡ changed old new
  pub few : count ≤ at

pub none_counted : (old new : List ℕ) → IsCounted old new 0 0
none_counted old new = record { rest = zero-add (changed old new); few = omega arith }

one_more : (a b : ℕ) (old new : List ℕ) → changed (a ∷ old) (b ∷ new) ≡ (if a == b then 0 else 1) + changed old new
unfolding changed
one_more a b old new = refl

none_more : (new : List ℕ) → changed [] new ≡ 0
unfolding changed
none_more new = refl

next_counted : (old new : List ℕ) (at count next more : ℕ) → at < length old → length old ≡ length new → IsCounted old new at count
    → (if get_or old at 0 == get_or new at 0 then 0 else 1) ≡ more → more ≤ 1 → next ≡ count + more → IsCounted old new (at + 1) next
next_counted old new at count next more inside same so_far is small sum_is =
    let a = get_or old at 0 in
    let b = get_or new at 0 in
    let olds : drop at old ≡ a ∷ drop (at + 1) old = drop_more old at 0 inside in
    let news : drop at new ≡ b ∷ drop (at + 1) new = drop_more new at 0 (omega (arith, inside, same)) in
    let here : changed (drop at old) (drop at new) ≡ (if a == b then 0 else 1) + changed (drop (at + 1) old) (drop (at + 1) new)
    = ap (λ xs. changed xs (drop at new)) olds ∙ ap (λ xs. changed (a ∷ drop (at + 1) old) xs) news ∙ one_more a b (drop (at + 1) old) (drop (at + 1) new) in
    record {
      rest = omega (arith, here, is, sum_is, so_far.rest);
      few = omega (arith, small, sum_is, so_far.few);
    }

pub one_differs : (old new : List ℕ) (at count : ℕ) → at < length old → length old ≡ length new → IsCounted old new at count
    → get_or old at 0 ≢ get_or new at 0 → IsCounted old new (at + 1) (count + 1)
one_differs old new at count inside same so_far differs =
    next_counted old new at count (count + 1) 1 inside same so_far (rw (ne_eqb (get_or old at 0) (get_or new at 0) differs) refl) (omega arith) refl

pub one_stays : (old new : List ℕ) (at count : ℕ) → at < length old → length old ≡ length new → IsCounted old new at count
    → get_or old at 0 ≡ get_or new at 0 → IsCounted old new (at + 1) count
one_stays old new at count inside same so_far stays =
    next_counted old new at count count 0 inside same so_far (rw (eq-eqb (get_or old at 0) (get_or new at 0) stays) refl) (omega arith) (omega arith)

pub all_counted : (old new : List ℕ) (at count : ℕ) → length old ≤ at → IsCounted old new at count → count ≡ changed old new
all_counted old new at count past so_far =
    omega (arith, so_far.rest, ap (λ xs. changed xs (drop at new)) (drop_all at old past) ∙ none_more (drop at new))

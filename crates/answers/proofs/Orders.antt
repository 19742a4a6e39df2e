-- Numbers that pass the test are core numbers.
use Rattle.std.proofs.Common.{◌≡◌, ℕ, zero, suc, ◌<◌, ◌≤◌, Bool, true, false, not, ◌==◌, ◌&&◌, nat_lt, List, [], ◌∷◌, length, refl, sym, ◌∙◌, inl, inr, arith}
use Rattle.std.specs.Prelude.{slice_index, ◌⊎◌, filter, cond}
use Rattle.std.specs.List.{Contains}
use Rattle.std.proofs.lemmas.Bool.{false≢true, cases_lt, and_from, and_parts, and_cases, or_parts, not-true, not-false, not_from_false, ltb-true, ltb-false, eqb-false, le-ltb}
use Rattle.std.proofs.lemmas.List.{get_or_past}
use Rattle.graph_model.specs.Graph.{Graph, neighbours}
use Rattle.graph_model.proofs.Neighbours.{Contains-neighbours}
use Rattle.answers.specs.Cores.{IsCore, is_at_least, is_after, AreCores, NumbersAreCores}

grows : (b c : Bool) (x : ℕ) (us vs : List ℕ) → (b ≡ true → c ≡ true) → length us ≤ length vs → length (cond b (x ∷ us) us) ≤ length (cond c (x ∷ vs) vs)
grows true true x us vs both le = omega (arith, le)
grows true false x us vs both le = absurd (false≢true (both refl))
grows false true x us vs both le = omega (arith, le)
grows false false x us vs both le = le

-- as many of a list pass the second test as the first, or one passes the first alone
module _ (p q : ℕ → Bool) where
  abbrev MoreOrOne : List ℕ → Type 0
  MoreOrOne xs = (length (filter p xs) ≤ length (filter q xs)) ⊎ ((u : ℕ) × Contains xs u × (p u ≡ true) × (q u ≡ false))

  step : (x : ℕ) (xs : List ℕ) (b c : Bool) → p x ≡ b → q x ≡ c → length (filter p xs) ≤ length (filter q xs) → MoreOrOne (x ∷ xs)
  step x xs true false first second le = inr (x, (0, omega arith, refl), first, second)
  step x xs true true first second le = inl (grows (p x) (q x) x (filter p xs) (filter q xs) (λ yes. second) le)
  step x xs false c first second le = inl (grows (p x) (q x) x (filter p xs) (filter q xs) (λ yes. absurd (false≢true (sym first ∙ yes))) le)

  more_or_one : (xs : List ℕ) → MoreOrOne xs
  more_or_one [] = inl (omega arith)
  more_or_one (x ∷ xs) =
      elim (more_or_one xs) [
        | inl le ↦ step x xs (p x) (q x) refl refl le
        | inr found ↦ (let at = found.1 in inr (found.0, (suc at.0, omega (arith, at.1), at.2), found.2, found.3))
      ]

module _ (g : Graph) (cores places : List ℕ) (are : AreCores g cores places) where
  abbrev core : ℕ → ℕ
  core v = slice_index cores v

  abbrev place : ℕ → ℕ
  place v = slice_index places v

  -- a vertex's own core: those whose numbers are no less
  abbrev above : ℕ → ℕ → Bool
  above v u = is_at_least (core v) (core u)

  wider : (v u w : ℕ) → core v ≤ core u → (above u w && not (w == u)) ≡ true → (above v w && not (w == u)) ≡ true
  wider v u w le both =
      let parts = and_parts (above u w) (not (w == u)) both in
      let far : core u ≤ core w = ltb-false (core w) (core u) (not-true (nat_lt (core w) (core u)) parts.0) in
      and_from (above v w) (not (w == u)) (not_from_false (nat_lt (core w) (core v)) (le-ltb (core w) (core v) (omega (arith, le, far)))) parts.1

  inside : (v : ℕ) → IsCore g (core v) (above v)
  inside v u high =
      let le : core v ≤ core u = ltb-false (core u) (core v) (not-true (nat_lt (core u) (core v)) high) in
      elim (cases_lt u g.vertex_count) [
        | inl vertex ↦
            elim (more_or_one (λ w. above u w && not (w == u)) (λ w. above v w && not (w == u)) (neighbours g u)) [
              | inl more ↦ omega (arith, le, (are.has u vertex).enough, more)
              | inr one ↦ absurd (false≢true (sym one.3 ∙ wider v u one.0 le one.2))
            ]
        | inr past ↦ (let none = get_or_past cores u 0 (omega (arith, past, are.core_count)) in omega (arith, le, none))
      ]

  module _ (k : ℕ) (set : ℕ → Bool) (is : IsCore g k set) where
    -- what is known of the vertices of the set that come before
    abbrev Known : ℕ → Type 0
    Known v = (u : ℕ) → u < g.vertex_count → set u ≡ true → (core u < core v) ⊎ ((core u ≡ core v) × (place u < place v)) → k ≤ core u

    before : (v u : ℕ) → is_after cores places v u ≡ false → (core u < core v) ⊎ ((core u ≡ core v) × (place u < place v))
    before v u apart =
        let parts = or_parts (nat_lt (core v) (core u)) ((core u == core v) && is_at_least (place v) (place u)) apart in
        let le : core u ≤ core v = ltb-false (core v) (core u) parts.0 in
        elim (cases_lt (core u) (core v)) [
          | inl less ↦ inl less
          | inr most ↦
              elim (and_cases (core u == core v) (is_at_least (place v) (place u)) parts.1) [
                | inl other ↦ absurd (eqb-false (core u) (core v) other (omega (arith, le, most)))
                | inr first ↦ inr (omega (arith, le, most), ltb-true (place u) (place v) (not-false (nat_lt (place u) (place v)) first))
              ]
        ]

    one : (v : ℕ) → v < g.vertex_count → set v ≡ true → Known v → k ≤ core v
    one v vertex among known =
        elim (more_or_one (λ u. set u && not (u == v)) (λ u. is_after cores places v u && not (u == v)) (neighbours g v)) [
          | inl more ↦ omega (arith, is v among, more, (are.has v vertex).few)
          | inr found ↦
              (let u = found.0 in
              let parts = and_parts (set u) (not (u == v)) found.2 in
              let target = (Contains-neighbours g v u).0 found.1 in
              let first : (core u < core v) ⊎ ((core u ≡ core v) × (place u < place v)) = elim (and_cases (is_after cores places v u) (not (u == v)) found.3) [
                | inl apart ↦ before v u apart
                | inr same ↦ absurd (false≢true (sym same ∙ parts.1))
              ] in
              let far : k ≤ core u = known u target.1 parts.0 first in
              elim first [
                | inl less ↦ omega (arith, far, less)
                | inr same ↦ omega (arith, far, same.0)
              ])
        ]

    -- all vertices with a number, by their places, if those with smaller numbers are known
    of_number : (n : ℕ) → ((u : ℕ) → u < g.vertex_count → set u ≡ true → core u < n → k ≤ core u)
        → (b v : ℕ) → v < g.vertex_count → set v ≡ true → core v ≡ n → place v ≤ b → k ≤ core v
    of_number n less zero v vertex among number at =
        one v vertex among (λ u there its first. elim first [
          | inl low ↦ less u there its (omega (arith, low, number))
          | inr same ↦ absurd (omega (arith, same.1, at))
        ])
    of_number n less (suc b) v vertex among number at =
        one v vertex among (λ u there its first. elim first [
          | inl low ↦ less u there its (omega (arith, low, number))
          | inr same ↦ of_number n less b u there its (same.0 ∙ number) (omega (arith, same.1, at))
        ])

    below : (n v : ℕ) → v < g.vertex_count → set v ≡ true → core v < n → k ≤ core v
    below zero v vertex among less = absurd (omega (arith, less))
    below (suc n) v vertex among less =
        elim (cases_lt (core v) n) [
          | inl smaller ↦ below n v vertex among smaller
          | inr here ↦ of_number n (below n) (place v) v vertex among (omega (arith, less, here)) (omega arith)
        ]

pub numbers : NumbersAreCores
numbers g cores places are v vertex = (
  (above g cores places are v, not_from_false (nat_lt (slice_index cores v) (slice_index cores v)) (le-ltb (slice_index cores v) (slice_index cores v) (omega arith)), inside g cores places are v),
  λ k set among is. below g cores places are k set is (suc (slice_index cores v)) v vertex among (omega arith),
)

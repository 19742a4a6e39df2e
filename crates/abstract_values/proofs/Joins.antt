-- The order in which ways come makes no difference to their join.
use Rattle.std.proofs.Common.{◌≡◌, ℕ, ℤ, ◌&&◌, eqb, true, false, refl, sym, ap₂, subst, ◌∙◌, inl, inr, arith}
use Rattle.std.specs.Ordering.{int_eq}
use Rattle.std.proofs.lemmas.Bool.{cases_Bool, and_parts, eqb-true}
use Rattle.std.proofs.lemmas.Bool.Decides.{Decides-int_eq}
use Rattle.abstract_values.specs.declared.value.AbstractValue.{AbstractValue}
use Rattle.abstract_values.specs.declared.value.AbstractValue.TheVariants.{Unset, Number, Record, Stack, Table}
use Rattle.abstract_values.specs.Values.{join_of}
use Rattle.abstract_values.specs.Laws.{JoinCommutes, JoinAssociates}

-- two places of the stack are one where frame and offset are the same
one_place : (f g : ℕ) (a b : ℤ) → eqb f g && int_eq a b ≡ true → (f ≡ g) × (a ≡ b)
one_place f g a b same =
    let both = and_parts (eqb f g) (int_eq a b) same in
    (eqb-true f g both.0, (Decides-int_eq a b).0 both.1)

-- and that is the same both ways
mirrored : (f g : ℕ) (a b : ℤ) → eqb f g && int_eq a b ≡ false → eqb g f && int_eq b a ≡ false
mirrored f g a b other = elim (cases_Bool (eqb g f && int_eq b a)) [
  | inl same ↦
      let one = one_place g f b a same in
      absurd (let e : eqb f g && int_eq a b ≡ true = subst (λ n. eqb n g && int_eq a b ≡ true) one.0 (subst (λ z. eqb g g && int_eq z b ≡ true) one.1 (subst (λ n. eqb g n && int_eq b b ≡ true) (sym one.0) (subst (λ z. eqb g f && int_eq b z ≡ true) (sym one.1) same))) in cc)
  | inr both ↦ both
]

stack_commutes : (f g : ℕ) (a b : ℤ) → join_of (Stack f a) (Stack g b) ≡ join_of (Stack g b) (Stack f a)
stack_commutes f g a b = elim (cases_Bool (eqb f g && int_eq a b)) [
  | inl same ↦
      let one = one_place f g a b same in
      subst (λ (n : ℕ). join_of (Stack f a) (Stack n b) ≡ join_of (Stack n b) (Stack f a)) one.0 (subst (λ (x : ℤ). join_of (Stack f a) (Stack f x) ≡ join_of (Stack f x) (Stack f a)) one.1 refl)
  | inr other ↦ rw (other, mirrored f g a b other) refl
]

pub join_commutes : JoinCommutes
join_commutes Unset Unset = refl
join_commutes Unset (Number b0 b1) = refl
join_commutes Unset (Record b0 b1) = refl
join_commutes Unset (Stack g b) = refl
join_commutes Unset (Table b0 b1) = refl
join_commutes (Number a0 a1) Unset = refl
join_commutes (Number a0 a1) (Number b0 b1) = ap₂ Number (omega arith) (omega arith)
join_commutes (Number a0 a1) (Record b0 b1) = refl
join_commutes (Number a0 a1) (Stack g b) = refl
join_commutes (Number a0 a1) (Table b0 b1) = refl
join_commutes (Record a0 a1) Unset = refl
join_commutes (Record a0 a1) (Number b0 b1) = refl
join_commutes (Record a0 a1) (Record b0 b1) = ap₂ Record (omega arith) (omega arith)
join_commutes (Record a0 a1) (Stack g b) = refl
join_commutes (Record a0 a1) (Table b0 b1) = refl
join_commutes (Stack f a) Unset = refl
join_commutes (Stack f a) (Number b0 b1) = refl
join_commutes (Stack f a) (Record b0 b1) = refl
join_commutes (Stack f a) (Stack g b) = stack_commutes f g a b
join_commutes (Stack f a) (Table b0 b1) = refl
join_commutes (Table a0 a1) Unset = refl
join_commutes (Table a0 a1) (Number b0 b1) = refl
join_commutes (Table a0 a1) (Record b0 b1) = refl
join_commutes (Table a0 a1) (Stack g b) = refl
join_commutes (Table a0 a1) (Table b0 b1) = ap₂ Table (omega arith) (omega arith)

stack_associates : (f g h : ℕ) (a b c : ℤ) → join_of (join_of (Stack f a) (Stack g b)) (Stack h c) ≡ join_of (Stack f a) (join_of (Stack g b) (Stack h c))
stack_associates f g h a b c = elim (cases_Bool (eqb f g && int_eq a b)) [
  | inl same ↦
      let one = one_place f g a b same in
      let also : eqb f h && int_eq a c ≡ eqb g h && int_eq b c = ap₂ (λ n x. eqb n h && int_eq x c) one.0 one.1 in
      elim (cases_Bool (eqb g h && int_eq b c)) [
        | inl next ↦ rw (same, next) (rw (same, also ∙ next) refl)
        | inr next ↦ rw (same, next) (rw (also ∙ next) refl)
      ]
  | inr other ↦ elim (cases_Bool (eqb g h && int_eq b c)) [
    | inl next ↦ rw (other, next) (rw other refl)
    | inr next ↦ rw (other, next) refl
  ]
]

-- two places of the stack and something else
left_of : (f g : ℕ) (a b : ℤ) (c : AbstractValue) → ((n : ℕ) (x : ℤ) → join_of (Stack n x) c ≡ Unset) → join_of (join_of (Stack f a) (Stack g b)) c ≡ Unset
left_of f g a b c none = elim (cases_Bool (eqb f g && int_eq a b)) [
  | inl same ↦ rw same (none f a)
  | inr other ↦ rw other refl
]

right_of : (a : AbstractValue) (g h : ℕ) (b c : ℤ) → ((n : ℕ) (x : ℤ) → join_of a (Stack n x) ≡ Unset) → join_of a Unset ≡ Unset → join_of a (join_of (Stack g b) (Stack h c)) ≡ Unset
right_of a g h b c none unset = elim (cases_Bool (eqb g h && int_eq b c)) [
  | inl same ↦ rw same (none g b)
  | inr other ↦ rw other unset
]

pub join_associates : JoinAssociates
join_associates Unset Unset Unset = refl
join_associates Unset Unset (Number c0 c1) = refl
join_associates Unset Unset (Record c0 c1) = refl
join_associates Unset Unset (Stack h c) = refl
join_associates Unset Unset (Table c0 c1) = refl
join_associates Unset (Number b0 b1) Unset = refl
join_associates Unset (Number b0 b1) (Number c0 c1) = refl
join_associates Unset (Number b0 b1) (Record c0 c1) = refl
join_associates Unset (Number b0 b1) (Stack h c) = refl
join_associates Unset (Number b0 b1) (Table c0 c1) = refl
join_associates Unset (Record b0 b1) Unset = refl
join_associates Unset (Record b0 b1) (Number c0 c1) = refl
join_associates Unset (Record b0 b1) (Record c0 c1) = refl
join_associates Unset (Record b0 b1) (Stack h c) = refl
join_associates Unset (Record b0 b1) (Table c0 c1) = refl
join_associates Unset (Stack g b) Unset = refl
join_associates Unset (Stack g b) (Number c0 c1) = refl
join_associates Unset (Stack g b) (Record c0 c1) = refl
join_associates Unset (Stack g b) (Stack h c) = sym (right_of Unset g h b c (λ n x. refl) refl)
join_associates Unset (Stack g b) (Table c0 c1) = refl
join_associates Unset (Table b0 b1) Unset = refl
join_associates Unset (Table b0 b1) (Number c0 c1) = refl
join_associates Unset (Table b0 b1) (Record c0 c1) = refl
join_associates Unset (Table b0 b1) (Stack h c) = refl
join_associates Unset (Table b0 b1) (Table c0 c1) = refl
join_associates (Number a0 a1) Unset Unset = refl
join_associates (Number a0 a1) Unset (Number c0 c1) = refl
join_associates (Number a0 a1) Unset (Record c0 c1) = refl
join_associates (Number a0 a1) Unset (Stack h c) = refl
join_associates (Number a0 a1) Unset (Table c0 c1) = refl
join_associates (Number a0 a1) (Number b0 b1) Unset = refl
join_associates (Number a0 a1) (Number b0 b1) (Number c0 c1) = ap₂ Number (omega arith) (omega arith)
join_associates (Number a0 a1) (Number b0 b1) (Record c0 c1) = refl
join_associates (Number a0 a1) (Number b0 b1) (Stack h c) = refl
join_associates (Number a0 a1) (Number b0 b1) (Table c0 c1) = refl
join_associates (Number a0 a1) (Record b0 b1) Unset = refl
join_associates (Number a0 a1) (Record b0 b1) (Number c0 c1) = refl
join_associates (Number a0 a1) (Record b0 b1) (Record c0 c1) = refl
join_associates (Number a0 a1) (Record b0 b1) (Stack h c) = refl
join_associates (Number a0 a1) (Record b0 b1) (Table c0 c1) = refl
join_associates (Number a0 a1) (Stack g b) Unset = refl
join_associates (Number a0 a1) (Stack g b) (Number c0 c1) = refl
join_associates (Number a0 a1) (Stack g b) (Record c0 c1) = refl
join_associates (Number a0 a1) (Stack g b) (Stack h c) = sym (right_of (Number a0 a1) g h b c (λ n x. refl) refl)
join_associates (Number a0 a1) (Stack g b) (Table c0 c1) = refl
join_associates (Number a0 a1) (Table b0 b1) Unset = refl
join_associates (Number a0 a1) (Table b0 b1) (Number c0 c1) = refl
join_associates (Number a0 a1) (Table b0 b1) (Record c0 c1) = refl
join_associates (Number a0 a1) (Table b0 b1) (Stack h c) = refl
join_associates (Number a0 a1) (Table b0 b1) (Table c0 c1) = refl
join_associates (Record a0 a1) Unset Unset = refl
join_associates (Record a0 a1) Unset (Number c0 c1) = refl
join_associates (Record a0 a1) Unset (Record c0 c1) = refl
join_associates (Record a0 a1) Unset (Stack h c) = refl
join_associates (Record a0 a1) Unset (Table c0 c1) = refl
join_associates (Record a0 a1) (Number b0 b1) Unset = refl
join_associates (Record a0 a1) (Number b0 b1) (Number c0 c1) = refl
join_associates (Record a0 a1) (Number b0 b1) (Record c0 c1) = refl
join_associates (Record a0 a1) (Number b0 b1) (Stack h c) = refl
join_associates (Record a0 a1) (Number b0 b1) (Table c0 c1) = refl
join_associates (Record a0 a1) (Record b0 b1) Unset = refl
join_associates (Record a0 a1) (Record b0 b1) (Number c0 c1) = refl
join_associates (Record a0 a1) (Record b0 b1) (Record c0 c1) = ap₂ Record (omega arith) (omega arith)
join_associates (Record a0 a1) (Record b0 b1) (Stack h c) = refl
join_associates (Record a0 a1) (Record b0 b1) (Table c0 c1) = refl
join_associates (Record a0 a1) (Stack g b) Unset = refl
join_associates (Record a0 a1) (Stack g b) (Number c0 c1) = refl
join_associates (Record a0 a1) (Stack g b) (Record c0 c1) = refl
join_associates (Record a0 a1) (Stack g b) (Stack h c) = sym (right_of (Record a0 a1) g h b c (λ n x. refl) refl)
join_associates (Record a0 a1) (Stack g b) (Table c0 c1) = refl
join_associates (Record a0 a1) (Table b0 b1) Unset = refl
join_associates (Record a0 a1) (Table b0 b1) (Number c0 c1) = refl
join_associates (Record a0 a1) (Table b0 b1) (Record c0 c1) = refl
join_associates (Record a0 a1) (Table b0 b1) (Stack h c) = refl
join_associates (Record a0 a1) (Table b0 b1) (Table c0 c1) = refl
join_associates (Stack f a) Unset Unset = refl
join_associates (Stack f a) Unset (Number c0 c1) = refl
join_associates (Stack f a) Unset (Record c0 c1) = refl
join_associates (Stack f a) Unset (Stack h c) = refl
join_associates (Stack f a) Unset (Table c0 c1) = refl
join_associates (Stack f a) (Number b0 b1) Unset = refl
join_associates (Stack f a) (Number b0 b1) (Number c0 c1) = refl
join_associates (Stack f a) (Number b0 b1) (Record c0 c1) = refl
join_associates (Stack f a) (Number b0 b1) (Stack h c) = refl
join_associates (Stack f a) (Number b0 b1) (Table c0 c1) = refl
join_associates (Stack f a) (Record b0 b1) Unset = refl
join_associates (Stack f a) (Record b0 b1) (Number c0 c1) = refl
join_associates (Stack f a) (Record b0 b1) (Record c0 c1) = refl
join_associates (Stack f a) (Record b0 b1) (Stack h c) = refl
join_associates (Stack f a) (Record b0 b1) (Table c0 c1) = refl
join_associates (Stack f a) (Stack g b) Unset = left_of f g a b Unset (λ n x. refl)
join_associates (Stack f a) (Stack g b) (Number c0 c1) = left_of f g a b (Number c0 c1) (λ n x. refl)
join_associates (Stack f a) (Stack g b) (Record c0 c1) = left_of f g a b (Record c0 c1) (λ n x. refl)
join_associates (Stack f a) (Stack g b) (Stack h c) = stack_associates f g h a b c
join_associates (Stack f a) (Stack g b) (Table c0 c1) = left_of f g a b (Table c0 c1) (λ n x. refl)
join_associates (Stack f a) (Table b0 b1) Unset = refl
join_associates (Stack f a) (Table b0 b1) (Number c0 c1) = refl
join_associates (Stack f a) (Table b0 b1) (Record c0 c1) = refl
join_associates (Stack f a) (Table b0 b1) (Stack h c) = refl
join_associates (Stack f a) (Table b0 b1) (Table c0 c1) = refl
join_associates (Table a0 a1) Unset Unset = refl
join_associates (Table a0 a1) Unset (Number c0 c1) = refl
join_associates (Table a0 a1) Unset (Record c0 c1) = refl
join_associates (Table a0 a1) Unset (Stack h c) = refl
join_associates (Table a0 a1) Unset (Table c0 c1) = refl
join_associates (Table a0 a1) (Number b0 b1) Unset = refl
join_associates (Table a0 a1) (Number b0 b1) (Number c0 c1) = refl
join_associates (Table a0 a1) (Number b0 b1) (Record c0 c1) = refl
join_associates (Table a0 a1) (Number b0 b1) (Stack h c) = refl
join_associates (Table a0 a1) (Number b0 b1) (Table c0 c1) = refl
join_associates (Table a0 a1) (Record b0 b1) Unset = refl
join_associates (Table a0 a1) (Record b0 b1) (Number c0 c1) = refl
join_associates (Table a0 a1) (Record b0 b1) (Record c0 c1) = refl
join_associates (Table a0 a1) (Record b0 b1) (Stack h c) = refl
join_associates (Table a0 a1) (Record b0 b1) (Table c0 c1) = refl
join_associates (Table a0 a1) (Stack g b) Unset = refl
join_associates (Table a0 a1) (Stack g b) (Number c0 c1) = refl
join_associates (Table a0 a1) (Stack g b) (Record c0 c1) = refl
join_associates (Table a0 a1) (Stack g b) (Stack h c) = sym (right_of (Table a0 a1) g h b c (λ n x. refl) refl)
join_associates (Table a0 a1) (Stack g b) (Table c0 c1) = refl
join_associates (Table a0 a1) (Table b0 b1) Unset = refl
join_associates (Table a0 a1) (Table b0 b1) (Number c0 c1) = refl
join_associates (Table a0 a1) (Table b0 b1) (Record c0 c1) = refl
join_associates (Table a0 a1) (Table b0 b1) (Stack h c) = refl
join_associates (Table a0 a1) (Table b0 b1) (Table c0 c1) = ap₂ Table (omega arith) (omega arith)

-- What a look-up in a table says, a test that chose, and an equation of options and results.
use Rattle.std.proofs.Common.{◌≡◌, ℕ, Bool, true, false, cond, eqb, List, [], ◌∷◌, Option, Some, None, refl, sym, subst, inl, inr}
use Rattle.std.specs.Prelude.{◌⊎◌, option_map}
use Rattle.std.specs.List.{AllByRecursion}
use Rattle.std.proofs.lemmas.Bool.{eqb-true}
use Rattle.std.proofs.lemmas.Option.{same_Some}
use Rattle.bpf_isa.specs.Reading.{lookup}

-- which way a test went
pub chosen : {A : Type 0} (b : Bool) (x y z : A) → cond b x y ≡ z → ((b ≡ true) × (x ≡ z)) ⊎ ((b ≡ false) × (y ≡ z))
chosen true x y z e = inl (refl, e)
chosen false x y z e = inr (refl, e)

-- an entry of a table that has this value: what holds of the value holds of what was looked up
pub entry : {A : Type 0} (P : A → Type 0) (a : A) → P a → (x : A) → Some a ≡ Some x → P x
entry P a p x e = subst P (same_Some a x e) p

pub looked_has : {A : Type 0} (P : ℕ → A → Type 0) (entries : List (ℕ × Option A)) (n : ℕ) (a : A) → AllByRecursion (λ e. (x : A) → e.1 ≡ Some x → P e.0 x) entries → lookup entries n ≡ Some a → P n a
looked_has P [] n a all e = absurd cc
looked_has P (first ∷ entries) n a all e =
    elim (chosen (eqb n first.0) first.1 (lookup entries n) (Some a) e) [
      | inl h ↦ subst (λ (k : ℕ). P k a) (sym (eqb-true _ _ h.0)) (all.0 a h.1)
      | inr h ↦ looked_has P entries n a all.1 h.1
    ]

-- what an option was made of
pub mapped : {A B : Type 0} (f : A → B) (o : Option A) (y : B) → option_map f o ≡ Some y → (x : A) × (o ≡ Some x) × (f x ≡ y)
mapped f None y e = absurd cc
mapped f (Some x) y e = (x, refl, same_Some _ _ e)

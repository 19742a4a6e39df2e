-- Functions changed at one number, and the batches of one feed.
use Rattle.std.proofs.Common.{◌≡◌, ◌≢◌, ℕ, ◌==◌, cond, List, [], ◌∷◌, ◌++◌, sym, ap, ◌∙◌, append-nil}
use Rattle.std.proofs.lemmas.Bool.{eq-eqb, ne_eqb}
use Rattle.std.proofs.lemmas.List.Elements.{filter-append}
use native.Mathlib.Decide.{ℕ_discrete}
use Rattle.past_model.specs.declared.entry.Entry.{Entry}
use Rattle.past_model.specs.Past.{of_feed}

-- f, but x at k
abbrev pub changed : {A : Type 0} → (ℕ → A) → ℕ → A → ℕ → A
changed f k x p = cond (p == k) x (f p)

pub changed_here : {A : Type 0} (f : ℕ → A) (k : ℕ) (x : A) (p : ℕ) → p ≡ k → changed f k x p ≡ x
changed_here f k x p is = rw (eq-eqb p k is)

pub changed_else : {A : Type 0} (f : ℕ → A) (k : ℕ) (x : A) (p : ℕ) → p ≢ k → changed f k x p ≡ f p
changed_else f k x p other = rw (ne_eqb p k other)

pub of_feed_append : (p : ℕ) (xs ys : List Entry) → of_feed p (xs ++ ys) ≡ of_feed p xs ++ of_feed p ys
of_feed_append p xs ys = filter-append (λ (e : Entry). e.feed == p) xs ys

pub of_feed_own : (p : ℕ) (x : Entry) → x.feed ≡ p → of_feed p (x ∷ []) ≡ x ∷ []
of_feed_own p x is = rw (eq-eqb x.feed p is)

pub of_feed_other : (p : ℕ) (x : Entry) → x.feed ≢ p → of_feed p (x ∷ []) ≡ []
of_feed_other p x other = rw (ne_eqb x.feed p other)

-- an entry after a list is one more of its own feed, and none of another
pub of_feed_then : (sent : ℕ → List Entry) (xs : List Entry) (x : Entry) (k : ℕ) → x.feed ≡ k → ((p : ℕ) → of_feed p xs ≡ sent p)
    → (p : ℕ) → of_feed p (xs ++ x ∷ []) ≡ changed sent k (sent k ++ x ∷ []) p
of_feed_then sent xs x k own all p = elim (ℕ_discrete p k) [
  | yes is ↦ of_feed_append p xs (x ∷ []) ∙ ap (λ l. of_feed p xs ++ l) (of_feed_own p x (own ∙ sym is)) ∙ ap (λ l. l ++ x ∷ []) (all p ∙ ap sent is) ∙ sym (changed_here sent k (sent k ++ x ∷ []) p is)
  | no other ↦ of_feed_append p xs (x ∷ []) ∙ ap (λ l. of_feed p xs ++ l) (of_feed_other p x (λ e. other (sym e ∙ own))) ∙ append-nil (of_feed p xs) ∙ all p ∙ sym (changed_else sent k (sent k ++ x ∷ []) p other)
]

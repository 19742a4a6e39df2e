-- Bytes that an output holds or an input has left, where they are known, through one step after another.
use Rattle.std.proofs.Common.{◌≡◌, List, ◌++◌, Option, Some, None, refl, sym, ap, ◌∙◌, append_assoc}
use Rattle.std.specs.Prelude.{ℕ, Result, Ok, Err}
use Rattle.std.specs.Io.KnownBytes.{Appends, Consumes, Keeps, ReadConsumes}

pub appends_more : (a b c : Option (List ℕ)) (xs ys : List ℕ) → Appends a b xs → Appends b c ys → Appends a c (xs ++ ys)
appends_more None b c xs ys p q = tt
appends_more (Some u) None c xs ys p q = absurd p
appends_more (Some u) (Some v) None xs ys p q = absurd q
appends_more (Some u) (Some v) (Some w) xs ys p q =
    q ∙ ap (λ (t : List ℕ). t ++ ys) p ∙ append_assoc u xs ys

pub appends_keeps : (a b c : Option (List ℕ)) (xs : List ℕ) → Appends a b xs → Keeps b c → Appends a c xs
appends_keeps None b c xs p q = tt
appends_keeps (Some u) None c xs p q = absurd p
appends_keeps (Some u) (Some v) None xs p q = absurd q
appends_keeps (Some u) (Some v) (Some w) xs p q = q ∙ p

pub consumes_more : (a b c : Option (List ℕ)) (xs ys : List ℕ) → Consumes a b xs → Consumes b c ys → Consumes a c (xs ++ ys)
consumes_more None b c xs ys p q = tt
consumes_more (Some u) None c xs ys p q = absurd p
consumes_more (Some u) (Some v) None xs ys p q = absurd q
consumes_more (Some u) (Some v) (Some w) xs ys p q =
    p ∙ ap (λ (t : List ℕ). xs ++ t) q ∙ sym (append_assoc xs ys w)

pub consumes_keeps : (a b c : Option (List ℕ)) (xs : List ℕ) → Consumes a b xs → Keeps b c → Consumes a c xs
consumes_keeps None b c xs p q = tt
consumes_keeps (Some u) None c xs p q = absurd p
consumes_keeps (Some u) (Some v) None xs p q = absurd q
consumes_keeps (Some u) (Some v) (Some w) xs p q = p ∙ ap (λ (t : List ℕ). xs ++ t) (sym q)

-- a read that gave no count
pub unread : {E : Type 0} (a b : Option (List ℕ)) (r : Result ℕ E) (buffer : List ℕ) → ((n : ℕ) → r ≡ Ok n → ⊥) → ReadConsumes a b r buffer → Keeps a b
unread a b (Ok n) buffer none h = absurd (none n refl)
unread a b (Err e) buffer none h = h

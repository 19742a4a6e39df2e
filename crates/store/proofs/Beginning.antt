-- The only pass says how many vertices there are, and then all begins.
use Rattle.std.proofs.Common.{◌≡◌, ℕ, zero, suc, ◌⊎◌, true, false, None, List, [], ◌∷◌, ◌++◌, set, refl, sym, ap, subst, inl, inr, arith}
use mathlib.Core.Option.{some, some-injective, some-ne-none}
use lib.ListN.{get_elem?}
use Rattle.crossbeam_queue.specs.Fifo.{Pushes, Pops}
use Rattle.store.specs.declared.queue.queue_view.QueueView.{QueueView}
use Rattle.store.specs.declared.queue.message.Message.{Message}
use Rattle.store.specs.QueueViews.{newcomer, opener, taker}
use Rattle.store.specs.QueueRule.{Facts, Fits, Delivers, Keeps}

-- the only pass there is
alone : (w v : QueueView) (pass : ℕ) → get_elem? (w ∷ []) pass ≡ some v → (pass ≡ 0) × (v ≡ w)
alone w v zero at = (refl, sym (some-injective w v at))
alone w v (suc pass) at = absurd (some-ne-none v (sym at))

only : (w v : QueueView) (views : List QueueView) (pass : ℕ) → views ≡ w ∷ [] → get_elem? views pass ≡ some v → (pass ≡ 0) × (v ≡ w)
only w v views pass one at = alone w v pass (subst (λ (l : List QueueView). get_elem? l pass ≡ some v) one at)

-- a pass that takes, or is a feed's, is there once all has begun
pub begun : (items : List Message) (views : List QueueView) (pass : ℕ) (v : QueueView) → Keeps items views → get_elem? views pass ≡ some v
    → (v.takes ≡ true) ⊎ (v.feeds ≡ true) → Delivers items views
begun items views pass v (inl (inl (none, one))) at (inl takes) = (let is = (only newcomer v views pass one at).1 in absurd cc)
begun items views pass v (inl (inl (none, one))) at (inr feeds) = (let is = (only newcomer v views pass one at).1 in absurd cc)
begun items views pass v (inl (inr (first, one, opens))) at (inl takes) = (let is = (only (opener first.vertex_count) v views pass opens at).1 in absurd cc)
begun items views pass v (inl (inr (first, one, opens))) at (inr feeds) = (let is = (only (opener first.vertex_count) v views pass opens at).1 in absurd cc)
begun items views pass v (inr delivers) at able = delivers

one_set : (w u : QueueView) (views : List QueueView) (port : ℕ) → views ≡ u ∷ [] → port ≡ 0 → set views port w ≡ w ∷ []
one_set w u views zero one is = ap (λ (l : List QueueView). set l 0 w) one
one_set w u views (suc port) one is = absurd cc

pub says : (places port : ℕ) (v : QueueView) (x : Message) → v.opens ≡ true → Pushes Keeps places port v x (λ w. w ≡ opener x.vertex_count)
says places port v x opens items views room (inl (inl (none, one))) at =
    let is = (only newcomer v views port one at).0 in (
      opener x.vertex_count,
      inl (inr (x, ap (λ (l : List Message). l ++ x ∷ []) none, one_set (opener x.vertex_count) newcomer views port one is)),
      refl,
    )
says places port v x opens items views room (inl (inr (first, one, waits))) at =
    (let is = (only (opener first.vertex_count) v views port waits at).1 in absurd cc)
says places port v x opens items views room (inr h) at =
    (let not_so = (h.fits port v at).begun.0 in absurd cc)

pub all_begins : (port : ℕ) (v : QueueView) → v.waits ≡ true → Pops Keeps port v (λ x w. w ≡ taker v.vertex_count [] 0 [])
all_begins port v waits x items views (inl (inl (none, one))) at = absurd (cc none)
all_begins port v waits x items views (inl (inr (first, one, opens))) at =
    let is = only (opener first.vertex_count) v views port opens at in
    let w : QueueView = taker v.vertex_count [] 0 [] in
    let f : Facts = record { vertex_count = v.vertex_count; taker = 0; seat = λ _. None; sent = λ _. []; taken = [] } in
    let mine : Fits f 0 w = record {
      begun = (refl, refl);
      feed = λ (feeds : false ≡ true). absurd cc;
      taker = λ takes. record { count = refl; seated = refl; taken = refl; unmade = λ p le. (refl, refl); ended = λ k lt. absurd (omega arith); fewer = omega arith };
    } in
    let none : items ≡ [] = cc one in (
      w,
      inr (subst (λ (l : List Message). Delivers l (set views port w)) (sym none)
          (subst (λ (l : List QueueView). Delivers [] l) (sym (one_set w (opener first.vertex_count) views port opens is.0))
          (record {
            facts = f;
            delivered = λ p. refl;
            below = tt;
            bounded = omega arith;
            fits = λ j u e. (let it = alone w u j e in subst (λ (y : ℕ × QueueView). Fits f y.0 y.1) (λ i. (sym it.0 i, sym it.1 i)) mine);
          }))),
      refl,
    )
all_begins port v waits x items views (inr h) at =
    (let not_so = (h.fits port v at).begun.1 in absurd cc)

-- What a publication makes of a moment, and of the history's word for it.
use Rattle.std.proofs.Common.{◌≡◌, ℕ, ◌+◌, ◌<◌, Option, Some, None, ap, sym, subst, refl, ◌∙◌, arith}
use Rattle.std.proofs.lemmas.List.{length_push}
use Rattle.past_model.specs.declared.entry.Entry.{Entry}
use Rattle.past_model.specs.Past.{Past}
use Rattle.past_model.specs.Epochs.{mark_of}
use Rattle.history.specs.declared.limits.TheConstants.{MOST_PUBLICATIONS}
use Rattle.history.specs.Moment.{Moment, Beginning, moment_of, and_then, after_one, Begins}
use Rattle.history.specs.declared.published.Published.{Published}
use Rattle.history.specs.declared.published.Published.TheVariants.{Batch, Rebase}
use Rattle.history.proofs.Moments.{moment_of-and_then, begins_next, begins_rebase}
use Rattle.store.specs.declared.pending.Change.{Change}
use Rattle.store.specs.Pending.{entry_of, published_of, moment_after, HasRoom, MayFollow}
use Rattle.store.specs.Receipts.{IsPublication, publication_by}
use Rattle.store.specs.Recorded.{moment_in, AreFew}

pub begins_after : (m : Moment) (e : Option Entry) → Begins m (moment_after m e)
begins_after m (Some e) = begins_next m e
begins_after m None = begins_rebase m

pub is_publication : (m told : Moment) (change : Option Change) → MayFollow m change → told ≡ moment_after m (entry_of change) → IsPublication (publication_by told change)
is_publication m told (Some c) may is = (m, λ i. record { moment = is i; entry = Some c.entry; added = may.gained i; removed = may.lost i })
is_publication m told None may is = (m, λ i. record { moment = is i; entry = None; added = 0; removed = 0 })

-- ---- the history's word

pub room_for : (p : Past) (count : ℕ) (e : Option Entry) → AreFew p count → HasRoom p e → count < MOST_PUBLICATIONS
room_for p count (Some e) few room = let a = few.few in let b = few.epochs in omega arith
room_for p count None few room = let a = few.few in let b = few.short in omega arith

few_after : (p : Past) (count : ℕ) (e : Option Entry) → AreFew p count → HasRoom p e → AreFew (after_one p (published_of e)) (count + 1)
few_after p count (Some e) few room =
    let a = few.few in
    record { few = omega (arith, length_push p.log e); short = omega (arith, length_push p.log e); epochs = few.epochs }
few_after p count None few room =
    let a = few.few in let b = few.short in
    record {
      few = omega (arith, length_push p.marks (mark_of p.log));
      short = omega arith;
      epochs = omega (arith, length_push p.marks (mark_of p.log));
    }

pub few_next : (p q : Past) (count : ℕ) (e : Option Entry) → q ≡ after_one p (published_of e) → AreFew p count → HasRoom p e → AreFew q (count + 1)
few_next p q count e is few room = subst (λ (x : Past). AreFew x (count + 1)) (sym is) (few_after p count e few room)

same_count : (p : Past) (x : Published) → (after_one p x).vertex_count ≡ p.vertex_count
same_count p (Batch e) = refl
same_count p Rebase = refl

known_after : (p : Past) (x : Published) (k : Beginning) → moment_of p.vertex_count k ≡ moment_in p k
    → moment_of (after_one p x).vertex_count (and_then k x) ≡ moment_in (after_one p x) (and_then k x)
known_after p x k now =
    ap (λ n. moment_of n (and_then k x)) (same_count p x) ∙ moment_of-and_then p.vertex_count k x ∙ ap (λ (m : Moment). moment_in (after_one m.past x) (and_then k x)) now

pub known_next : (p q : Past) (x : Published) (k next : Beginning) → moment_of p.vertex_count k ≡ moment_in p k → next ≡ and_then k x → q ≡ after_one p x
    → moment_of q.vertex_count next ≡ moment_in q next
known_next p q x k next now said is =
    subst (λ (y : Past). moment_of y.vertex_count next ≡ moment_in y next) (sym is)
    (subst (λ (y : Beginning). moment_of (after_one p x).vertex_count y ≡ moment_in (after_one p x) y) (sym said) (known_after p x k now))

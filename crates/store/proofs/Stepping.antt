-- What a publisher keeps, and what it tells.
use Rattle.std.proofs.Common.{◌≡◌, ℕ, ◌++◌, [], ◌∷◌, Option, Some, None, Ok, Err, IfSome, is_some, true, refl, sym, ap, subst, ◌∙◌, append-nil, arith}
use Rattle.atomic_table.specs.Seated.{TableId}
use Rattle.past_model.specs.declared.entry.Entry.{Entry}
use Rattle.past_model.specs.Epochs.{AreSince}
use Rattle.past_model.proofs.Epochs.{since_more, since_rebase}
use Rattle.history.specs.Moment.{Moment, after_rebase}
use Rattle.store.specs.Ends.{Taking, taking, WasEmpty}
use Rattle.store.specs.Receipts.{Publication}
use Rattle.store.specs.declared.pending.Change.{Change}
use Rattle.store.specs.declared.pending.Pending.{Pending}
use Rattle.store.specs.declared.pending.Stage.{Stage}
use Rattle.store.specs.Pending.{Committing, at_rest, entry_of, batch_in, entry_held, entries_held, IsAside, IsHolding, IsGoneOn, IsRebasing, ComesNext}
use Rattle.store.specs.Storing.{Storing, IsPublished, IsIdle, IsKept}

abbrev pub storing_of : Moment → Option Entry → Option Pending → ℕ → TableId → Storing
storing_of m held pending empties queue = record { moment = m; held = entry_held held pending; empties = empties; queue = queue }

-- what was taken came since the marks, of a graph of so many vertices
abbrev pub IsSince : Moment → Option Entry → Taking → Type 0
IsSince m held r = AreSince m.past.marks r.taken (m.past.log ++ entries_held held) × (r.vertex_count ≡ m.past.vertex_count)

abbrev pub Keeps : Committing → Option Entry → Option Pending → Taking → Type 0
Keeps p held pending r =
    AreSince p.moment.past.marks r.taken (p.moment.past.log ++ entries_held (entry_held held pending)) × (r.vertex_count ≡ p.moment.past.vertex_count) × IsHolding p held pending

pub none_of : {X : Type 0} (o : Option X) → ((x : X) → o ≡ Some x → ⊥) → o ≡ None
none_of None none = refl
none_of (Some x) none = absurd (none x refl)

-- ---- a batch that is pending

batch_published : (old new : Committing) (held : Option Entry) (change : Option Change) (stage : Stage) (empties : ℕ) (queue : TableId) (p : Publication)
    → IsHolding old held (Some (record { change = change; stage = stage })) → is_some change ≡ true → IsGoneOn old change (Ok p) new
    → IsPublished (storing_of old.moment held (Some (record { change = change; stage = stage })) empties queue) p (storing_of new.moment held None empties queue)
batch_published old new held None stage empties queue p holding batch gone = absurd cc
batch_published old new (Some e) (Some c) stage empties queue p holding batch gone = (let none = holding.1.1 in absurd cc)
batch_published old new None (Some c) stage empties queue p holding batch (receipt, rest) = record {
  entry = c.entry;
  receipt = receipt;
  after = λ i. record { moment = ap (λ (x : Committing). x.moment) rest i; held = None; empties = empties; queue = queue };
  first = refl;
  feed = holding.0.0.next.feed;
  below = holding.0.0.next.below;
}

pub pending_published : (old new : Committing) (held : Option Entry) (before after : Option Pending) (pending : Pending) (empties : ℕ) (queue : TableId) (p : Publication)
    → before ≡ Some pending → after ≡ None → IsHolding old held before → is_some pending.change ≡ true → IsGoneOn old pending.change (Ok p) new
    → IsPublished (storing_of old.moment held before empties queue) p (storing_of new.moment held after empties queue)
pending_published old new held before after pending empties queue p is free holding batch gone =
    subst (λ (x : Option Pending). IsPublished (storing_of old.moment held before empties queue) p (storing_of new.moment held x empties queue)) (sym free)
    (subst (λ (x : Option Pending). IsPublished (storing_of old.moment held x empties queue) p (storing_of new.moment held None empties queue)) (sym is)
    (batch_published old new held pending.change pending.stage empties queue p (subst (IsHolding old held) is holding) batch gone))

same_held : (held : Option Entry) (p q : Option Pending) → batch_in p ≡ batch_in q → entry_held held p ≡ entry_held held q
same_held None p q same = same
same_held (Some e) p q same = refl

pub pending_kept : (old new : Committing) (held : Option Entry) (before : Option Pending) (pending again : Pending) (r : Taking)
    → before ≡ Some pending → Keeps old held before r → IsGoneOn old pending.change (Err again) new → Keeps new held (Some again) r
pending_kept old new held before pending again r is (since, count, holding) (same, change, waits) =
    let batch : entry_of again.change ≡ batch_in before = ap entry_of change ∙ sym (ap batch_in is) in
    let all : IsSince new.moment (entry_held held (Some again)) r = subst (λ (m : Moment). IsSince m (entry_held held (Some again)) r) (sym same)
    (subst (λ (e : Option Entry). IsSince old.moment e r) (sym (same_held held (Some again) before batch)) (since, count)) in
    let aside : IsAside new.moment held (entry_of again.change) = subst (λ (m : Moment). IsAside m held (entry_of again.change)) (sym same)
    (subst (λ (e : Option Entry). IsAside old.moment held e) (sym batch) holding.1) in
    (all.0, all.1, (waits, aside))

-- ---- the batch that comes next

since_next : (m : Moment) (held : Option Entry) (r s : Taking) (e : Entry) → ComesNext held r (Some e) s → IsSince m held r → IsSince m (Some e) s
since_next m (Some h) r s e (is, same) since =
    subst (IsSince m (Some e)) (sym same) (subst (λ (x : Option Entry). IsSince m x r) (sym is) since)
since_next m None r s e (took, feed, below) (since, count) =
    subst (IsSince m (Some e)) (sym took)
    (since_more m.past.marks r.taken m.past.log (e ∷ []) (subst (AreSince m.past.marks r.taken) (append-nil m.past.log) since), count)

-- it is taken, and nothing is pending
came_since : (m : Moment) (held : Option Entry) (before : Option Pending) (r s : Taking) (e : Entry)
    → before ≡ None → ComesNext held r (Some e) s → IsSince m (entry_held held before) r → IsSince m (Some e) s
came_since m (Some h) before r s e none next since = since_next m (Some h) r s e next since
came_since m None before r s e none next since = since_next m None r s e next (subst (λ (x : Option Pending). IsSince m (entry_held None x) r) none since)

pub next_shown : (old new : Committing) (held left : Option Entry) (before after : Option Pending) (r s : Taking) (c : Change) (p : Publication)
    → before ≡ None → after ≡ None → left ≡ None → ComesNext held r (Some c.entry) s → IsSince old.moment (entry_held held before) r
    → IsGoneOn old (Some c) (Ok p) new → Keeps new left after s
next_shown old new held left before after r s c p none free empty next since (receipt, rest) =
    let came = came_since old.moment held before r s c.entry none next since in
    let m : Moment = record { past = record old.moment.past { log = old.moment.past.log ++ c.entry ∷ [] }; book = old.moment.book } in
    let here : new ≡ at_rest m = rest ∙ ap (λ (x : Publication). at_rest x.moment) receipt in
    let all : Keeps (at_rest m) None None s = (subst (AreSince m.past.marks s.taken) (sym (append-nil m.past.log)) came.0, came.1, (refl, tt)) in
    subst (λ (x : Committing). Keeps x left after s) (sym here)
    (subst (λ (x : Option Entry). Keeps (at_rest m) x after s) (sym empty) (subst (λ (x : Option Pending). Keeps (at_rest m) None x s) (sym free) all))

pub next_pending : (old new : Committing) (held left : Option Entry) (before : Option Pending) (r s : Taking) (c : Change) (again : Pending)
    → before ≡ None → left ≡ None → ComesNext held r (Some c.entry) s → IsSince old.moment (entry_held held before) r
    → IsGoneOn old (Some c) (Err again) new → Keeps new left (Some again) s
next_pending old new held left before r s c again none empty next since (same, change, pending) =
    let came = came_since old.moment held before r s c.entry none next since in
    let here : IsSince new.moment (entry_of again.change) s = subst (λ (m : Moment). IsSince m (entry_of again.change) s) (sym same)
    (subst (λ (x : Option Change). IsSince old.moment (entry_of x) s) (sym change) came) in
    subst (λ (x : Option Entry). Keeps new x (Some again) s) (sym empty) (here.0, here.1, (pending, tt))

pub next_kept : (old new : Committing) (held left : Option Entry) (before : Option Pending) (r s : Taking) (c : Change) (again : Pending)
    → before ≡ None → left ≡ None → ComesNext held r (Some c.entry) s → IsGoneOn old (Some c) (Err again) new
    → IsKept (storing_of old.moment held before r.empties r.queue) (storing_of new.moment left (Some again) s.empties s.queue)
next_kept old new (Some h) left before r s c again none empty (is, took) (same, change, waits) = record {
  after = λ i. record { moment = same i; held = entry_held left (Some again); empties = ap (λ (t : Taking). t.empties) took i; queue = ap (λ (t : Taking). t.queue) took i };
  first = ap (λ (x : Option Entry). entry_held x (Some again)) empty ∙ ap entry_of change ∙ is;
}
next_kept old new None left before r s c again none empty (took, feed, below) (same, change, waits) = record {
  after = λ i. record { moment = same i; held = entry_held left (Some again); empties = ap (λ (t : Taking). t.empties) took i; queue = ap (λ (t : Taking). t.queue) took i };
  first = subst (λ (x : Option Pending). IfSome (batch_in x) (λ e. entry_held left (Some again) ≡ Some e)) (sym none) tt;
}

-- nothing was there
pub none_waited : (m : Moment) (held left : Option Entry) (before after : Option Pending) (r s : Taking) → before ≡ None → after ≡ None → left ≡ None
    → ComesNext held r None s → IsSince m (entry_held held before) r → IsIdle (storing_of m held before r.empties r.queue) (storing_of m left after s.empties s.queue)
none_waited m (Some e) left before after r s none free empty next since = (let is = next.0 in absurd cc)
none_waited m None left before after r s none free empty (now, was) (since, count) = record {
  free = ap batch_in none;
  after = λ i. record {
    moment = m;
    held = (ap (λ (x : Option Entry). entry_held x after) empty ∙ ap batch_in (free ∙ sym none)) i;
    empties = ap (λ (t : Taking). t.empties) now i;
    queue = ap (λ (t : Taking). t.queue) now i;
  };
  taken = r.taken;
  since = subst (AreSince m.past.marks r.taken) (append-nil m.past.log)
      (subst (λ (x : Option Pending). AreSince m.past.marks r.taken (m.past.log ++ entries_held (batch_in x))) none since);
  empty = subst (λ n. WasEmpty (taking n r.taken r.empties r.queue)) count was;
}

-- ---- a rebase

rebase_kept : (m : Moment) (held : Option Entry) (before : Option Pending) (r : Taking) → batch_in before ≡ None → IsSince m (entry_held held before) r
    → IsAside m held (batch_in before) → Keeps (at_rest (after_rebase m)) held None r
rebase_kept m None before r none (since, count) aside =
    (since_rebase m.past.marks r.taken m.past.log [] (subst (λ (x : Option Entry). AreSince m.past.marks r.taken (m.past.log ++ entries_held x)) none since), count, (refl, tt))
rebase_kept m (Some e) before r none (since, count) (next, alone) =
    (since_rebase m.past.marks r.taken m.past.log (e ∷ []) since, count, (refl, (record { room = omega arith; feed = next.feed; below = next.below }, refl)))

pub rebase_shown : (old new : Committing) (held : Option Entry) (before after : Option Pending) (r : Taking) (p : Publication)
    → after ≡ None → Keeps old held before r → IsRebasing old before (Ok p) new → Keeps new held after r
rebase_shown old new held before after r p free (since, count, holding) (none, receipt, rest) =
    let here : new ≡ at_rest (after_rebase old.moment) = rest ∙ ap (λ (x : Publication). at_rest x.moment) receipt in
    subst (λ (x : Committing). Keeps x held after r) (sym here)
    (subst (λ (x : Option Pending). Keeps (at_rest (after_rebase old.moment)) held x r) (sym free) (rebase_kept old.moment held before r none (since, count) holding.1))

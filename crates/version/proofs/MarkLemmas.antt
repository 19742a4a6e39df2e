-- The mark of a log that becomes longer.
use Rattle.std.proofs.Common.{◌≡◌, ◌≢◌, ℕ, ◌+◌, ◌<◌, ◌≤◌, List, [], ◌∷◌, ◌++◌, length, slice_set, inl, inr, sym, ap, ◌∙◌, arith}
use Rattle.std.proofs.lemmas.Bool.{cases_lt, ne_eqb}
use Rattle.std.proofs.lemmas.List.{ext_get_or, get_or_past, length-map, set_past}
use Rattle.graph_model.specs.Graph.{numbers_below}
use Rattle.graph_model.proofs.Numbers.{length-numbers_below}
use Rattle.past_model.specs.declared.entry.Entry.{Entry}
use Rattle.past_model.specs.declared.limits.TheConstants.{FEEDS}
use Rattle.past_model.specs.Past.{of_feed}
use Rattle.past_model.specs.Epochs.{mark_of, marked}
use Rattle.past_model.proofs.Epochs.{marked-mark_of, mark_of-push, length-of_feed-append, length-of_feed-le}

length-mark_of : (log : List Entry) → length (mark_of log) ≡ FEEDS
length-mark_of log = length-map (numbers_below FEEDS) (λ feed. length (of_feed feed log)) ∙ length-numbers_below FEEDS

of_other : (k : ℕ) (e : Entry) → e.feed ≢ k → of_feed k (e ∷ []) ≡ []
of_other k e other = rw (ne_eqb e.feed k other)

-- a batch by a number that is no feed's is counted for none
mark_of_other : (log : List Entry) (e : Entry) → FEEDS ≤ e.feed → mark_of (log ++ e ∷ []) ≡ mark_of log
mark_of_other log e other =
    ext_get_or 0 (mark_of (log ++ e ∷ [])) (mark_of log) (length-mark_of (log ++ e ∷ []) ∙ sym (length-mark_of log)) (λ k within.
    let few : k < FEEDS = omega (arith, length-mark_of (log ++ e ∷ [])) in
    let none = ap (length {A = Entry}) (of_other k e (λ is. omega (arith, is))) in
    omega (arith, marked-mark_of (log ++ e ∷ []) k few, marked-mark_of log k few, length-of_feed-append k log (e ∷ []), none))

-- one batch more is counted for its feed, if it is one
pub mark_of-longer : (log : List Entry) (e : Entry) → mark_of (log ++ e ∷ []) ≡ slice_set (mark_of log) e.feed (marked (mark_of log) e.feed + 1)
mark_of-longer log e = elim (cases_lt e.feed FEEDS) [
  | inl is ↦ mark_of-push log e is
  | inr other ↦ mark_of_other log e other ∙ sym (set_past (mark_of log) e.feed (marked (mark_of log) e.feed + 1) (omega (arith, length-mark_of log)))
]

-- no mark counts more than there are
pub marked-few : (log : List Entry) (feed : ℕ) → marked (mark_of log) feed ≤ length log
marked-few log feed = elim (cases_lt feed FEEDS) [
  | inl is ↦ omega (arith, marked-mark_of log feed is, length-of_feed-le feed log)
  | inr other ↦ omega (arith, get_or_past (mark_of log) feed 0 (omega (arith, length-mark_of log)))
]

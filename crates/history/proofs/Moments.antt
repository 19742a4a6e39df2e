-- Moments of one history.
use Rattle.std.proofs.Common.{◌≡◌, ◌⊎◌, ℕ, List, [], ◌∷◌, ◌++◌, length, sym, ◌∙◌, refl, ap, subst, inl, inr, length-append, arith}
use mathlib.Core.List.{IsPrefix}
use Rattle.past_model.specs.declared.entry.Entry.{Entry}
use Rattle.past_model.specs.Past.{Past, opening, number_of, epoch_of, longer}
use Rattle.past_model.specs.Epochs.{IsBefore, IsBeforeInEpoch}
use Rattle.past_model.proofs.Epochs.{before_itself, before_onwards, before_one, before_longer, before_rebased, same_past}
use Rattle.past_model.proofs.Beginnings.{prefix_self, prefix_more, prefix_trans, prefix_whole}
use Rattle.history.specs.declared.published.Published.{Published}
use Rattle.history.specs.declared.published.Published.TheVariants.{Batch, Rebase}
use Rattle.history.specs.Moment.{Moment, Beginning, after_entry, after_rebase, after_one, after_all, moment_of, and_then, OneStore, Begins}
use Rattle.history.specs.Laws.{InOrder, GoesOn, BeginningsAreBefore, IsOverEpochs, BasesGoOn}

pub one_store_back : (a b : Moment) → OneStore a b → OneStore b a
one_store_back a b one = (sym one.0, sym one.1)

pub one_store_onwards : (a b c : Moment) → OneStore a b → OneStore b c → OneStore a c
one_store_onwards a b c p q = (q.0 ∙ p.0, q.1 ∙ p.1)

-- ---- publications

pub after_all-append : (p : Past) (xs ys : List Published) → after_all p (xs ++ ys) ≡ after_all (after_all p xs) ys
after_all-append p [] ys = refl
after_all-append p (x ∷ xs) ys = after_all-append (after_one p x) xs ys

before_one_more : (p : Past) (x : Published) → IsBefore p (after_one p x)
before_one_more p (Batch e) = before_longer p e
before_one_more p Rebase = before_rebased p

before_all : (p : Past) (xs : List Published) → IsBefore p (after_all p xs)
before_all p [] = before_itself p
before_all p (x ∷ xs) = before_onwards p (after_one p x) (after_all (after_one p x) xs) (before_one_more p x) (before_all (after_one p x) xs)

pub begins_itself : (a : Moment) → Begins a a
begins_itself a = ((refl, refl), ([], refl))

pub begins_onwards : (a b c : Moment) → Begins a b → Begins b c → Begins a c
begins_onwards a b c p q = (
  one_store_onwards a b c p.0 q.0,
  (p.1.0 ++ q.1.0, q.1.1 ∙ ap (λ x. after_all x q.1.0) p.1.1 ∙ sym (after_all-append a.past p.1.0 q.1.0)),
)

-- a version is before each that it begins
pub is_before : (a b : Moment) → Begins a b → IsBefore a.past b.past
is_before a b p = subst (IsBefore a.past) (sym p.1.1) (before_all a.past p.1.0)

pub begins_one : (a b : Moment) → Begins a b → Begins b a → a ≡ b
begins_one a b p q = λ i. record { past = before_one a.past b.past (is_before a b p) (is_before b a q) i; book = sym p.0.0 i }

pub begins_next : (m : Moment) (e : Entry) → Begins m (after_entry m e)
begins_next m e = ((refl, refl), (Batch e ∷ [], refl))

pub begins_rebase : (m : Moment) → Begins m (after_rebase m)
begins_rebase m = ((refl, refl), (Rebase ∷ [], refl))

pub in_order : InOrder
in_order = record { itself = begins_itself; onwards = begins_onwards; one = begins_one }

pub goes_on : GoesOn
goes_on = record { batch = begins_next; rebase = begins_rebase }

pub beginnings_are_before : BeginningsAreBefore
beginnings_are_before = is_before

-- ---- over epochs

in_epoch_itself : (p : Past) → IsBeforeInEpoch p p
in_epoch_itself p = record { base = refl; marks = refl; log = prefix_self p.log }

-- the past before a batch is before all that the one after it is before
in_epoch_before : (p b : Past) (e : Entry) → IsBeforeInEpoch (longer p e) b → IsBeforeInEpoch p b
in_epoch_before p b e here =
    record { base = here.base; marks = here.marks; log = prefix_trans p.log (p.log ++ e ∷ []) b.log (prefix_more p.log (e ∷ [])) here.log }

-- what comes of a longer log comes of the log
from_longer : (p b : Past) (e : Entry) → IsBeforeInEpoch (longer p e) b ⊎ IsOverEpochs (longer p e) b → IsBeforeInEpoch p b ⊎ IsOverEpochs p b
from_longer p b e (inl here) = inl (in_epoch_before p b e here)
from_longer p b e (inr over) = inr (record {
  last = over.last;
  inside = in_epoch_before p over.last e over.inside;
  later = over.later;
  onwards = over.onwards;
})

over_all : (p : Past) (xs : List Published) → IsBeforeInEpoch p (after_all p xs) ⊎ IsOverEpochs p (after_all p xs)
over_all p [] = inl (in_epoch_itself p)
over_all p (Batch e ∷ xs) = from_longer p (after_all (longer p e) xs) e (over_all (longer p e) xs)
over_all p (Rebase ∷ xs) = inr (record { last = p; inside = in_epoch_itself p; later = xs; onwards = refl })

pub bases_go_on : BasesGoOn
bases_go_on a b p = subst (λ x. IsBeforeInEpoch a.past x ⊎ IsOverEpochs a.past x) (sym p.1.1) (over_all a.past p.1.0)

-- ---- counts

-- of two versions with as many epochs and batches none is before the other but itself
pub same_count : (a b : Past) → IsBefore a b → epoch_of a ≡ epoch_of b → number_of a ≡ number_of b → a ≡ b
same_count a b (m, inl p) epochs numbers =
    same_past a b m p.base p.marks (prefix_whole a.log b.log p.log (omega (arith, numbers)))
same_count a b (m, inr p) epochs numbers =
    absurd (omega (arith, epochs, ap length p.marks, length-append a.marks (p.mark ∷ p.later)))

-- ---- a history

-- of a history's beginnings, one that begins another was before it
pub begins_of_prefix : (n : ℕ) (a b : Beginning) → b.book ≡ a.book → IsPrefix a.published b.published → Begins (moment_of n a) (moment_of n b)
begins_of_prefix n a b book p =
    let start : Past = opening n in
    let onwards : after_all start b.published ≡ after_all (after_all start a.published) p.0 =
    ap (after_all start) (sym p.1) ∙ after_all-append start a.published p.0 in
    let count = (before_all (after_all start a.published) p.0).0 in
    ((book, ap (λ (x : Past). x.vertex_count) onwards ∙ count), (p.0, onwards))

-- one publication more
pub moment_of-and_then : (n : ℕ) (k : Beginning) (x : Published) → moment_of n (and_then k x) ≡ record { past = after_one (moment_of n k).past x; book = k.book }
moment_of-and_then n k x = λ i. record { past = after_all-append (opening n) k.published (x ∷ []) i; book = k.book }

-- no publication changes how many vertices there are
pub vertex_count-moment_of : (n : ℕ) (k : Beginning) → (moment_of n k).past.vertex_count ≡ n
vertex_count-moment_of n k = (before_all (opening n) k.published).0

-- Slices that were written: how many words they have together, that each has one, and the places after them.
use Rattle.std.proofs.Common.{◌≡◌, ℕ, ◌+◌, ◌<◌, List, [], ◌∷◌, length, take, drop, set, sym, ap, subst, refl, ◌++◌, ◌∙◌, arith}
use Rattle.std.specs.List.{All}
use Rattle.std.proofs.lemmas.List.{drop-drop, drop-set-lt, take_more_set}
use Rattle.std.proofs.lemmas.List.Elements.{All-push}
use Rattle.std.proofs.lemmas.List.Sums.{sum_by-append}
use Rattle.embedding.specs.declared.slices.Slice.{Slice}
use Rattle.embedding.specs.Slices.{counted, Begins, Follow}

-- with one slice more
pub counted_more : (slices : List Slice) (i : ℕ) (s : Slice) → i < length slices → counted (take (i + 1) (set slices i s)) ≡ counted (take i slices) + s.count
counted_more slices i s inside =
    let more = ap counted (take_more_set slices i s inside) in
    let both = sum_by-append (λ (s : Slice). s.count) (take i slices) (s ∷ []) in
    omega (arith, more, both)

-- each has a word, and so has one more
pub filled_more : (slices : List Slice) (i : ℕ) (s : Slice) → i < length slices → 0 < s.count → All (λ (t : Slice). 0 < t.count) (take i slices) → All (λ (t : Slice). 0 < t.count) (take (i + 1) (set slices i s))
filled_more slices i s inside some filled =
    subst (All (λ (t : Slice). 0 < t.count)) (sym (take_more_set slices i s inside)) (All-push (λ (t : Slice). 0 < t.count) (take i slices) s filled some)

-- the places after them are as they were
pub rest_more : (slices before : List Slice) (i : ℕ) (s : Slice) → drop i slices ≡ drop i before → drop (i + 1) (set slices i s) ≡ drop (i + 1) before
rest_more slices before i s rest =
    drop-set-lt (i + 1) slices i s (omega arith) ∙ (sym (drop-drop 1 i slices) ∙ (ap (drop 1) rest ∙ drop-drop 1 i before))

-- one slice more follows
pub follow_more : (words : List ℕ) (ss : List Slice) (s : Slice) (left behind : List ℕ) → Follow words ss left → Begins left s behind → Follow words (ss ++ s ∷ []) behind
follow_more words [] s left behind same begins = (behind, subst (λ ws. Begins ws s behind) (sym same) begins, refl)
follow_more words (t ∷ ss) s left behind (rest, first, later) begins = (rest, first, follow_more rest ss s left behind later begins)

-- the same of slices in a row
pub follow_next : (words : List ℕ) (slices : List Slice) (i : ℕ) (s : Slice) (left behind : List ℕ) → i < length slices → Follow words (take i slices) left → Begins left s behind
    → Follow words (take (i + 1) (set slices i s)) behind
follow_next words slices i s left behind inside follow begins =
    subst (λ ss. Follow words ss behind) (sym (take_more_set slices i s inside)) (follow_more words (take i slices) s left behind follow begins)

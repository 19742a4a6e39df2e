-- The words of leaves after a change.
use Rattle.std.proofs.Common.{◌≡◌, ℕ, ◌+◌, ◌<◌, ◌≤◌, List, ◌++◌, length, take, drop, insert, remove, sym, subst, ap, ◌∙◌, arith, length-drop}
use Rattle.std.proofs.lemmas.List.{length-take-le, take-append-drop}
use Rattle.std.proofs.lemmas.List.Edits.{length-insert, length-remove}
use Rattle.word_sets.specs.declared.places.TheConstants.{WORD_LIMIT}
use Rattle.word_sets.specs.Words.{IsSet, with_word, without_word}
use Rattle.word_sets.proofs.Within.{IsSet-parts}
use Rattle.word_sets.proofs.Changes.{IsSet-insert, IsSet-remove}
use Rattle.neighbour_btree.specs.declared.levels.level.TheConstants.{MOST}
use Rattle.neighbour_btree.specs.Node.{IsLeaf}

pub IsLeaf-insert : (w i : ℕ) (words ys : List ℕ) → IsLeaf words → length words < MOST → w < WORD_LIMIT → i ≤ length words → ys ≡ insert words i w → insert words i w ≡ with_word w words → IsLeaf ys
IsLeaf-insert w i words ys l short small le is place =
    let n : length ys ≡ length words + 1 = ap length is ∙ length-insert words i w le in
    record { set = IsSet-insert w i words ys l.set small is place; most = omega arith }

pub IsLeaf-remove : (w i : ℕ) (words ys : List ℕ) → IsLeaf words → i < length words → ys ≡ remove words i → remove words i ≡ without_word w words → IsLeaf ys
IsLeaf-remove w i words ys l lt is place =
    let n : length ys ≡ length (remove words i) = ap length is in
    record { set = IsSet-remove w i words ys l.set is place; most = omega (arith, n, length-remove words i lt, l.most) }

-- the two parts of too many words
pub IsLeaf-take : (n : ℕ) (words ys : List ℕ) → IsSet words → n ≤ MOST → n ≤ length words → ys ≡ take n words → IsLeaf ys
IsLeaf-take n words ys s le fits is =
    let whole : IsSet (take n words ++ drop n words) = subst IsSet (sym (take-append-drop n words)) s in
    subst IsLeaf (sym is) (record { set = (IsSet-parts (take n words) (drop n words) whole).0; most = omega (arith, length-take-le n words fits) })

pub IsLeaf-drop : (n : ℕ) (words ys : List ℕ) → IsSet words → length words ≤ n + MOST → ys ≡ drop n words → IsLeaf ys
IsLeaf-drop n words ys s le is =
    let whole : IsSet (take n words ++ drop n words) = subst IsSet (sym (take-append-drop n words)) s in
    subst IsLeaf (sym is) (record { set = (IsSet-parts (take n words) (drop n words) whole).1; most = omega (arith, length-drop n words) })

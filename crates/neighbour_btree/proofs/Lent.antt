-- Slices and counts among nodes.
use Rattle.std.proofs.Common.{◌≡◌, ℕ, ◌+◌, ◌<◌, ◌≤◌, List, ◌++◌, length, take, drop, get_or, refl, sym, ap, ◌∙◌, arith, length-append, length-drop, append_assoc}
use Rattle.std.proofs.lemmas.List.{drop-append-le, drop_at, drop-drop, get_or_default}
use Rattle.std.proofs.lemmas.List.Folds.{length-flat_map-take}
use Rattle.word_sets.specs.declared.places.TheConstants.{WORD_LIMIT}
use Rattle.word_sets.specs.Words.{IsSet}
use Rattle.word_sets.proofs.Within.{IsWithin-length}
use Rattle.neighbour_btree.specs.Node.{Node, words_under}
use Rattle.neighbour_btree.specs.Lists.{nothing}
use Rattle.neighbour_btree.specs.Changes.{IsSliceAt}
use Rattle.neighbour_btree.proofs.NodeLists.{words_under_at}

-- the words of so many nodes and of the next are few
pub few_words : (ns : List Node) (i : ℕ) (c : Node) → IsSet (words_under ns) → i < length ns → length (words_under (take i ns)) + length (get_or ns i c).words ≤ WORD_LIMIT
few_words ns i c s lt =
    omega (arith, length-flat_map-take (λ (n : Node). n.words) ns i c lt, IsWithin-length 0 WORD_LIMIT (words_under ns) s)

drop_behind : (n left : ℕ) (front mid back : List ℕ) → n ≡ length front + left → left ≤ length mid → drop n (front ++ (mid ++ back)) ≡ drop left mid ++ back
drop_behind n left front mid back e le =
    ap (λ k. drop k (front ++ (mid ++ back))) e
    ∙ sym (drop-drop left (length front) (front ++ (mid ++ back)))
    ∙ ap (drop left) (drop_at front (mid ++ back) (length front) refl)
    ∙ drop-append-le left mid back le

-- a slice of one node's words is a slice of all
pub slice_among : (ns : List Node) (i place left : ℕ) (c : Node) (s : List ℕ) → i < length ns → c ≡ get_or ns i c → place ≡ length (words_under (take i ns)) + left → left < length c.words → IsSliceAt c.words left s → IsSliceAt (words_under ns) place s
slice_among ns i place left c s lt is e short h =
    let front = words_under (take i ns) in
    let back = words_under (drop (i + 1) ns) in
    let same : get_or ns i nothing ≡ c = sym (is ∙ get_or_default ns i c nothing lt) in
    let whole : words_under ns ≡ front ++ (c.words ++ back) = words_under_at ns i lt ∙ ap (λ (n : Node). front ++ (n.words ++ back)) same in
    let long : length (drop left c.words) ≡ length s + length (drop (left + length s) c.words) = ap length h.1 ∙ length-append s (drop (left + length s) c.words) in
    let fits : left + length s ≤ length c.words = omega (arith, length-drop left c.words) in (
      h.0,
      ap (drop place) whole
          ∙ drop_behind place left front c.words back e (omega arith)
          ∙ ap (λ l. l ++ back) h.1
          ∙ append_assoc s (drop (left + length s) c.words) back
          ∙ ap (λ l. s ++ l) (sym (ap (drop (place + length s)) whole ∙ drop_behind (place + length s) (left + length s) front c.words back (omega arith) fits)),
    )

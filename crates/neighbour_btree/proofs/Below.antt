-- What one child's change makes of its parent.
use Rattle.std.proofs.Common.{◌≡◌, ℕ, ◌+◌, ◌-◌, ◌*◌, ◌<◌, ◌≤◌, List, [], ◌∷◌, ◌++◌, length, take, drop, get_or, set, insert, Option, Some, None, option_map, Result, Ok, Err, IfOk, OnErr, sym, ap, ap₂, subst, ◌∙◌, arith, add-one, length-set, append_assoc}
use Rattle.std.proofs.lemmas.List.{append-nil, set_split, set_at, set-get_or, take_more, length-take-le}
use Rattle.std.proofs.lemmas.List.Elements.{All-set}
use Rattle.word_sets.specs.declared.places.TheConstants.{WORD_LIMIT}
use Rattle.word_sets.specs.Words.{with_word, without_word, IsSet}
use Rattle.word_sets.proofs.Within.{IsSet-parts}
use Rattle.word_sets.proofs.Members.{IsWithin-with, IsWithin-without}
use Rattle.word_sets.proofs.Changes.{length-with, length-without}
use Rattle.neighbour_btree.specs.declared.levels.level.TheConstants.{FEWEST}
use Rattle.neighbour_btree.specs.declared.levels.change.Change.{Change}
use Rattle.neighbour_btree.specs.declared.levels.change.Change.TheVariants.{Same, Changed, Unable}
use Rattle.neighbour_btree.specs.Node.{Node, words_under, inner_of, IsChild, IsEntry, IsInner}
use Rattle.neighbour_btree.specs.Lists.{nothing, replacement, Mends}
use Rattle.neighbour_btree.specs.Changes.{Packs, Adds, Takes}
use Rattle.neighbour_btree.proofs.NodeLists.{Found, Listed, found_has, found_child, grown, mended_inner, packs_nodes, shrunk_set, words_under-replacement, words_under_at, with-words_under, without-words_under, sound_inner}

pub set_one : (ns : List Node) (i : ℕ) (a : Node) → i < length ns → set ns i a ≡ replacement ns i 1 a None
set_one ns i a lt =
    set_split ns i a lt ∙ ap (λ n. take i ns ++ a ∷ drop n ns) (sym (add-one i))

pub set_two : (ns ms : List Node) (i : ℕ) (a b : Node) → i < length ns → ms ≡ insert ns (i + 1) b → set ms i a ≡ replacement ns i 1 a (Some b)
set_two ns ms i a b lt is =
    let x = get_or ns i nothing in
    let made : ms ≡ take i ns ++ (x ∷ (b ∷ drop (i + 1) ns)) = is ∙ ap (λ l. l ++ b ∷ drop (i + 1) ns) (take_more ns i nothing lt) ∙ append_assoc (take i ns) (x ∷ []) (b ∷ drop (i + 1) ns) in
    ap (λ l. set l i a) made ∙ set_at (take i ns) x (b ∷ drop (i + 1) ns) a i (length-take-le i ns (omega arith))

-- the words under a child are a set
pub found_set : (least : ℕ) (ns : List Node) (w i : ℕ) (c : Node) → Found least ns w i c → IsSet c.words
found_set least ns w i c f =
    let front = words_under (take i ns) in
    let back = words_under (drop (i + 1) ns) in
    let whole : IsSet (front ++ ((get_or ns i nothing).words ++ back)) = subst IsSet (words_under_at ns i f.within) f.inner.set in
    let here : IsSet (get_or ns i nothing).words = (IsSet-parts (get_or ns i nothing).words back (IsSet-parts front ((get_or ns i nothing).words ++ back) whole).1).0 in
    let P : Node → Type 0 = λ n. IsSet n.words in
    subst P (sym f.is) here

-- a child that is as it was
set_same : (least : ℕ) (ns : List Node) (w i : ℕ) (c a : Node) → Found least ns w i c → a ≡ c → set ns i a ≡ ns
set_same least ns w i c a f e =
    ap (λ n. set ns i n) (e ∙ f.is) ∙ set-get_or ns i nothing

-- a child's words become others
set_words : (least : ℕ) (ns : List Node) (w i : ℕ) (c a : Node) (change : List ℕ → List ℕ) → Found least ns w i c → a.words ≡ change c.words → (change (words_under ns) ≡ words_under (take i ns) ++ (change (get_or ns i nothing).words ++ words_under (drop (i + 1) ns))) → words_under (set ns i a) ≡ change (words_under ns)
set_words least ns w i c a change f is e =
    let front = words_under (take i ns) in
    let back = words_under (drop (i + 1) ns) in
    ap words_under (set_one ns i a f.within)
    ∙ words_under-replacement ns i 1 a None
    ∙ ap (λ l. front ++ (l ++ back)) (append-nil a.words ∙ is)
    ∙ ap (λ (n : Node). front ++ (change n.words ++ back)) f.is
    ∙ sym e

set_inner : (least : ℕ) (ns : List Node) (w i : ℕ) (c a : Node) → Found least ns w i c → IsChild least a → IsSet (words_under (set ns i a)) → IsInner least (set ns i a)
set_inner least ns w i c a f child s =
    let n : length (set ns i a) ≡ length ns = length-set ns i a in
    record {
      some = omega (arith, f.within);
      most = omega (arith, f.inner.most);
      children = All-set (IsChild least) ns i a child f.inner.children;
      set = s;
    }

kept_inner : (least : ℕ) (ns : List Node) (w i : ℕ) (c a : Node) → Found least ns w i c → a ≡ c → IsInner least (set ns i a)
kept_inner least ns w i c a f e =
    let P : List Node → Type 0 = λ l. IsInner least l in subst P (sym (set_same least ns w i c a f e)) f.inner

pub added_below : {E : Type 0} (least : ℕ) (ns : List Node) (w i : ℕ) (c a : Node) (r : Result Change E) → Found least ns w i c → w < WORD_LIMIT → IfOk r (Adds least c a w) → OnErr r (a ≡ c) → IsInner least (set ns i a) × IfOk r (Adds (16 * least) (inner_of ns) (inner_of (set ns i a)) w)
added_below least ns w i c a (Ok Same) f small h k =
    (kept_inner least ns w i c a f h.1, (found_has least ns w i c f ∙ h.0, ap inner_of (set_same least ns w i c a f h.1)))
added_below least ns w i c a (Ok Changed) f small h k =
    let words = set_words least ns w i c a (with_word w) f h.1 (with-words_under ns w i f.within f.spot) in
    let child : IsChild least a = h.3.child (omega (arith, (found_child least ns w i c f).fewest, h.2)) in
    let inner = set_inner least ns w i c a f child (subst IsSet (sym words) (IsWithin-with 0 WORD_LIMIT w (words_under ns) (omega arith) small f.inner.set)) in
    (inner, (found_has least ns w i c f ∙ h.0, words, omega (arith, length-set ns i a), sound_inner least (set ns i a) inner))
added_below least ns w i c a (Ok Unable) f small h k =
    (kept_inner least ns w i c a f h, ap inner_of (set_same least ns w i c a f h))
added_below least ns w i c a (Err e) f small h k = (kept_inner least ns w i c a f k, tt)

pub taken_below : {E : Type 0} (least : ℕ) (ns : List Node) (w i : ℕ) (c a : Node) (r : Result Change E) → Found least ns w i c → FEWEST < c.size → IfOk r (Takes least c a w) → OnErr r (a ≡ c) → IsInner least (set ns i a) × IfOk r (Takes (16 * least) (inner_of ns) (inner_of (set ns i a)) w)
taken_below least ns w i c a (Ok Same) f large h k =
    (kept_inner least ns w i c a f h.1, (found_has least ns w i c f ∙ h.0, ap inner_of (set_same least ns w i c a f h.1)))
taken_below least ns w i c a (Ok Changed) f large h k =
    let words = set_words least ns w i c a (without_word w) f h.1 (without-words_under ns w i f.within f.spot) in
    let child : IsChild least a = h.3.child (omega (arith, h.2)) in
    let inner = set_inner least ns w i c a f child (subst IsSet (sym words) (IsWithin-without 0 WORD_LIMIT w (words_under ns) f.inner.set)) in
    (inner, (found_has least ns w i c f ∙ h.0, words, omega (arith, length-set ns i a), sound_inner least (set ns i a) inner))
taken_below least ns w i c a (Ok Unable) f large h k =
    (kept_inner least ns w i c a f h, ap inner_of (set_same least ns w i c a f h))
taken_below least ns w i c a (Err e) f large h k = (kept_inner least ns w i c a f k, tt)

-- what a parent keeps beside a child that changed
pub entry_added : (least first count w : ℕ) (c a : Node) → count ≡ length c.words → IsChild least c → Adds least c a w Changed → first ≡ get_or a.words 0 0 → IsEntry least first (count + 1) a
entry_added least first count w c a e child h is =
    let n : length a.words ≡ length c.words + 1 = ap length h.1 ∙ length-with w c.words h.0 in
    record { first_word = is; word_count = omega arith; child = h.3.child (omega (arith, child.fewest, h.2)) }

pub entry_taken : (least first count w : ℕ) (c a : Node) → count ≡ length c.words → FEWEST < c.size → IsSet c.words → Takes least c a w Changed → first ≡ get_or a.words 0 0 → IsEntry least first (count - 1) a
entry_taken least first count w c a e large s h is =
    let n : length a.words + 1 ≡ length c.words = ap (λ l. length l + 1) h.1 ∙ length-without 0 WORD_LIMIT w c.words s h.0 in
    record { first_word = is; word_count = omega arith; child = h.3.child (omega (arith, h.2)) }

-- the children after the found one was replaced by what it became with a word more
pub grown_child : {C : Type 0} (node : C → Node) (least : ℕ) (ns cs list : List Node) (w i : ℕ) (c k : Node) (first : C) (second : Option C) (a : Node) (b : Option Node) → Found least ns w i c → w < WORD_LIMIT → cs ≡ ns → k ≡ c → Packs node least k.size (with_word w k.words) first second → list ≡ replacement cs i 1 a b → a ≡ node first → b ≡ option_map node second → Listed least list × (words_under list ≡ with_word w (words_under ns)) × (length ns ≤ length list)
grown_child node least ns cs list w i c k first second a b f small same is packs made e h =
    let P : Node → Type 0 = λ n. Packs (λ (m : Node). m) least n.size (with_word w n.words) (node first) (option_map node second) in
    let p = subst P is (packs_nodes node least k.size (with_word w k.words) first second packs) in
    let whole : list ≡ replacement ns i 1 (node first) (option_map node second) = made ∙ ap (λ l. replacement l i 1 a b) same ∙ ap₂ (λ x y. replacement ns i 1 x y) e h in
    grown least ns list w i c (node first) (option_map node second) f small p whole

-- and after it was mended with a word less
pub mended_child : (least : ℕ) (ns cs list : List Node) (w i : ℕ) (c k n : Node) → Found least ns w i c → cs ≡ ns → k ≡ c → 2 ≤ length ns → n.words ≡ without_word w k.words → Mends least cs i n list → IsInner least list × (words_under list ≡ without_word w (words_under ns)) × (length ns ≤ length list + 1)
mended_child least ns cs list w i c k n f same is two less mends =
    let M : List Node → Type 0 = λ l. Mends least l i n list in
    let m = subst M same mends in
    let done = mended_inner least ns list w i c n f two (less ∙ ap (λ (x : Node). without_word w x.words) is) m in
    (done.0, done.1, m.fewest)

pub shrunk_child_set : (least : ℕ) (ns cs : List Node) (w i : ℕ) (c k n : Node) → Found least ns w i c → cs ≡ ns → k ≡ c → n.words ≡ without_word w k.words → IsSet (words_under (replacement cs i 1 n None))
shrunk_child_set least ns cs w i c k n f same is less =
    let P : List Node → Type 0 = λ l. IsSet (words_under (replacement l i 1 n None)) in
    subst P (sym same) (subst IsSet (sym (shrunk_set least ns w i c n f (less ∙ ap (λ (x : Node). without_word w x.words) is))) (IsWithin-without 0 WORD_LIMIT w (words_under ns) f.inner.set))

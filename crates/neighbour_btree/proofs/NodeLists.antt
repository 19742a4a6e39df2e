-- Lists of nodes: their words, where one of them is replaced, and where a word goes.
use Rattle.std.proofs.Common.{◌≡◌, ℕ, zero, suc, ◌+◌, ◌-◌, ◌*◌, ◌/◌, ◌<◌, ◌≤◌, List, [], ◌∷◌, ◌++◌, length, take, drop, get_or, All, Option, Some, None, option_to_list, option_map, refl, sym, ap, ap₂, subst, ◌∙◌, arith, length-append, length-drop, append_assoc}
use Rattle.std.proofs.lemmas.List.{append-nil, take-append-drop, drop_more, take_more, get_or_default, length-take-le}
use Rattle.std.proofs.lemmas.List.Concat.{flat_map-append}
use Rattle.std.proofs.lemmas.List.Elements.{All-append, All-take, All-drop, All-get_or, All-cons, All-nil, All-head, All-tail, All-same}
use Rattle.std.proofs.Math.Nat.{mul-le-mul_left}
use Rattle.word_sets.specs.declared.places.TheConstants.{WORD_LIMIT}
use Rattle.word_sets.specs.Words.{has_word, with_word, without_word, IsWithin, IsSet}
use Rattle.word_sets.proofs.Within.{IsSet-parts, parts}
use Rattle.word_sets.proofs.Members.{IsWithin-with, IsWithin-without}
use Rattle.word_sets.proofs.Parts.{with_middle, without_middle, has_middle}
use Rattle.neighbour_btree.specs.declared.levels.level.TheConstants.{MOST, FEWEST}
use Rattle.neighbour_btree.specs.Node.{Node, words_under, inner_of, IsChild, IsSound, IsInner}
use Rattle.neighbour_btree.specs.Lists.{nothing, first_at, replacement, Mends}
use Rattle.neighbour_btree.specs.Changes.{Packs}

pub words_under-append : (ns ms : List Node) → words_under (ns ++ ms) ≡ words_under ns ++ words_under ms
words_under-append ns ms = flat_map-append (λ (n : Node). n.words) ns ms

-- the words of the nodes before one, its own, and those of the nodes after it
pub words_under_at : (ns : List Node) (i : ℕ) → i < length ns → words_under ns ≡ words_under (take i ns) ++ ((get_or ns i nothing).words ++ words_under (drop (i + 1) ns))
words_under_at ns i lt =
    ap words_under (sym (take-append-drop i ns))
    ∙ words_under-append (take i ns) (drop i ns)
    ∙ ap (λ l. words_under (take i ns) ++ words_under l) (drop_more ns i nothing lt)

pub words_under-replacement : (ns : List Node) (i k : ℕ) (a : Node) (ob : Option Node) → words_under (replacement ns i k a ob) ≡ words_under (take i ns) ++ ((a.words ++ words_under (option_to_list ob)) ++ words_under (drop (i + k) ns))
words_under-replacement ns i k a ob =
    words_under-append (take i ns) (a ∷ (option_to_list ob ++ drop (i + k) ns))
    ∙ ap (λ l. words_under (take i ns) ++ (a.words ++ l)) (words_under-append (option_to_list ob) (drop (i + k) ns))
    ∙ ap (λ l. words_under (take i ns) ++ l) (sym (append_assoc a.words (words_under (option_to_list ob)) (words_under (drop (i + k) ns))))

pub length-replacement : (ns : List Node) (i k : ℕ) (a : Node) (ob : Option Node) → i + k ≤ length ns → length (replacement ns i k a ob) + k ≡ length ns + (1 + length (option_to_list ob))
length-replacement ns i k a ob le =
    let front : length (take i ns) ≡ i = length-take-le i ns (omega arith) in
    omega (arith, length-append (take i ns) (a ∷ (option_to_list ob ++ drop (i + k) ns)), length-append (option_to_list ob) (drop (i + k) ns), length-drop (i + k) ns, front)

pub All-replacement : (P : Node → Type 0) (ns : List Node) (i k : ℕ) (a : Node) (ob : Option Node) → All P ns → All P (a ∷ option_to_list ob) → All P (replacement ns i k a ob)
All-replacement P ns i k a ob h new =
    All-append P (take i ns) ((a ∷ option_to_list ob) ++ drop (i + k) ns) (All-take P i ns h) (All-append P (a ∷ option_to_list ob) (drop (i + k) ns) new (All-drop P (i + k) ns h))

-- a word that lies between what is before a part and what comes after it
pub record Spot (w : ℕ) (before behind : List ℕ) : Type 0 where
  pub from : ℕ
  pub to : ℕ
  pub above : from ≤ w
  pub below : w < to
  pub front : IsWithin 0 from before
  pub back : IsWithin to WORD_LIMIT behind

pub with-spot : (w : ℕ) (before mid behind : List ℕ) → Spot w before behind → with_word w (before ++ (mid ++ behind)) ≡ before ++ (with_word w mid ++ behind)
with-spot w before mid behind s =
    with_middle 0 s.from w s.to WORD_LIMIT before mid behind s.above s.below s.front s.back

pub without-spot : (w : ℕ) (before mid behind : List ℕ) → Spot w before behind → without_word w (before ++ (mid ++ behind)) ≡ before ++ (without_word w mid ++ behind)
without-spot w before mid behind s =
    without_middle 0 s.from w s.to WORD_LIMIT before mid behind s.above s.below s.front s.back

pub has-spot : (w : ℕ) (before mid behind : List ℕ) → Spot w before behind → has_word w (before ++ (mid ++ behind)) ≡ has_word w mid
has-spot w before mid behind s =
    has_middle 0 s.from w s.to WORD_LIMIT before mid behind s.above s.below s.front s.back

-- what begins with a word that is not below a bound
from_first : (low high b : ℕ) (xs : List ℕ) → 0 < length xs → IsWithin low high xs → b ≡ get_or xs 0 0 → (low ≤ b) × IsWithin b high xs
from_first low high b [] h s e = absurd (omega arith)
from_first low high b (x ∷ xs) h s e = (omega (arith, s.0), (omega arith, s.1))

first_append : (xs ys : List ℕ) → 0 < length xs → get_or (xs ++ ys) 0 0 ≡ get_or xs 0 0
first_append [] ys h = absurd (omega arith)
first_append (x ∷ xs) ys h = refl

back_bound : (low w : ℕ) (ns : List Node) → (0 < length ns → w < first_at ns 0) → (0 < length ns → 0 < length (get_or ns 0 nothing).words) → w < WORD_LIMIT → IsWithin low WORD_LIMIT (words_under ns) → (b : ℕ) × (w < b) × IsWithin b WORD_LIMIT (words_under ns)
back_bound low w [] next some small s = (WORD_LIMIT, small, omega arith)
back_bound low w (n ∷ ns) next some small s =
    let has : 0 < length n.words = some (omega arith) in
    let first : get_or (n.words ++ words_under ns) 0 0 ≡ get_or n.words 0 0 = first_append n.words (words_under ns) has in
    let long : 0 < length (n.words ++ words_under ns) = omega (arith, length-append n.words (words_under ns)) in
    let b = get_or n.words 0 0 in
    (b, next (omega arith), (from_first low WORD_LIMIT b (n.words ++ words_under ns) long s (sym first)).1)

front_bound : (ns : List Node) (i w : ℕ) (mid behind : List ℕ) → (0 < i → get_or mid 0 0 ≤ w) → 0 < length mid → IsSet (words_under (take i ns) ++ (mid ++ behind)) → (a : ℕ) × (a ≤ w) × IsWithin 0 a (words_under (take i ns))
front_bound ns zero w mid behind low some s = (0, omega arith, omega arith)
front_bound ns (suc i) w mid behind low some s =
    let p = parts 0 WORD_LIMIT (words_under (take (suc i) ns)) (mid ++ behind) s in
    let long : 0 < length (mid ++ behind) = omega (arith, length-append mid behind) in
    let first : get_or (mid ++ behind) 0 0 ≡ get_or mid 0 0 = first_append mid behind some in
    let f = from_first p.0 WORD_LIMIT (get_or mid 0 0) (mid ++ behind) long p.2 (sym first) in
    (p.0, omega (arith, f.0, low (omega arith)), p.1)

get_or_rest : (ns : List Node) (n : ℕ) → get_or (drop n ns) 0 nothing ≡ get_or ns n nothing
get_or_rest ns zero = refl
get_or_rest [] (suc n) = refl
get_or_rest (x ∷ ns) (suc n) = get_or_rest ns n

pub all_some : (least : ℕ) (ns : List Node) (i : ℕ) → All (IsChild least) ns → i < length ns → 0 < length (get_or ns i nothing).words
all_some least ns i h lt = (All-get_or (IsChild least) ns i nothing lt h).some

-- a word goes into the child that the search finds
pub spot : (least : ℕ) (ns : List Node) (w i : ℕ) → All (IsChild least) ns → IsSet (words_under ns) → w < WORD_LIMIT → i < length ns → (0 < i → first_at ns i ≤ w) → (i + 1 < length ns → w < first_at ns (i + 1)) → Spot w (words_under (take i ns)) (words_under (drop (i + 1) ns))
spot least ns w i h s small lt low high =
    let mid = (get_or ns i nothing).words in
    let behind = words_under (drop (i + 1) ns) in
    let whole : IsSet (words_under (take i ns) ++ (mid ++ behind)) = subst IsSet (words_under_at ns i lt) s in
    let f = front_bound ns i w mid behind low (all_some least ns i h lt) whole in
    let rest : IsSet behind = (IsSet-parts mid behind (IsSet-parts (words_under (take i ns)) (mid ++ behind) whole).1).1 in
    let there : 0 < length (drop (i + 1) ns) → i + 1 < length ns = λ q. omega (arith, length-drop (i + 1) ns) in
    let next : 0 < length (drop (i + 1) ns) → w < first_at (drop (i + 1) ns) 0 = λ q. subst (λ (n : Node). w < get_or n.words 0 0) (sym (get_or_rest ns (i + 1))) (high (there q)) in
    let some : 0 < length (drop (i + 1) ns) → 0 < length (get_or (drop (i + 1) ns) 0 nothing).words = λ q. subst (λ (n : Node). 0 < length n.words) (sym (get_or_rest ns (i + 1))) (all_some least ns (i + 1) h (there q)) in
    let b = back_bound 0 w (drop (i + 1) ns) next some small rest in
    record { from = f.0; to = b.0; above = f.1; below = b.1; front = f.2; back = b.2 }

-- a word is among nodes where it is under the one that the search finds
pub has-words_under : (ns : List Node) (w i : ℕ) → i < length ns → Spot w (words_under (take i ns)) (words_under (drop (i + 1) ns)) → has_word w (words_under ns) ≡ has_word w (get_or ns i nothing).words
has-words_under ns w i lt s =
    ap (has_word w) (words_under_at ns i lt) ∙ has-spot w (words_under (take i ns)) (get_or ns i nothing).words (words_under (drop (i + 1) ns)) s

pub with-words_under : (ns : List Node) (w i : ℕ) → i < length ns → Spot w (words_under (take i ns)) (words_under (drop (i + 1) ns)) → with_word w (words_under ns) ≡ words_under (take i ns) ++ (with_word w (get_or ns i nothing).words ++ words_under (drop (i + 1) ns))
with-words_under ns w i lt s =
    ap (with_word w) (words_under_at ns i lt) ∙ with-spot w (words_under (take i ns)) (get_or ns i nothing).words (words_under (drop (i + 1) ns)) s

pub without-words_under : (ns : List Node) (w i : ℕ) → i < length ns → Spot w (words_under (take i ns)) (words_under (drop (i + 1) ns)) → without_word w (words_under ns) ≡ words_under (take i ns) ++ (without_word w (get_or ns i nothing).words ++ words_under (drop (i + 1) ns))
without-words_under ns w i lt s =
    ap (without_word w) (words_under_at ns i lt) ∙ without-spot w (words_under (take i ns)) (get_or ns i nothing).words (words_under (drop (i + 1) ns)) s

-- nodes that may be children have enough words together
pub many_words : (least : ℕ) (ns : List Node) → All (IsChild least) ns → length ns * least ≤ length (words_under ns)
many_words least [] h = omega arith
many_words least (n ∷ ns) h =
    let here = All-head (IsChild least) n ns h in
    omega (arith, many_words least ns (All-tail (IsChild least) n ns h), here.words, length-append n.words (words_under ns))

some_words : (least : ℕ) (ns : List Node) → 0 < length ns → All (IsChild least) ns → 0 < length (words_under ns)
some_words least [] lt h = absurd (omega arith)
some_words least (n ∷ ns) lt h =
    omega (arith, (All-head (IsChild least) n ns h).some, length-append n.words (words_under ns))

pub sound_inner : (least : ℕ) (ns : List Node) → IsInner least ns → IsSound (16 * least) (inner_of ns)
sound_inner least ns i =
    record {
      most = i.most;
      child = λ h. record {
        fewest = h;
        most = i.most;
        words = omega (arith, many_words least ns i.children, mul-le-mul_left least h);
        some = some_words least ns i.some i.children;
      };
    }

-- packed words, as nodes
pub packs_nodes : {N : Type 0} (node : N → Node) (least size : ℕ) (ws : List ℕ) (a : N) (ob : Option N) → Packs node least size ws a ob → Packs (λ (n : Node). n) least size ws (node a) (option_map node ob)
packs_nodes node least size ws a None p = p
packs_nodes node least size ws a (Some b) p = p

pub packs_words : (least size : ℕ) (ws : List ℕ) (a : Node) (ob : Option Node) → Packs (λ (n : Node). n) least size ws a ob → a.words ++ words_under (option_to_list ob) ≡ ws
packs_words least size ws a None p = append-nil a.words ∙ p.0
packs_words least size ws a (Some b) p = ap (λ l. a.words ++ l) (append-nil b.words) ∙ p.0

pub packs_children : (least size : ℕ) (ws : List ℕ) (a : Node) (ob : Option Node) → FEWEST ≤ size → Packs (λ (n : Node). n) least size ws a ob → All (IsChild least) (a ∷ option_to_list ob)
packs_children least size ws a None h p =
    All-cons (IsChild least) a [] (p.2.child (omega (arith, p.1))) (All-nil (IsChild least))
packs_children least size ws a (Some b) h p =
    All-cons (IsChild least) a (b ∷ []) p.1 (All-cons (IsChild least) b [] p.2 (All-nil (IsChild least)))

pub packs_weaker : {N : Type 0} (node : N → Node) (least size less : ℕ) (ws vs : List ℕ) (a : N) (ob : Option N) → less ≤ size → ws ≡ vs → Packs node least size ws a ob → Packs node least less vs a ob
packs_weaker node least size less ws vs a None le e p = (p.0 ∙ e, omega (arith, p.1), p.2)
packs_weaker node least size less ws vs a (Some b) le e p = (p.0 ∙ e, p.1, p.2)

one_at_most : (ob : Option Node) → length (option_to_list ob) ≤ 1
one_at_most None = omega arith
one_at_most (Some b) = omega arith

-- the child that a search found for a word
pub record Found (least : ℕ) (ns : List Node) (w i : ℕ) (c : Node) : Type 0 where
  pub inner : IsInner least ns
  pub within : i < length ns
  pub is : c ≡ get_or ns i nothing
  pub spot : Spot w (words_under (take i ns)) (words_under (drop (i + 1) ns))

pub found : (least : ℕ) (ns cs : List Node) (w i : ℕ) (c : Node) → IsInner least ns → cs ≡ ns → w < WORD_LIMIT → i < length cs → (0 < i → first_at cs i ≤ w) → (i + 1 < length cs → w < first_at cs (i + 1)) → c ≡ get_or cs i c → Found least ns w i c
found least ns cs w i c inner e small lt low high is =
    let P : List Node → Type 0 = λ l. (i < length l) × (0 < i → first_at l i ≤ w) × (i + 1 < length l → w < first_at l (i + 1)) × (c ≡ get_or l i c) in
    let h = subst P e (lt, low, high, is) in
    record {
      inner = inner;
      within = h.0;
      is = h.3 ∙ get_or_default ns i c nothing h.0;
      spot = spot least ns w i inner.children inner.set small h.0 h.1 h.2;
    }

pub found_there : (least : ℕ) (ns cs : List Node) (w i : ℕ) (c : Node) → IsInner least ns → cs ≡ ns → w < WORD_LIMIT → i < length cs → (0 < i → first_at cs i ≤ w) → (i + 1 < length cs → w < first_at cs (i + 1)) → c ≡ get_or ns i c → Found least ns w i c
found_there least ns cs w i c inner e small lt low high is =
    found least ns cs w i c inner e small lt low high (is ∙ ap (λ l. get_or l i c) (sym e))

pub found_has : (least : ℕ) (ns : List Node) (w i : ℕ) (c : Node) → Found least ns w i c → has_word w (words_under ns) ≡ has_word w c.words
found_has least ns w i c f =
    has-words_under ns w i f.within f.spot ∙ ap (λ (n : Node). has_word w n.words) (sym f.is)

-- the words where a child's become others
child_words : (least : ℕ) (ns : List Node) (w i : ℕ) (c : Node) (change : List ℕ → List ℕ) → Found least ns w i c → (change (words_under ns) ≡ words_under (take i ns) ++ (change (get_or ns i nothing).words ++ words_under (drop (i + 1) ns))) → words_under (take i ns) ++ (change c.words ++ words_under (drop (i + 1) ns)) ≡ change (words_under ns)
child_words least ns w i c change f e =
    ap (λ (n : Node). words_under (take i ns) ++ (change n.words ++ words_under (drop (i + 1) ns))) f.is ∙ sym e

pub found_child : (least : ℕ) (ns : List Node) (w i : ℕ) (c : Node) → Found least ns w i c → IsChild least c
found_child least ns w i c f =
    subst (IsChild least) (sym f.is) (All-get_or (IsChild least) ns i nothing f.within f.inner.children)

-- children that can be packed
pub record Listed (least : ℕ) (list : List Node) : Type 0 where
  pub some : 0 < length list
  pub fits : length list ≤ 128
  pub children : All (IsChild least) list
  pub set : IsSet (words_under list)

pub grown : (least : ℕ) (ns list : List Node) (w i : ℕ) (c a : Node) (ob : Option Node) → Found least ns w i c → w < WORD_LIMIT → Packs (λ (n : Node). n) least c.size (with_word w c.words) a ob → list ≡ replacement ns i 1 a ob → Listed least list × (words_under list ≡ with_word w (words_under ns)) × (length ns ≤ length list)
grown least ns list w i c a ob f small p is =
    let words : words_under list ≡ with_word w (words_under ns) = ap words_under is ∙ words_under-replacement ns i 1 a ob ∙ ap (λ l. words_under (take i ns) ++ (l ++ words_under (drop (i + 1) ns))) (packs_words least c.size (with_word w c.words) a ob p) ∙ child_words least ns w i c (with_word w) f (with-words_under ns w i f.within f.spot) in
    let long : length list + 1 ≡ length ns + (1 + length (option_to_list ob)) = ap (λ l. length l + 1) is ∙ length-replacement ns i 1 a ob (omega (arith, f.within)) in
    let two : length (option_to_list ob) ≤ 1 = one_at_most ob in (
      record {
        some = omega (arith, f.within);
        fits = omega (arith, f.inner.most);
        children = All-same (IsChild least) list (replacement ns i 1 a ob) is (All-replacement (IsChild least) ns i 1 a ob f.inner.children (packs_children least c.size (with_word w c.words) a ob (found_child least ns w i c f).fewest p));
        set = subst IsSet (sym words) (IsWithin-with 0 WORD_LIMIT w (words_under ns) (omega arith) small f.inner.set);
      },
      words,
      omega arith,
    )

-- halves of children that are too many for one node
pub halves : (least n : ℕ) (ns ys zs : List Node) → Listed least ns → MOST < length ns → n ≡ length ns / 2 → ys ≡ take n ns → zs ≡ drop n ns → IsInner least ys × IsInner least zs
halves least n ns ys zs l many half e f =
    let P : List Node → Type 0 = λ m. IsInner least m in
    let whole : IsSet (words_under (take n ns) ++ words_under (drop n ns)) = subst IsSet (ap words_under (sym (take-append-drop n ns)) ∙ words_under-append (take n ns) (drop n ns)) l.set in
    let front : length (take n ns) ≡ n = length-take-le n ns (omega arith) in
    let back : length (drop n ns) ≡ length ns - n = length-drop n ns in
    let s = IsSet-parts (words_under (take n ns)) (words_under (drop n ns)) whole in (
      subst P (sym e) (record { some = omega arith; most = omega (arith, l.fits); children = All-take (IsChild least) n ns l.children; set = s.0 }),
      subst P (sym f) (record { some = omega arith; most = omega (arith, l.fits); children = All-drop (IsChild least) n ns l.children; set = s.1 }),
    )

pub half_packs : (least n : ℕ) (ns ys zs : List Node) (a b : Node) → Listed least ns → MOST < length ns → n ≡ length ns / 2 → ys ≡ take n ns → zs ≡ drop n ns → a ≡ inner_of ys → b ≡ inner_of zs → Packs (λ (n : Node). n) (16 * least) (length ns) (words_under ns) a (Some b)
half_packs least n ns ys zs a b l many half e f p q =
    let h = halves least n ns ys zs l many half e f in
    let front : length ys ≡ n = ap length e ∙ length-take-le n ns (omega arith) in
    let back : length zs ≡ length ns - n = ap length f ∙ length-drop n ns in
    let whole : words_under ys ++ words_under zs ≡ words_under ns = ap₂ (λ k m. words_under k ++ words_under m) e f ∙ sym (words_under-append (take n ns) (drop n ns)) ∙ ap words_under (take-append-drop n ns) in (
      ap₂ (λ (k m : Node). k.words ++ m.words) p q ∙ whole,
      subst (IsChild (16 * least)) (sym p) ((sound_inner least ys h.0).child (omega arith)),
      subst (IsChild (16 * least)) (sym q) ((sound_inner least zs h.1).child (omega arith)),
    )

pub whole_packs : (least : ℕ) (ns : List Node) (a : Node) → Listed least ns → length ns ≤ MOST → a ≡ inner_of ns → Packs (λ (n : Node). n) (16 * least) (length ns) (words_under ns) a None
whole_packs least ns a l few e =
    let inner : IsInner least ns = record { some = l.some; most = few; children = l.children; set = l.set } in
    let size : a.size ≡ length ns = ap (λ (n : Node). n.size) e in
    (ap (λ (n : Node). n.words) e, omega arith, subst (IsSound (16 * least)) (sym e) (sound_inner least ns inner))

-- the words of one child that became another, and its right neighbour's
pub right_pair : (ns : List Node) (i : ℕ) (n : Node) → i + 1 < length ns → words_under (replacement ns i 1 n None) ≡ words_under (take i ns) ++ ((n.words ++ (get_or ns (i + 1) nothing).words) ++ words_under (drop (i + 2) ns))
right_pair ns i n lt =
    let next = get_or ns (i + 1) nothing in
    let rest : words_under (drop (i + 1) ns) ≡ next.words ++ words_under (drop (i + 2) ns) = ap words_under (drop_more ns (i + 1) nothing lt) ∙ ap (λ k. next.words ++ words_under (drop k ns)) (let e : i + 1 + 1 ≡ i + 2 = omega arith in e) in
    words_under-replacement ns i 1 n None
    ∙ ap₂ (λ a b. words_under (take i ns) ++ (a ++ b)) (append-nil n.words) rest
    ∙ ap (λ l. words_under (take i ns) ++ l) (sym (append_assoc n.words next.words (words_under (drop (i + 2) ns))))

pub left_pair : (ns : List Node) (j : ℕ) (n : Node) → j + 1 < length ns → words_under (replacement ns (j + 1) 1 n None) ≡ words_under (take j ns) ++ (((get_or ns j nothing).words ++ n.words) ++ words_under (drop (j + 2) ns))
left_pair ns j n lt =
    let before = get_or ns j nothing in
    let front : words_under (take (j + 1) ns) ≡ words_under (take j ns) ++ before.words = ap words_under (take_more ns j nothing (omega arith)) ∙ words_under-append (take j ns) (before ∷ []) ∙ ap (λ l. words_under (take j ns) ++ l) (append-nil before.words) in
    words_under-replacement ns (j + 1) 1 n None
    ∙ ap₂ (λ a b. a ++ (b ++ words_under (drop (j + 1 + 1) ns))) front (append-nil n.words)
    ∙ append_assoc (words_under (take j ns)) before.words (n.words ++ words_under (drop (j + 1 + 1) ns))
    ∙ ap (λ l. words_under (take j ns) ++ l) (sym (append_assoc before.words n.words (words_under (drop (j + 1 + 1) ns))))
    ∙ ap (λ k. words_under (take j ns) ++ ((before.words ++ n.words) ++ words_under (drop k ns))) (let e : j + 1 + 1 ≡ j + 2 = omega arith in e)

middle_set : (xs ys zs ws : List ℕ) → IsSet ws → ws ≡ xs ++ (ys ++ zs) → IsSet ys
middle_set xs ys zs ws s e =
    (IsSet-parts ys zs (IsSet-parts xs (ys ++ zs) (subst IsSet e s)).1).0

pub right_set : (ns : List Node) (i : ℕ) (n next : Node) → IsSet (words_under (replacement ns i 1 n None)) → i + 1 < length ns → next ≡ get_or ns (i + 1) nothing → IsSet (n.words ++ next.words)
right_set ns i n next s lt is =
    let P : Node → Type 0 = λ m. IsSet (n.words ++ m.words) in
    subst P (sym is) (middle_set (words_under (take i ns)) (n.words ++ (get_or ns (i + 1) nothing).words) (words_under (drop (i + 2) ns)) (words_under (replacement ns i 1 n None)) s (right_pair ns i n lt))

pub left_set : (ns : List Node) (i : ℕ) (n before : Node) → IsSet (words_under (replacement ns i 1 n None)) → 0 < i → i < length ns → before ≡ get_or ns (i - 1) nothing → IsSet (before.words ++ n.words)
left_set ns i n before s pos lt is =
    let P : Node → Type 0 = λ m. IsSet (m.words ++ n.words) in
    let Q : ℕ → Type 0 = λ k. IsSet (words_under (replacement ns k 1 n None)) in
    let j = i - 1 in
    let e : i ≡ j + 1 = omega arith in
    subst P (sym is) (middle_set (words_under (take j ns)) ((get_or ns j nothing).words ++ n.words) (words_under (drop (j + 2) ns)) (words_under (replacement ns (j + 1) 1 n None)) (subst Q e s) (left_pair ns j n (omega arith)))

pub mends_right : (least : ℕ) (ns list : List Node) (i size : ℕ) (n next a : Node) (ob : Option Node) → All (IsChild least) ns → i + 1 < length ns → next ≡ get_or ns (i + 1) nothing → FEWEST ≤ size → Packs (λ (n : Node). n) least size (n.words ++ next.words) a ob → list ≡ replacement ns i 2 a ob → Mends least ns i n list
mends_right least ns list i size n next a ob h lt is enough p made =
    let long : length list + 2 ≡ length ns + (1 + length (option_to_list ob)) = ap (λ l. length l + 2) made ∙ length-replacement ns i 2 a ob (omega arith) in
    let two : length (option_to_list ob) ≤ 1 = one_at_most ob in
    record {
      words = ap words_under made
          ∙ words_under-replacement ns i 2 a ob
          ∙ ap (λ l. words_under (take i ns) ++ (l ++ words_under (drop (i + 2) ns))) (packs_words least size (n.words ++ next.words) a ob p)
          ∙ ap (λ (m : Node). words_under (take i ns) ++ ((n.words ++ m.words) ++ words_under (drop (i + 2) ns))) is
          ∙ sym (right_pair ns i n lt);
      children = All-same (IsChild least) list (replacement ns i 2 a ob) made (All-replacement (IsChild least) ns i 2 a ob h (packs_children least size (n.words ++ next.words) a ob enough p));
      most = omega arith;
      fewest = omega arith;
    }

pub mends_left : (least : ℕ) (ns list : List Node) (i size : ℕ) (n before a : Node) (ob : Option Node) → All (IsChild least) ns → 0 < i → i < length ns → before ≡ get_or ns (i - 1) nothing → FEWEST ≤ size → Packs (λ (n : Node). n) least size (before.words ++ n.words) a ob → list ≡ replacement ns (i - 1) 2 a ob → Mends least ns i n list
mends_left least ns list i size n before a ob h pos lt is enough p made =
    let j = i - 1 in
    let e : j + 1 ≡ i = omega arith in
    let long : length list + 2 ≡ length ns + (1 + length (option_to_list ob)) = ap (λ l. length l + 2) made ∙ length-replacement ns j 2 a ob (omega arith) in
    let two : length (option_to_list ob) ≤ 1 = one_at_most ob in
    record {
      words = ap words_under made
          ∙ words_under-replacement ns j 2 a ob
          ∙ ap (λ l. words_under (take j ns) ++ (l ++ words_under (drop (j + 2) ns))) (packs_words least size (before.words ++ n.words) a ob p)
          ∙ ap (λ (m : Node). words_under (take j ns) ++ ((m.words ++ n.words) ++ words_under (drop (j + 2) ns))) is
          ∙ sym (left_pair ns j n (omega arith))
          ∙ ap (λ k. words_under (replacement ns k 1 n None)) e;
      children = All-same (IsChild least) list (replacement ns j 2 a ob) made (All-replacement (IsChild least) ns j 2 a ob h (packs_children least size (before.words ++ n.words) a ob enough p));
      most = omega arith;
      fewest = omega arith;
    }

-- a child that lost a word, and what its parent becomes
pub shrunk_set : (least : ℕ) (ns : List Node) (w i : ℕ) (c n : Node) → Found least ns w i c → n.words ≡ without_word w c.words → words_under (replacement ns i 1 n None) ≡ without_word w (words_under ns)
shrunk_set least ns w i c n f is =
    words_under-replacement ns i 1 n None
    ∙ ap (λ l. words_under (take i ns) ++ (l ++ words_under (drop (i + 1) ns))) (append-nil n.words ∙ is)
    ∙ child_words least ns w i c (without_word w) f (without-words_under ns w i f.within f.spot)

pub mended_inner : (least : ℕ) (ns list : List Node) (w i : ℕ) (c n : Node) → Found least ns w i c → 2 ≤ length ns → n.words ≡ without_word w c.words → Mends least ns i n list → IsInner least list × (words_under list ≡ without_word w (words_under ns))
mended_inner least ns list w i c n f two is m =
    let words : words_under list ≡ without_word w (words_under ns) = m.words ∙ shrunk_set least ns w i c n f is in (
      record {
        some = omega (arith, m.fewest);
        most = omega (arith, m.most, f.inner.most);
        children = m.children;
        set = subst IsSet (sym words) (IsWithin-without 0 WORD_LIMIT w (words_under ns) f.inner.set);
      },
      words,
    )

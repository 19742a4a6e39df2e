-- Rows that are made of a list at once.
use Rattle.std.proofs.Common.{◌≡◌, ℕ, ◌+◌, ◌-◌, ◌*◌, ◌<◌, ◌≤◌, List, [], ◌∷◌, ◌++◌, length, take, drop, reverse, All, sym, ap, ap₂, subst, ◌∙◌, arith, length-drop, append_assoc}
use Rattle.std.proofs.lemmas.List.{append-nil, take-append-drop, length_push, reverse-append, get_or-reverse, length-reverse}
use Rattle.std.proofs.lemmas.List.Elements.{All-take, All-drop, All-push}
use Rattle.word_sets.specs.Words.{IsSet}
use Rattle.word_sets.proofs.Within.{IsSet-parts}
use Rattle.neighbour_btree.specs.declared.levels.level.TheConstants.{MOST}
use Rattle.neighbour_btree.specs.Node.{Node, words_under, leaf_of, inner_of, IsChild, IsInner}
use Rattle.neighbour_btree.specs.Lists.{IsRow}
use Rattle.neighbour_btree.proofs.NodeLists.{words_under-append}

-- what is left of the words of a set
pub rest_set : (row : List Node) (rest words : List ℕ) → words_under row ++ rest ≡ words → IsSet words → IsSet rest
rest_set row rest words e s = (IsSet-parts (words_under row) rest (subst IsSet (sym e) s)).1

pub next_leaf : (row more : List Node) (leaf : Node) (rest part words : List ℕ) → words_under row ++ rest ≡ words → part ≡ take 48 rest → leaf ≡ leaf_of part → more ≡ row ++ leaf ∷ [] → words_under more ++ drop 48 rest ≡ words
next_leaf row more leaf rest part words e is made list =
    ap (λ l. words_under l ++ drop 48 rest) list
    ∙ ap (λ l. l ++ drop 48 rest) (words_under-append row (leaf ∷ []) ∙ ap (λ l. words_under row ++ l) (append-nil leaf.words ∙ ap (λ (n : Node). n.words) made ∙ is))
    ∙ append_assoc (words_under row) (take 48 rest) (drop 48 rest)
    ∙ ap (λ l. words_under row ++ l) (take-append-drop 48 rest)
    ∙ e

-- the last children of a list, and those before
pub last_part : (least n : ℕ) (ns rest part : List Node) → All (IsChild least) ns → IsSet (words_under ns) → n + 32 ≡ length ns → rest ≡ take n ns → part ≡ drop n ns → IsInner least part × (All (IsChild least) rest × (words_under rest ++ words_under part ≡ words_under ns))
last_part least n ns rest part h s long e f =
    let whole : words_under rest ++ words_under part ≡ words_under ns = ap₂ (λ a b. words_under a ++ words_under b) e f ∙ sym (words_under-append (take n ns) (drop n ns)) ∙ ap words_under (take-append-drop n ns) in
    let size : length part ≡ 32 = ap length f ∙ length-drop n ns ∙ omega arith in
    let P : List Node → Type 0 = λ l. All (IsChild least) l in (
      record {
        some = omega arith;
        most = omega arith;
        children = subst P (sym f) (All-drop (IsChild least) n ns h);
        set = (IsSet-parts (words_under rest) (words_under part) (subst IsSet (sym whole) s)).1;
      },
      (subst P (sym e) (All-take (IsChild least) n ns h), whole),
    )

pub front_set : (ns row all : List Node) → words_under ns ++ words_under (reverse row) ≡ words_under all → IsSet (words_under all) → IsSet (words_under ns)
front_set ns row all e s =
    (IsSet-parts (words_under ns) (words_under (reverse row)) (subst IsSet (sym e) s)).0

words_under-reverse : (row more part : List Node) (n : Node) → more ≡ row ++ n ∷ [] → n ≡ inner_of part → words_under (reverse more) ≡ words_under part ++ words_under (reverse row)
words_under-reverse row more part n list made =
    ap (λ l. words_under (reverse l)) list
    ∙ ap words_under (reverse-append row (n ∷ []))
    ∙ ap (λ (m : Node). m.words ++ words_under (reverse row)) made

pub next_node : (ns rest part row more all : List Node) (n : Node) → words_under ns ++ words_under (reverse row) ≡ words_under all → words_under rest ++ words_under part ≡ words_under ns → more ≡ row ++ n ∷ [] → n ≡ inner_of part → words_under rest ++ words_under (reverse more) ≡ words_under all
next_node ns rest part row more all n e whole list made =
    ap (λ l. words_under rest ++ l) (words_under-reverse row more part n list made)
    ∙ sym (append_assoc (words_under rest) (words_under part) (words_under (reverse row)))
    ∙ ap (λ l. l ++ words_under (reverse row)) whole
    ∙ e

pub All-reverse : (P : Node → Type 0) (ns : List Node) → All P ns → All P (reverse ns)
All-reverse P ns h k d lt =
    let n : length (reverse ns) ≡ length ns = length-reverse ns in
    subst P (sym (get_or-reverse ns k d (omega (arith, n)))) (h (length ns - 1 - k) d (omega (arith, n)))

pub last_node : (least : ℕ) (ns row more turned all : List Node) (n : Node) → words_under ns ++ words_under (reverse row) ≡ words_under all → All (IsChild least) row → IsChild least n → more ≡ row ++ n ∷ [] → n ≡ inner_of ns → turned ≡ reverse more → 32 * length row + length ns ≡ length all → 32 ≤ length ns → length ns < 64 → IsRow least (length all) (words_under all) turned
last_node least ns row more turned all n e h child list made is counted enough few =
    let P : List Node → Type 0 = λ l. All (IsChild least) l in
    let size : length turned ≡ length row + 1 = ap length is ∙ length-reverse more ∙ ap length list ∙ length_push row n in
    record {
      words = ap words_under is ∙ words_under-reverse row more ns n list made ∙ e;
      children = subst P (sym is) (All-reverse (IsChild least) more (subst P (sym list) (All-push (IsChild least) row n h child)));
      many = omega arith;
      few = omega arith;
    }

-- a node over a whole row
pub row_inner : (least entries : ℕ) (list : List ℕ) (row : List Node) → IsRow least entries list row → IsSet list → 64 ≤ entries → length row ≤ MOST → IsInner least row
row_inner least entries list row r s many few =
    record { some = omega (arith, r.many); most = few; children = r.children; set = subst IsSet (sym r.words) s }

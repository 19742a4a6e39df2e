-- A list more among the lists of a range.
use Rattle.std.proofs.Common.{◌≡◌, ℕ, ◌+◌, ◌<◌, ◌≤◌, List, [], ◌∷◌, ◌++◌, length, get_or, set, map, refl, sym, ap, subst, ◌∙◌, inl, inr, Some, None, unwrap_or, IsSome, is_some, arith}
use Rattle.std.specs.List.{AllByRecursion}
use Rattle.std.proofs.lemmas.Bool.{cases_lt, true≢false}
use Rattle.std.proofs.lemmas.List.{length_push, map_push, get_or_append_left, get_or_push, get_or_past, drop_all, append-nil}
use Rattle.std.proofs.lemmas.List.Elements.{All-from_recursion}
use Rattle.past_model.specs.declared.home.Home.{Home}
use Rattle.past_model.specs.declared.home.Home.TheVariants.{Block, Gapped, Tree}
use Rattle.word_sets.specs.declared.places.TheConstants.{WORD_LIMIT}
use Rattle.word_sets.specs.Words.{IsSet}
use Rattle.word_sets.proofs.Within.{IsWithin-length}
use Rattle.shards.specs.declared.lists.Place.{Place}
use Rattle.shards.specs.declared.lists.Place.TheVariants.{Nowhere, InShort, InBlock, InArray, InTree}
use Rattle.shards.specs.declared.lists.Lists.{Lists}
use Rattle.shards.specs.Lent.{IsLentAt}
use Rattle.shards.specs.ShortBlocks.{set_at, ArePacked}
use Rattle.shards.proofs.ShortLemmas.{same_set, same_packed, set_stays, set_pushed, packed_more}
use Rattle.gapped_array.specs.Table.{IsOpen, list_at as run_at}
use Rattle.shards.specs.Lists.{list_at, home_of, rows_of, homes_of, IsThere, AreApart, AreKept, AreSame, IsPushed}

-- a set is not large
pub few_words : (xs : List ℕ) → IsSet xs → length xs ≤ WORD_LIMIT
few_words xs set = omega (arith, IsWithin-length 0 WORD_LIMIT xs set)

-- what stands at a place stays
abbrev pub Stays : Lists → Lists → Place → Type 0
Stays old new p = IsThere old p → IsThere new p × (list_at new p ≡ list_at old p)

all_stay : (ps : List Place) (old new : Lists) → ((p : Place) → Stays old new p) → AllByRecursion (IsThere old) ps → AllByRecursion (IsThere new) ps × (map (list_at new) ps ≡ map (list_at old) ps)
all_stay [] old new stays there = (tt, refl)
all_stay (p ∷ ps) old new stays there =
    let one = stays p there.0 in
    let rest = all_stay ps old new stays there.1 in
    ((one.0, rest.0), ap (λ l. l ∷ map (list_at new) ps) one.1 ∙ ap (λ l. list_at old p ∷ l) rest.1)

all_push : (P : Place → Type 0) (xs : List Place) (x : Place) → AllByRecursion P xs → P x → AllByRecursion P (xs ++ x ∷ [])
all_push P [] x h here = (here, tt)
all_push P (y ∷ ys) x h here = (h.0, all_push P ys x h.1 here)

-- a place that no list has
abbrev IsFresh : Lists → Place → Type 0
IsFresh old p = (q : Place) → IsThere old q → p ≡ q → p ≡ Nowhere

apart_push : (ps : List Place) (p : Place) → AreApart ps → ((i : ℕ) → i < length ps → p ≡ get_or ps i Nowhere → p ≡ Nowhere) → AreApart (ps ++ p ∷ [])
apart_push ps p apart fresh i j other h k same =
    let long = length_push ps p in
    let before : (m : ℕ) → m < length ps → get_or (ps ++ p ∷ []) m Nowhere ≡ get_or ps m Nowhere = λ m lt. get_or_append_left ps (p ∷ []) Nowhere m lt in
    let last : (m : ℕ) → length ps ≡ m → get_or (ps ++ p ∷ []) m Nowhere ≡ p = λ m is. get_or_push ps p Nowhere m is in
    elim (cases_lt i (length ps)) [
      | inl lt ↦ elim (cases_lt j (length ps)) [
        | inl lt' ↦ before i lt ∙ apart i j other lt lt' (sym (before i lt) ∙ same ∙ before j lt')
        | inr ge ↦ (let is = last j (omega (arith, k, ge, long)) in same ∙ is ∙ fresh i lt (sym is ∙ sym same ∙ before i lt))
      ]
      | inr ge ↦ (
          let at : length ps ≡ i = omega (arith, h, ge, long) in
          let lt' : j < length ps = elim (cases_lt j (length ps)) [ inl lt ↦ lt | inr ge' ↦ absurd (other (omega (arith, at, k, ge', long))) ] in
          let is = last i at in
          is ∙ fresh j lt' (sym is ∙ same ∙ before j lt'))
    ]

-- a place more, where the others stay
pushed : (old new : Lists) (p : Place) (row : List ℕ) (home : Home) → AreKept old → new.places.items ≡ old.places.items ++ p ∷ [] → IsFresh old p → ((q : Place) → Stays old new q) → IsThere new p → list_at new p ≡ row → home_of p ≡ home
    → length new.blocks.items ≤ length old.blocks.items + 1 → length new.trees.items ≤ length old.trees.items + 1
    → length new.array ≤ length old.array + 1
    → ArePacked new.shorts → length new.shorts.ends.items ≤ length old.shorts.ends.items + 1
    → IsPushed old new row home
pushed old new p row home kept places fresh stays there is at blocks trees runs packed shorts =
    let all = all_stay old.places.items old new stays kept.there in
    let long : length new.places.items ≡ length old.places.items + 1 = ap length places ∙ length_push old.places.items p in
    let few_shorts = kept.shorts in
    let few_blocks = kept.blocks in
    let few_trees = kept.trees in
    let few_runs = kept.runs in
    record {
      kept = record {
        there = subst (AllByRecursion (IsThere new)) (sym places) (all_push (IsThere new) old.places.items p all.0 there);
        apart = subst AreApart (sym places) (apart_push old.places.items p kept.apart (λ i h. fresh (get_or old.places.items i Nowhere) (All-from_recursion (IsThere old) old.places.items kept.there i Nowhere h)));
        packed = packed;
        shorts = omega (arith, long, few_shorts, shorts);
        blocks = omega (arith, long, few_blocks, blocks);
        runs = omega (arith, long, few_runs, runs);
        trees = omega (arith, long, few_trees, trees);
      };
      rows = ap (map (list_at new)) places ∙ map_push (list_at new) old.places.items p ∙ ap (λ l. l ++ list_at new p ∷ []) all.1 ∙ ap (λ l. rows_of old ++ l ∷ []) is;
      homes = ap (map home_of) places ∙ map_push home_of old.places.items p ∙ ap (λ h. homes_of old ++ h ∷ []) at;
    }

pub same_run : (old new : Lists) (k : ℕ) → new.array ≡ old.array → Stays old new (InArray k)
same_run old new k is there = (subst (λ a. IsOpen a k) (sym is) there, ap (λ a. run_at a k) is)

pub same_short : (old new : Lists) (k : ℕ) → new.shorts ≡ old.shorts → Stays old new (InShort k)
same_short old new k is there = (subst (λ b. k < length b.ends.items) (sym is) there, ap (λ b. set_at b k) is)

-- and so the short blocks stay packed, and as many
still : (old new : Lists) → AreKept old → new.shorts ≡ old.shorts → ArePacked new.shorts
still old new kept is = subst ArePacked (sym is) kept.packed

no_more : (old new : Lists) → new.shorts ≡ old.shorts → length new.shorts.ends.items ≤ length old.shorts.ends.items + 1
no_more old new is = omega (arith, ap (λ b. length b.ends.items) is)

pub same_block : (old new : Lists) (k : ℕ) → new.blocks.items ≡ old.blocks.items → Stays old new (InBlock k)
same_block old new k is there = (omega (arith, ap length is, there), ap (λ l. get_or l k []) is)

pub same_tree : (old new : Lists) (k : ℕ) → new.trees.items ≡ old.trees.items → Stays old new (InTree k)
same_tree old new k is there = (omega (arith, ap length is, there), ap (λ l. get_or l k []) is)

before_block : (old new : Lists) (k : ℕ) (row : List ℕ) → new.blocks.items ≡ old.blocks.items ++ row ∷ [] → Stays old new (InBlock k)
before_block old new k row is there = (
  omega (arith, ap length is, there, length_push old.blocks.items row),
  ap (λ l. get_or l k []) is ∙ get_or_append_left old.blocks.items (row ∷ []) [] k there,
)

before_tree : (old new : Lists) (k : ℕ) (row : List ℕ) → new.trees.items ≡ old.trees.items ++ row ∷ [] → Stays old new (InTree k)
before_tree old new k row is there = (
  omega (arith, ap length is, there, length_push old.trees.items row),
  ap (λ l. get_or l k []) is ∙ get_or_append_left old.trees.items (row ∷ []) [] k there,
)

-- the number after all others is no block's, no tree's and no run's
pub past_short : (l : Lists) → IsThere l (InShort (length l.shorts.ends.items)) → ⊥
past_short l there = omega (arith, there)

past_block : (l : Lists) → IsThere l (InBlock (length l.blocks.items)) → ⊥
past_block l there = omega (arith, there)

past_tree : (l : Lists) → IsThere l (InTree (length l.trees.items)) → ⊥
past_tree l there = omega (arith, there)

past_run : (l : Lists) → IsThere l (InArray (length l.array)) → ⊥
past_run l there = true≢false (sym there ∙ ap is_some (get_or_past l.array (length l.array) None (omega arith)))

-- an empty list that stands nowhere
pub pushed_nowhere : (old new : Lists) → AreKept old → new.places.items ≡ old.places.items ++ Nowhere ∷ [] → new.shorts ≡ old.shorts → new.blocks.items ≡ old.blocks.items → new.array ≡ old.array → new.trees.items ≡ old.trees.items → IsPushed old new [] Block
pushed_nowhere old new kept places shorts blocks array trees =
    pushed old new Nowhere [] Block kept places (λ q there same. refl) stays tt refl refl (omega (arith, ap length blocks)) (omega (arith, ap length trees)) (omega (arith, ap length array)) (still old new kept shorts) (no_more old new shorts)
  where
    stays : (q : Place) → Stays old new q
    stays Nowhere = λ h. (tt, refl)
    stays (InShort k) = same_short old new k shorts
    stays (InBlock k) = same_block old new k blocks
    stays (InArray k) = same_run old new k array
    stays (InTree k) = same_tree old new k trees

-- one in a block after the others
pub pushed_block : (old new : Lists) (row : List ℕ) → AreKept old → new.places.items ≡ old.places.items ++ InBlock (length old.blocks.items) ∷ [] → new.shorts ≡ old.shorts → new.blocks.items ≡ old.blocks.items ++ row ∷ [] → new.array ≡ old.array → new.trees.items ≡ old.trees.items → IsPushed old new row Block
pushed_block old new row kept places shorts blocks array trees =
    let more : length new.blocks.items ≡ length old.blocks.items + 1 = ap length blocks ∙ length_push old.blocks.items row in
    pushed old new (InBlock (length old.blocks.items)) row Block kept places (λ q there same. absurd (past_block old (subst (IsThere old) (sym same) there))) stays (omega (arith, more)) (ap (λ l. get_or l (length old.blocks.items) []) blocks ∙ get_or_push old.blocks.items row [] (length old.blocks.items) refl) refl (omega (arith, more)) (omega (arith, ap length trees)) (omega (arith, ap length array)) (still old new kept shorts) (no_more old new shorts)
  where
    stays : (q : Place) → Stays old new q
    stays Nowhere = λ h. (tt, refl)
    stays (InShort k) = same_short old new k shorts
    stays (InBlock k) = before_block old new k row blocks
    stays (InArray k) = same_run old new k array
    stays (InTree k) = same_tree old new k trees

-- one in a short block after the others
pub pushed_short : (old new : Lists) (row : List ℕ) → AreKept old → IsSet row → length row ≤ 6 → new.places.items ≡ old.places.items ++ InShort (length old.shorts.ends.items) ∷ [] → new.shorts.words.items ≡ old.shorts.words.items ++ row → new.shorts.ends.items ≡ old.shorts.ends.items ++ (length old.shorts.words.items + length row) ∷ [] → new.blocks.items ≡ old.blocks.items → new.array ≡ old.array → new.trees.items ≡ old.trees.items → IsPushed old new row Block
pushed_short old new row kept set short places words ends blocks array trees =
    let end = length old.shorts.words.items + length row in
    let more : length new.shorts.ends.items ≡ length old.shorts.ends.items + 1 = ap length ends ∙ length_push old.shorts.ends.items end in
    pushed old new (InShort (length old.shorts.ends.items)) row Block kept places (λ q there same. absurd (past_short old (subst (IsThere old) (sym same) there))) stays (omega (arith, more)) (set_pushed old.shorts new.shorts row kept.packed words ends) refl (omega (arith, ap length blocks)) (omega (arith, ap length trees)) (omega (arith, ap length array)) (packed_more old.shorts new.shorts row kept.packed set short words ends) (omega (arith, more))
  where
    stays : (q : Place) → Stays old new q
    stays Nowhere = λ h. (tt, refl)
    stays (InShort k) = λ there. (omega (arith, there, ap length ends, length_push old.shorts.ends.items (length old.shorts.words.items + length row)), set_stays old.shorts new.shorts row (length old.shorts.words.items + length row) k kept.packed words ends there)
    stays (InBlock k) = same_block old new k blocks
    stays (InArray k) = same_run old new k array
    stays (InTree k) = same_tree old new k trees

-- one in a tree after the others
pub pushed_tree : (old new : Lists) (row : List ℕ) → AreKept old → new.places.items ≡ old.places.items ++ InTree (length old.trees.items) ∷ [] → new.shorts ≡ old.shorts → new.blocks.items ≡ old.blocks.items → new.array ≡ old.array → new.trees.items ≡ old.trees.items ++ row ∷ [] → IsPushed old new row Tree
pushed_tree old new row kept places shorts blocks array trees =
    let more : length new.trees.items ≡ length old.trees.items + 1 = ap length trees ∙ length_push old.trees.items row in
    pushed old new (InTree (length old.trees.items)) row Tree kept places (λ q there same. absurd (past_tree old (subst (IsThere old) (sym same) there))) stays (omega (arith, more)) (ap (λ l. get_or l (length old.trees.items) []) trees ∙ get_or_push old.trees.items row [] (length old.trees.items) refl) refl (omega (arith, ap length blocks)) (omega (arith, more)) (omega (arith, ap length array)) (still old new kept shorts) (no_more old new shorts)
  where
    stays : (q : Place) → Stays old new q
    stays Nowhere = λ h. (tt, refl)
    stays (InShort k) = same_short old new k shorts
    stays (InBlock k) = same_block old new k blocks
    stays (InArray k) = same_run old new k array
    stays (InTree k) = before_tree old new k row trees

-- the runs before the last one stay
before_run : (old new : Lists) (k : ℕ) (row : List ℕ) → new.array ≡ old.array ++ Some row ∷ [] → Stays old new (InArray k)
before_run old new k row is there =
    let inside : k < length old.array = elim (cases_lt k (length old.array)) [
      | inl lt ↦ lt
      | inr past ↦ absurd (true≢false (sym there ∙ ap is_some (get_or_past old.array k None past)))
    ] in
    let same : get_or new.array k None ≡ get_or old.array k None = ap (λ l. get_or l k None) is ∙ get_or_append_left old.array (Some row ∷ []) None k inside in
    (subst IsSome (sym same) there, ap (λ o. unwrap_or o []) same)

-- one in the array after the others
pub pushed_run : (old new : Lists) (row : List ℕ) → AreKept old → new.places.items ≡ old.places.items ++ InArray (length old.array) ∷ [] → new.shorts ≡ old.shorts → new.blocks.items ≡ old.blocks.items → new.array ≡ old.array ++ Some row ∷ [] → new.trees.items ≡ old.trees.items → IsPushed old new row Gapped
pushed_run old new row kept places shorts blocks array trees =
    let here : get_or new.array (length old.array) None ≡ Some row = ap (λ l. get_or l (length old.array) None) array ∙ get_or_push old.array (Some row) None (length old.array) refl in
    pushed old new (InArray (length old.array)) row Gapped kept places (λ q there same. absurd (past_run old (subst (IsThere old) (sym same) there))) stays (subst IsSome (sym here) refl) (ap (λ o. unwrap_or o []) here) refl (omega (arith, ap length blocks)) (omega (arith, ap length trees)) (omega (arith, ap length array, length_push old.array (Some row))) (still old new kept shorts) (no_more old new shorts)
  where
    stays : (q : Place) → Stays old new q
    stays Nowhere = λ h. (tt, refl)
    stays (InShort k) = same_short old new k shorts
    stays (InBlock k) = same_block old new k blocks
    stays (InArray k) = before_run old new k row array
    stays (InTree k) = same_tree old new k trees

-- the same lists in other memory
pub kept_same : (old new : Lists) → AreKept old → new.places.items ≡ old.places.items → new.shorts.words.items ≡ old.shorts.words.items → new.shorts.ends.items ≡ old.shorts.ends.items → new.blocks.items ≡ old.blocks.items → new.array ≡ old.array → new.trees.items ≡ old.trees.items → AreSame old new
kept_same old new kept places words ends blocks array trees =
    let all = all_stay old.places.items old new stays kept.there in
    let few_shorts = kept.shorts in
    let few_blocks = kept.blocks in
    let few_trees = kept.trees in
    let few_runs = kept.runs in
    record {
      kept = record {
        there = subst (AllByRecursion (IsThere new)) (sym places) all.0;
        apart = subst AreApart (sym places) kept.apart;
        packed = same_packed old.shorts new.shorts kept.packed words ends;
        shorts = omega (arith, ap length places, ap length ends, few_shorts);
        blocks = omega (arith, ap length places, ap length blocks, few_blocks);
        runs = omega (arith, ap length places, ap length array, few_runs);
        trees = omega (arith, ap length places, ap length trees, few_trees);
      };
      rows = ap (map (list_at new)) places ∙ all.1;
      homes = ap (map home_of) places;
    }
  where
    stays : (q : Place) → Stays old new q
    stays Nowhere = λ h. (tt, refl)
    stays (InShort k) = λ there. (omega (arith, ap length ends, there), same_set old.shorts new.shorts k words ends)
    stays (InBlock k) = same_block old new k blocks
    stays (InArray k) = same_run old new k array
    stays (InTree k) = same_tree old new k trees

-- a slice as long as the list is the list
pub whole_lent : (row lent : List ℕ) → IsLentAt row 0 lent → length lent ≡ length row → lent ≡ row
whole_lent row lent is long =
    sym (append-nil lent) ∙ ap (λ l. lent ++ l) (sym (drop_all (0 + length lent) row (omega (arith, long)))) ∙ sym is.whole

-- One list of a page in place of another, and all others stay.
use Rattle.std.proofs.Common.{◌≡◌, ℕ, zero, suc, ◌+◌, ◌<◌, ◌≤◌, Bool, true, false, List, [], ◌∷◌, ◌++◌, length, get_or, set, map, refl, sym, ap, subst, ◌∙◌, inl, inr, Option, Some, None, unwrap_or, IsSome, arith}
use Rattle.std.specs.Prelude.{IfSome}
use Rattle.std.specs.List.{AllByRecursion}
use Rattle.std.proofs.lemmas.Bool.{cases_eq, true≢false}
use Rattle.std.proofs.lemmas.List.{length-set, get_or-set_same, get_or-set_other, set-get_or, length-map, map-set, get_or-map, get_or_default, length_push}
use Rattle.std.proofs.lemmas.List.Elements.{All-from_recursion}
use Rattle.past_model.specs.declared.home.Home.{Home}
use Rattle.past_model.specs.declared.home.Home.TheVariants.{Block, Gapped, Tree}
use Rattle.past_model.specs.declared.edit.Edit.{Edit}
use Rattle.past_model.specs.Homes.{home_after}
use Rattle.gapped_array.specs.Table.{list_at as run_at}
use Rattle.word_sets.specs.Words.{IsSet}
use Rattle.shards.specs.declared.counts.Counts.{Counts}
use Rattle.shards.specs.declared.lists.Place.{Place}
use Rattle.shards.specs.declared.lists.Place.TheVariants.{Nowhere, InShort, InBlock, InArray, InTree}
use Rattle.shards.specs.declared.lists.Lists.{Lists}
use Rattle.shards.specs.ShortBlocks.{ArePacked, IsSetPut}
use Rattle.shards.specs.Lists.{list_at, home_of, rows_of, homes_of, IsThere, AreApart, AreKept, IsReplaced, IsPutInBlock}
use Rattle.shards.specs.Put.{IsEditedAtHome, IsRunAfter, IsReplacedAfter}
use Rattle.shards.proofs.ShortLemmas.{set_stays, set_pushed, packed_more}
use Rattle.shards.proofs.RunLemmas.{run_inside}
use Rattle.shards.proofs.ListLemmas.{Stays, same_run, same_short, same_block, same_tree, past_short}

-- ---- places

each_stays : (ps : List Place) (old new : Lists) → ((i : ℕ) → i < length ps → Stays old new (get_or ps i Nowhere)) → AllByRecursion (IsThere old) ps → AllByRecursion (IsThere new) ps × (map (list_at new) ps ≡ map (list_at old) ps)
each_stays [] old new stays there = (tt, refl)
each_stays (p ∷ ps) old new stays there =
    let one = stays 0 (omega arith) there.0 in
    let rest = each_stays ps old new (λ i h. stays (suc i) (omega arith)) there.1 in
    ((one.0, rest.0), ap (λ l. l ∷ map (list_at new) ps) one.1 ∙ ap (λ l. list_at old p ∷ l) rest.1)

all_set : (ps : List Place) (v : ℕ) (p : Place) (old new : Lists) → v < length ps → ((i : ℕ) → (i ≡ v → ⊥) → i < length ps → Stays old new (get_or ps i Nowhere)) → AllByRecursion (IsThere old) ps → IsThere new p → AllByRecursion (IsThere new) (set ps v p) × (map (list_at new) (set ps v p) ≡ set (map (list_at old) ps) v (list_at new p))
all_set [] v p old new h stays there here = absurd (omega arith)
all_set (q ∷ ps) zero p old new h stays there here =
    let rest = each_stays ps old new (λ i lt. stays (suc i) (λ same. omega (arith, same)) (omega arith)) there.1 in
    ((here, rest.0), ap (λ l. list_at new p ∷ l) rest.1)
all_set (q ∷ ps) (suc v) p old new h stays there here =
    let one = stays 0 (λ same. omega (arith, same)) (omega arith) there.0 in
    let rest = all_set ps v p old new (omega arith) (λ i other lt. stays (suc i) (λ same. other (omega (arith, same))) (omega arith)) there.1 here in
    ((one.0, rest.0), ap (λ l. l ∷ map (list_at new) (set ps v p)) one.1 ∙ ap (λ l. list_at old q ∷ l) rest.1)

apart_set : (ps : List Place) (v : ℕ) (p : Place) → v < length ps → AreApart ps → ((i : ℕ) → (i ≡ v → ⊥) → i < length ps → p ≡ get_or ps i Nowhere → p ≡ Nowhere) → AreApart (set ps v p)
apart_set ps v p inside apart fresh i j other h k same =
    let long = length-set ps v p in
    let own : (m : ℕ) → m ≡ v → get_or (set ps v p) m Nowhere ≡ p = λ m at. ap (λ n. get_or (set ps v p) n Nowhere) at ∙ get_or-set_same ps v p Nowhere inside in
    let rest : (m : ℕ) → (m ≡ v → ⊥) → get_or (set ps v p) m Nowhere ≡ get_or ps m Nowhere = λ m off. get_or-set_other ps v m p Nowhere off in
    elim (cases_eq i v) [
      | inl at ↦ (
          let off : j ≡ v → ⊥ = λ is. other (at ∙ sym is) in
          own i at ∙ fresh j off (omega (arith, k, long)) (sym (own i at) ∙ same ∙ rest j off))
      | inr off ↦ elim (cases_eq j v) [
        | inl at ↦ same ∙ own j at ∙ fresh i off (omega (arith, h, long)) (sym (own j at) ∙ sym same ∙ rest i off)
        | inr off' ↦ rest i off ∙ apart i j other (omega (arith, h, long)) (omega (arith, k, long)) (sym (rest i off) ∙ same ∙ rest j off')
      ]
    ]

-- ---- a list at its place, or at one that no other has

-- no place of another vertex
abbrev IsOther : Lists → ℕ → Place → Type 0
IsOther old v q = q ≡ get_or old.places.items v Nowhere → q ≡ Nowhere

-- no more blocks, runs and trees than vertices
pub record AreFew (old new : Lists) : Type 0 where
  pub packed : ArePacked new.shorts
  pub shorts : length new.shorts.ends.items ≤ length old.places.items
  pub blocks : length new.blocks.items ≤ length old.places.items
  pub runs : length new.array ≤ length old.places.items
  pub trees : length new.trees.items ≤ length old.places.items

replaced : (old new : Lists) (v : ℕ) (p : Place) (row : List ℕ) (home : Home) → AreKept old → v < length old.places.items → new.places.items ≡ set old.places.items v p
    → ((i : ℕ) → (i ≡ v → ⊥) → i < length old.places.items → p ≡ get_or old.places.items i Nowhere → p ≡ Nowhere)
    → ((q : Place) → IsOther old v q → Stays old new q) → IsThere new p → list_at new p ≡ row → home_of p ≡ home → AreFew old new → IsReplaced old new v row home
replaced old new v p row home kept inside places fresh stays there is at few =
    let ps = old.places.items in
    let all = all_set ps v p old new inside (λ i other h. stays (get_or ps i Nowhere) (kept.apart i v other h inside)) kept.there there in
    let long : length new.places.items ≡ length ps = ap length places ∙ length-set ps v p in
    let shorts = few.shorts in
    let blocks = few.blocks in
    let runs = few.runs in
    let trees = few.trees in
    record {
      kept = record {
        there = subst (AllByRecursion (IsThere new)) (sym places) all.0;
        apart = subst AreApart (sym places) (apart_set ps v p inside kept.apart fresh);
        packed = few.packed;
        shorts = omega (arith, long, shorts);
        blocks = omega (arith, long, blocks);
        runs = omega (arith, long, runs);
        trees = omega (arith, long, trees);
      };
      rows = ap (map (list_at new)) places ∙ all.1 ∙ ap (λ l. set (rows_of old) v l) is;
      homes = ap (map home_of) places ∙ map-set home_of ps v p ∙ ap (λ h. set (homes_of old) v h) at;
    }

-- where the place stays
replaced_there : (old new : Lists) (v : ℕ) (p : Place) (row : List ℕ) (home : Home) → AreKept old → v < length old.places.items → get_or old.places.items v Nowhere ≡ p → new.places.items ≡ old.places.items
    → ((q : Place) → (q ≡ p → q ≡ Nowhere) → Stays old new q) → IsThere new p → list_at new p ≡ row → home_of p ≡ home → AreFew old new → IsReplaced old new v row home
replaced_there old new v p row home kept inside own places stays there is at few =
    let ps = old.places.items in
    replaced old new v p row home kept inside (places ∙ sym (set-get_or ps v Nowhere) ∙ ap (λ q. set ps v q) own)
    (λ i other h same. sym own ∙ kept.apart v i (λ e. other (sym e)) inside h (own ∙ same))
    (λ q other. stays q (λ same. other (same ∙ sym own))) there is at few

pub own_there : (old : Lists) (v : ℕ) (p : Place) → AreKept old → v < length old.places.items → get_or old.places.items v Nowhere ≡ p → IsThere old p
own_there old v p kept inside own = subst (IsThere old) own (All-from_recursion (IsThere old) old.places.items kept.there v Nowhere inside)

abbrev is_somewhere : Place → Bool
is_somewhere Nowhere = false
is_somewhere (InShort k) = true
is_somewhere (InBlock k) = true
is_somewhere (InArray k) = true
is_somewhere (InTree k) = true

-- the home of a list at a place
pub home_at_place : (old : Lists) (v : ℕ) (p : Place) → v < length old.places.items → get_or old.places.items v Nowhere ≡ p → get_or (homes_of old) v Block ≡ home_of p
home_at_place old v p inside own = get_or-map home_of old.places.items v Nowhere Block inside ∙ ap home_of own

pub row_at_place : (old : Lists) (v : ℕ) (p : Place) → v < length old.places.items → get_or old.places.items v Nowhere ≡ p → get_or (rows_of old) v [] ≡ list_at old p
row_at_place old v p inside own = get_or-map (list_at old) old.places.items v Nowhere [] inside ∙ ap (list_at old) own

-- a block
pub replaced_block : (old new : Lists) (v k : ℕ) (row : List ℕ) → AreKept old → v < length old.places.items → get_or old.places.items v Nowhere ≡ InBlock k → new.places.items ≡ old.places.items → new.shorts ≡ old.shorts → new.blocks.items ≡ set old.blocks.items k row → new.array ≡ old.array → new.trees.items ≡ old.trees.items → IsReplaced old new v row Block
replaced_block old new v k row kept inside own places shorts blocks array trees =
    let few_shorts = kept.shorts in
    let few_blocks = kept.blocks in
    let few_trees = kept.trees in
    let few_runs = kept.runs in
    replaced_there old new v (InBlock k) row Block kept inside own places stays (omega (arith, here, many)) (ap (λ l. get_or l k []) blocks ∙ get_or-set_same old.blocks.items k row [] here) refl record {
      packed = subst ArePacked (sym shorts) kept.packed;
      shorts = omega (arith, ap (λ b. length b.ends.items) shorts, few_shorts);
      blocks = omega (arith, many, few_blocks);
      runs = omega (arith, ap length array, few_runs);
      trees = omega (arith, ap length trees, few_trees);
    }
  where
    here : k < length old.blocks.items
    here = own_there old v (InBlock k) kept inside own

    many : length new.blocks.items ≡ length old.blocks.items
    many = ap length blocks ∙ length-set old.blocks.items k row

    stays : (q : Place) → (q ≡ InBlock k → q ≡ Nowhere) → Stays old new q
    stays Nowhere other = λ h. (tt, refl)
    stays (InShort j) other = same_short old new j shorts
    stays (InBlock j) other = λ there. elim (cases_eq j k) [
      | inl same ↦ absurd (true≢false (ap is_somewhere (other (ap InBlock same))))
      | inr off ↦ (omega (arith, there, many), ap (λ l. get_or l j []) blocks ∙ get_or-set_other old.blocks.items k j row [] off)
    ]
    stays (InArray j) other = same_run old new j array
    stays (InTree j) other = same_tree old new j trees

-- a tree
pub replaced_tree : (old new : Lists) (v k : ℕ) (row : List ℕ) → AreKept old → v < length old.places.items → get_or old.places.items v Nowhere ≡ InTree k → new.places.items ≡ old.places.items → new.shorts ≡ old.shorts → new.blocks.items ≡ old.blocks.items → new.array ≡ old.array → new.trees.items ≡ set old.trees.items k row → IsReplaced old new v row Tree
replaced_tree old new v k row kept inside own places shorts blocks array trees =
    let few_shorts = kept.shorts in
    let few_blocks = kept.blocks in
    let few_trees = kept.trees in
    let few_runs = kept.runs in
    replaced_there old new v (InTree k) row Tree kept inside own places stays (omega (arith, here, many)) (ap (λ l. get_or l k []) trees ∙ get_or-set_same old.trees.items k row [] here) refl record {
      packed = subst ArePacked (sym shorts) kept.packed;
      shorts = omega (arith, ap (λ b. length b.ends.items) shorts, few_shorts);
      blocks = omega (arith, ap length blocks, few_blocks);
      runs = omega (arith, ap length array, few_runs);
      trees = omega (arith, many, few_trees);
    }
  where
    here : k < length old.trees.items
    here = own_there old v (InTree k) kept inside own

    many : length new.trees.items ≡ length old.trees.items
    many = ap length trees ∙ length-set old.trees.items k row

    stays : (q : Place) → (q ≡ InTree k → q ≡ Nowhere) → Stays old new q
    stays Nowhere other = λ h. (tt, refl)
    stays (InShort j) other = same_short old new j shorts
    stays (InBlock j) other = same_block old new j blocks
    stays (InArray j) other = same_run old new j array
    stays (InTree j) other = λ there. elim (cases_eq j k) [
      | inl same ↦ absurd (true≢false (ap is_somewhere (other (ap InTree same))))
      | inr off ↦ (omega (arith, there, many), ap (λ l. get_or l j []) trees ∙ get_or-set_other old.trees.items k j row [] off)
    ]

-- a run
pub replaced_run : (old new : Lists) (v k : ℕ) (row : List ℕ) → AreKept old → v < length old.places.items → get_or old.places.items v Nowhere ≡ InArray k → new.places.items ≡ old.places.items → new.shorts ≡ old.shorts → new.blocks.items ≡ old.blocks.items → new.array ≡ set old.array k (Some row) → new.trees.items ≡ old.trees.items → IsReplaced old new v row Gapped
replaced_run old new v k row kept inside own places shorts blocks array trees =
    let few_shorts = kept.shorts in
    let few_blocks = kept.blocks in
    let few_trees = kept.trees in
    let few_runs = kept.runs in
    replaced_there old new v (InArray k) row Gapped kept inside own places stays (subst IsSome (sym now) refl) (ap (λ o. unwrap_or o []) now) refl record {
      packed = subst ArePacked (sym shorts) kept.packed;
      shorts = omega (arith, ap (λ b. length b.ends.items) shorts, few_shorts);
      blocks = omega (arith, ap length blocks, few_blocks);
      runs = omega (arith, ap length array, length-set old.array k (Some row), few_runs);
      trees = omega (arith, ap length trees, few_trees);
    }
  where
    here : k < length old.array
    here = run_inside old.array k (own_there old v (InArray k) kept inside own)

    now : get_or new.array k None ≡ Some row
    now = ap (λ l. get_or l k None) array ∙ get_or-set_same old.array k (Some row) None here

    stays : (q : Place) → (q ≡ InArray k → q ≡ Nowhere) → Stays old new q
    stays Nowhere other = λ h. (tt, refl)
    stays (InShort j) other = same_short old new j shorts
    stays (InBlock j) other = same_block old new j blocks
    stays (InArray j) other = λ there. elim (cases_eq j k) [
      | inl same ↦ absurd (true≢false (ap is_somewhere (other (ap InArray same))))
      | inr off ↦ (
          let same : get_or new.array j None ≡ get_or old.array j None = ap (λ l. get_or l j None) array ∙ get_or-set_other old.array k j (Some row) None off in
          (subst IsSome (sym same) there, ap (λ o. unwrap_or o []) same))
    ]
    stays (InTree j) other = same_tree old new j trees

-- a short block
pub replaced_short : (old new : Lists) (v k : ℕ) (row : List ℕ) → AreKept old → v < length old.places.items → get_or old.places.items v Nowhere ≡ InShort k → new.places.items ≡ old.places.items → IsSetPut old.shorts new.shorts k row → new.blocks.items ≡ old.blocks.items → new.array ≡ old.array → new.trees.items ≡ old.trees.items → IsReplaced old new v row Block
replaced_short old new v k row kept inside own places shorts blocks array trees =
    let few_shorts = kept.shorts in
    let few_blocks = kept.blocks in
    let few_trees = kept.trees in
    let few_runs = kept.runs in
    let count = shorts.count in
    replaced_there old new v (InShort k) row Block kept inside own places stays (omega (arith, here, count)) shorts.own refl record {
      packed = shorts.packed;
      shorts = omega (arith, count, few_shorts);
      blocks = omega (arith, ap length blocks, few_blocks);
      runs = omega (arith, ap length array, few_runs);
      trees = omega (arith, ap length trees, few_trees);
    }
  where
    here : k < length old.shorts.ends.items
    here = own_there old v (InShort k) kept inside own

    stays : (q : Place) → (q ≡ InShort k → q ≡ Nowhere) → Stays old new q
    stays Nowhere other = λ h. (tt, refl)
    stays (InShort j) other = λ there. (
        let count = shorts.count in
        (omega (arith, there, count), shorts.others j (λ same. true≢false (ap is_somewhere (other (ap InShort same)))) there))
    stays (InBlock j) other = same_block old new j blocks
    stays (InArray j) other = same_run old new j array
    stays (InTree j) other = same_tree old new j trees

-- the first words of a list that stood nowhere, in a short block after the others
pub replaced_nowhere : (old new : Lists) (v : ℕ) (row : List ℕ) → AreKept old → v < length old.places.items → length old.shorts.ends.items < length old.places.items → IsSet row → length row ≤ 6 → get_or old.places.items v Nowhere ≡ Nowhere → new.places.items ≡ set old.places.items v (InShort (length old.shorts.ends.items)) → new.shorts.words.items ≡ old.shorts.words.items ++ row → new.shorts.ends.items ≡ old.shorts.ends.items ++ (length old.shorts.words.items + length row) ∷ [] → new.blocks.items ≡ old.blocks.items → new.array ≡ old.array → new.trees.items ≡ old.trees.items → IsReplaced old new v row Block
replaced_nowhere old new v row kept inside room is short own places words ends blocks array trees =
    let few_blocks = kept.blocks in
    let few_trees = kept.trees in
    let few_runs = kept.runs in
    replaced old new v (InShort (length old.shorts.ends.items)) row Block kept inside places fresh (λ q other. stays q) (omega (arith, more)) (set_pushed old.shorts new.shorts row kept.packed words ends) refl record {
      packed = packed_more old.shorts new.shorts row kept.packed is short words ends;
      shorts = omega (arith, more, room);
      blocks = omega (arith, ap length blocks, few_blocks);
      runs = omega (arith, ap length array, few_runs);
      trees = omega (arith, ap length trees, few_trees);
    }
  where
    more : length new.shorts.ends.items ≡ length old.shorts.ends.items + 1
    more = ap length ends ∙ length_push old.shorts.ends.items (length old.shorts.words.items + length row)

    fresh : (i : ℕ) → (i ≡ v → ⊥) → i < length old.places.items → InShort (length old.shorts.ends.items) ≡ get_or old.places.items i Nowhere → InShort (length old.shorts.ends.items) ≡ Nowhere
    fresh i other h same = absurd (past_short old (subst (IsThere old) (sym same) (All-from_recursion (IsThere old) old.places.items kept.there i Nowhere h)))

    stays : (q : Place) → Stays old new q
    stays Nowhere = λ h. (tt, refl)
    stays (InShort j) = λ there. (omega (arith, there, more), set_stays old.shorts new.shorts row (length old.shorts.words.items + length row) j kept.packed words ends there)
    stays (InBlock j) = same_block old new j blocks
    stays (InArray j) = same_run old new j array
    stays (InTree j) = same_tree old new j trees

-- a list that stands nowhere and stays empty
pub replaced_by_none : (old : Lists) (v : ℕ) (row : List ℕ) → AreKept old → v < length old.places.items → get_or old.places.items v Nowhere ≡ Nowhere → row ≡ [] → IsReplaced old old v row Block
replaced_by_none old v row kept inside own none =
    replaced_there old old v Nowhere row Block kept inside own refl (λ q other there. (there, refl)) tt (sym none) refl record {
      packed = kept.packed;
      shorts = kept.shorts;
      blocks = kept.blocks;
      runs = kept.runs;
      trees = kept.trees;
    }

-- it stays at home in its block
pub put_in_block : (old new : Lists) (v : ℕ) (p : Place) (row : List ℕ) → v < length old.places.items → get_or old.places.items v Nowhere ≡ p → home_of p ≡ Block → length row ≤ 12 → IsReplaced old new v row Block → IsPutInBlock old new v row
put_in_block old new v p row inside own at few is = record {
  home = home_at_place old v p inside own ∙ at;
  few = few;
  replaced = is;
}

-- as many places as lists
pub inside_places : (l : Lists) (v : ℕ) → v < length (rows_of l) → v < length l.places.items
inside_places l v h = omega (arith, h, length-map l.places.items (list_at l))

-- ---- a run, or a tree, after the edits of its vertex

run_after : (es : List Edit) (old new : Lists) (v k : ℕ) (more : Counts) → AreKept old → v < length old.places.items → get_or old.places.items v Nowhere ≡ InArray k → new.places.items ≡ old.places.items → new.shorts ≡ old.shorts → new.blocks.items ≡ old.blocks.items → IsRunAfter es k more old.array new.array → new.trees.items ≡ old.trees.items → IsReplacedAfter es v more old new
run_after es old new v k more kept inside own places shorts blocks is trees = record {
  after = run_at new.array k;
  to = Gapped;
  replaced = replaced_run old new v k (run_at new.array k) kept inside own places shorts blocks is.rest trees;
  moved = is.edited.stays ∙ ap (λ h. home_after h (length (run_at new.array k))) (sym (home_at_place old v (InArray k) inside own));
  merged = λ u n p from same. is.edited.merged u n p from (sym (row_at_place old v (InArray k) inside own) ∙ same);
}

pub run_edited : (es : List Edit) (old new : Lists) (v k : ℕ) (done : Option Counts) → AreKept old → v < length old.places.items → get_or old.places.items v Nowhere ≡ InArray k → new.places.items ≡ old.places.items → new.shorts ≡ old.shorts → new.blocks.items ≡ old.blocks.items → IfSome done (λ more. IsRunAfter es k more old.array new.array) → new.trees.items ≡ old.trees.items → IfSome done (λ more. IsReplacedAfter es v more old new)
run_edited es old new v k None kept inside own places shorts blocks is trees = tt
run_edited es old new v k (Some more) kept inside own places shorts blocks is trees = run_after es old new v k more kept inside own places shorts blocks is trees

-- the tree that was read for a vertex
pub tree_read : (old : Lists) (v k : ℕ) (tree : List ℕ) → AreKept old → v < length old.places.items → get_or old.places.items v Nowhere ≡ InTree k → tree ≡ get_or old.trees.items k tree → tree ≡ get_or old.trees.items k []
tree_read old v k tree kept inside own read = read ∙ get_or_default old.trees.items k tree [] (own_there old v (InTree k) kept inside own)

tree_after : (es : List Edit) (old new : Lists) (v k : ℕ) (row : List ℕ) (more : Counts) → AreKept old → v < length old.places.items → get_or old.places.items v Nowhere ≡ InTree k → new.places.items ≡ old.places.items → new.shorts ≡ old.shorts → new.blocks.items ≡ old.blocks.items → new.array ≡ old.array → new.trees.items ≡ set old.trees.items k row → IsEditedAtHome es (get_or old.trees.items k []) Tree more row → IsReplacedAfter es v more old new
tree_after es old new v k row more kept inside own places shorts blocks array trees is = record {
  after = row;
  to = Tree;
  replaced = replaced_tree old new v k row kept inside own places shorts blocks array trees;
  moved = is.stays ∙ ap (λ h. home_after h (length row)) (sym (home_at_place old v (InTree k) inside own));
  merged = λ u n p from same. is.merged u n p from (sym (row_at_place old v (InTree k) inside own) ∙ same);
}

pub tree_edited : (es : List Edit) (old new : Lists) (v k : ℕ) (tree row : List ℕ) (done : Option Counts) → AreKept old → v < length old.places.items → get_or old.places.items v Nowhere ≡ InTree k → new.places.items ≡ old.places.items → new.shorts ≡ old.shorts → new.blocks.items ≡ old.blocks.items → new.array ≡ old.array → new.trees.items ≡ set old.trees.items k row → tree ≡ get_or old.trees.items k [] → IfSome done (λ more. IsEditedAtHome es tree Tree more row) → IfSome done (λ more. IsReplacedAfter es v more old new)
tree_edited es old new v k tree row None kept inside own places shorts blocks array trees read is = tt
tree_edited es old new v k tree row (Some more) kept inside own places shorts blocks array trees read is =
    tree_after es old new v k row more kept inside own places shorts blocks array trees (subst (λ l. IsEditedAtHome es l Tree more row) read is)

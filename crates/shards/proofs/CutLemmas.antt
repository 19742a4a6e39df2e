-- The pages of a shard that is cut anew: they are made list by list.
use Rattle.std.proofs.Common.{◌≡◌, ◌⊎◌, ℕ, ◌+◌, ◌^◌, ◌<◌, ◌≤◌, List, [], ◌∷◌, ◌++◌, length, get_or, refl, sym, ap, subst, subst₂, ◌∙◌, inl, inr, append-nil, append_assoc, length-append, arith}
use Rattle.std.specs.List.{AllByRecursion}
use Rattle.std.specs.declared.sync.Arc.{Arc}
use Rattle.std.specs.declared.alloc.Global.{Global}
use Rattle.std.specs.Arc.{arc_value}
use Rattle.std.proofs.lemmas.Bool.{cases_lt}
use Rattle.std.proofs.lemmas.List.{length_push, get_or_append_left, get_or_push}
use Rattle.past_model.specs.declared.edit.Edit.{Edit}
use Rattle.past_model.specs.declared.home.Home.{Home}
use Rattle.past_model.specs.declared.home.Home.TheVariants.{Block}
use Rattle.shards.specs.declared.counts.Counts.{Counts}
use Rattle.shards.specs.declared.lists.Lists.{Lists}
use Rattle.shards.specs.Begun.{AreBegun, IsVertexOf, IsPutLast}
use Rattle.shards.specs.Pages.{AreFull}
use Rattle.shards.specs.Lists.{AreKept, AreSame, IsPushed, rows_of, homes_of}
use Rattle.shards.specs.Pages.{rows_in, homes_in, sizes_in, part_in, ArePages}
use Rattle.shards.specs.Part.{Part, AreEditsOf, IsShard}
use Rattle.shards.proofs.PageLemmas.{IsKept, kept_push, rows_push, homes_push, sizes_push, same_count}

abbrev Pages : Type 0
Pages = List (Arc Lists Global)

-- so many lists are made: those of the pages, each of them full if a list is left to make, and those of the next page
pub record AreFilled (w vertices number : ℕ) (pages : Pages) (next : Lists) : Type 0 where
  pub kept : AllByRecursion IsKept pages
  pub own : AreKept next
  pub sizes : AreFull w (sizes_in pages)
  pub full : number < vertices → (i : ℕ) → i < length (sizes_in pages) → get_or (sizes_in pages) i 0 ≡ w
  pub count : length (rows_in pages) + length (rows_of next) ≡ number
  pub room : length (rows_of next) < w
  pub ended : vertices ≤ number → length (rows_of next) ≡ 0

-- none is made yet
pub none_filled : (w vertices : ℕ) (pages : Pages) (next : Lists) → 0 < w → pages ≡ [] → AreKept next → rows_of next ≡ [] → AreFilled w vertices 0 pages next
none_filled w vertices pages next some none own is = record {
  kept = subst (AllByRecursion IsKept) (sym none) tt;
  own = own;
  sizes = subst (λ l. AreFull w (sizes_in l)) (sym none) record {
    full = λ i h. absurd (omega arith);
    few = λ i h. absurd (omega arith);
  };
  full = λ left i h. (let long = ap (λ l. length (sizes_in l)) none in absurd (omega arith));
  count = omega (arith, ap length is, ap (λ l. length (rows_in l)) none);
  room = omega (arith, ap length is);
  ended = λ past. ap length is;
}

longer : (old new : Lists) (row : List ℕ) (home : Home) → IsPushed old new row home → length (rows_of new) ≡ length (rows_of old) + 1
longer old new row home pushed = ap length pushed.rows ∙ length_push (rows_of old) row

-- one more stands among those of the next page
pub one_filled : (w vertices number : ℕ) (pages : Pages) (old new : Lists) (row : List ℕ) (home : Home) → number + 1 < vertices → AreFilled w vertices number pages old → IsPushed old new row home → length (rows_of new) < w → AreFilled w vertices (number + 1) pages new
one_filled w vertices number pages old new row home left are pushed room = record {
  kept = are.kept;
  own = pushed.kept;
  sizes = are.sizes;
  full = λ h. are.full (omega arith);
  count = omega (arith, are.count, longer old new row home pushed);
  room = room;
  ended = λ past. absurd (omega arith);
}

-- or with it the page is made
pub page_filled : (w vertices number : ℕ) (pages : Pages) (page : Arc Lists Global) (old new next : Lists) (row : List ℕ) (home : Home) → number < vertices → AreFilled w vertices number pages old → IsPushed old new row home
    → (length (rows_of new) ≡ w) ⊎ (number + 1 ≡ vertices) → AreKept (arc_value page) → rows_of (arc_value page) ≡ rows_of new → AreKept next → rows_of next ≡ [] → AreFilled w vertices (number + 1) (pages ++ page ∷ []) next
page_filled w vertices number pages page old new next row home inside are pushed whole kept same own is =
    let size : length (rows_of (arc_value page)) ≡ length (rows_of old) + 1 = ap length same ∙ longer old new row home pushed in
    let fits : length (rows_of (arc_value page)) ≤ w = omega (arith, size, are.room) in
    let sizes : sizes_in (pages ++ page ∷ []) ≡ sizes_in pages ++ length (rows_of (arc_value page)) ∷ [] = sizes_push pages page in
    let count : length (sizes_in (pages ++ page ∷ [])) ≡ length (sizes_in pages) + 1 = ap length sizes ∙ length_push (sizes_in pages) (length (rows_of (arc_value page))) in
    let before : (i : ℕ) → i < length (sizes_in pages) → get_or (sizes_in (pages ++ page ∷ [])) i 0 ≡ w =
    (λ i lt. ap (λ l. get_or l i 0) sizes ∙ get_or_append_left (sizes_in pages) (length (rows_of (arc_value page)) ∷ []) 0 i lt ∙ are.full inside i lt) in
    let last : (i : ℕ) → length (sizes_in pages) ≡ i → get_or (sizes_in (pages ++ page ∷ [])) i 0 ≡ length (rows_of (arc_value page)) =
    (λ i at. ap (λ l. get_or l i 0) sizes ∙ get_or_push (sizes_in pages) (length (rows_of (arc_value page))) 0 i at) in
    record {
      kept = kept_push pages page are.kept kept;
      own = own;
      sizes = record {
        full = λ i h. before i (omega (arith, count));
        few = λ i h. elim (cases_lt i (length (sizes_in pages))) [
          | inl lt ↦ omega (arith, before i lt)
          | inr ge ↦ omega (arith, last i (omega (arith, count)), fits)
        ];
      };
      full = λ left i h. elim (cases_lt i (length (sizes_in pages))) [
        | inl lt ↦ before i lt
        | inr ge ↦ elim whole [
          | inl is_full ↦ last i (omega (arith, count)) ∙ ap length same ∙ is_full
          | inr all ↦ absurd (omega arith)
        ]
      ];
      count = omega (arith, ap length (rows_push pages page), length-append (rows_in pages) (rows_of (arc_value page)), size, are.count, ap length is);
      room = omega (arith, are.room, ap length is);
      ended = λ past. ap length is;
    }

-- all are made
pub all_filled : (w vertices number : ℕ) (pages : Pages) (next : Lists) → AreFilled w vertices number pages next → ArePages w pages
all_filled w vertices number pages next are = record { kept = are.kept; full = are.sizes }

nothing_left : (xs : List (List ℕ)) → length xs ≡ 0 → xs ≡ []
nothing_left [] h = refl
nothing_left (x ∷ xs) h = absurd (omega arith)

no_home_left : (xs : List Home) → length xs ≡ 0 → xs ≡ []
no_home_left [] h = refl
no_home_left (x ∷ xs) h = absurd (omega arith)

-- where the next page has no list, those of the pages are all
pub begun_of_pages : (es : List Edit) (p : Part) (pages : Pages) (next : Lists) (counts : Counts) → length (rows_of next) ≡ 0 → AreBegun es p (rows_in pages ++ rows_of next) (homes_in pages ++ homes_of next) counts → AreBegun es p (rows_in pages) (homes_in pages) counts
begun_of_pages es p pages next counts none begun =
    subst₂ (λ l h. AreBegun es p l h counts)
    (ap (λ l. rows_in pages ++ l) (nothing_left (rows_of next) none) ∙ append-nil (rows_in pages))
    (ap (λ l. homes_in pages ++ l) (no_home_left (homes_of next) (same_count next ∙ none)) ∙ append-nil (homes_in pages)) begun

-- the lists so far, with one more
pub begun_push : (es : List Edit) (p : Part) (pages : Pages) (old new : Lists) (row : List ℕ) (home : Home) (counts : Counts) → IsPushed old new row home
    → AreBegun es p ((rows_in pages ++ rows_of old) ++ row ∷ []) ((homes_in pages ++ homes_of old) ++ home ∷ []) counts → AreBegun es p (rows_in pages ++ rows_of new) (homes_in pages ++ homes_of new) counts
begun_push es p pages old new row home counts pushed begun =
    subst₂ (λ l h. AreBegun es p l h counts)
    (append_assoc (rows_in pages) (rows_of old) (row ∷ []) ∙ sym (ap (λ l. rows_in pages ++ l) pushed.rows))
    (append_assoc (homes_in pages) (homes_of old) (home ∷ []) ∙ sym (ap (λ l. homes_in pages ++ l) pushed.homes)) begun

-- and with a page of them
pub begun_page : (es : List Edit) (p : Part) (items pages : Pages) (page : Arc Lists Global) (new next : Lists) (counts : Counts) → items ≡ pages ++ page ∷ [] → rows_of (arc_value page) ≡ rows_of new → homes_of (arc_value page) ≡ homes_of new → rows_of next ≡ [] → homes_of next ≡ []
    → AreBegun es p (rows_in pages ++ rows_of new) (homes_in pages ++ homes_of new) counts → AreBegun es p (rows_in items ++ rows_of next) (homes_in items ++ homes_of next) counts
begun_page es p items pages page new next counts is rows homes no_rows no_homes begun =
    subst₂ (λ l h. AreBegun es p l h counts)
    (ap (λ l. rows_in pages ++ l) (sym rows) ∙ sym (rows_push pages page) ∙ sym (ap rows_in is) ∙ sym (ap (λ l. rows_in items ++ l) no_rows ∙ append-nil (rows_in items)))
    (ap (λ l. homes_in pages ++ l) (sym homes) ∙ sym (homes_push pages page) ∙ sym (ap homes_in is) ∙ sym (ap (λ l. homes_in items ++ l) no_homes ∙ append-nil (homes_in items))) begun

-- the lists that are made so far are those before the next vertex
pub so_many : (pages : Pages) (next : Lists) (number : ℕ) → length (rows_in pages) + length (rows_of next) ≡ number → length (rows_in pages ++ rows_of next) ≡ number
so_many pages next number is = length-append (rows_in pages) (rows_of next) ∙ is

-- a vertex of a shard, by its list and its home
pub vertex_of_shard : (es : List Edit) (range : ℕ) (pages : Pages) (vertex : ℕ) (row : List ℕ) (home : Home) → IsShard (part_in range pages) → AreEditsOf (part_in range pages) es → vertex < length (rows_in pages)
    → row ≡ get_or (rows_in pages) vertex [] → home ≡ get_or (homes_in pages) vertex Block → IsVertexOf es (part_in range pages) vertex row home
vertex_of_shard es range pages vertex row home shard own inside is at = record {
  shard = shard;
  own = own;
  within = inside;
  own_row = is;
  own_home = at;
}

abbrev counted : Counts → Counts → Counts
counted counts more = record { added = counts.added + more.added; removed = counts.removed + more.removed }

-- what is made before a vertex: so many lists, and they are those of the shard after edits
pub record AreMadeTo (es : List Edit) (p : Part) (w vertices vertex : ℕ) (pages : Pages) (next : Lists) (counts : Counts) : Type 0 where
  pub filled : AreFilled w vertices vertex pages next
  pub begun : AreBegun es p (rows_in pages ++ rows_of next) (homes_in pages ++ homes_of next) counts

-- with the list of the vertex
put_step : (es : List Edit) (p : Part) (w vertices vertex : ℕ) (pages : Pages) (old new : Lists) (row : List ℕ) (home : Home) (counts more : Counts) → IsVertexOf es p vertex row home → AreMadeTo es p w vertices vertex pages old counts
    → IsPutLast es vertex row home more old new → AreBegun es p (rows_in pages ++ rows_of new) (homes_in pages ++ homes_of new) (counted counts more)
put_step es p w vertices vertex pages old new row home counts more its made put =
    begun_push es p pages old new put.after put.to (counted counts more) put.pushed
    (put.begun p (rows_in pages ++ rows_of old) (homes_in pages ++ homes_of old) counts its (so_many pages old vertex made.filled.count) made.begun)

-- its counts fit
pub few_step : (es : List Edit) (p : Part) (w vertices vertex : ℕ) (pages : Pages) (old new : Lists) (row : List ℕ) (home : Home) (counts more : Counts) → IsVertexOf es p vertex row home → AreMadeTo es p w vertices vertex pages old counts
    → IsPutLast es vertex row home more old new → (counts.added + more.added < 2 ^ 64) × (counts.removed + more.removed < 2 ^ 64)
few_step es p w vertices vertex pages old new row home counts more its made put =
    put.few p (rows_in pages ++ rows_of old) (homes_in pages ++ homes_of old) counts its (so_many pages old vertex made.filled.count) made.begun

-- the next page has room for another list
pub open_step : (es : List Edit) (p : Part) (w vertices vertex : ℕ) (pages : Pages) (old new : Lists) (row : List ℕ) (home : Home) (counts more : Counts) → IsVertexOf es p vertex row home → AreMadeTo es p w vertices vertex pages old counts
    → IsPutLast es vertex row home more old new → vertex < vertices → (length (rows_of new) ≡ w → ⊥) → (vertex + 1 ≡ vertices → ⊥) → AreMadeTo es p w vertices (vertex + 1) pages new (counted counts more)
open_step es p w vertices vertex pages old new row home counts more its made put inside not_full not_last = record {
  filled = one_filled w vertices vertex pages old new put.after put.to left made.filled put.pushed room;
  begun = put_step es p w vertices vertex pages old new row home counts more its made put;
}
  where
    left : vertex + 1 < vertices
    left = elim (cases_lt (vertex + 1) vertices) [
      | inl lt ↦ lt
      | inr ge ↦ absurd (not_last (omega arith))
    ]

    room : length (rows_of new) < w
    room = elim (cases_lt (length (rows_of new)) w) [
      | inl lt ↦ lt
      | inr ge ↦ absurd (not_full (omega (arith, longer old new put.after put.to put.pushed, made.filled.room)))
    ]

-- the page is made
pub page_step : (es : List Edit) (p : Part) (w vertices vertex : ℕ) (items pages : Pages) (page : Arc Lists Global) (old new next : Lists) (row : List ℕ) (home : Home) (counts more : Counts) → IsVertexOf es p vertex row home → AreMadeTo es p w vertices vertex pages old counts
    → IsPutLast es vertex row home more old new → vertex < vertices → (length (rows_of new) ≡ w) ⊎ (vertex + 1 ≡ vertices) → items ≡ pages ++ page ∷ [] → AreSame new (arc_value page) → AreKept next → rows_of next ≡ [] → homes_of next ≡ []
    → AreMadeTo es p w vertices (vertex + 1) items next (counted counts more)
page_step es p w vertices vertex items pages page old new next row home counts more its made put inside whole is same kept no_rows no_homes = record {
  filled = subst (λ l. AreFilled w vertices (vertex + 1) l next) (sym is) (page_filled w vertices vertex pages page old new next put.after put.to inside made.filled put.pushed whole same.kept same.rows kept no_rows);
  begun = begun_page es p items pages page new next (counted counts more) is same.rows same.homes no_rows no_homes (put_step es p w vertices vertex pages old new row home counts more its made put);
}

-- Where a list stands in the pages of a range.
use Rattle.std.proofs.Common.{◌≡◌, ℕ, zero, suc, ◌+◌, ◌-◌, ◌*◌, ◌/◌, ◌%◌, ◌<◌, ◌≤◌, min, List, [], ◌∷◌, ◌++◌, length, get_or, take, replicate, refl, sym, ap, subst, ◌∙◌, inl, inr, length-append, arith}
use Rattle.std.specs.List.{AllByRecursion}
use Rattle.std.specs.declared.sync.Arc.{Arc}
use Rattle.std.specs.declared.alloc.Global.{Global}
use Rattle.std.specs.Arc.{arc_value}
use Rattle.std.proofs.lemmas.List.{length-map, map_push, take-map, get_or-map, get_or_append_left, get_or_push, length_push, length-replicate, flat_map_more, take_all, replicate-append-replicate}
use Rattle.std.proofs.lemmas.Bool.{cases_lt}
use Rattle.std.proofs.lemmas.List.Concat.{get_or-flat_map, flat_map-cons}
use Rattle.std.proofs.lemmas.List.Folds.{length-flat_map-take}
use Rattle.std.proofs.Math.Seq.{take-suc}
use Rattle.std.proofs.Math.Nat.{div-add-mod}
use Rattle.past_model.specs.declared.home.Home.{Home}
use Rattle.past_model.specs.declared.home.Home.TheVariants.{Block}
use Rattle.shards.specs.declared.lists.Lists.{Lists}
use Rattle.shards.specs.Lists.{list_at, home_of, rows_of, homes_of, AreKept}
use Rattle.shards.specs.Pages.{AreFull}
use Rattle.shards.specs.Pages.{rows_in, homes_in, sizes_in, ArePages}
use Rattle.shards.proofs.SizeLemmas.{total, starts, no_times, next_times, past_pieces, past_piece, before_end, past_end}

abbrev Page : Type 0
Page = Arc Lists Global

abbrev rows_at : Page → List (List ℕ)
rows_at page = rows_of (arc_value page)

abbrev homes_at : Page → List Home
homes_at page = homes_of (arc_value page)

abbrev pub IsKept : Page → Type 0
IsKept page = AreKept (arc_value page)

length-rows_in : (pages : List Page) → length (rows_in pages) ≡ total (sizes_in pages)
length-rows_in [] = refl
length-rows_in (page ∷ pages) = ap length (flat_map-cons rows_at page pages) ∙ length-append (rows_at page) (rows_in pages) ∙ ap (λ n. length (rows_at page) + n) (length-rows_in pages)

-- as many homes as lists
pub same_count : (l : Lists) → length (homes_of l) ≡ length (rows_of l)
same_count l = length-map l.places.items home_of ∙ sym (length-map l.places.items (list_at l))

pub same_counts_in : (pages : List Page) → length (homes_in pages) ≡ length (rows_in pages)
same_counts_in [] = refl
same_counts_in (page ∷ pages) =
    omega (arith, ap length (flat_map-cons homes_at page pages), length-append (homes_at page) (homes_in pages), ap length (flat_map-cons rows_at page pages), length-append (rows_at page) (rows_in pages), same_count (arc_value page), same_counts_in pages)

length-sizes_in : (pages : List Page) → length (sizes_in pages) ≡ length pages
length-sizes_in pages = length-map pages (λ page. length (rows_at page))

-- before the i-th page stand the lists of i full ones
start_of : (w : ℕ) (pages : List Page) (i : ℕ) → ArePages w pages → i < length pages → length (rows_in (take i pages)) ≡ w * i
start_of w pages i are h =
    length-rows_in (take i pages)
    ∙ ap total (sym (take-map (λ page. length (rows_at page)) i pages))
    ∙ starts w (sizes_in pages) i are.full (omega (arith, length-sizes_in pages))

-- a page's lists, among all
pub row_in_page : (w : ℕ) (pages : List Page) (i k : ℕ) (d : Page) → ArePages w pages → i < length pages → k < length (rows_at (get_or pages i d)) → get_or (rows_in pages) (w * i + k) [] ≡ get_or (rows_at (get_or pages i d)) k []
row_in_page w pages i k d are h within =
    ap (λ n. get_or (rows_in pages) (n + k) []) (sym (start_of w pages i are h)) ∙ get_or-flat_map rows_at pages i k d [] h within

pub home_in_page : (w : ℕ) (pages : List Page) (i k : ℕ) (d : Page) → ArePages w pages → i < length pages → k < length (rows_at (get_or pages i d)) → get_or (homes_in pages) (w * i + k) Block ≡ get_or (homes_at (get_or pages i d)) k Block
home_in_page w pages i k d are h within =
    ap (λ n. get_or (homes_in pages) (n + k) Block) (sym (same_counts_in (take i pages) ∙ start_of w pages i are h))
    ∙ get_or-flat_map homes_at pages i k d Block h (omega (arith, within, same_count (arc_value (get_or pages i d))))

pub page_inside : (w : ℕ) (pages : List Page) (i : ℕ) (d : Page) → ArePages w pages → i < length pages → w * i + length (rows_at (get_or pages i d)) ≤ length (rows_in pages)
page_inside w pages i d are h = omega (arith, start_of w pages i are h, length-flat_map-take rows_at pages i d h)

pub page_kept : (pages : List Page) (i : ℕ) (d : Page) → AllByRecursion IsKept pages → i < length pages → AreKept (arc_value (get_or pages i d))
page_kept [] i d kept h = absurd (omega arith)
page_kept (page ∷ pages) zero d kept h = kept.0
page_kept (page ∷ pages) (suc i) d kept h = page_kept pages i d kept.1 (omega arith)

-- the page of a vertex
pub page_there : (w : ℕ) (pages : List Page) (v : ℕ) → ArePages w pages → v < length (rows_in pages) → v / w < length pages
page_there w pages v are h = elim (cases_lt (v / w) (length pages)) [
  | inl there ↦ there
  | inr past ↦ (
      let all = past_pieces w (sizes_in pages) (v / w) are.full (omega (arith, past, length-sizes_in pages)) in
      absurd (omega (arith, all, length-rows_in pages, div-add-mod v w)))
]

pub place_there : (w : ℕ) (pages : List Page) (v : ℕ) (d : Page) → 0 < w → ArePages w pages → v < length (rows_in pages) → v % w < length (rows_at (get_or pages (v / w) d))
place_there w pages v d some are h =
    let there = page_there w pages v are h in
    let size : get_or (sizes_in pages) (v / w) 0 ≡ length (rows_at (get_or pages (v / w) d)) = get_or-map (λ page. length (rows_at page)) pages (v / w) d 0 there in
    elim (cases_lt (v % w) (length (rows_at (get_or pages (v / w) d)))) [
      | inl inside ↦ inside
      | inr past ↦ (
          let all = past_piece w (sizes_in pages) (v / w) (v % w) are.full (omega (arith, there, length-sizes_in pages)) (omega (arith, past, size)) (omega arith) in
          absurd (omega (arith, all, length-rows_in pages, div-add-mod v w)))
    ]

-- ---- a page more

pub rows_push : (pages : List Page) (page : Page) → rows_in (pages ++ page ∷ []) ≡ rows_in pages ++ rows_at page
rows_push pages page = sym (flat_map_more rows_at [] pages page)

pub homes_push : (pages : List Page) (page : Page) → homes_in (pages ++ page ∷ []) ≡ homes_in pages ++ homes_at page
homes_push pages page = sym (flat_map_more homes_at [] pages page)

pub sizes_push : (pages : List Page) (page : Page) → sizes_in (pages ++ page ∷ []) ≡ sizes_in pages ++ length (rows_at page) ∷ []
sizes_push pages page = map_push (λ page. length (rows_at page)) pages page

pub kept_push : (pages : List Page) (page : Page) → AllByRecursion IsKept pages → AreKept (arc_value page) → AllByRecursion IsKept (pages ++ page ∷ [])
kept_push [] page kept is = (is, tt)
kept_push (first ∷ pages) page kept is = (kept.0, kept_push pages page kept.1 is)

-- one size more is that of the next of other pages
pub sizes_next : (new old : List Page) (i : ℕ) (page d : Page) → i < length old → sizes_in new ≡ take i (sizes_in old) → length (rows_at page) ≡ length (rows_at (get_or old i d)) → sizes_in (new ++ page ∷ []) ≡ take (i + 1) (sizes_in old)
sizes_next new old i page d h so_far same =
    let next : suc i ≡ i + 1 = omega arith in
    sizes_push new page
    ∙ ap (λ l. l ++ length (rows_at page) ∷ []) so_far
    ∙ ap (λ n. take i (sizes_in old) ++ n ∷ []) (same ∙ sym (get_or-map (λ page. length (rows_at page)) old i d 0 h))
    ∙ sym (take-suc (sizes_in old) i 0 (omega (arith, h, length-sizes_in old)))
    ∙ ap (λ k. take k (sizes_in old)) next

-- where pages are made as far as page i, so many lists are made
pub lists_made : (w : ℕ) (new old : List Page) (i : ℕ) → ArePages w old → i < length old → sizes_in new ≡ take i (sizes_in old) → length (rows_in new) ≡ w * i
lists_made w new old i are h so_far =
    omega (arith, length-rows_in new, ap total so_far, starts w (sizes_in old) i are.full (omega (arith, h, length-sizes_in old)))

-- and where all are made, they are cut as the others
pub all_made : (w : ℕ) (new old : List Page) (i : ℕ) → ArePages w old → length old ≤ i → sizes_in new ≡ take i (sizes_in old) → AllByRecursion IsKept new → ArePages w new × (length (rows_in new) ≡ length (rows_in old))
all_made w new old i are past so_far kept =
    let same : sizes_in new ≡ sizes_in old = so_far ∙ take_all i (sizes_in old) (omega (arith, past, length-sizes_in old)) in
    let long : length (rows_in new) ≡ length (rows_in old) = length-rows_in new ∙ ap total same ∙ sym (length-rows_in old) in (
      record { kept = kept; full = subst (AreFull w) (sym same) are.full },
      long,
    )

-- ---- the pages of so many vertices, one after another

-- the first pages
pub record AreFirst (w vertices number : ℕ) (pages : List Page) : Type 0 where
  pub kept : AllByRecursion IsKept pages
  pub count : length (sizes_in pages) ≡ number
  pub sizes : (i : ℕ) → i < number → get_or (sizes_in pages) i 0 ≡ min w (vertices - w * i)
  pub made : length (rows_in pages) ≡ min vertices (w * number)

pub none_first : (w vertices : ℕ) (pages : List Page) → pages ≡ [] → AreFirst w vertices 0 pages
none_first w vertices pages is = subst (AreFirst w vertices 0) (sym is) record {
  kept = tt;
  count = refl;
  sizes = λ i h. absurd (omega arith);
  made = none;
}
  where
    none : 0 ≡ min vertices (w * 0)
    none = omega (arith, no_times w)

pub one_first : (w vertices number : ℕ) (pages : List Page) (page : Page) → w * number < vertices → AreFirst w vertices number pages → AreKept (arc_value page) → length (rows_at page) ≡ min w (vertices - w * number) → AreFirst w vertices (number + 1) (pages ++ page ∷ [])
one_first w vertices number pages page some are kept size =
    let count = are.count in
    record {
      kept = kept_push pages page are.kept kept;
      count = ap length (sizes_push pages page) ∙ length_push (sizes_in pages) (length (rows_at page)) ∙ ap (λ n. n + 1) count;
      sizes = λ i h. elim (cases_lt i number) [
        | inl lt ↦ ap (λ l. get_or l i 0) (sizes_push pages page) ∙ get_or_append_left (sizes_in pages) (length (rows_at page) ∷ []) 0 i (omega arith) ∙ are.sizes i lt
        | inr ge ↦ (
            let same : number ≡ i = omega arith in
            ap (λ l. get_or l i 0) (sizes_push pages page) ∙ get_or_push (sizes_in pages) (length (rows_at page)) 0 i (count ∙ same) ∙ size ∙ ap (λ k. min w (vertices - w * k)) same)
      ];
      made = ap length (rows_push pages page) ∙ length-append (rows_in pages) (rows_at page) ∙ omega (arith, are.made, size, next_times w number);
    }

-- all of them
pub all_first : (w vertices number count : ℕ) (pages : List Page) → 0 < w → count ≡ vertices / w + min 1 (vertices % w) → number ≡ count → AreFirst w vertices number pages → ArePages w pages × (length (rows_in pages) ≡ vertices)
all_first w vertices number count pages some is all are =
    let past : vertices ≤ w * number = past_end w number vertices count some is (omega arith) in
    let made = are.made in (
      record {
        kept = are.kept;
        full = record {
          full = λ i h. (
              let size = are.sizes i (omega (arith, are.count)) in
              let more : w * (i + 1) < vertices = before_end w (i + 1) vertices count some is (omega (arith, are.count)) in
              omega (arith, size, more, next_times w i));
          few = λ i h. (let size = are.sizes i (omega (arith, are.count)) in omega (arith, size));
        };
      },
      omega (arith, past, made),
    )

-- ---- pages without an edge

pub record AreEmpty (vertices number : ℕ) (pages : List Page) : Type 0 where
  pub first : AreFirst 64 vertices number pages
  pub rows : rows_in pages ≡ replicate (min vertices (64 * number)) []
  pub homes : homes_in pages ≡ replicate (min vertices (64 * number)) Block

pub none_empty : (vertices : ℕ) (pages : List Page) → pages ≡ [] → AreEmpty vertices 0 pages
none_empty vertices pages is = record {
  first = none_first 64 vertices pages is;
  rows = ap rows_in is ∙ ap (λ n. replicate n []) none;
  homes = ap homes_in is ∙ ap (λ n. replicate n Block) none;
}
  where
    none : 0 ≡ min vertices (64 * 0)
    none = omega arith

pub one_empty : (vertices number : ℕ) (pages : List Page) (page : Page) → 64 * number < vertices → AreEmpty vertices number pages → AreKept (arc_value page) → rows_at page ≡ replicate (min 64 (vertices - 64 * number)) [] → homes_at page ≡ replicate (min 64 (vertices - 64 * number)) Block → AreEmpty vertices (number + 1) (pages ++ page ∷ [])
one_empty vertices number pages page some are kept rows homes =
    let before : min vertices (64 * number) + min 64 (vertices - 64 * number) ≡ min vertices (64 * (number + 1)) = omega arith in
    record {
      first = one_first 64 vertices number pages page some are.first kept (ap length rows ∙ length-replicate (min 64 (vertices - 64 * number)) []);
      rows =
          rows_push pages page
          ∙ ap (λ l. l ++ rows_at page) are.rows
          ∙ ap (λ l. replicate (min vertices (64 * number)) [] ++ l) rows
          ∙ replicate-append-replicate (min vertices (64 * number)) (min 64 (vertices - 64 * number)) []
          ∙ ap (λ n. replicate n []) before;
      homes =
          homes_push pages page
          ∙ ap (λ l. l ++ homes_at page) are.homes
          ∙ ap (λ l. replicate (min vertices (64 * number)) Block ++ l) homes
          ∙ replicate-append-replicate (min vertices (64 * number)) (min 64 (vertices - 64 * number)) Block
          ∙ ap (λ n. replicate n Block) before;
    }

pub all_empty : (vertices number count : ℕ) (pages : List Page) → count ≡ vertices / 64 + min 1 (vertices % 64) → number ≡ count → AreEmpty vertices number pages → ArePages 64 pages × (rows_in pages ≡ replicate vertices []) × (homes_in pages ≡ replicate vertices Block)
all_empty vertices number count pages is all are =
    let whole : min vertices (64 * number) ≡ vertices = omega arith in (
      (all_first 64 vertices number count pages (omega arith) is all are.first).0,
      are.rows ∙ ap (λ n. replicate n []) whole,
      are.homes ∙ ap (λ n. replicate n Block) whole,
    )

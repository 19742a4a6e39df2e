-- One list more of a shard under edit is made, or a page of them that no edit is of.
use Rattle.std.proofs.Common.{◌≡◌, ℕ, zero, suc, ◌+◌, ◌*◌, ◌<◌, ◌≤◌, Bool, List, [], ◌∷◌, ◌++◌, length, get_or, filter, take, refl, sym, ap, subst, subst₂, ◌∙◌, append-nil, append_assoc, length-append, arith}
use Rattle.std.specs.declared.sync.Arc.{Arc}
use Rattle.std.specs.declared.alloc.Global.{Global}
use Rattle.std.specs.Arc.{arc_value}
use Rattle.std.proofs.Math.Seq.{take-suc, take-length}
use Rattle.std.proofs.lemmas.List.{length-map, length-take-le}
use Rattle.past_model.specs.declared.edit.Edit.{Edit}
use Rattle.past_model.specs.declared.home.Home.{Home}
use Rattle.past_model.specs.declared.home.Home.TheVariants.{Block}
use Rattle.graph_model.specs.Graph.{numbers_below}
use Rattle.past_model.specs.Homes.{home_after}
use Rattle.shards.specs.declared.counts.Counts.{Counts}
use Rattle.shards.specs.declared.groups.Grouping.TheVariants.{ByVertex}
use Rattle.shards.specs.declared.lists.Lists.{Lists}
use Rattle.shards.specs.Begun.{IsDone, AreBegun, IsPageOf, IsVertexOf, IsSomeVertex, IsPutLast}
use Rattle.shards.specs.Groups.{Grouped, edits_of}
use Rattle.shards.specs.Lists.{IsPushed, rows_of, homes_of, list_at, home_of}
use Rattle.shards.specs.Merge.{AreEditsFrom, IsMerged}
use Rattle.shards.specs.Pages.{rows_in, homes_in, part_in, ArePages}
use Rattle.shards.specs.Part.{Part, vertex_at, row_at, home_at, AreEditsOf, IsShard}
use Rattle.shards.specs.Put.{AreOwnEdits}
use Rattle.shards.proofs.HomeLemmas.{none_moved, one_moved, same_home}
use Rattle.shards.proofs.PageLemmas.{row_in_page, home_in_page, page_inside, rows_push, homes_push}
use Rattle.shards.proofs.PartLemmas.{own_edits, own_edits_from, below_graph, few_more, nothing_done, merged_own, row_in, row_kept, row_edited}

-- the edits of a group are those of a vertex
pub edits_in : (groups : Grouped) (p : Part) (i : ℕ) → groups.grouping ≡ ByVertex → edits_of groups i ≡ own_edits p groups.edits i
edits_in groups p i by_vertex = ap (λ k. edits_of record { grouping = k; count = groups.count; edits = groups.edits } i) by_vertex

pub none_begun : (es : List Edit) (p : Part) (rows : List (List ℕ)) (homes : List Home) → AreEditsOf p es → rows ≡ [] → homes ≡ [] → AreBegun es p rows homes record { added = 0; removed = 0 }
none_begun es p rows homes own no_rows no_homes = record {
  moved = none_moved p rows homes no_rows no_homes;
  done = λ g below is. subst (λ l. IsDone es p g l record { added = 0; removed = 0 }) (sym no_rows) (nothing_done es p g own);
}

-- a list that no edit is of
pub one_kept : (es : List Edit) (p : Part) (rows : List (List ℕ)) (homes : List Home) (counts : Counts) (row : List ℕ) (home : Home) (i : ℕ) → IsShard p → length rows ≡ i → i < length p.rows → row ≡ row_at p i → home ≡ home_at p i → own_edits p es i ≡ []
    → AreBegun es p rows homes counts → AreBegun es p (rows ++ row ∷ []) (homes ++ home ∷ []) counts
one_kept es p rows homes counts row home i shard count inside same at none begun = record {
  moved = one_moved p rows (rows ++ row ∷ []) homes (homes ++ home ∷ []) row home i begun.moved count refl refl (at ∙ same_home p i shard inside ∙ ap (λ l. home_after (home_at p i) (length l)) (sym same));
  done = λ g below is. row_kept es p g rows row counts i count inside shard.few is (begun.done g below is) none same;
}

-- a list after its edits
pub one_edited : (es : List Edit) (p : Part) (rows : List (List ℕ)) (homes : List Home) (counts more : Counts) (row : List ℕ) (home : Home) (i : ℕ) → IsShard p → AreEditsOf p es → length rows ≡ i → i < length p.rows → home ≡ home_after (home_at p i) (length row)
    → ((u n : ℕ) (q : ℕ → Bool) → AreEditsFrom u n (own_edits p es i) → row_at p i ≡ filter q (numbers_below n) → IsMerged (own_edits p es i) u n q row more)
    → AreBegun es p rows homes counts → AreBegun es p (rows ++ row ∷ []) (homes ++ home ∷ []) record { added = counts.added + more.added; removed = counts.removed + more.removed }
one_edited es p rows homes counts more row home i shard own count inside at merged begun = record {
  moved = one_moved p rows (rows ++ row ∷ []) homes (homes ++ home ∷ []) row home i begun.moved count refl refl at;
  done = λ g below is. row_edited es p g rows row counts more i count inside shard.few own below is (begun.done g below is) merged;
}

-- lists after others, with one more
pub behind : {A : Type 0} (before made : List A) (x : A) → before ++ (made ++ x ∷ []) ≡ (before ++ made) ++ x ∷ []
behind before made x = sym (append_assoc before made (x ∷ []))

-- a page that no edit is of
pub page_begun : (es : List Edit) (p : Part) (rows : List (List ℕ)) (homes : List Home) (counts : Counts) (first : ℕ) (page : Lists) → IsPageOf es p first page → length rows ≡ first → ((k : ℕ) → k < length (rows_of page) → own_edits p es (first + k) ≡ [])
    → AreBegun es p rows homes counts → AreBegun es p (rows ++ rows_of page) (homes ++ homes_of page) counts
page_begun es p rows homes counts first page is start none begun =
    subst₂ (λ l h. AreBegun es p (rows ++ l) (homes ++ h) counts) (take-length (rows_of page)) (ap (λ n. take n (homes_of page)) (sym many) ∙ take-length (homes_of page)) (so_far (length (rows_of page)) (omega arith))
  where
    many : length (homes_of page) ≡ length (rows_of page)
    many = length-map page.places.items home_of ∙ sym (length-map page.places.items (list_at page))

    so_far : (k : ℕ) → k ≤ length (rows_of page) → AreBegun es p (rows ++ take k (rows_of page)) (homes ++ take k (homes_of page)) counts
    so_far zero h = subst₂ (λ l m. AreBegun es p l m counts) (sym (append-nil rows)) (sym (append-nil homes)) begun
    so_far (suc k) h =
        let within = is.within in
        let row = get_or (rows_of page) k [] in
        let home = get_or (homes_of page) k Block in
        let inside : k < length (rows_of page) = omega arith in
        let before : length (rows ++ take k (rows_of page)) ≡ first + k = omega (arith, start, length-append rows (take k (rows_of page)), length-take-le k (rows_of page) (omega arith)) in
        subst₂ (λ l m. AreBegun es p (rows ++ l) (homes ++ m) counts) (sym (take-suc (rows_of page) k [] inside)) (sym (take-suc (homes_of page) k Block (omega (arith, many))))
        (subst₂ (λ l m. AreBegun es p l m counts) (sym (behind rows (take k (rows_of page)) row)) (sym (behind homes (take k (homes_of page)) home))
        (one_kept es p (rows ++ take k (rows_of page)) (homes ++ take k (homes_of page)) counts row home (first + k) is.shard before (omega arith) (is.rows k inside) (is.homes k inside) (none k inside) (so_far k (omega arith))))

-- a vertex of a page is one of the shard
pub vertex_of_page : (es : List Edit) (p : Part) (first place : ℕ) (page : Lists) → IsPageOf es p first page → place < length (rows_of page) → IsVertexOf es p (first + place) (get_or (rows_of page) place []) (get_or (homes_of page) place Block)
vertex_of_page es p first place page its inside =
    let within = its.within in
    record {
      shard = its.shard;
      own = its.own;
      within = omega arith;
      own_row = its.rows place inside;
      own_home = its.homes place inside;
    }

-- the edits of a vertex, as they were read, are edits of its list
pub own_of_vertex : (groups : Grouped) (vertex : ℕ) (row : List ℕ) (home : Home) (own : List Edit) → groups.grouping ≡ ByVertex → IsSomeVertex groups.edits vertex row home → own ≡ edits_of groups vertex → AreOwnEdits own row
own_of_vertex groups vertex row home own by_vertex some read =
    let p = some.part in
    let its = some.its in
    let shard = its.shard in
    let g = shard.graph in
    let v = vertex_at p vertex in
    record {
      vertex = v;
      limit = g.vertex_count;
      has_target = g.has_edge v;
      small = shard.small;
      edits = subst (AreEditsFrom v g.vertex_count) (sym (read ∙ edits_in groups p vertex by_vertex)) (own_edits_from g.vertex_count p groups.edits vertex shard.few its.own (below_graph g.vertex_count p groups.edits shard.small shard.part.within its.own));
      list = row_in g p vertex row shard.part its.within its.own_row;
    }

-- and what is known of its list after them
pub merged_of_vertex : (groups : Grouped) (p : Part) (vertex : ℕ) (row : List ℕ) (home : Home) (own : List Edit) (after : List ℕ) (more : Counts) → groups.grouping ≡ ByVertex → IsVertexOf groups.edits p vertex row home → own ≡ edits_of groups vertex
    → ((u n : ℕ) (q : ℕ → Bool) → AreEditsFrom u n own → row ≡ filter q (numbers_below n) → IsMerged own u n q after more)
    → (u n : ℕ) (q : ℕ → Bool) → AreEditsFrom u n (own_edits p groups.edits vertex) → row_at p vertex ≡ filter q (numbers_below n) → IsMerged (own_edits p groups.edits vertex) u n q after more
merged_of_vertex groups p vertex row home own after more by_vertex its read merged =
    merged_own groups.edits own p after more vertex (read ∙ edits_in groups p vertex by_vertex) (λ u n q from same. merged u n q from (its.own_row ∙ same))

-- the same for a list of a page
pub merged_of_page : (groups : Grouped) (p : Part) (page : Lists) (first place : ℕ) (own : List Edit) (row : List ℕ) (more : Counts) → groups.grouping ≡ ByVertex → IsPageOf groups.edits p first page → place < length (rows_of page) → own ≡ edits_of groups (first + place)
    → ((u n : ℕ) (q : ℕ → Bool) → AreEditsFrom u n own → get_or (rows_of page) place [] ≡ filter q (numbers_below n) → IsMerged own u n q row more)
    → (u n : ℕ) (q : ℕ → Bool) → AreEditsFrom u n (own_edits p groups.edits (first + place)) → row_at p (first + place) ≡ filter q (numbers_below n) → IsMerged (own_edits p groups.edits (first + place)) u n q row more
merged_of_page groups p page first place own row more by_vertex its inside read merged =
    merged_of_vertex groups p (first + place) (get_or (rows_of page) place []) (get_or (homes_of page) place Block) own row more by_vertex (vertex_of_page groups.edits p first place page its inside) read merged

pub own_of_page : (groups : Grouped) (p : Part) (page : Lists) (first place : ℕ) (own : List Edit) → groups.grouping ≡ ByVertex → IsPageOf groups.edits p first page → place < length (rows_of page) → own ≡ edits_of groups (first + place) → AreOwnEdits own (get_or (rows_of page) place [])
own_of_page groups p page first place own by_vertex its inside read =
    own_of_vertex groups (first + place) (get_or (rows_of page) place []) (get_or (homes_of page) place Block) own by_vertex record { part = p; its = vertex_of_page groups.edits p first place page its inside } read

-- a page of a shard, from its first vertex on
pub page_of_shard : (es : List Edit) (range w : ℕ) (pages : List (Arc Lists Global)) (i : ℕ) (d : Arc Lists Global) → ArePages w pages → IsShard (part_in range pages) → AreEditsOf (part_in range pages) es → i < length pages → IsPageOf es (part_in range pages) (w * i) (arc_value (get_or pages i d))
page_of_shard es range w pages i d are shard own h = record {
  shard = shard;
  own = own;
  within = page_inside w pages i d are h;
  rows = λ k within. sym (row_in_page w pages i k d are h within);
  homes = λ k within. sym (home_in_page w pages i k d are h within);
}

-- a list that stands last is put there after the edits of its vertex, which were merged with what it was
pub put_last : (es : List Edit) (vertex : ℕ) (row after : List ℕ) (home to : Home) (more : Counts) (old new : Lists) → IsPushed old new after to
    → ((p : Part) → IsVertexOf es p vertex row home → to ≡ home_after (home_at p vertex) (length after))
    → ((p : Part) → IsVertexOf es p vertex row home → (u n : ℕ) (q : ℕ → Bool) → AreEditsFrom u n (own_edits p es vertex) → row_at p vertex ≡ filter q (numbers_below n) → IsMerged (own_edits p es vertex) u n q after more)
    → IsPutLast es vertex row home more old new
put_last es vertex row after home to more old new pushed moved merged = record {
  after = after;
  to = to;
  pushed = pushed;
  few = λ p rows homes counts its start begun. few_more es p rows after counts more vertex its.shard its.own start its.within begun.done (merged p its);
  begun = λ p rows homes counts its start begun. one_edited es p rows homes counts more after to vertex its.shard its.own start its.within (moved p its) (merged p its) begun;
}

-- a page more
pub more_begun : (es : List Edit) (p : Part) (items pages : List (Arc Lists Global)) (page : Arc Lists Global) (counts : Counts) → items ≡ pages ++ page ∷ [] → AreBegun es p (rows_in pages ++ rows_of (arc_value page)) (homes_in pages ++ homes_of (arc_value page)) counts → AreBegun es p (rows_in items) (homes_in items) counts
more_begun es p items pages page counts is begun =
    subst₂ (λ l h. AreBegun es p l h counts) (sym (ap rows_in is ∙ rows_push pages page)) (sym (ap homes_in is ∙ homes_push pages page)) begun

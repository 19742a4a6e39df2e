-- A page that is copied, and whose lists are changed one after another where they stand.
use Rattle.std.proofs.Common.{◌≡◌, ℕ, zero, suc, ◌+◌, ◌-◌, ◌<◌, ◌≤◌, Bool, List, [], ◌++◌, length, get_or, filter, take, sym, ap, subst, subst₂, ◌∙◌, append-nil, length-append, arith}
use Rattle.std.proofs.Math.Seq.{take-length}
use Rattle.std.proofs.lemmas.List.{length-set, length-take-le, get_or-set_other, take_more, take_more_set}
use Rattle.past_model.specs.declared.edit.Edit.{Edit}
use Rattle.past_model.specs.declared.home.Home.{Home}
use Rattle.past_model.specs.declared.home.Home.TheVariants.{Block}
use Rattle.graph_model.specs.Graph.{numbers_below}
use Rattle.past_model.specs.Homes.{home_after}
use Rattle.shards.specs.declared.counts.Counts.{Counts}
use Rattle.shards.specs.declared.lists.Lists.{Lists}
use Rattle.shards.specs.Begun.{AreBegun, IsPageOf, IsPageAfter}
use Rattle.shards.specs.declared.groups.Grouping.TheVariants.{ByVertex}
use Rattle.shards.specs.Groups.{Grouped, IsNextFilled}
use Rattle.shards.specs.Lists.{rows_of, homes_of, AreKept, AreSame, IsReplaced}
use Rattle.shards.specs.Merge.{AreEditsFrom, IsMerged}
use Rattle.shards.specs.Part.{Part, row_at, home_at}
use Rattle.shards.proofs.BegunLemmas.{one_kept, one_edited, behind, edits_in}
use Rattle.shards.proofs.PageLemmas.{same_count}
use Rattle.shards.proofs.PartLemmas.{own_edits}

-- the lists up to a place are made, and those from there on are the page's
pub record AreCopied (es : List Edit) (first : ℕ) (page : Lists) (start : Counts) (place : ℕ) (lists : Lists) (counts : Counts) : Type 0 where
  pub kept : AreKept lists
  pub count : length (rows_of lists) ≡ length (rows_of page)
  pub rows : (k : ℕ) → place ≤ k → get_or (rows_of lists) k [] ≡ get_or (rows_of page) k []
  pub homes : (k : ℕ) → place ≤ k → get_or (homes_of lists) k Block ≡ get_or (homes_of page) k Block
  pub begun : (p : Part) (rows : List (List ℕ)) (homes : List Home) → IsPageOf es p first page → length rows ≡ first
      → AreBegun es p rows homes start → AreBegun es p (rows ++ take place (rows_of lists)) (homes ++ take place (homes_of lists)) counts

pub none_changed : (es : List Edit) (first : ℕ) (page lists : Lists) (start : Counts) → AreSame page lists → AreCopied es first page start 0 lists start
none_changed es first page lists start same = record {
  kept = same.kept;
  count = ap length same.rows;
  rows = λ k h. ap (λ l. get_or l k []) same.rows;
  homes = λ k h. ap (λ l. get_or l k Block) same.homes;
  begun = λ p rows homes its from begun. subst₂ (λ l h. AreBegun es p l h start) (sym (append-nil rows)) (sym (append-nil homes)) begun;
}

-- so many lists are made
pub made : (rows : List (List ℕ)) (lists : Lists) (first place : ℕ) → length rows ≡ first → place ≤ length (rows_of lists) → length (rows ++ take place (rows_of lists)) ≡ first + place
made rows lists first place from h = length-append rows (take place (rows_of lists)) ∙ omega (arith, from, length-take-le place (rows_of lists) h)

-- one that no edit is of
pub one_left : (es : List Edit) (first : ℕ) (page : Lists) (start : Counts) (place : ℕ) (lists : Lists) (counts : Counts) → place < length (rows_of page) → ((p : Part) → own_edits p es (first + place) ≡ []) → AreCopied es first page start place lists counts → AreCopied es first page start (place + 1) lists counts
one_left es first page start place lists counts inside none are =
    let count = are.count in
    let here : place < length (rows_of lists) = omega (arith, count) in
    let there : place < length (homes_of lists) = omega (arith, here, same_count lists) in
    let row = get_or (rows_of lists) place [] in
    let home = get_or (homes_of lists) place Block in
    record {
      kept = are.kept;
      count = count;
      rows = λ k h. are.rows k (omega arith);
      homes = λ k h. are.homes k (omega arith);
      begun = λ p rows homes its from begun. (
          let within = its.within in
          let done = take place (rows_of lists) in
          let done_homes = take place (homes_of lists) in
          subst₂ (λ l h. AreBegun es p l h counts)
          (sym (ap (λ l. rows ++ l) (take_more (rows_of lists) place [] here) ∙ behind rows done row))
          (sym (ap (λ h. homes ++ h) (take_more (homes_of lists) place Block there) ∙ behind homes done_homes home))
          (one_kept es p (rows ++ done) (homes ++ done_homes) counts row home (first + place) its.shard (made rows lists first place from (omega arith)) (omega arith)
          (are.rows place (omega arith) ∙ its.rows place inside) (are.homes place (omega arith) ∙ its.homes place inside) (none p) (are.begun p rows homes its from begun)));
    }

-- some that no edit is of
many_left : (k : ℕ) (es : List Edit) (first : ℕ) (page : Lists) (start : Counts) (place : ℕ) (lists : Lists) (counts : Counts) → place + k ≤ length (rows_of page) → ((p : Part) (i : ℕ) → place ≤ i → i < place + k → own_edits p es (first + i) ≡ []) → AreCopied es first page start place lists counts → AreCopied es first page start (place + k) lists counts
many_left zero es first page start place lists counts inside none are = subst (λ n. AreCopied es first page start n lists counts) (omega arith) are
many_left (suc k) es first page start place lists counts inside none are =
    subst (λ n. AreCopied es first page start n lists counts) (omega arith)
    (many_left k es first page start (place + 1) lists counts (omega arith) (λ p i low high. none p i (omega arith) (omega arith))
    (one_left es first page start place lists counts (omega arith) (λ p. none p place (omega arith) (omega arith)) are))

-- those up to the next vertex with an edit
pub left_until : (g : Grouped) (first : ℕ) (page : Lists) (start : Counts) (from end vertex : ℕ) (lists : Lists) (counts : Counts) → g.grouping ≡ ByVertex → first ≤ from → end ≡ first + length (rows_of page) → IsNextFilled g from end vertex
    → AreCopied g.edits first page start (from - first) lists counts → AreCopied g.edits first page start (vertex - first) lists counts
left_until g first page start from end vertex lists counts by low end_is next are =
    let after = next.after in
    let within = next.within in
    subst (λ n. AreCopied g.edits first page start n lists counts) (omega arith)
    (many_left (vertex - from) g.edits first page start (from - first) lists counts (omega arith) (λ p i above below. sym (edits_in g p (first + i) by) ∙ next.none (first + i) (omega arith) (omega arith)) are)

-- one after its edits
pub one_changed : (es : List Edit) (first : ℕ) (page : Lists) (start : Counts) (place : ℕ) (lists new : Lists) (counts more : Counts) (row : List ℕ) (home : Home) → place < length (rows_of page) → AreCopied es first page start place lists counts
    → IsReplaced lists new place row home → home ≡ home_after (get_or (homes_of lists) place Block) (length row)
    → ((p : Part) → IsPageOf es p first page → (u n : ℕ) (q : ℕ → Bool) → AreEditsFrom u n (own_edits p es (first + place)) → row_at p (first + place) ≡ filter q (numbers_below n) → IsMerged (own_edits p es (first + place)) u n q row more)
    → AreCopied es first page start (place + 1) new record { added = counts.added + more.added; removed = counts.removed + more.removed }
one_changed es first page start place lists new counts more row home inside are replaced at merged =
    let count = are.count in
    let here : place < length (rows_of lists) = omega (arith, count) in
    let there : place < length (homes_of lists) = omega (arith, here, same_count lists) in
    record {
      kept = replaced.kept;
      count = ap length replaced.rows ∙ length-set (rows_of lists) place row ∙ count;
      rows = λ k h. ap (λ l. get_or l k []) replaced.rows ∙ get_or-set_other (rows_of lists) place k row [] (λ same. omega (arith, same)) ∙ are.rows k (omega arith);
      homes = λ k h. ap (λ l. get_or l k Block) replaced.homes ∙ get_or-set_other (homes_of lists) place k home Block (λ same. omega (arith, same)) ∙ are.homes k (omega arith);
      begun = λ p rows homes its from begun. (
          let within = its.within in
          let done = take place (rows_of lists) in
          let done_homes = take place (homes_of lists) in
          let moved : home ≡ home_after (home_at p (first + place)) (length row) = at ∙ ap (λ h. home_after h (length row)) (are.homes place (omega arith) ∙ its.homes place inside) in
          subst₂ (λ l h. AreBegun es p l h record { added = counts.added + more.added; removed = counts.removed + more.removed })
          (sym (ap (λ l. rows ++ take (place + 1) l) replaced.rows ∙ ap (λ l. rows ++ l) (take_more_set (rows_of lists) place row here) ∙ behind rows done row))
          (sym (ap (λ h. homes ++ take (place + 1) h) replaced.homes ∙ ap (λ h. homes ++ h) (take_more_set (homes_of lists) place home there) ∙ behind homes done_homes home))
          (one_edited es p (rows ++ done) (homes ++ done_homes) counts more row home (first + place) its.shard its.own (made rows lists first place from (omega arith)) (omega arith) moved (merged p its) (are.begun p rows homes its from begun)));
    }

-- all of them
pub all_changed : (es : List Edit) (first : ℕ) (page : Lists) (start : Counts) (place : ℕ) (lists : Lists) (counts : Counts) → place ≡ length (rows_of page) → AreCopied es first page start place lists counts → IsPageAfter es first page start lists counts
all_changed es first page start place lists counts end are =
    let count = are.count in
    let rows_end : length (rows_of lists) ≡ place = omega (arith, count, end) in
    let homes_end : length (homes_of lists) ≡ place = omega (arith, rows_end, same_count lists) in
    record {
      kept = are.kept;
      count = count;
      begun = λ p rows homes its from begun.
          subst₂ (λ l h. AreBegun es p (rows ++ l) (homes ++ h) counts)
          (ap (λ n. take n (rows_of lists)) (sym rows_end) ∙ take-length (rows_of lists))
          (ap (λ n. take n (homes_of lists)) (sym homes_end) ∙ take-length (homes_of lists))
          (are.begun p rows homes its from begun);
    }

use Rattle.std.proofs.Common.{◌≡◌, ℕ, ◌+◌, ◌*◌, ◌<◌, ◌≤◌, List, [], ◌++◌, length, get_or, refl, sym, ap, subst, ◌∙◌, arith}
use Rattle.std.specs.List.{AllByRecursion}
use Rattle.std.specs.declared.sync.Arc.{Arc}
use Rattle.std.specs.declared.alloc.Global.{Global}
use Rattle.std.specs.Arc.{arc_value}
use Rattle.shards.specs.declared.lists.Lists.{Lists}
use Rattle.shards.specs.Begun.{AreBegun, IsNext, IsPageOf}
use Rattle.shards.specs.Groups.{Grouped, edits_of}
use Rattle.shards.specs.Lists.{rows_of, homes_of, AreKept}
use Rattle.shards.specs.Pages.{rows_in, homes_in, sizes_in, part_in, ArePages}
use Rattle.shards.specs.Part.{Part, AreEditsOf, IsPartAfter, AreCounts, AreHomesAfter}
use Rattle.shards.proofs.PageLemmas.{IsKept, page_inside, page_kept, sizes_next, kept_push, lists_made, all_made}
use Rattle.shards.proofs.BegunLemmas.{none_begun, page_begun, page_of_shard, more_begun}
use Rattle.shards.proofs.HomeLemmas.{all_moved}
use Rattle.shards.proofs.PartLemmas.{own_edits, rows_done, next_shard}
use Rattle.shards.proofs.shard.Shard.apply_in.Goals as goal

pub loop-number-init : goal.loop-number-init
loop-number-init c =
    let part : Part = part_in c.self.inside.range c.self.inside.pages.items in
    let own : AreEditsOf part c.args.edits.now = subst (λ p. AreEditsOf p c.args.edits.now) (sym c.self.view_is) c.requires in
    let none = c.in_ok-pages.ensures.items in
    record {
      sizes = ap sizes_in none;
      kept = subst (AllByRecursion IsKept) (sym none) tt;
      begun = none_begun c.args.edits.now part (rows_in c.in_ok-pages.pages.items) (homes_in c.in_ok-pages.pages.items) own (ap rows_in none) (ap homes_in none);
    }

abbrev Pages : Type 0
Pages = List (Arc Lists Global)

-- the page at hand is one of the shard's
at : (items old : Pages) (n : ℕ) → items ≡ old → n < length items → n < length old
at items old n same h = subst (λ l. n < length l) same h

shown : (items old : Pages) (n : ℕ) (page : Arc Lists Global) → items ≡ old → page ≡ get_or items n page → page ≡ get_or old n page
shown items old n page same is = is ∙ ap (λ l. get_or l n page) same

-- how many vertices a page has, as another type of numbers
of_size : (w n : ℕ) (pages : Pages) → n ≡ w → ArePages w pages → ArePages n pages
of_size w n pages same are = subst (λ k. ArePages k pages) (sym same) are

-- its lists are inside
ends : (w : ℕ) (old : Pages) (n count vertices : ℕ) (page : Arc Lists Global) (lists : Lists) → ArePages w old → vertices ≡ length (rows_in old) → n < length old → page ≡ get_or old n page → lists ≡ arc_value page → count ≡ length (rows_of lists) → w * n + count ≤ vertices
ends w old n count vertices page lists are all h is own many =
    omega (arith, many, all, ap (λ l. length (rows_of l)) (own ∙ ap arc_value is), page_inside w old n page are h)

pub overflow_mul-first : goal.overflow_mul-first
overflow_mul-first c =
    let old = c.self.inside.pages.items in
    let few = c.self.invariant.2.few in
    let h = at c.deref-page-items.result.now old c.loop-number.number c.deref-page-items.ensures.value c.loop-number-test.true in
    omega (arith, few, page_inside c.from.result old c.loop-number.number c.page-item.result (of_size c.self.inside.size.vertices c.from.result c.self.inside.pages.items c.from.ensures c.self.invariant.0) h)

pub overflow_add-first : goal.overflow_add-first
overflow_add-first c =
    let old = c.self.inside.pages.items in
    let few = c.self.invariant.2.few in
    let many = c.self.invariant.1 in
    let h = at c.deref-page-items.result.now old c.loop-number.number c.deref-page-items.ensures.value c.loop-number-test.true in
    let is = shown c.deref-page-items.result.now old c.loop-number.number c.page-item.result c.deref-page-items.ensures.value c.page-item.is in
    omega (arith, few, many, ends c.from.result old c.loop-number.number c.count.result c.self.inside.vertices c.page-item.result c.deref.result.now (of_size c.self.inside.size.vertices c.from.result c.self.inside.pages.items c.from.ensures c.self.invariant.0) c.self.invariant.1 h is c.deref.ensures c.count.ensures.rows)

pub are_empty-requires : goal.are_empty-requires
are_empty-requires c =
    let old = c.self.inside.pages.items in
    let h = at c.deref-page-items.result.now old c.loop-number.number c.deref-page-items.ensures.value c.loop-number-test.true in
    let is = shown c.deref-page-items.result.now old c.loop-number.number c.page-item.result c.deref-page-items.ensures.value c.page-item.is in
    omega (arith, ends c.from.result old c.loop-number.number c.count.result c.self.inside.vertices c.page-item.result c.deref.result.now (of_size c.self.inside.size.vertices c.from.result c.self.inside.pages.items c.from.ensures c.self.invariant.0) c.self.invariant.1 h is c.deref.ensures c.count.ensures.rows, ap (λ (g : Grouped). g.count) c.in_ok-groups.ensures, c.from.ensures)

pub loop-number-preserved-then-are_empty : goal.loop-number-preserved-then-are_empty
loop-number-preserved-then-are_empty c =
    let es = c.args.edits.now in
    let part : Part = part_in c.self.inside.range c.self.inside.pages.items in
    let own : AreEditsOf part es = subst (λ p. AreEditsOf p es) (sym c.self.view_is) c.requires in
    let number = c.loop-number.number in
    let old = c.self.inside.pages.items in
    let new = c.loop-number.pages.items in
    let page = c.in_ok-try_clone.field-0 in
    let pushed = c.in_ok-push.ensures.items in
    let h = at c.deref-page-items.result.now old number c.deref-page-items.ensures.value c.loop-number-test.true in
    let is = shown c.deref-page-items.result.now old number c.page-item.result c.deref-page-items.ensures.value c.page-item.is in
    let before = arc_value (get_or old number c.page-item.result) in
    let same : arc_value page ≡ before = c.in_ok-try_clone.ensures ∙ ap arc_value is in
    let shared : c.deref.result.now ≡ before = c.deref.ensures ∙ ap arc_value is in
    let none : (k : ℕ) → k < length (rows_of before) → own_edits part es (c.from.result * number + k) ≡ [] =
    (λ k within. ap (λ (g : Grouped). edits_of g (c.from.result * number + k)) (sym c.in_ok-groups.ensures) ∙ c.are_empty.ensures.0 c.if-are_empty.true (c.from.result * number + k) (omega arith) (omega (arith, within, c.count.ensures.rows, ap (λ l. length (rows_of l)) shared))) in
    record {
      sizes = ap sizes_in pushed ∙ sizes_next new old number page c.page-item.result h c.loop-number.invariant.sizes (ap (λ l. length (rows_of l)) same);
      kept = subst (AllByRecursion IsKept) (sym pushed) (kept_push new page c.loop-number.invariant.kept (subst AreKept (sym same) (page_kept old number c.page-item.result c.self.invariant.0.kept h)));
      begun = more_begun es part c.push.new.self.items new page c.loop-number.counts pushed
          (subst (λ l. AreBegun es part (rows_in new ++ rows_of l) (homes_in new ++ homes_of l) c.loop-number.counts) (sym same)
          (page_begun es part (rows_in new) (homes_in new) c.loop-number.counts (c.from.result * number) before (page_of_shard es c.self.inside.range c.from.result old number c.page-item.result (of_size c.self.inside.size.vertices c.from.result c.self.inside.pages.items c.from.ensures c.self.invariant.0) c.self.invariant.2 own h) (lists_made c.from.result new old number (of_size c.self.inside.size.vertices c.from.result c.self.inside.pages.items c.from.ensures c.self.invariant.0) h c.loop-number.invariant.sizes) none c.loop-number.invariant.begun));
    }

pub edited_page-requires-clause-within : goal.edited_page-requires-clause-within
edited_page-requires-clause-within c =
    let old = c.self.inside.pages.items in
    let h = at c.deref-page-items.result.now old c.loop-number.number c.deref-page-items.ensures.value c.loop-number-test.true in
    let is = shown c.deref-page-items.result.now old c.loop-number.number c.page-item.result c.deref-page-items.ensures.value c.page-item.is in
    omega (arith, ends c.from.result old c.loop-number.number (length (rows_of c.deref-in-loop-number.result.now)) c.self.inside.vertices c.page-item.result c.deref-in-loop-number.result.now (of_size c.self.inside.size.vertices c.from.result c.self.inside.pages.items c.from.ensures c.self.invariant.0) c.self.invariant.1 h is c.deref-in-loop-number.ensures refl, ap (λ (g : Grouped). g.count) c.in_ok-groups.ensures, c.from.ensures)

pub edited_page-requires-clause-kept : goal.edited_page-requires-clause-kept
edited_page-requires-clause-kept c =
    let old = c.self.inside.pages.items in
    let h = at c.deref-page-items.result.now old c.loop-number.number c.deref-page-items.ensures.value c.loop-number-test.true in
    let is = shown c.deref-page-items.result.now old c.loop-number.number c.page-item.result c.deref-page-items.ensures.value c.page-item.is in
    subst AreKept (sym (c.deref-in-loop-number.ensures ∙ ap arc_value is)) (page_kept old c.loop-number.number c.page-item.result c.self.invariant.0.kept h)

pub edited_page-requires-clause-next : goal.edited_page-requires-clause-next
edited_page-requires-clause-next c =
    let es = c.args.edits.now in
    let part : Part = part_in c.self.inside.range c.self.inside.pages.items in
    let own : AreEditsOf part es = subst (λ p. AreEditsOf p es) (sym c.self.view_is) c.requires in
    let number = c.loop-number.number in
    let old = c.self.inside.pages.items in
    let new = c.loop-number.pages.items in
    let h = at c.deref-page-items.result.now old number c.deref-page-items.ensures.value c.loop-number-test.true in
    let is = shown c.deref-page-items.result.now old number c.page-item.result c.deref-page-items.ensures.value c.page-item.is in
    subst (λ (g : Grouped). IsNext g.edits (c.from.result * number) c.deref-in-loop-number.result.now c.loop-number.counts) (sym c.in_ok-groups.ensures) record {
      part = part;
      its = subst (IsPageOf es part (c.from.result * number)) (sym (c.deref-in-loop-number.ensures ∙ ap arc_value is)) (page_of_shard es c.self.inside.range c.from.result old number c.page-item.result (of_size c.self.inside.size.vertices c.from.result c.self.inside.pages.items c.from.ensures c.self.invariant.0) c.self.invariant.2 own h);
      rows = rows_in new;
      homes = homes_in new;
      start = lists_made c.from.result new old number (of_size c.self.inside.size.vertices c.from.result c.self.inside.pages.items c.from.ensures c.self.invariant.0) h c.loop-number.invariant.sizes;
      begun = c.loop-number.invariant.begun;
    }

pub loop-number-preserved : goal.loop-number-preserved
loop-number-preserved c =
    let es = c.args.edits.now in
    let part : Part = part_in c.self.inside.range c.self.inside.pages.items in
    let own : AreEditsOf part es = subst (λ p. AreEditsOf p es) (sym c.self.view_is) c.requires in
    let number = c.loop-number.number in
    let old = c.self.inside.pages.items in
    let new = c.loop-number.pages.items in
    let page = c.in_ok-new.field-0 in
    let pushed = c.in_ok-push-2.ensures.items in
    let made = c.in_ok-new.ensures.ok in
    let h = at c.deref-page-items.result.now old number c.deref-page-items.ensures.value c.loop-number-test.true in
    let is = shown c.deref-page-items.result.now old number c.page-item.result c.deref-page-items.ensures.value c.page-item.is in
    let before : c.deref-in-loop-number.result.now ≡ arc_value (get_or old number c.page-item.result) = c.deref-in-loop-number.ensures ∙ ap arc_value is in
    let groups : c.in_ok-groups.groups.edits ≡ es = ap (λ (g : Grouped). g.edits) c.in_ok-groups.ensures in
    let its = subst (IsPageOf es part (c.from.result * number)) (sym before) (page_of_shard es c.self.inside.range c.from.result old number c.page-item.result (of_size c.self.inside.size.vertices c.from.result c.self.inside.pages.items c.from.ensures c.self.invariant.0) c.self.invariant.2 own h) in
    record {
      sizes = ap sizes_in pushed ∙ sizes_next new old number page c.page-item.result h c.loop-number.invariant.sizes (ap (λ l. length (rows_of l)) made ∙ c.in_ok-next.ensures.count ∙ ap (λ l. length (rows_of l)) before);
      kept = subst (AllByRecursion IsKept) (sym pushed) (kept_push new page c.loop-number.invariant.kept (subst AreKept (sym made) c.in_ok-next.ensures.kept));
      begun = more_begun es part c.push-in-loop-number.new.self.items new page c.in_ok-next.done pushed
          (subst (λ l. AreBegun es part (rows_in new ++ rows_of l) (homes_in new ++ homes_of l) c.in_ok-next.done) (sym made)
          (subst (λ es. AreBegun es part (rows_in new ++ rows_of c.in_ok-next.next) (homes_in new ++ homes_of c.in_ok-next.next) c.in_ok-next.done) groups
          (c.in_ok-next.ensures.begun part (rows_in new) (homes_in new) (subst (λ es. IsPageOf es part (c.from.result * number) c.deref-in-loop-number.result.now) (sym groups) its) (lists_made c.from.result new old number (of_size c.self.inside.size.vertices c.from.result c.self.inside.pages.items c.from.ensures c.self.invariant.0) h c.loop-number.invariant.sizes)
          (subst (λ es. AreBegun es part (rows_in new) (homes_in new) c.loop-number.counts) (sym groups) c.loop-number.invariant.begun))));
    }

-- all pages are made
past : (items old : Pages) (n : ℕ) → items ≡ old → length items ≤ n → length old ≤ n
past items old n same h = subst (λ l. length l ≤ n) same h

pub invariant_of-next : goal.invariant_of-next
invariant_of-next c =
    let part : Part = part_in c.self.inside.range c.self.inside.pages.items in
    let es = c.args.edits.now in
    let old = c.self.inside.pages.items in
    let new = c.loop-number.pages.items in
    let shard = c.self.invariant.2 in
    let own : AreEditsOf part es = subst (λ p. AreEditsOf p es) (sym c.self.view_is) c.requires in
    let all = all_made c.self.inside.size.vertices new old c.loop-number.number c.self.invariant.0 (past c.deref-page-items.result.now old c.loop-number.number c.deref-page-items.ensures.value c.loop-number-test.false) c.loop-number.invariant.sizes c.loop-number.invariant.kept in (
      all.0,
      c.self.invariant.1 ∙ sym all.1,
      next_shard es part (part_in c.self.inside.range new) shard own (rows_done es part (rows_in new) (homes_in new) c.loop-number.counts own all.1 c.loop-number.invariant.begun.done).0 (all_moved part part.range (rows_in new) (homes_in new) shard.homes all.1 c.loop-number.invariant.begun.moved).1,
    )

pub returns-clause-after : goal.returns-clause-after
returns-clause-after c =
    let part : Part = part_in c.self.inside.range c.self.inside.pages.items in
    let es = c.args.edits.now in
    let old = c.self.inside.pages.items in
    let new = c.loop-number.pages.items in
    let own : AreEditsOf part es = subst (λ p. AreEditsOf p es) (sym c.self.view_is) c.requires in
    let all = all_made c.self.inside.size.vertices new old c.loop-number.number c.self.invariant.0 (past c.deref-page-items.result.now old c.loop-number.number c.deref-page-items.ensures.value c.loop-number-test.false) c.loop-number.invariant.sizes c.loop-number.invariant.kept in
    subst (λ p. IsPartAfter es p (part_in c.self.inside.range new)) c.self.view_is (rows_done es part (rows_in new) (homes_in new) c.loop-number.counts own all.1 c.loop-number.invariant.begun.done).0

pub returns-clause-counts : goal.returns-clause-counts
returns-clause-counts c =
    let part : Part = part_in c.self.inside.range c.self.inside.pages.items in
    let es = c.args.edits.now in
    let old = c.self.inside.pages.items in
    let new = c.loop-number.pages.items in
    let own : AreEditsOf part es = subst (λ p. AreEditsOf p es) (sym c.self.view_is) c.requires in
    let all = all_made c.self.inside.size.vertices new old c.loop-number.number c.self.invariant.0 (past c.deref-page-items.result.now old c.loop-number.number c.deref-page-items.ensures.value c.loop-number-test.false) c.loop-number.invariant.sizes c.loop-number.invariant.kept in
    subst (λ p. AreCounts es p c.loop-number.counts) c.self.view_is (rows_done es part (rows_in new) (homes_in new) c.loop-number.counts own all.1 c.loop-number.invariant.begun.done).1

pub returns-clause-homes : goal.returns-clause-homes
returns-clause-homes c =
    let part : Part = part_in c.self.inside.range c.self.inside.pages.items in
    let old = c.self.inside.pages.items in
    let new = c.loop-number.pages.items in
    let all = all_made c.self.inside.size.vertices new old c.loop-number.number c.self.invariant.0 (past c.deref-page-items.result.now old c.loop-number.number c.deref-page-items.ensures.value c.loop-number-test.false) c.loop-number.invariant.sizes c.loop-number.invariant.kept in
    subst (λ p. AreHomesAfter p (part_in c.self.inside.range new)) c.self.view_is (all_moved part part.range (rows_in new) (homes_in new) c.self.invariant.2.homes all.1 c.loop-number.invariant.begun.moved).0

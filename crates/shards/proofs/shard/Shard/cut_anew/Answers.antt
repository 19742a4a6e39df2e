use Rattle.std.proofs.Common.{◌≡◌, ◌⊎◌, ℕ, ◌+◌, ◌<◌, ◌≤◌, List, [], ◌++◌, length, get_or, sym, ap, subst, subst₂, ◌∙◌, inl, inr, ◌^◌, arith}
use Rattle.std.specs.Arc.{arc_value}
use Rattle.past_model.specs.declared.edit.Edit.{Edit}
use Rattle.past_model.specs.declared.home.Home.TheVariants.{Block}
use Rattle.shards.specs.declared.lists.Lists.{Lists}
use Rattle.shards.specs.Begun.{AreBegun, IsVertexOf, IsPutLast}
use Rattle.shards.specs.Groups.{Grouped}
use Rattle.shards.specs.Lists.{AreSame, rows_of, homes_of}
use Rattle.shards.specs.Pages.{rows_in, homes_in, part_in}
use Rattle.shards.specs.Part.{Part, AreEditsOf, IsPartAfter, AreCounts, AreHomesAfter}
use Rattle.shards.proofs.BegunLemmas.{none_begun}
use Rattle.shards.proofs.CutLemmas.{AreMadeTo, none_filled, few_step, open_step, page_step, all_filled, begun_of_pages, vertex_of_shard}
use Rattle.shards.proofs.HomeLemmas.{all_moved}
use Rattle.shards.proofs.PartLemmas.{rows_done, next_shard}
use Rattle.shards.proofs.shard.Shard.cut_anew.Goals as goal
use Rattle.shards.proofs.shard.Shard.cut_anew.Goals.{In_ok-more, then-made-from+in_ok-page+in_ok-new+in_ok-push, then-made-from-via-then-made-from, then-made-from-via-else-made-from+then-vertex-vertices, else-made-from+else-vertex-vertices}

pub loop-vertex-init : goal.loop-vertex-init
loop-vertex-init c =
    let es = c.args.groups.now.edits in
    let part : Part = part_in c.self.inside.range c.self.inside.pages.items in
    let own : AreEditsOf part es = subst (λ p. AreEditsOf p es) (sym c.self.view_is) c.requires.edits in
    let pages = c.new-pages.result.items in
    let lists = c.clear.new.self in
    let none = c.new-pages.ensures.items in
    record {
      filled = none_filled c.of-size.result.vertices c.from-vertices.result pages lists c.of-size.result.some none c.clear.ensures.kept c.clear.ensures.rows;
      begun = none_begun es part (rows_in pages ++ rows_of lists) (homes_in pages ++ homes_of lists) own (ap (λ l. rows_in l ++ rows_of lists) none ∙ c.clear.ensures.rows) (ap (λ l. homes_in l ++ homes_of lists) none ∙ c.clear.ensures.homes);
    }

-- the vertex at hand
its : (c : In_ok-more) → IsVertexOf c.args.groups.now.edits (part_in c.self.inside.range c.self.inside.pages.items) c.loop-vertex.vertex (get_or (rows_of c.page_of-page.result.now) c.place_of-place.result []) (get_or (homes_of c.page_of-page.result.now) c.place_of-place.result Block)
its c =
    let es = c.args.groups.now.edits in
    let old = c.self.inside.pages.items in
    let vertex = c.loop-vertex.vertex in
    let page = c.page_of-page.result.now in
    let inside : vertex < length (rows_in old) = (let test = c.loop-vertex-test.true in let many = c.self.invariant.1 in omega (arith, test, many, c.from-vertices.ensures)) in
    vertex_of_shard es c.self.inside.range old vertex (get_or (rows_of page) c.place_of-place.result []) (get_or (homes_of page) c.place_of-place.result Block) c.self.invariant.2
    (subst (λ p. AreEditsOf p es) (sym c.self.view_is) c.requires.edits) inside
    (ap (λ k. get_or (rows_of page) k []) c.place_of-place.ensures ∙ c.page_of-page.ensures.row ∙ ap (λ l. get_or (rows_in l) vertex []) c.deref.ensures.value)
    (ap (λ k. get_or (homes_of page) k Block) c.place_of-place.ensures ∙ c.page_of-page.ensures.home ∙ ap (λ l. get_or (homes_in l) vertex Block) c.deref.ensures.value)

put : (c : In_ok-more) → IsPutLast c.args.groups.now.edits c.loop-vertex.vertex (get_or (rows_of c.page_of-page.result.now) c.place_of-place.result []) (get_or (homes_of c.page_of-page.result.now) c.place_of-place.result Block) c.in_ok-more.more c.loop-vertex.scratch.lists c.put_vertex.new.scratch.lists
put c =
    let page = c.page_of-page.result.now in
    subst (λ (g : Grouped). IsPutLast g.edits c.loop-vertex.vertex (get_or (rows_of page) c.place_of-place.result []) (get_or (homes_of page) c.place_of-place.result Block) c.in_ok-more.more c.loop-vertex.scratch.lists c.put_vertex.new.scratch.lists) c.linked_by-linked.ensures c.in_ok-more.ensures

few : (c : In_ok-more) → (c.loop-vertex.counts.added + c.in_ok-more.more.added < 2 ^ 64) × (c.loop-vertex.counts.removed + c.in_ok-more.more.removed < 2 ^ 64)
few c =
    let page = c.page_of-page.result.now in
    few_step c.args.groups.now.edits (part_in c.self.inside.range c.self.inside.pages.items) c.of-size.result.vertices c.from-vertices.result c.loop-vertex.vertex c.loop-vertex.pages.items c.loop-vertex.scratch.lists c.put_vertex.new.scratch.lists
    (get_or (rows_of page) c.place_of-place.result []) (get_or (homes_of page) c.place_of-place.result Block) c.loop-vertex.counts c.in_ok-more.more (its c) c.loop-vertex.invariant (put c)

pub plus-counts-requires-clause-added : goal.plus-counts-requires-clause-added
plus-counts-requires-clause-added c = (few c).0

pub plus-counts-requires-clause-removed : goal.plus-counts-requires-clause-removed
plus-counts-requires-clause-removed c = (few c).1

pub loop-vertex-preserved : goal.loop-vertex-preserved
loop-vertex-preserved c =
    let at = c.before.before.before.before.before in
    let es = c.args.groups.now.edits in
    let part : Part = part_in c.self.inside.range c.self.inside.pages.items in
    let w : ℕ = c.of-size.result.vertices in
    let n : ℕ = c.from-vertices.result in
    let vertex : ℕ = c.loop-vertex.vertex in
    let pages = c.loop-vertex.pages.items in
    let old = c.loop-vertex.scratch.lists in
    let new = c.put_vertex.new.scratch.lists in
    let page = c.page_of-page.result.now in
    let row : List ℕ = get_or (rows_of page) c.place_of-place.result [] in
    let home = get_or (homes_of page) c.place_of-place.result Block in
    let inside : vertex < n = c.loop-vertex-test.true in
    let size : length (rows_of new) ≡ c.count-made.result = sym c.count-made.ensures.rows in
    subst (AreMadeTo es part w n (vertex + 1) c.if-made-from.pages.items c.if-made-from.scratch.lists) (sym c.plus-counts.ensures)
    (elim c.if-made-from.branch [
      | then-made-from+in_ok-page+in_ok-new+in_ok-push b ↦ (
          let whole : (length (rows_of new) ≡ w) ⊎ (vertex + 1 ≡ n) = elim b.then-made-from.branch [
            | then-made-from-via-then-made-from x ↦ inl (size ∙ x.if-made-from.true ∙ c.from.ensures)
            | then-made-from-via-else-made-from+then-vertex-vertices x ↦ inr x.if-vertex-vertices.true
          ] in
          subst₂ (λ scratch made. AreMadeTo es part w n (vertex + 1) made.items scratch.lists record { added = c.loop-vertex.counts.added + c.in_ok-more.more.added; removed = c.loop-vertex.counts.removed + c.in_ok-more.more.removed }) (sym b.scratch-is) (sym b.pages-is)
          (page_step es part w n vertex b.push.new.self.items pages b.in_ok-new.field-0 old new b.clear-then-made-from.new.self row home c.loop-vertex.counts c.in_ok-more.more (its at) c.loop-vertex.invariant (put at) inside whole b.in_ok-push.ensures.items
          (subst (AreSame new) (sym b.in_ok-new.ensures.ok) b.in_ok-page.ensures) b.clear-then-made-from.ensures.kept b.clear-then-made-from.ensures.rows b.clear-then-made-from.ensures.homes))
      | else-made-from+else-vertex-vertices b ↦
          subst₂ (λ scratch made. AreMadeTo es part w n (vertex + 1) made.items scratch.lists record { added = c.loop-vertex.counts.added + c.in_ok-more.more.added; removed = c.loop-vertex.counts.removed + c.in_ok-more.more.removed }) (sym b.scratch-is) (sym b.pages-is)
          (open_step es part w n vertex pages old new row home c.loop-vertex.counts c.in_ok-more.more (its at) c.loop-vertex.invariant (put at) inside (λ full. b.if-made-from.false (sym size ∙ full ∙ sym c.from.ensures)) b.if-vertex-vertices.false)
    ])

-- all lists are made
long : (old new vertices n vertex left : ℕ) → vertices ≡ old → n ≡ vertices → n ≤ vertex → vertex ≤ n → new + left ≡ vertex → left ≡ 0 → new ≡ old
long old new vertices n vertex left all same past end count none = omega arith

pub invariant_of-next : goal.invariant_of-next
invariant_of-next c =
    let es = c.args.groups.now.edits in
    let part : Part = part_in c.self.inside.range c.self.inside.pages.items in
    let new = c.loop-vertex.pages.items in
    let lists = c.loop-vertex.scratch.lists in
    let shard = c.self.invariant.2 in
    let own : AreEditsOf part es = subst (λ p. AreEditsOf p es) (sym c.self.view_is) c.requires.edits in
    let filled = c.loop-vertex.invariant.filled in
    let none = filled.ended c.loop-vertex-test.false in
    let all : length (rows_in new) ≡ length part.rows = long (length part.rows) (length (rows_in new)) c.self.inside.vertices c.from-vertices.result c.loop-vertex.vertex (length (rows_of lists)) c.self.invariant.1 c.from-vertices.ensures c.loop-vertex-test.false c.loop-vertex.auto.vertex-end filled.count none in
    let begun = begun_of_pages es part new lists c.loop-vertex.counts none c.loop-vertex.invariant.begun in (
      all_filled c.of-size.result.vertices c.from-vertices.result c.loop-vertex.vertex new lists filled,
      c.self.invariant.1 ∙ sym all,
      next_shard es part (part_in c.self.inside.range new) shard own (rows_done es part (rows_in new) (homes_in new) c.loop-vertex.counts own all begun.done).0 (all_moved part part.range (rows_in new) (homes_in new) shard.homes all begun.moved).1,
    )

pub returns-clause-after : goal.returns-clause-after
returns-clause-after c =
    let es = c.args.groups.now.edits in
    let part : Part = part_in c.self.inside.range c.self.inside.pages.items in
    let new = c.loop-vertex.pages.items in
    let lists = c.loop-vertex.scratch.lists in
    let own : AreEditsOf part es = subst (λ p. AreEditsOf p es) (sym c.self.view_is) c.requires.edits in
    let filled = c.loop-vertex.invariant.filled in
    let none = filled.ended c.loop-vertex-test.false in
    let all : length (rows_in new) ≡ length part.rows = long (length part.rows) (length (rows_in new)) c.self.inside.vertices c.from-vertices.result c.loop-vertex.vertex (length (rows_of lists)) c.self.invariant.1 c.from-vertices.ensures c.loop-vertex-test.false c.loop-vertex.auto.vertex-end filled.count none in
    let begun = begun_of_pages es part new lists c.loop-vertex.counts none c.loop-vertex.invariant.begun in
    subst (λ p. IsPartAfter es p (part_in c.self.inside.range new)) c.self.view_is (rows_done es part (rows_in new) (homes_in new) c.loop-vertex.counts own all begun.done).0

pub returns-clause-counts : goal.returns-clause-counts
returns-clause-counts c =
    let es = c.args.groups.now.edits in
    let part : Part = part_in c.self.inside.range c.self.inside.pages.items in
    let new = c.loop-vertex.pages.items in
    let lists = c.loop-vertex.scratch.lists in
    let own : AreEditsOf part es = subst (λ p. AreEditsOf p es) (sym c.self.view_is) c.requires.edits in
    let filled = c.loop-vertex.invariant.filled in
    let none = filled.ended c.loop-vertex-test.false in
    let all : length (rows_in new) ≡ length part.rows = long (length part.rows) (length (rows_in new)) c.self.inside.vertices c.from-vertices.result c.loop-vertex.vertex (length (rows_of lists)) c.self.invariant.1 c.from-vertices.ensures c.loop-vertex-test.false c.loop-vertex.auto.vertex-end filled.count none in
    let begun = begun_of_pages es part new lists c.loop-vertex.counts none c.loop-vertex.invariant.begun in
    subst (λ p. AreCounts es p c.loop-vertex.counts) c.self.view_is (rows_done es part (rows_in new) (homes_in new) c.loop-vertex.counts own all begun.done).1

pub returns-clause-homes : goal.returns-clause-homes
returns-clause-homes c =
    let es = c.args.groups.now.edits in
    let part : Part = part_in c.self.inside.range c.self.inside.pages.items in
    let new = c.loop-vertex.pages.items in
    let lists = c.loop-vertex.scratch.lists in
    let filled = c.loop-vertex.invariant.filled in
    let none = filled.ended c.loop-vertex-test.false in
    let all : length (rows_in new) ≡ length part.rows = long (length part.rows) (length (rows_in new)) c.self.inside.vertices c.from-vertices.result c.loop-vertex.vertex (length (rows_of lists)) c.self.invariant.1 c.from-vertices.ensures c.loop-vertex-test.false c.loop-vertex.auto.vertex-end filled.count none in
    let begun = begun_of_pages es part new lists c.loop-vertex.counts none c.loop-vertex.invariant.begun in
    subst (λ p. AreHomesAfter p (part_in c.self.inside.range new)) c.self.view_is (all_moved part part.range (rows_in new) (homes_in new) c.self.invariant.2.homes all begun.moved).0

use Rattle.std.proofs.Common.{◌≡◌, ◌+◌, ◌<◌, ◌++◌, ◌^◌, ◌-◌, length, take, sym, ap, subst, ◌∙◌, arith}
use Rattle.shards.specs.Groups.{edits_of}
use Rattle.shards.specs.Lists.{rows_of}
use Rattle.shards.specs.Put.{AreOwnEdits}
use Rattle.shards.proofs.PartLemmas.{few_more}
use Rattle.shards.proofs.BegunLemmas.{merged_of_page, own_of_page}
use Rattle.shards.proofs.CopiedLemmas.{AreCopied, none_changed, left_until, one_changed, all_changed, made}
use Rattle.shards.proofs.copied_page.copied_page.Goals as goal
use Rattle.shards.proofs.copied_page.copied_page.Goals.{In-Some}

pub loop-vertex-init : goal.loop-vertex-init
loop-vertex-init c =
    let groups = c.args.groups.now in
    let first = c.args.first in
    let page = c.args.page.now in
    let next = c.next_filled-vertex.ensures in
    record {
      low = next.after;
      high = next.within;
      copied = left_until groups first page c.args.counts first (first + c.count.result) c.next_filled-vertex.result c.in_ok-lists.lists c.args.counts c.requires.vertices (omega arith) (ap (λ n. first + n) c.count.ensures.rows) next
          (subst (λ n. AreCopied groups.edits first page c.args.counts n c.in_ok-lists.lists c.args.counts) (omega arith) (none_changed groups.edits first page c.in_ok-lists.lists c.args.counts c.in_ok-lists.ensures));
    }

pub edit_vertex-requires-clause-edits : goal.edit_vertex-requires-clause-edits
edit_vertex-requires-clause-edits c =
    let groups = c.args.groups.now in
    let first = c.args.first in
    let vertex = c.loop-vertex.vertex in
    let low = c.loop-vertex.invariant.low in
    let here : vertex ≡ first + (vertex - first) = omega arith in
    let inside : vertex - first < length (rows_of c.args.page.now) = (let count = c.count.ensures.rows in let test = c.loop-vertex-test.true in omega arith) in
    subst (AreOwnEdits (edits_of groups vertex)) (sym (c.loop-vertex.invariant.copied.rows (vertex - first) (omega arith)))
    (own_of_page groups c.requires.next.part c.args.page.now first (vertex - first) (edits_of groups vertex) c.requires.vertices c.requires.next.its inside (ap (edits_of groups) here))

-- the counts fit
few : (c : In-Some) → (c.loop-vertex.counts.added + c.in-Some.more.added < 2 ^ 64) × (c.loop-vertex.counts.removed + c.in-Some.more.removed < 2 ^ 64)
few c =
    let groups = c.args.groups.now in
    let page = c.args.page.now in
    let first = c.args.first in
    let vertex = c.loop-vertex.vertex in
    let place = vertex - first in
    let low = c.loop-vertex.invariant.low in
    let here : vertex ≡ first + (vertex - first) = omega arith in
    let next = c.requires.next in
    let its = next.its in
    let within = its.within in
    let lists = c.loop-vertex.lists in
    let are = c.loop-vertex.invariant.copied in
    let edited = rw c.in-Some.is at c.in_ok-more.ensures in
    let count = are.count in
    let inside : vertex - first < length (rows_of page) = (let count = c.count.ensures.rows in let test = c.loop-vertex-test.true in omega arith) in
    few_more groups.edits next.part (next.rows ++ take place (rows_of lists)) edited.after c.loop-vertex.counts c.in-Some.more (first + place) its.shard its.own (made next.rows lists first place next.start (omega arith)) (omega arith)
    (are.begun next.part next.rows next.homes its next.start next.begun).done
    (merged_of_page groups next.part page first place (edits_of groups vertex) edited.after c.in-Some.more c.requires.vertices its inside (ap (edits_of groups) here) (λ u n q from same. edited.merged u n q from (are.rows place (omega arith) ∙ same)))

pub plus-counts-requires-clause-added : goal.plus-counts-requires-clause-added
plus-counts-requires-clause-added c = (few c).0

pub plus-counts-requires-clause-removed : goal.plus-counts-requires-clause-removed
plus-counts-requires-clause-removed c = (few c).1

pub loop-vertex-preserved : goal.loop-vertex-preserved
loop-vertex-preserved c =
    let groups = c.args.groups.now in
    let page = c.args.page.now in
    let first = c.args.first in
    let vertex = c.loop-vertex.vertex in
    let place = vertex - first in
    let low = c.loop-vertex.invariant.low in
    let here : vertex ≡ first + (vertex - first) = omega arith in
    let lists = c.loop-vertex.lists in
    let new = c.edit_vertex.new.lists in
    let more = c.in-Some.more in
    let are = c.loop-vertex.invariant.copied in
    let edited = rw c.in-Some.is at c.in_ok-more.ensures in
    let inside : vertex - first < length (rows_of page) = (let count = c.count.ensures.rows in let test = c.loop-vertex-test.true in omega arith) in
    let next = c.next_filled-vertex-in-loop-vertex.ensures in
    let after = next.after in
    let step : (vertex - first) + 1 ≡ (vertex + 1) - first = omega arith in
    record {
      low = omega arith;
      high = next.within;
      copied = left_until groups first page c.args.counts (vertex + 1) (first + c.count.result) c.next_filled-vertex-in-loop-vertex.result new c.plus-counts.result c.requires.vertices (omega arith) (ap (λ n. first + n) c.count.ensures.rows) next
          (subst (λ n. AreCopied groups.edits first page c.args.counts n new c.plus-counts.result) step
          (subst (AreCopied groups.edits first page c.args.counts (place + 1) new) (sym c.plus-counts.ensures)
          (one_changed groups.edits first page c.args.counts place lists new c.loop-vertex.counts more edited.after edited.to inside are edited.replaced edited.moved
          (λ p its. merged_of_page groups p page first place (edits_of groups vertex) edited.after more c.requires.vertices its inside (ap (edits_of groups) here) (λ u n q from same. edited.merged u n q from (are.rows place (omega arith) ∙ same))))));
    }

pub returns : goal.returns
returns c =
    let low = c.loop-vertex.invariant.low in
    let high = c.loop-vertex.invariant.high in
    let past = c.loop-vertex-test.false in
    let count = c.count.ensures.rows in
    all_changed c.args.groups.now.edits c.args.first c.args.page.now c.args.counts (c.loop-vertex.vertex - c.args.first) c.loop-vertex.lists c.loop-vertex.counts (omega arith) c.loop-vertex.invariant.copied

use Rattle.std.proofs.Common.{◌≡◌, ℕ, ◌+◌, ◌<◌, ◌++◌, List, [], length, get_or, sym, ap, subst, subst₂, ◌∙◌, length-append, append-nil, ◌^◌, arith}
use Rattle.std.proofs.lemmas.List.{length_push}
use Rattle.past_model.specs.declared.home.Home.TheVariants.{Block}
use Rattle.shards.specs.Begun.{AreBegun}
use Rattle.shards.specs.Lists.{rows_of, homes_of}
use Rattle.shards.proofs.BegunLemmas.{behind, vertex_of_page}
use Rattle.shards.proofs.rebuilt_page.rebuilt_page.Goals as goal
use Rattle.shards.proofs.rebuilt_page.rebuilt_page.Goals.{In_ok-more}

pub loop-place-init : goal.loop-place-init
loop-place-init c = record {
  kept = c.clear.ensures.kept;
  count = ap length c.clear.ensures.rows;
  begun = λ p rows homes its start begun.
      subst₂ (λ l h. AreBegun c.args.groups.now.edits p l h c.args.counts)
      (sym (ap (λ l. rows ++ l) c.clear.ensures.rows ∙ append-nil rows)) (sym (ap (λ h. homes ++ h) c.clear.ensures.homes ∙ append-nil homes)) begun;
}

-- so many lists are made
made : (rows done : List (List ℕ)) (first place : ℕ) → length rows ≡ first → length done ≡ place → length (rows ++ done) ≡ first + place
made rows done first place start count = length-append rows done ∙ omega (arith, start, count)

pub put_vertex-requires-clause-its : goal.put_vertex-requires-clause-its
put_vertex-requires-clause-its c =
    let inside : c.loop-place.place < length (rows_of c.args.page.now) = (let count = c.count-place-end.ensures.rows in let test = c.loop-place-test.true in omega arith) in
    record { part = c.requires.next.part; its = vertex_of_page c.args.groups.now.edits c.requires.next.part c.args.first c.loop-place.place c.args.page.now c.requires.next.its inside }

-- the counts fit
few : (c : In_ok-more) → (c.loop-place.counts.added + c.in_ok-more.more.added < 2 ^ 64) × (c.loop-place.counts.removed + c.in_ok-more.more.removed < 2 ^ 64)
few c =
    let place = c.loop-place.place in
    let next = c.requires.next in
    let lists = c.loop-place.scratch.lists in
    let inside : place < length (rows_of c.args.page.now) = (let count = c.count-place-end.ensures.rows in let test = c.loop-place-test.true in omega arith) in
    c.in_ok-more.ensures.few next.part (next.rows ++ rows_of lists) (next.homes ++ homes_of lists) c.loop-place.counts (vertex_of_page c.args.groups.now.edits next.part c.args.first place c.args.page.now next.its inside) (made next.rows (rows_of lists) c.args.first place next.start c.loop-place.invariant.count)
    (c.loop-place.invariant.begun next.part next.rows next.homes next.its next.start next.begun)

pub plus-counts-requires-clause-added : goal.plus-counts-requires-clause-added
plus-counts-requires-clause-added c = (few c).0

pub plus-counts-requires-clause-removed : goal.plus-counts-requires-clause-removed
plus-counts-requires-clause-removed c = (few c).1

pub loop-place-preserved : goal.loop-place-preserved
loop-place-preserved c =
    let groups = c.args.groups.now in
    let place = c.loop-place.place in
    let lists = c.loop-place.scratch.lists in
    let new = c.put_vertex.new.scratch.lists in
    let more = c.in_ok-more.more in
    let put = c.in_ok-more.ensures in
    let pushed = put.pushed in
    let inside : place < length (rows_of c.args.page.now) = (let count = c.count-place-end.ensures.rows in let test = c.loop-place-test.true in omega arith) in
    record {
      kept = pushed.kept;
      count = ap length pushed.rows ∙ length_push (rows_of lists) put.after ∙ ap (λ n. n + 1) c.loop-place.invariant.count;
      begun = λ p rows homes its start begun.
          subst (AreBegun groups.edits p (rows ++ rows_of new) (homes ++ homes_of new)) (sym c.plus-counts.ensures)
          (subst₂ (λ l h. AreBegun groups.edits p l h record { added = c.loop-place.counts.added + more.added; removed = c.loop-place.counts.removed + more.removed })
          (sym (ap (λ l. rows ++ l) pushed.rows ∙ behind rows (rows_of lists) put.after)) (sym (ap (λ h. homes ++ h) pushed.homes ∙ behind homes (homes_of lists) put.to))
          (put.begun p (rows ++ rows_of lists) (homes ++ homes_of lists) c.loop-place.counts (vertex_of_page groups.edits p c.args.first place c.args.page.now its inside) (made rows (rows_of lists) c.args.first place start c.loop-place.invariant.count)
          (c.loop-place.invariant.begun p rows homes its start begun)));
    }

pub returns-clause-begun : goal.returns-clause-begun
returns-clause-begun c =
    let same = c.in_ok-next.ensures in
    λ p rows homes its start begun.
    subst₂ (λ l h. AreBegun c.args.groups.now.edits p (rows ++ l) (homes ++ h) c.loop-place.counts) (sym same.rows) (sym same.homes) (c.loop-place.invariant.begun p rows homes its start begun)

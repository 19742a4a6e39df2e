use Rattle.std.proofs.Common.{◌≡◌, [], length, get_or, sym, subst, ◌∙◌, arith}
use Rattle.shards.specs.Lists.{rows_of}
use Rattle.shards.specs.Merge.{AreEditsFrom, IsMerged}
use Rattle.shards.proofs.ListLemmas.{whole_lent}
use Rattle.shards.proofs.WordLemmas.{merged_same}
use Rattle.shards.proofs.edited.edited_list.Goals as goal

pub returns-then-slice-degree : goal.returns-then-slice-degree
returns-then-slice-degree c =
    λ u n p own is.
    let row = get_or (rows_of c.args.lists.now) c.args.vertex [] in
    let same = c.in_ok-sort_by_target.ensures.same u n own in
    let long : length c.lent_at-slice.result.now ≡ length row = (let degree = c.degree.ensures.value in let test = c.if-slice-degree.true in omega arith) in
    let sorted = c.in_ok-counts.ensures u n p (subst (AreEditsFrom u n) (sym c.deref.ensures.value) same.own) (whole_lent row c.lent_at-slice.result.now c.lent_at-slice.ensures long ∙ is) in
    merged_same c.args.edits.now.items c.sort_by_target.new.edits.items u n p c.merge.new.merged c.in_ok-counts.counts same (subst (λ l. IsMerged l u n p c.merge.new.merged c.in_ok-counts.counts) c.deref.ensures.value sorted)

pub returns : goal.returns
returns c =
    λ u n p own is.
    let same = c.in_ok-sort_by_target.ensures.same u n own in
    let sorted = c.in_ok-counts-2.ensures u n p (subst (AreEditsFrom u n) (sym c.deref-3.ensures.value) same.own) (c.deref-2.ensures.value ∙ c.in_ok-read.ensures ∙ is) in
    merged_same c.args.edits.now.items c.sort_by_target.new.edits.items u n p c.merge-2.new.merged c.in_ok-counts-2.counts same (subst (λ l. IsMerged l u n p c.merge-2.new.merged c.in_ok-counts-2.counts) c.deref-3.ensures.value sorted)

use Rattle.std.proofs.Common.{◌≡◌, ◌/◌, ◌<◌, [], ◌∷◌, ◌++◌, length, take, get_or, set, sym, ap, subst, subst₂, ◌∙◌, arith}
use Rattle.std.proofs.lemmas.List.{length-map, take_all, take_more}
use Rattle.std.proofs.lemmas.List.Elements.{All-get_or, All-from_recursion}
use Rattle.past_model.specs.declared.edit.Edit.TheVariants.{Insert}
use Rattle.store_model.specs.Core.{range_of}
use Rattle.stream_core.specs.Work.{lists_of}
use Rattle.stream_core.proofs.LeftLemmas.{AreListed, none_listed, listed_more, all_listed, read_left}
use Rattle.stream_core.proofs.held.edits_by_range.Goals as goal

pub loop-edit-init : goal.loop-edit-init
loop-edit-init c = none_listed c.args.count (lists_of c.in_ok-lists.lists.items) c.in_ok-lists.ensures

pub index_mut-requires : goal.index_mut-requires
index_mut-requires c =
    let es = c.args.edits.now in
    let below = All-from_recursion (λ e. range_of e < c.args.count) es c.requires in
    let inside : range_of (get_or es c.loop-edit.edit-index (Insert 0 0)) < c.args.count = All-get_or (λ e. range_of e < c.args.count) es c.loop-edit.edit-index (Insert 0 0) c.loop-edit-test.true below in
    let count = c.loop-edit.invariant.count_is in
    let same = length-map c.loop-edit.lists.items (λ v. v.items) in
    let long = c.loop-edit.lists.ok.0 in
    let source = c.source-range.ensures in
    omega (arith, inside, count, same, long, source)

pub loop-edit-preserved : goal.loop-edit-preserved
loop-edit-preserved c =
    let es = c.args.edits.now in
    let i = c.loop-edit.edit-index in
    let e = get_or es i (Insert 0 0) in
    let vectors = c.loop-edit.lists.items in
    let below = All-from_recursion (λ e. range_of e < c.args.count) es c.requires in
    let inside : range_of e < c.args.count = All-get_or (λ e. range_of e < c.args.count) es i (Insert 0 0) c.loop-edit-test.true below in
    let count = c.loop-edit.invariant.count_is in
    let same = length-map vectors (λ v. v.items) in
    let place : c.source-range.result / 256 ≡ range_of e = ap (λ u. u / 256) c.source-range.ensures in
    let read = read_left vectors (c.source-range.result / 256) c.index_mut.result.now (omega (arith, inside, count, same, place)) c.index_mut.ensures.value in
    let put : c.push.new.self.items ≡ get_or (lists_of vectors) (range_of e) [] ++ e ∷ [] =
    c.in_ok-push.ensures.items ∙ ap (λ l. l ++ e ∷ []) read ∙ ap (λ k. get_or (lists_of vectors) k [] ++ e ∷ []) place in
    subst₂ (λ k l. AreListed l c.args.count (lists_of (set vectors k c.push.new.self))) (sym place) (sym (take_more es i (Insert 0 0) c.loop-edit-test.true))
    (listed_more (take i es) c.args.count vectors e c.push.new.self inside c.loop-edit.invariant put)

pub returns : goal.returns
returns c =
    let es = c.args.edits.now in
    let lists = lists_of c.loop-edit.lists.items in
    all_listed es c.args.count lists c.requires (subst (λ l. AreListed l c.args.count lists) (take_all c.loop-edit.edit-index es c.loop-edit-test.false) c.loop-edit.invariant)

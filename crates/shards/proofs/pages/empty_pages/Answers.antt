use Rattle.std.proofs.Common.{◌≡◌, ◌+◌, ◌-◌, ◌*◌, ◌/◌, ◌%◌, ◌<◌, [], min, replicate, sym, ap, subst, ◌∙◌, arith}
use Rattle.past_model.specs.declared.home.Home.TheVariants.{Block}
use Rattle.shards.specs.Lists.{rows_of, homes_of, AreKept}
use Rattle.shards.proofs.PageLemmas.{AreEmpty, none_empty, one_empty, all_empty}
use Rattle.shards.proofs.pages.empty_pages.Goals as goal

pub loop-number-init : goal.loop-number-init
loop-number-init c = none_empty c.from-vertices.result c.in_ok-pages.pages.items c.in_ok-pages.ensures.items

pub loop-number-preserved : goal.loop-number-preserved
loop-number-preserved c =
    let n = c.from-vertices.result in
    let number = c.loop-number.number in
    let page = c.in_ok-new.field-0 in
    let made = c.in_ok-new.ensures.ok in
    let some : 64 * number < n = (let test = c.loop-number-test.true in let count = c.div_ceil-count.ensures in omega arith) in
    let size : c.min.result ≡ min 64 (n - 64 * number) = (let is = c.min.ensures in omega arith) in
    subst (AreEmpty n (number + 1)) (sym c.in_ok-push.ensures.items)
    (one_empty n number c.loop-number.pages.items page some c.loop-number.invariant (subst AreKept (sym made) c.empty-page.ensures.kept)
    (ap rows_of made ∙ c.empty-page.ensures.rows ∙ ap (λ k. replicate k []) size)
    (ap homes_of made ∙ c.empty-page.ensures.homes ∙ ap (λ k. replicate k Block) size))

pub returns : goal.returns
returns c =
    let n = c.from-vertices.result in
    let same : n ≡ c.args.vertices = c.from-vertices.ensures in
    let past = c.loop-number-test.false in
    let ended = c.loop-number.auto.number-end in
    let all = all_empty n c.loop-number.number c.div_ceil-count.result c.loop-number.pages.items c.div_ceil-count.ensures (omega arith) c.loop-number.invariant in
    record {
      pages = all.0;
      rows = all.1 ∙ ap (λ k. replicate k []) same;
      homes = all.2 ∙ ap (λ k. replicate k Block) same;
    }

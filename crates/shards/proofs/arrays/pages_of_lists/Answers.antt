use Rattle.std.proofs.Common.{◌≡◌, ℕ, ◌+◌, ◌-◌, ◌*◌, ◌/◌, ◌%◌, ◌<◌, List, min, sym, ap, subst, ◌∙◌, arith}
use Rattle.shards.specs.Arrays.{rows_from, homes_from}
use Rattle.shards.specs.Lists.{rows_of, homes_of, AreKept}
use Rattle.shards.specs.Pages.{rows_in, homes_in, ArePages}
use Rattle.shards.proofs.ArrayLemmas.{AreFrom, none_from, page_more, all_from}
use Rattle.shards.proofs.SizeLemmas.{before_end}
use Rattle.shards.proofs.arrays.pages_of_lists.Goals as goal

pub loop-number-init : goal.loop-number-init
loop-number-init c = none_from c.args.lists.starts.now c.args.lists.targets.now c.args.first c.from-width.result c.args.vertices c.in_ok-pages.pages.items c.in_ok-pages.ensures.items

pub loop-number-preserved : goal.loop-number-preserved
loop-number-preserved c =
    let starts : List ℕ = c.args.lists.starts.now in
    let targets : List ℕ = c.args.lists.targets.now in
    let first : ℕ = c.args.first in
    let n : ℕ = c.args.vertices in
    let w : ℕ = c.from-width.result in
    let number : ℕ = c.loop-number.number in
    let page = c.in_ok-new.field-0 in
    let made = c.in_ok-new.ensures.ok in
    let some : w * number < n = before_end w number n c.div_ceil-count.result (omega arith) c.div_ceil-count.ensures c.loop-number-test.true in
    let size : c.min-own.result ≡ min w (n - w * number) = (let is = c.min-own.ensures in omega arith) in
    subst (AreFrom starts targets first w n (number + 1)) (sym c.in_ok-push.ensures.items)
    (page_more starts targets first w n number c.loop-number.pages.items page some c.loop-number.invariant (subst AreKept (sym made) c.in_ok-made.ensures.kept)
    (ap rows_of made ∙ c.in_ok-made.ensures.rows ∙ ap (rows_from starts targets (first + w * number)) size)
    (ap homes_of made ∙ c.in_ok-made.ensures.homes ∙ ap (homes_from starts targets (first + w * number)) size))

use Rattle.std.proofs.Common.{◌≡◌, ◌+◌, ◌*◌, ◌/◌, ◌%◌, ◌<◌, [], length, get_or, sym, ap, subst, ◌∙◌, rules}
use Rattle.std.specs.Arc.{arc_value}
use Rattle.std.proofs.Math.Nat.{div-add-mod}
use Rattle.past_model.specs.declared.home.Home.TheVariants.{Block}
use Rattle.shards.specs.Lists.{AreKept, rows_of, homes_of}
use Rattle.shards.specs.Pages.{rows_in, homes_in}
use Rattle.shards.proofs.PageLemmas.{page_there, place_there, page_kept, row_in_page, home_in_page}
use Rattle.shards.proofs.pages.page_of.Goals as goal
use Rattle.shards.proofs.pages.page_of.Goals.{After-deref}

pub bounds-pages-number : goal.bounds-pages-number
bounds-pages-number c = subst (λ n. n < length c.args.pages.now) (sym c.page_of-number.ensures) (page_there c.args.size.vertices c.args.pages.now c.args.vertex c.requires.pages c.requires.inside)

pub offset_bounds-pages-number : goal.offset_bounds-pages-number
offset_bounds-pages-number c =
    let inside : c.page_of-number.result < length c.args.pages.now = subst (λ n. n < length c.args.pages.now) (sym c.page_of-number.ensures) (page_there c.args.size.vertices c.args.pages.now c.args.vertex c.requires.pages c.requires.inside) in
    search (rules, inside)

-- the page that is found
found : (c : After-deref) → c.deref.result.now ≡ arc_value (get_or c.args.pages.now (c.args.vertex / c.args.size.vertices) c.index-pages-number.result)
found c = c.deref.ensures ∙ ap arc_value (c.index-pages-number.is ∙ ap (λ n. get_or c.args.pages.now n c.index-pages-number.result) c.page_of-number.ensures)

pub returns-clause-kept : goal.returns-clause-kept
returns-clause-kept c =
    let w = c.args.size.vertices in
    let pages = c.args.pages.now in
    let v = c.args.vertex in
    subst AreKept (sym (found c)) (page_kept pages (v / w) c.index-pages-number.result c.requires.pages.kept (page_there w pages v c.requires.pages c.requires.inside))

pub returns-clause-inside : goal.returns-clause-inside
returns-clause-inside c =
    let w = c.args.size.vertices in
    subst (λ l. c.args.vertex % w < length (rows_of l)) (sym (found c)) (place_there w c.args.pages.now c.args.vertex c.index-pages-number.result c.args.size.some c.requires.pages c.requires.inside)

pub returns-clause-row : goal.returns-clause-row
returns-clause-row c =
    let w = c.args.size.vertices in
    let pages = c.args.pages.now in
    let v = c.args.vertex in
    let page = c.index-pages-number.result in
    ap (λ l. get_or (rows_of l) (v % w) []) (found c)
    ∙ sym (row_in_page w pages (v / w) (v % w) page c.requires.pages (page_there w pages v c.requires.pages c.requires.inside) (place_there w pages v page c.args.size.some c.requires.pages c.requires.inside))
    ∙ ap (λ k. get_or (rows_in pages) k []) (div-add-mod v w)

pub returns-clause-home : goal.returns-clause-home
returns-clause-home c =
    let w = c.args.size.vertices in
    let pages = c.args.pages.now in
    let v = c.args.vertex in
    let page = c.index-pages-number.result in
    ap (λ l. get_or (homes_of l) (v % w) Block) (found c)
    ∙ sym (home_in_page w pages (v / w) (v % w) page c.requires.pages (page_there w pages v c.requires.pages c.requires.inside) (place_there w pages v page c.args.size.some c.requires.pages c.requires.inside))
    ∙ ap (λ k. get_or (homes_in pages) k Block) (div-add-mod v w)

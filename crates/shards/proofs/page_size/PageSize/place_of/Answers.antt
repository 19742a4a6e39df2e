use Rattle.std.proofs.Common.{◌≡◌, ◌-◌, ◌%◌, bit_and, sym, subst}
use Rattle.std.proofs.lemmas.Nat.{and_mask}
use Rattle.shards.proofs.page_size.PageSize.place_of.Goals as goal

pub returns : goal.returns
returns c =
    let vertex = c.args.vertex in
    let size = c.args.self in
    subst (λ n. bit_and vertex (n - 1) ≡ vertex % size.vertices) (sym c.from.ensures)
    (subst (λ w. bit_and vertex (w - 1) ≡ vertex % w) (sym size.is) (and_mask vertex size.power))

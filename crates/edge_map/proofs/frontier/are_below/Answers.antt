use Rattle.std.proofs.Common.{◌≡◌, ◌+◌, length, arith}
use Rattle.std.proofs.lemmas.Bool.{ltb-true, lt-ltb}
use Rattle.edge_map.proofs.Frontiers.{below_the_last, last_below}
use Rattle.edge_map.proofs.frontier.are_below.Goals as goal

pub returns : goal.returns
returns c =
    let f = c.args.frontier.now in
    let n = c.args.vertices in
    let last = c.in-Some.last in
    let some = c.in-Some.ensures in
    let end : last + 1 ≡ length f = omega arith in (
      λ t. below_the_last n f last c.requires end (ltb-true _ n t),
      λ all. lt-ltb _ n (last_below n f last end all),
    )

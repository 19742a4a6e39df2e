use Rattle.std.proofs.Common.{[], drop, sym, ap, ◌∙◌, arith}
use Rattle.std.proofs.lemmas.List.{drop_all}
use Rattle.graph_model.proofs.Neighbours.{neighbours-outside}
use Rattle.cursors.proofs.cursor.Cursor.from_place.Goals as goal

pub returns-in-None-clause-left : goal.returns-in-None-clause-left
returns-in-None-clause-left c =
    λ g table. c.of_none.ensures ∙ sym (ap (drop c.args.first) (neighbours-outside g c.args.vertex (c.in-None.ensures.list g table)) ∙ drop_all c.args.first [] (omega arith))

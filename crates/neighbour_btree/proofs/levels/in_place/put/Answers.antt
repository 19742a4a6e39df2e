use Rattle.std.proofs.Common.{◌∙◌, sym, ap}
use Rattle.neighbour_btree.specs.Lists.{replacement}
use Rattle.neighbour_btree.proofs.Below.{set_one, set_two}
use Rattle.neighbour_btree.proofs.levels.in_place.put.Goals as goal

pub returns-in-None-clause-ok : goal.returns-in-None-clause-ok
returns-in-None-clause-ok g c =
    set_one c.args.children.now.items c.args.at c.args.first c.requires.within ∙ ap (λ o. replacement c.args.children.now.items c.args.at 1 c.args.first o) (sym c.in-None.is)

pub returns-in_ok-insert-in-Some-clause-ok : goal.returns-in_ok-insert-in-Some-clause-ok
returns-in_ok-insert-in-Some-clause-ok g c =
    set_two c.args.children.now.items c.insert.new.self.items c.args.at c.args.first c.in-Some.second c.requires.within c.in_ok-insert-in-Some.ensures.items ∙ ap (λ o. replacement c.args.children.now.items c.args.at 1 c.args.first o) (sym c.in-Some.is)

-- Lists that several owners share.
use Rattle.std.specs.Prelude.{List, Vec}
use Rattle.std.specs.declared.sync.Arc.{Arc}
use Rattle.std.specs.declared.alloc.Global.{Global}
use Rattle.std.specs.Arc.{arc_value}

-- the items of a shared list
abbrev pub items_of : {X : Type 0} → Arc (Vec X Global) Global → List X
items_of {X = X} a = let list : Vec X Global = arc_value a in list.items

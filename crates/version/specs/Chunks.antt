-- Lists in chunks.
use Rattle.std.specs.Prelude.{List, ◌++◌, Vec}
use Rattle.std.specs.List.{flat_map}
use Rattle.std.specs.declared.sync.Arc.{Arc}
use Rattle.std.specs.declared.alloc.Global.{Global}
use Rattle.std.specs.Arc.{arc_value}

-- the items in a shared chunk
abbrev pub items_in : {X : Type 0} → Arc (Vec X Global) Global → List X
items_in {X = X} chunk = let items : Vec X Global = arc_value chunk in items.items

-- those of the full chunks, and then those after them
abbrev pub items_of : {X : Type 0} → List (Arc (Vec X Global) Global) → List X → List X
items_of full last = flat_map items_in full ++ last

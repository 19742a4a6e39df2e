use Rattle.std.proofs.Common.{◌≡◌, [], ◌++◌, ◌-◌, drop, length, get_or}
use Rattle.shards.specs.Lists.{rows_of}
use Rattle.shards.proofs.lists.Lists.read.Given as goal

abbrev pub invariant-loop-words : goal.invariant-loop-words
invariant-loop-words l = let row = get_or (rows_of l.self) l.vertex [] in l.words.items ++ drop (length l.words.items) row ≡ row

abbrev pub decreases-loop-words : goal.decreases-loop-words
decreases-loop-words l = length (get_or (rows_of l.self) l.vertex []) - length l.words.items

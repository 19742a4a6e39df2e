use Rattle.std.proofs.Common.{◌≡◌, ◌++◌, ◌-◌, drop, length}
use Rattle.shards.proofs.lists.Lists.push_words_of.Given as goal

abbrev pub invariant-loop-words : goal.invariant-loop-words
invariant-loop-words l = l.words.items ++ drop (length l.words.items) l.tree ≡ l.tree

abbrev pub decreases-loop-words : goal.decreases-loop-words
decreases-loop-words l = length l.tree - length l.words.items

use Rattle.std.proofs.Common.{◌≡◌, ◌++◌, take}
use Rattle.shards.proofs.buffer.Buffer.extend.Given as goal

abbrev pub invariant-loop-word : goal.invariant-loop-word
invariant-loop-word l = l.self ≡ l.initial.self ++ take l.word-index l.words

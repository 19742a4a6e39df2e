use Rattle.std.proofs.Common.{rules}
use Rattle.shards.proofs.NearbyLemmas.{missed_nearby}
use Rattle.shards.proofs.nearby.place_nearby.Goals as goal

pub returns-then-words-place-2-clause-position : goal.returns-then-words-place-2-clause-position
returns-then-words-place-2-clause-position c = missed_nearby c.args.words.now c.args.word c.loop-place.place c.loop-place.invariant (search rules) (search rules)

use Rattle.std.proofs.Common.{arith}
use Rattle.shards.proofs.short_blocks.shift.Goals as goal

pub returns : goal.returns
returns c = record {
  count = c.loop-place.invariant.count;
  before = c.loop-place.invariant.before;
  after = λ k low high. c.loop-place.invariant.done k low (omega arith);
}

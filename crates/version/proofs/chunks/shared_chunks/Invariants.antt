use Rattle.std.proofs.Common.{◌≡◌, take, flat_map}
use Rattle.version.specs.Chunks.{items_in}
use Rattle.version.proofs.chunks.shared_chunks.Given as goal

abbrev pub invariant-loop-chunk : goal.invariant-loop-chunk
invariant-loop-chunk T l = flat_map items_in l.copy.items ≡ flat_map items_in (take l.chunk-index l.chunks)

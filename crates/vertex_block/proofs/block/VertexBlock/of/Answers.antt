use Rattle.vertex_block.proofs.Blocks.{filled}
use Rattle.vertex_block.proofs.block.VertexBlock.of.Goals as goal

pub invariant_of-result : goal.invariant_of-result
invariant_of-result c = filled c.args.words.now c.copy_from_slice.new.self c.copy_from_slice.ensures.after c.requires.fits c.requires.set

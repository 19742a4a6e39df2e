use Rattle.std.proofs.Common.{◌∙◌, arith}
use Rattle.script.proofs.EdgeBlocks.{block_lines, block_some, block_none}
use Rattle.script.proofs.listed.EdgeLines.put_block.Goals as goal

pub returns-clause-text : goal.returns-clause-text
returns-clause-text c =
    block_lines c.args.self.now c.self.inside.edges c.as_slice-block.result.now c.next_block.new.self 4096 c.args.text.now.items c.put_edges.new.text.items c.self.view_is (c.as_slice-block.ensures.value ∙ c.in_ok-next_block.ensures.block) c.in_ok-next_block.ensures.left c.in_ok-put_edges.ensures

pub returns-clause-some : goal.returns-clause-some
returns-clause-some c =
    block_some c.args.self.now c.self.inside.edges c.as_slice-block.result.now c.next_block.new.self 4096 c.is_empty.result c.self.view_is (c.as_slice-block.ensures.value ∙ c.in_ok-next_block.ensures.block) c.in_ok-next_block.ensures.left c.is_empty.ensures

pub returns-clause-none : goal.returns-clause-none
returns-clause-none c =
    block_none c.args.self.now c.self.inside.edges c.as_slice-block.result.now 4096 c.is_empty.result (omega arith) c.self.view_is (c.as_slice-block.ensures.value ∙ c.in_ok-next_block.ensures.block) c.is_empty.ensures

use Rattle.std.proofs.Common.{arith}
use Rattle.shards.proofs.ListLemmas.{few_words}
use Rattle.shards.proofs.lists.Lists.degree.Goals as goal

pub overflow_cast-result-in-InBlock : goal.overflow_cast-result-in-InBlock
overflow_cast-result-in-InBlock c = omega (arith, few_words c.block.result.now c.block.ensures.set)

pub overflow_cast-result-in-InArray : goal.overflow_cast-result-in-InArray
overflow_cast-result-in-InArray c = omega (arith, few_words c.run.result.now c.run.ensures.set)

pub returns-in-InBlock-clause-small : goal.returns-in-InBlock-clause-small
returns-in-InBlock-clause-small c = few_words c.block.result.now c.block.ensures.set

pub returns-in-InArray-clause-small : goal.returns-in-InArray-clause-small
returns-in-InArray-clause-small c = few_words c.run.result.now c.run.ensures.set

pub returns-in-InTree-clause-small : goal.returns-in-InTree-clause-small
returns-in-InTree-clause-small c = omega (arith, c.len.ensures.len, few_words c.tree.result.now c.len.ensures.set)

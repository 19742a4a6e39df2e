use Rattle.answers.proofs.Orders.{numbers}
use Rattle.answers.proofs.laws.numbers_are_cores.Goals as goal

pub returns : goal.returns
returns c = numbers

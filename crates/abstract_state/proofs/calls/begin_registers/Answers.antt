use Rattle.std.proofs.Common.{rules}
use Rattle.std.specs.Prelude.{pos}
use Rattle.abstract_values.specs.declared.value.AbstractValue.TheVariants.{Stack}
use Rattle.abstract_state.proofs.Registers.{begun}
use Rattle.abstract_state.proofs.calls.begin_registers.Goals as goal

pub returns : goal.returns
returns c = begun c.args.registers.now (Stack c.args.frame (pos 0)) (search rules)

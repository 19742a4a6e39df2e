use Rattle.std.proofs.Common.{rules, get_or}
use Rattle.std.specs.Prelude.{pos}
use Rattle.abstract_values.specs.declared.value.AbstractValue.TheVariants.{Unset, Stack}
use Rattle.abstract_state.proofs.Registers.{ended}
use Rattle.abstract_state.proofs.calls.end_registers.Goals as goal

pub returns : goal.returns
returns c =
    ended c.args.registers.now (get_or c.args.kept 0 Unset) (get_or c.args.kept 1 Unset) (get_or c.args.kept 2 Unset) (get_or c.args.kept 3 Unset) (Stack c.args.frame (pos 0)) (search rules)

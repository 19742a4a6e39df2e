-- How the code's answers are read as ways.
use Rattle.std.specs.Prelude.{ℕ, ◌+◌, [], ◌∷◌, Result, Ok, Err}
use Rattle.bpf_isa.specs.declared.instruction.Instruction.{Instruction}
use Rattle.bpf_isa.specs.declared.instruction.Instruction.TheVariants.{Jump, Branch}
use Rattle.bpf_isa.specs.Encoding.{units_of}
use Rattle.bpf_model.specs.Step.{units_over}
use Rattle.bpf_model.specs.declared.cause.Cause.{Cause}
use Rattle.abstract_values.specs.declared.branch.Sides.{Sides}
use Rattle.abstract_state.specs.States.{AbstractState}
use Rattle.verifier.specs.declared.rules.onward.Onward.{Onward}
use Rattle.verifier.specs.declared.rules.onward.Onward.TheVariants.{Ends, Next, Jumps, Splits, Calls}
use Rattle.verifier.specs.Rules.{Ways, onward, target, branch_ways}

-- the ways onward from a pc after a write or a store
abbrev pub write_answer : ℕ → Result (Unit {0}) Cause → AbstractState → Result Ways Cause
write_answer pc (Ok done) s = Ok (onward pc s)
write_answer pc (Err cause) s = Err cause

-- where a jump at a pc goes
abbrev pub jump_ways : ℕ → Instruction → AbstractState → Ways
jump_ways pc (Jump distance) s = (target pc (units_over distance), s) ∷ []
jump_ways pc _ s = []

abbrev pub split_ways : ℕ → Instruction → Sides → AbstractState → Ways
split_ways pc (Branch width comparison left right distance) sides s = branch_ways pc distance s left right sides
split_ways pc _ sides s = []

-- the ways onward from an instruction at a pc, with the state that is left
abbrev pub ways_onward : ℕ → Instruction → Onward → AbstractState → Ways
ways_onward pc i Ends s = []
ways_onward pc i Next s = onward (pc + units_of i) s
ways_onward pc i Jumps s = jump_ways pc i s
ways_onward pc i (Splits sides) s = split_ways pc i sides s
ways_onward pc i Calls s = []

abbrev pub answer_ways : ℕ → Instruction → Result Onward Cause → AbstractState → Result Ways Cause
answer_ways pc i (Ok answer) s = Ok (ways_onward pc i answer s)
answer_ways pc i (Err cause) s = Err cause

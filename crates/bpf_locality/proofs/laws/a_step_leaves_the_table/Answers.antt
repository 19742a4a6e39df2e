use Rattle.bpf_locality.proofs.Written.{step_leaves}
use Rattle.bpf_locality.proofs.laws.a_step_leaves_the_table.Goals as goal

pub returns : goal.returns
returns c = step_leaves

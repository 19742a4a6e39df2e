use Rattle.bpf_locality.proofs.Tables.{run_has}
use Rattle.bpf_locality.proofs.laws.a_run_has_its_table.Goals as goal

pub returns : goal.returns
returns c = run_has

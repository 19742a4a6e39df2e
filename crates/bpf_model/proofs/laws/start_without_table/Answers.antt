use Rattle.bpf_model.proofs.Runs.{plain_of_start}
use Rattle.bpf_model.proofs.laws.start_without_table.Goals as goal

pub returns : goal.returns
returns c = plain_of_start

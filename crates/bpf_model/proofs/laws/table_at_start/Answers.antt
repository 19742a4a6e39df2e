use Rattle.std.proofs.Common.{refl}
use Rattle.bpf_model.proofs.Runs.{table_of_start}
use Rattle.bpf_model.proofs.laws.table_at_start.Goals as goal

pub returns : goal.returns
returns c p bytes short = (table_of_start p bytes short, refl)

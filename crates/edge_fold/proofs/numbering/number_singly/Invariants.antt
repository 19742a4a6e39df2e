use Rattle.std.proofs.Common.{◌≡◌, true}
use Rattle.past_model.specs.Past.{graph_of}
use Rattle.bpf_runs.specs.Held.{HoldsTable}
use Rattle.edge_fold.proofs.Numbers.{IsBegun}
use Rattle.edge_fold.proofs.Written.{IsWritten}
use Rattle.edge_fold.proofs.numbering.number_singly.Given as goal
use Rattle.edge_fold.specs.Inputs.{inputs_of}

abbrev pub invariant-targets : goal.invariant-targets
invariant-targets l = record {
  written : IsWritten l.mapped.program.now (graph_of l.mapped.version.now) (inputs_of l.mapped) l.span.source l.span.place l.span.targets.now l.numbers l.at;
  table : HoldsTable l.mapped.program.now.table l.memory.bytes;
  begun : l.is_begun ≡ true → IsBegun l.span.source l.span.degree l.mapped.argument.now l.memory.bytes;
}

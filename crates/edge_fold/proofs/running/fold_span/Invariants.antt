use Rattle.std.proofs.Common.{◌≡◌, true}
use Rattle.past_model.specs.Past.{graph_of}
use Rattle.bpf_runs.specs.Held.{HoldsTable}
use Rattle.edge_fold.proofs.Numbers.{IsFolded, IsBegun}
use Rattle.edge_fold.proofs.running.fold_span.Given as goal
use Rattle.edge_fold.specs.Inputs.{inputs_of}

abbrev pub invariant-targets : goal.invariant-targets
invariant-targets l = record {
  folded : IsFolded l.reduction l.mapped.program.now (graph_of l.mapped.version.now) (inputs_of l.mapped) l.span.source l.span.place l.span.targets.now l.at l.so_far;
  table : HoldsTable l.mapped.program.now.table l.memory.bytes;
  begun : l.is_begun ≡ true → IsBegun l.span.source l.span.degree l.mapped.argument.now l.memory.bytes;
}

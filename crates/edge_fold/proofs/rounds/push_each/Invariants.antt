use Rattle.std.proofs.Common.{◌≡◌, length, true}
use Rattle.past_model.specs.Past.{graph_of}
use Rattle.bpf_runs.specs.Held.{HoldsTable}
use Rattle.edge_fold.specs.Inputs.{inputs_of}
use Rattle.edge_fold.proofs.Numbers.{IsBegun}
use Rattle.edge_fold.proofs.Pushed.{IsCarried}
use Rattle.edge_fold.proofs.rounds.push_each.Given as goal

abbrev pub invariant-targets : goal.invariant-targets
invariant-targets l = record {
  carried : IsCarried l.reduction l.mapped.program.now (graph_of l.mapped.version.now) (inputs_of l.mapped) l.span.source l.span.place l.span.targets.now l.at l.value l.fn.values l.values;
  long : length l.values ≡ length l.fn.values;
  table : HoldsTable l.mapped.program.now.table l.memory.bytes;
  begun : l.is_begun ≡ true → IsBegun l.span.source l.span.degree l.mapped.argument.now l.memory.bytes;
}

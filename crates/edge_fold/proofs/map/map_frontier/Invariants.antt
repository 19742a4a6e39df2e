use Rattle.std.proofs.Common.{◌≡◌, ◌≤◌, ◌*◌, length, take}
use Rattle.past_model.specs.declared.limits.TheConstants.{MOST_VERTICES}
use Rattle.past_model.specs.Past.{graph_of}
use Rattle.map_model.specs.EdgeMap.{reduction_of_numbers, all_with, rows_with}
use Rattle.verifier.specs.Walks.{longest}
use Rattle.edge_fold.specs.Rows.{reported_rows}
use Rattle.edge_fold.specs.Kept.{AreNumbered, IsFor}
use Rattle.edge_fold.proofs.map.map_frontier.Given as goal
use Rattle.edge_fold.specs.Inputs.{inputs_of}

abbrev pub invariant-loop-source : goal.invariant-loop-source
invariant-loop-source l =
    record { edges : l.out.edges ≡ length (all_with l.mapped.program.now (longest l.mapped.program.now) (graph_of l.mapped.version.now) (inputs_of l.mapped) (take l.source-index l.frontier)); total : l.out.total ≡ reduction_of_numbers l.reduction (all_with l.mapped.program.now (longest l.mapped.program.now) (graph_of l.mapped.version.now) (inputs_of l.mapped) (take l.source-index l.frontier)); rows : l.out.rows.items ≡ reported_rows l.rows (graph_of l.mapped.version.now) (rows_with l.mapped.program.now (longest l.mapped.program.now) (graph_of l.mapped.version.now) l.reduction (inputs_of l.mapped) (take l.source-index l.frontier)); memory : IsFor l.mapped.program.now l.memory; kept : AreNumbered l.mapped.program.now (graph_of l.mapped.version.now) (inputs_of l.mapped) l.memory.kept; few : l.out.edges ≤ l.source-index * MOST_VERTICES }

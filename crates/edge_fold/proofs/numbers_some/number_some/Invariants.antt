use Rattle.std.proofs.Common.{◌≡◌, ◌+◌, ◌-◌, ◌^◌, ◌%◌, ◌<◌, ◌≤◌, false, length}
use Rattle.std.specs.Prelude.{◌⊎◌}
use Rattle.past_model.specs.Past.{graph_of}
use Rattle.map_model.specs.Parts.{IsPlace, IsBefore, numbers_before, cost_before}
use Rattle.verifier.specs.Walks.{longest}
use Rattle.edge_fold.specs.declared.budget.TheConstants.{EDGE_COST, VERTEX_COST}
use Rattle.edge_fold.specs.Kept.{IsFor}
use Rattle.edge_fold.proofs.Listed.{AreListed}
use Rattle.edge_fold.proofs.numbers_some.number_some.Given as goal
use Rattle.edge_fold.specs.Inputs.{inputs_of}

abbrev pub invariant-vertices : goal.invariant-vertices
invariant-vertices l =
    let p = l.mapped.program.now in
    let g = graph_of l.mapped.version.now in
    let a = (inputs_of l.mapped) in
    let f = l.frontier in
    let most = cost_before (longest p + EDGE_COST) VERTEX_COST p (longest p) g a f in
    let least = cost_before EDGE_COST VERTEX_COST p (longest p) g a f in
    record {
      place : IsPlace g f l.progress;
      far : ((l.fn.progress.vertex ≡ l.progress.vertex) × (l.fn.progress.place ≡ l.progress.place)) ⊎ IsBefore l.fn.progress l.progress;
      wrote : 0 < l.written → IsBefore l.fn.progress l.progress;
      used : l.goes_on ≡ false → IsBefore l.fn.progress l.progress × (l.progress.budget ≡ 0);
      listed : AreListed (numbers_before p (longest p) g a f l.fn.progress) (numbers_before p (longest p) g a f l.progress) l.fn.numbers l.numbers l.written;
      edges : l.progress.edges ≡ (l.fn.progress.edges + l.written) % 2 ^ 64;
      total : l.progress.total ≡ l.fn.progress.total;
      cost : l.fn.progress.budget + most l.fn.progress ≤ l.progress.budget + most l.progress;
      falls : l.progress.budget ≤ l.fn.progress.budget + least l.fn.progress - least l.progress;
      memory : IsFor p l.memory;
    }

abbrev pub decreases-vertices : goal.decreases-vertices
decreases-vertices l = length l.frontier - l.progress.vertex

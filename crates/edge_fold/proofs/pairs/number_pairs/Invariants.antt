use Rattle.std.proofs.Common.{◌≡◌, ◌+◌, ◌-◌, ◌*◌, ◌^◌, ◌%◌, ◌<◌, ◌≤◌, false, length}
use Rattle.past_model.specs.Past.{graph_of}
use Rattle.verifier.specs.Walks.{longest}
use Rattle.edge_fold.specs.declared.budget.TheConstants.{EDGE_COST}
use Rattle.edge_fold.specs.Kept.{IsFor}
use Rattle.edge_fold.proofs.PairNumbers.{ArePaired}
use Rattle.edge_fold.proofs.pairs.number_pairs.Given as goal
use Rattle.edge_fold.specs.Inputs.{inputs_of}

abbrev pub invariant-pairs : goal.invariant-pairs
invariant-pairs l =
    let p = l.mapped.program.now in
    record {
      back : l.fn.progress.vertex ≤ l.progress.vertex;
      inside : l.progress.vertex ≤ length l.pairs.sources.now;
      used : l.goes_on ≡ false → (l.fn.progress.vertex < l.progress.vertex) × (l.progress.budget ≡ 0);
      paired : ArePaired p (graph_of l.mapped.version.now) (inputs_of l.mapped) l.pairs.sources.now l.pairs.targets.now l.fn.numbers l.numbers l.fn.progress.vertex l.progress.vertex;
      edges : l.progress.edges ≡ (l.fn.progress.edges + (l.progress.vertex - l.fn.progress.vertex)) % 2 ^ 64;
      total : l.progress.total ≡ l.fn.progress.total;
      place : l.progress.place ≡ l.fn.progress.place;
      cost : l.fn.progress.budget + (longest p + EDGE_COST) * l.fn.progress.vertex ≤ l.progress.budget + (longest p + EDGE_COST) * l.progress.vertex;
      falls : l.progress.budget ≤ l.fn.progress.budget + EDGE_COST * l.fn.progress.vertex - EDGE_COST * l.progress.vertex;
      memory : IsFor p l.memory;
    }

abbrev pub decreases-pairs : goal.decreases-pairs
decreases-pairs l = length l.pairs.sources.now - l.progress.vertex

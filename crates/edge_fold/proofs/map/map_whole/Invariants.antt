use Rattle.std.proofs.Common.{◌≡◌, ◌-◌, ◌≤◌, ◌*◌, length, take}
use Rattle.past_model.specs.declared.limits.TheConstants.{MOST_VERTICES}
use Rattle.past_model.specs.Past.{graph_of}
use Rattle.map_model.specs.EdgeMap.{reduction_of_numbers, all_with}
use Rattle.map_model.specs.Parts.{values_for}
use Rattle.verifier.specs.Walks.{longest}
use Rattle.edge_fold.specs.Kept.{AreNumbered, IsFor}
use Rattle.edge_fold.proofs.map.map_whole.Given as goal
use Rattle.edge_fold.specs.Inputs.{inputs_of}

abbrev pub invariant-vertices : goal.invariant-vertices
invariant-vertices l =
    let p = l.mapped.program.now in
    let g = graph_of l.mapped.version.now in
    let a = (inputs_of l.mapped) in
    let early = take l.at l.frontier in
    record {
      inside : l.at ≤ length l.frontier;
      edges : l.edges ≡ length (all_with p (longest p) g a early);
      total : l.total ≡ reduction_of_numbers l.reduction (all_with p (longest p) g a early);
      values : take l.at l.values ≡ values_for p (longest p) g l.reduction a early;
      long : length l.values ≡ length l.frontier;
      memory : IsFor p l.memory;
      kept : AreNumbered p g a l.memory.kept;
      few : l.edges ≤ l.at * MOST_VERTICES;
    }

abbrev pub decreases-vertices : goal.decreases-vertices
decreases-vertices l = length l.frontier - l.at

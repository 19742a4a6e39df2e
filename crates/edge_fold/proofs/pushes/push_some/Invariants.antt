use Rattle.std.proofs.Common.{◌≡◌, ◌+◌, ◌-◌, ◌≤◌, false, ℕ, List, length}
use Rattle.std.specs.Prelude.{◌⊎◌}
use Rattle.past_model.specs.Past.{graph_of}
use Rattle.map_model.specs.Parts.{IsPlace, IsBefore, cost_before}
use Rattle.map_model.specs.PushParts.{IsPushedSoFar, HasBegunPush}
use Rattle.verifier.specs.Walks.{longest}
use Rattle.edge_fold.specs.declared.budget.TheConstants.{EDGE_COST, VERTEX_COST}
use Rattle.edge_fold.specs.Kept.{AreNumbered, IsFor}
use Rattle.edge_fold.proofs.pushes.push_some.Given as goal
use Rattle.edge_fold.specs.Inputs.{inputs_of}

abbrev pub invariant-vertices : goal.invariant-vertices
invariant-vertices l =
    let p = l.mapped.program.now in
    let g = graph_of l.mapped.version.now in
    let a = (inputs_of l.mapped) in
    let r = l.request.reduction in
    let f = l.request.frontier.now in
    let most = cost_before (longest p + EDGE_COST) VERTEX_COST p (longest p) g a f in
    let least = cost_before EDGE_COST VERTEX_COST p (longest p) g a f in
    record {
      place : IsPlace g f l.progress;
      long : length l.values ≡ length l.fn.values;
      far : ((l.fn.progress.vertex ≡ l.progress.vertex) × (l.fn.progress.place ≡ l.progress.place)) ⊎ IsBefore l.fn.progress l.progress;
      used : l.goes_on ≡ false → IsBefore l.fn.progress l.progress × (l.progress.budget ≡ 0);
      so_far : (first : List ℕ) → HasBegunPush p (longest p) g r a f l.fn.progress first l.fn.values → IsPushedSoFar p (longest p) g r a f l.progress first l.values;
      cost : l.fn.progress.budget + most l.fn.progress ≤ l.progress.budget + most l.progress;
      falls : l.progress.budget ≤ l.fn.progress.budget + least l.fn.progress - least l.progress;
      memory : IsFor p l.memory;
      kept : AreNumbered p g a l.memory.kept;
    }

abbrev pub decreases-vertices : goal.decreases-vertices
decreases-vertices l = length l.frontier - l.progress.vertex

use Rattle.std.proofs.Common.{◌≡◌, ◌+◌, ◌-◌, ◌*◌, length}
use Rattle.past_model.specs.Past.{graph_of}
use Rattle.past_model.specs.declared.limits.TheConstants.{MOST_VERTICES}
use Rattle.map_model.specs.Parts.{IsPlace}
use Rattle.map_model.specs.PushParts.{IsPushedSoFar}
use Rattle.verifier.specs.Walks.{longest}
use Rattle.edge_fold.specs.Inputs.{inputs_of}
use Rattle.edge_fold.specs.Kept.{IsFor}
use Rattle.edge_fold.proofs.pushes.push_whole.Given as goal

abbrev pub invariant-parts : goal.invariant-parts
invariant-parts l =
    let p = l.mapped.program.now in
    let g = graph_of l.mapped.version.now in
    let f = l.request.frontier.now in
    record {
      place : IsPlace g f l.progress;
      so_far : IsPushedSoFar p (longest p) g l.request.reduction (inputs_of l.mapped) f l.progress l.fn.values l.values;
      long : length l.values ≡ length l.fn.values;
      memory : IsFor p l.memory;
    }

abbrev pub decreases-parts : goal.decreases-parts
decreases-parts l = (length l.request.frontier.now - l.progress.vertex) * (MOST_VERTICES + 1) - l.progress.place

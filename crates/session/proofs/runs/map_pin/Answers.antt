use Rattle.std.proofs.Common.{◌≡◌, ℕ, List, ap, subst, ◌∙◌}
use Rattle.past_model.specs.Past.{Past, graph_of}
use Rattle.edge_fold.specs.declared.rows.Rows.TheVariants.{OfSources}
use Rattle.edge_map.specs.Maps.{IsMapped}
use Rattle.session_model.specs.Responses.{frontier_of}
use Rattle.session.proofs.RunLemmas.{run_told}
use Rattle.session.proofs.runs.map_pin.Goals as goal

pub returns : goal.returns
returns g c s =
    let run = c.args.within.now.run in
    let past = c.args.pin.now.past in
    let frontier : c.deref.result.now ≡ frontier_of run.frontier.now (graph_of past) = c.deref.ensures.value ∙ c.in_ok-frontier.ensures ∙ ap (λ (p : Past). frontier_of run.frontier.now (graph_of p)) c.version.ensures in
    let mapped = subst (λ (f : List ℕ). IsMapped OfSources c.args.program.now (graph_of past) run.reduction run.argument.now f c.map_sources-told.result) frontier c.map_sources-told.ensures in
    run_told run.program.now run.pin.now run.reduction run.argument.now run.frontier.now c.args.program.now past s c.map_sources-told.result c.answer_to.result mapped c.answer_to.ensures

use Rattle.std.proofs.Common.{subst}
use Rattle.past_model.specs.Past.{graph_of}
use Rattle.edge_fold.specs.Inputs.{inputs_of}
use Rattle.edge_map.specs.declared.job.Wanted.{Wanted}
use Rattle.edge_map.specs.Jobs.{IsDone}
use Rattle.session.specs.Lending.{wanted_of}
use Rattle.session.proofs.LentLemmas.{found_long}
use Rattle.session.proofs.lending.mapped_numbers.Goals as goal

pub numbers_after-requires : goal.numbers_after-requires
numbers_after-requires g c =
    let m = c.args.mapped.now in
    let r = c.args.request.now in
    let into = c.args.into.now in
    let graph = graph_of m.version.now in
    let is : IsDone (wanted_of into.way) m.program.now graph r.reduction (inputs_of m) r.frontier.now into.numbers.now c.in_ok-found.found =
    subst (λ (w : Wanted). IsDone w m.program.now graph r.reduction (inputs_of m) r.frontier.now into.numbers.now c.in_ok-found.found) c.wanted_by.ensures c.in_ok-found.ensures in
    found_long into.way m.program.now graph r.reduction (inputs_of m) r.frontier.now into.numbers.now c.in_ok-found.found is

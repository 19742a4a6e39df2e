use Rattle.std.proofs.Common.{◌≡◌, subst, rules}
use Rattle.bpf_image.specs.Program.{Program}
use Rattle.past_model.specs.Past.{graph_of}
use Rattle.map_model.specs.PushParts.{IsPushedSoFar, HasBegunPush}
use Rattle.verifier.specs.Walks.{longest}
use Rattle.embedding.specs.Lent.{lent_of}
use Rattle.embedding.proofs.runnable.Runnable.push_some.Goals as goal

pub returns-clause-so_far : goal.returns-clause-so_far
returns-clause-so_far c = λ first has.
    let g = graph_of c.args.on.now.version.now in
    let r = c.args.request.now.reduction in
    let a = lent_of c.args.on.now.lent in
    let f = c.args.request.now.frontier.now in
    let same : c.deref.result.now ≡ c.args.self.now = search rules in
    subst (λ (p : Program). HasBegunPush p (longest p) g r a f c.args.progress.now first c.args.values.now → IsPushedSoFar p (longest p) g r a f c.push_some.new.progress first c.push_some.new.values)
    same (c.push_some.ensures.so_far first) has

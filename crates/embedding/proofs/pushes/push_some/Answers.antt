use Rattle.std.proofs.Common.{◌≡◌, ◌∙◌, sym, subst, refl, rules}
use Rattle.std.specs.Prelude.{Some}
use Rattle.past_model.specs.Past.{graph_of}
use Rattle.map_model.specs.declared.reduction.Reduction.{Reduction}
use Rattle.map_model.specs.PushParts.{IsPushedSoFar, HasBegunPush}
use Rattle.verifier.specs.Walks.{longest}
use Rattle.embedding.specs.Lent.{lent_of}
use Rattle.embedding.specs.Runs.{reduction_at}
use Rattle.embedding.proofs.pushes.push_some.Goals as goal

some_same : (a b : Reduction) → Some a ≡ Some b → a ≡ b
some_same a b is = cc

pub returns-clause-answered : goal.returns-clause-answered
returns-clause-answered c =
    let g = graph_of c.args.version.now in
    let p = c.args.program.now in
    let a = lent_of c.args.asked.now.lent in
    let f = c.args.asked.now.frontier.now in
    let pushes = c.push_some in
    let own : reduction_at c.args.asked.now.reduction ≡ Some c.in-Some.reduction = search rules in
    record {
      status_is = search rules;
      so_far = λ r is _ first.
          subst (λ (s : Reduction). HasBegunPush p (longest p) g s a f c.args.progress.now first c.args.values.now → IsPushedSoFar p (longest p) g s a f pushes.new.progress first pushes.new.values)
          (some_same c.in-Some.reduction r (sym own ∙ is)) (pushes.ensures.so_far first);
      on = λ _. pushes.ensures.on;
      goes_on = search rules;
      left = λ no. absurd (no refl);
    }

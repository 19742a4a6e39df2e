use Rattle.std.proofs.Common.{◌≡◌, ◌++◌, ◌∷◌, [], length, refl, ap, ◌∙◌, arith}
use Rattle.shards.specs.declared.lists.Place.TheVariants.{InArray}
use Rattle.shards.proofs.ListLemmas.{pushed_run}
use Rattle.shards.proofs.lists.Lists.push_run.Goals as goal

pub returns-clause-pushed : goal.returns-clause-pushed
returns-clause-pushed c =
    let number : c.vertex_count-number.result ≡ length c.args.self.now.array = (let is = c.vertex_count-number.ensures.value in omega arith) in
    pushed_run c.args.self.now _ c.args.words.now c.requires.kept (c.push-2.ensures.items ∙ ap (λ n. c.args.self.now.places.items ++ InArray n ∷ []) number) refl refl c.in_ok-push.ensures.ok refl

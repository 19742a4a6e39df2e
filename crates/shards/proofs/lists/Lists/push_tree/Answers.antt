use Rattle.std.proofs.Common.{◌≡◌, ◌++◌, ◌∷◌, [], length, refl, ap, ◌∙◌, arith}
use Rattle.shards.specs.declared.lists.Place.TheVariants.{InTree}
use Rattle.shards.proofs.ListLemmas.{pushed_tree}
use Rattle.shards.proofs.lists.Lists.push_tree.Goals as goal

pub returns-clause-pushed : goal.returns-clause-pushed
returns-clause-pushed c =
    let number : c.len-number.result ≡ length c.args.self.now.trees.items = (let ok = c.args.self.now.trees.ok in let len = c.len-number.ensures in omega arith) in
    pushed_tree c.args.self.now _ c.args.tree c.requires.kept (c.push-2.ensures.items ∙ ap (λ n. c.args.self.now.places.items ++ InTree n ∷ []) number) refl refl refl c.in_ok-push.ensures.items

use Rattle.std.proofs.Common.{◌≡◌, ◌++◌, ◌∷◌, [], length, refl, ap, ◌∙◌, arith}
use Rattle.shards.specs.declared.lists.Place.TheVariants.{InShort}
use Rattle.shards.proofs.ListLemmas.{pushed_short}
use Rattle.shards.proofs.lists.Lists.push_short.Goals as goal

pub returns-clause-pushed : goal.returns-clause-pushed
returns-clause-pushed c =
    let number : c.len-number.result ≡ length c.args.self.now.shorts.ends.items = (let len = c.len-number.ensures in omega arith) in
    pushed_short c.args.self.now _ c.args.words.now c.requires.kept c.requires.set c.requires.short (c.push-2.ensures.items ∙ ap (λ n. c.args.self.now.places.items ++ InShort n ∷ []) number) c.in_ok-push.ensures.words c.in_ok-push.ensures.ends refl refl refl

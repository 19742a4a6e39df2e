use Rattle.std.proofs.Common.{◌≡◌, ◌++◌, ◌∷◌, [], length, refl, ap, ◌∙◌, arith}
use Rattle.shards.specs.declared.lists.Place.TheVariants.{InBlock}
use Rattle.shards.proofs.ListLemmas.{pushed_block}
use Rattle.shards.proofs.lists.Lists.push_block.Goals as goal

pub returns : goal.returns
returns c =
    let number : c.len-number.result ≡ length c.args.self.now.blocks.items = (let ok = c.args.self.now.blocks.ok in let len = c.len-number.ensures in omega arith) in
    pushed_block c.args.self.now _ c.args.block c.requires.kept (c.push-2.ensures.items ∙ ap (λ n. c.args.self.now.places.items ++ InBlock n ∷ []) number) refl c.in_ok-push.ensures.items refl refl

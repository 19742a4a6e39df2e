use Rattle.std.proofs.Common.{set, refl, ap, ◌∙◌, arith}
use Rattle.shards.specs.declared.lists.Place.TheVariants.{InBlock}
use Rattle.shards.proofs.ReplacedLemmas.{inside_places, replaced_block, put_in_block}
use Rattle.shards.proofs.lists.Lists.put_block.Goals as goal

pub returns : goal.returns
returns c =
    let lists = c.args.self.now in
    let inside = inside_places lists c.args.vertex c.requires.inside in
    λ done. put_in_block lists _ c.args.vertex (InBlock c.args.number) c.args.words.now inside c.requires.own refl (omega arith)
    (replaced_block lists _ c.args.vertex c.args.number c.args.words.now c.requires.kept inside c.requires.own refl refl (ap (λ n. set lists.blocks.items n c.of.result) c.from.ensures ∙ ap (λ l. set lists.blocks.items c.args.number l) c.of.ensures) refl refl)

use Rattle.std.proofs.Common.{refl, subst, arith}
use Rattle.shards.specs.declared.lists.Place.TheVariants.{InShort}
use Rattle.shards.specs.ShortBlocks.{IsSetPut}
use Rattle.shards.proofs.ReplacedLemmas.{inside_places, replaced_short, put_in_block}
use Rattle.shards.proofs.lists.Lists.put_short.Goals as goal

pub returns : goal.returns
returns c =
    let lists = c.args.self.now in
    let inside = inside_places lists c.args.vertex c.requires.inside in
    λ done. put_in_block lists _ c.args.vertex (InShort c.args.number) c.args.words.now inside c.requires.own refl (omega arith)
    (replaced_short lists _ c.args.vertex c.args.number c.args.words.now c.requires.kept inside c.requires.own refl (subst (λ n. IsSetPut lists.shorts c.replace.new.self n c.args.words.now) c.from.ensures c.in_ok-replace.ensures) refl refl refl)

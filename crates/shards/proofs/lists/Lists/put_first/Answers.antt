use Rattle.std.proofs.Common.{◌≡◌, length, set, refl, sym, ap, ◌∙◌, eqb-true, arith}
use Rattle.std.proofs.lemmas.List.{nil_from_length}
use Rattle.shards.specs.declared.lists.Place.TheVariants.{Nowhere, InShort}
use Rattle.shards.proofs.ReplacedLemmas.{inside_places, replaced_nowhere, replaced_by_none, put_in_block}
use Rattle.shards.proofs.lists.Lists.put_first.Goals as goal

pub returns : goal.returns
returns c =
    let lists = c.args.self.now in
    let inside = inside_places lists c.args.vertex c.requires.inside in
    let number : c.len-number.result ≡ length lists.shorts.ends.items = (let len = c.len-number.ensures in omega arith) in
    λ done. put_in_block lists _ c.args.vertex Nowhere c.args.words.now inside c.requires.own refl (omega arith)
    (replaced_nowhere lists _ c.args.vertex c.args.words.now c.requires.kept inside (omega arith) c.requires.set (omega arith) c.requires.own (c.set_place.ensures ∙ ap (λ n. set lists.places.items c.args.vertex (InShort n)) number) c.in_ok-push.ensures.words c.in_ok-push.ensures.ends refl refl refl)

pub returns-then-is_empty : goal.returns-then-is_empty
returns-then-is_empty c =
    let lists = c.args.self.now in
    let inside = inside_places lists c.args.vertex c.requires.inside in
    let none : length c.args.words.now ≡ 0 = eqb-true (length c.args.words.now) 0 (sym c.is_empty.ensures ∙ c.if-is_empty.true) in
    λ done. put_in_block lists lists c.args.vertex Nowhere c.args.words.now inside c.requires.own refl (omega (arith, none))
    (replaced_by_none lists c.args.vertex c.args.words.now c.requires.kept inside c.requires.own (nil_from_length c.args.words.now none))

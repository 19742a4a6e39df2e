use Rattle.std.proofs.Common.{◌≡◌, ◌++◌, ◌<◌, get_or, length, Some, None, refl, ap, sym, ◌∙◌, arith}
use Rattle.std.proofs.lemmas.List.{get_or_default}
use Rattle.edge_map.specs.Pieces.{IsPart, piece_count}
use Rattle.edge_map.specs.Plans.{task_of}
use Rattle.edge_map.proofs.Joins.{begun_more}
use Rattle.edge_map.proofs.Places.{placed_is}
use Rattle.edge_map.proofs.joined.joined.Goals as goal

pub places-preserved : goal.places-preserved
places-preserved c =
    let t = task_of c.args.plan.now in
    let k = c.places.number in
    let places = c.in_ok-places.places.items in
    let here : k < length places = omega (arith, c.places-test.true, c.len-number-end.ensures) in
    let inside : k < piece_count t.frontier = omega (arith, here, c.in_ok-places.ensures.count) in
    let stands : get_or places k None ≡ Some c.in-Some.part = sym (c.index.ensures ∙ get_or_default places k c.index.result.now None here) ∙ c.in-Some.is in
    let at : IsPart t k c.in-Some.part = placed_is t k (get_or places k None) c.in-Some.part (c.in_ok-places.ensures.each k inside) stands in
    record {
      begun = begun_more t k c.places.out c.in-Some.part _ c.places.invariant.begun at refl c.combine.ensures (c.in_ok-extend_from_slice.ensures.items ∙ ap (λ l. c.places.out.rows.items ++ l) c.deref.ensures.value);
      few = omega (arith, c.places.invariant.few, at.most);
    }

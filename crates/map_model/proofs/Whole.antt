-- A map in parts that has come to the end.
use Rattle.std.proofs.Common.{◌≡◌, ◌++◌, length, take, sym, ap, ◌∙◌, append-nil, arith}
use Rattle.std.specs.Prelude.{slice_index}
use Rattle.std.proofs.lemmas.List.{take_all}
use Rattle.map_model.specs.EdgeMap.{all_with, reduction_of_numbers}
use Rattle.map_model.specs.Parts.{first_exits, numbers_before, values_for, PartsAreTheWhole}

pub parts_are_the_whole : PartsAreTheWhole
parts_are_the_whole p steps g r inputs frontier at values so place ended long =
    let all : numbers_before p steps g inputs frontier at ≡ all_with p steps g inputs frontier =
    ap (λ k. all_with p steps g inputs (take at.vertex frontier) ++ first_exits p steps g inputs (slice_index frontier at.vertex) k) (place.ended ended)
    ∙ append-nil (all_with p steps g inputs (take at.vertex frontier))
    ∙ ap (all_with p steps g inputs) (take_all at.vertex frontier (omega (arith, ended))) in (
      sym (take_all at.vertex values (omega (arith, ended, long))) ∙ so.values_are ∙ ap (values_for p steps g r inputs) (take_all at.vertex frontier (omega (arith, ended))),
      so.edges_are ∙ ap length all,
      so.total_is ∙ ap (reduction_of_numbers r) all,
    )

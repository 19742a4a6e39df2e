-- A push in parts that has come to the end.
use Rattle.std.proofs.Common.{◌≡◌, ◌++◌, length, take, sym, ap, ◌∙◌, append-nil, arith}
use Rattle.std.specs.Prelude.{slice_index}
use Rattle.std.specs.List.{flat_map}
use Rattle.std.proofs.lemmas.List.{take_all}
use Rattle.graph_model.specs.Graph.{neighbours}
use Rattle.map_model.specs.EdgeMap.{all_with, reduction_of_numbers}
use Rattle.map_model.specs.Parts.{first_exits, numbers_before}
use Rattle.map_model.specs.Pushes.{pushed}
use Rattle.map_model.specs.PushParts.{targets_before, PushPartsAreTheWhole}

pub push_parts_are_the_whole : PushPartsAreTheWhole
push_parts_are_the_whole p steps g r inputs frontier at first values so place ended =
    let whole : take at.vertex frontier ≡ frontier = take_all at.vertex frontier (omega (arith, ended)) in
    let numbers : numbers_before p steps g inputs frontier at ≡ all_with p steps g inputs frontier =
    ap (λ k. all_with p steps g inputs (take at.vertex frontier) ++ first_exits p steps g inputs (slice_index frontier at.vertex) k) (place.ended ended)
    ∙ append-nil (all_with p steps g inputs (take at.vertex frontier))
    ∙ ap (all_with p steps g inputs) whole in
    let targets : targets_before g frontier at ≡ flat_map (neighbours g) frontier =
    ap (λ k. flat_map (neighbours g) (take at.vertex frontier) ++ take k (neighbours g (slice_index frontier at.vertex))) (place.ended ended)
    ∙ append-nil (flat_map (neighbours g) (take at.vertex frontier))
    ∙ ap (flat_map (neighbours g)) whole in (
      so.values_are ∙ ap (λ ts. pushed r ts (numbers_before p steps g inputs frontier at) first) targets
          ∙ ap (λ ns. pushed r (flat_map (neighbours g) frontier) ns first) numbers,
      so.edges_are ∙ ap length numbers,
      so.total_is ∙ ap (reduction_of_numbers r) numbers,
    )

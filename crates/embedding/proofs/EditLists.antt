-- How many edits arrays spell.
use Rattle.std.proofs.Common.{◌≡◌, ℕ, List, length, ◌∙◌}
use Rattle.std.proofs.lemmas.List.{length-map}
use Rattle.graph_model.specs.Graph.{numbers_below}
use Rattle.graph_model.proofs.Numbers.{length-numbers_below}
use Rattle.embedding.specs.Spelled.{edit_at, spelled}

-- one for each source
pub length_spelled : (sources targets removes : List ℕ) → length (spelled sources targets removes) ≡ length sources
length_spelled sources targets removes = length-map (numbers_below (length sources)) (edit_at sources targets removes) ∙ length-numbers_below (length sources)

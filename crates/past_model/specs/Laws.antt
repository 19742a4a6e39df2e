-- Laws of the definitions, in the words of graph theory. Each is the contract of a public function.
use Rattle.std.specs.Prelude.{◌≡◌, ℕ, ◌+◌, true, false, List, [], ◌∷◌, ◌++◌}
use Rattle.graph_model.specs.Graph.{Graph, IsGraph, edge_count}
use Rattle.past_model.specs.declared.edit.Edit.{Edit}
use Rattle.past_model.specs.Edits.{names, inserts, after_batch, added, removed}
use Rattle.past_model.specs.Past.{Past, IsPast, graph_of}

-- one edit decides its own pair and leaves every other
abbrev pub OneEdit : Type 0
OneEdit =
    (e : Edit) (g : Graph) (u v : ℕ)
    → (names e u v ≡ true → (after_batch (e ∷ []) g).has_edge u v ≡ inserts e)
    × (names e u v ≡ false → (after_batch (e ∷ []) g).has_edge u v ≡ g.has_edge u v)

-- a batch does what its edits do one after another
abbrev pub EditsInTurn : Type 0
EditsInTurn = (es fs : List Edit) (g : Graph) → after_batch (es ++ fs) g ≡ after_batch fs (after_batch es g)

-- what a batch adds less what it removes is the change of the number of edges
abbrev pub ChangeOfSize : Type 0
ChangeOfSize = (es : List Edit) (g : Graph) → edge_count (after_batch es g) + removed es g ≡ edge_count g + added es g

-- a log whose edits name vertices makes a graph
abbrev pub ReplayIsGraph : Type 0
ReplayIsGraph = (p : Past) → IsPast p → IsGraph (graph_of p)

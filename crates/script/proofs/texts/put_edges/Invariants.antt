use Rattle.std.proofs.Common.{◌≡◌, ◌++◌, drop}
use Rattle.std.specs.List.{flat_map}
use Rattle.script_model.specs.Texts.{edge_text}
use Rattle.script.proofs.texts.put_edges.Given as goal

-- what is written, with the edges that are left
abbrev pub invariant-loop-edge : goal.invariant-loop-edge
invariant-loop-edge l =
    l.text.items ++ flat_map edge_text (drop l.edge-index l.edges) ≡ l.fn.text.items ++ flat_map edge_text l.edges

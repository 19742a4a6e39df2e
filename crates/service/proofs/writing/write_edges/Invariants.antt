use Rattle.std.proofs.Common.{◌≡◌, ◌++◌, ℕ, List, length}
use Rattle.std.specs.List.{flat_map}
use Rattle.std.specs.Io.KnownBytes.{Appends}
use Rattle.script_model.specs.Texts.{edge_text}
use Rattle.service.proofs.writing.write_edges.Given as goal

-- so much is written, and the text and the lines of the edges that are left come next
abbrev pub invariant-loop-lines : goal.invariant-loop-lines
invariant-loop-lines g l =
    (done : List ℕ) × Appends (g.O.Output.contents l.fn.output) (g.O.Output.contents l.output) done
    × (l.fn.text.items ++ flat_map edge_text l.listing ≡ done ++ (l.text.items ++ flat_map edge_text l.lines))
    × (g.O.Output.failures l.output ≡ g.O.Output.failures l.fn.output)

abbrev pub decreases-loop-lines : goal.decreases-loop-lines
decreases-loop-lines g l = length l.lines

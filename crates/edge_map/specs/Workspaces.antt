-- What the blocks of a list are run in, from one block to the next.
use Rattle.std.specs.Prelude.{ℕ, List}
use Rattle.bpf_image.specs.Program.{Program}
use Rattle.graph_model.specs.Graph.{Graph}
use Rattle.map_model.specs.EdgeMap.{plain}
use Rattle.edge_fold.specs.Kept.{AreKept, IsFor}
use Rattle.edge_fold.specs.declared.memory.Memory.{Memory}

-- it has the program's table, and the numbers that it keeps are those of edges of the graph
pub record IsWorkspace (p : Program) (g : Graph) (argument : List ℕ) (workspace : Memory) : Type 0 where
  pub table : IsFor p workspace
  pub kept : AreKept p g (plain argument) workspace

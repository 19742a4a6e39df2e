use Rattle.std.proofs.Common.{◌≡◌, ◌≤◌, ◌++◌, ◌-◌, length}
use Rattle.std.specs.Vec.{vec_capacity}
use Rattle.past_model.specs.Past.{graph_of}
use Rattle.edge_map.specs.declared.limits.TheConstants.{BLOCK_EDGES}
use Rattle.edge_map.specs.Listing.{listing}
use Rattle.edge_map.specs.Workspaces.{IsWorkspace}
use Rattle.edge_map.proofs.list.fill.Given as goal

abbrev pub invariant-edges : goal.invariant-edges
invariant-edges l = record {
  origin : l.version ≡ l.fn.walk.past;
  past : l.walk.past ≡ l.version;
  listed : listing l.program (graph_of l.version) l.argument l.fn.walk.edges ≡ l.block.items ++ listing l.program (graph_of l.version) l.argument l.walk.edges;
  few : length l.block.items ≤ BLOCK_EDGES;
  room : BLOCK_EDGES ≤ vec_capacity l.block;
  workspace : IsWorkspace l.program (graph_of l.version) l.argument l.workspace;
}

abbrev pub decreases-edges : goal.decreases-edges
decreases-edges l = BLOCK_EDGES - length l.block.items

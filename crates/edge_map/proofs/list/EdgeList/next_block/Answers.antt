use Rattle.std.proofs.Common.{sym, subst, IfSome}
use Rattle.past_model.specs.Past.{graph_of}
use Rattle.edge_map.specs.Workspaces.{IsWorkspace}
use Rattle.edge_map.proofs.list.EdgeList.next_block.Goals as goal

pub fill-requires-clause-workspace : goal.fill-requires-clause-workspace
fill-requires-clause-workspace c =
    let p = c.self.inside.program.now in
    let g = graph_of c.self.inside.walk.past in
    let argument = c.self.inside.argument.now in
    let kept = subst (λ w. IfSome w (λ workspace. IsWorkspace p g argument workspace.value)) (sym c.take-kept.ensures.value) c.self.invariant.1 in
    subst (λ w. IsWorkspace p g argument w) (sym c.deref_mut.ensures.value) (c.in_ok-workspace.ensures g argument kept)

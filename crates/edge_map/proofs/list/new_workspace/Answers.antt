use Rattle.std.proofs.Common.{sym, subst}
use Rattle.map_model.specs.EdgeMap.{plain}
use Rattle.edge_map.specs.Workspaces.{IsWorkspace}
use Rattle.edge_map.proofs.list.new_workspace.Goals as goal

pub returns : goal.returns
returns c g argument =
    subst (λ w. IsWorkspace c.args.program.now g argument w) (sym c.in_ok-new.ensures.ok)
    (record { table = c.for_program.ensures.table; kept = c.for_program.ensures.kept c.args.program.now g (plain argument) })

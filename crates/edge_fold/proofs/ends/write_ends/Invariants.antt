use Rattle.std.proofs.Common.{◌≡◌, ◌*◌, ◌++◌, map, take, drop}
use Rattle.edge_fold.specs.Inputs.{end_bytes}
use Rattle.edge_fold.proofs.ends.write_ends.Given as goal

-- those of the columns before one are written, and the other bytes are as they were
abbrev pub invariant-columns : goal.invariant-columns
invariant-columns l =
    l.bytes ≡ end_bytes (take l.at (map (λ column. column.now) l.columns)) l.edge.source l.edge.target ++ drop (16 * l.at) l.fn.bytes

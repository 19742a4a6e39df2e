use Rattle.std.proofs.Common.{◌≡◌, ◌==◌, true, List, ℕ, length, map, take}
use Rattle.std.specs.Borrow.{Bor}
use Rattle.std.specs.List.{list_all}
use Rattle.edge_fold.proofs.ends.columns_fit.Given as goal

-- the columns before one have as many numbers as there are vertices
abbrev pub invariant-columns : goal.invariant-columns
invariant-columns l =
    list_all (λ (column : List ℕ). length column == l.vertices) (take l.at (map (λ (column : Bor (List ℕ)). column.now) l.columns)) ≡ true

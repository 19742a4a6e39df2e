-- The maps of pieces, as one.
use Rattle.std.proofs.Common.{◌≡◌, ℕ, ◌+◌, ◌*◌, ◌++◌, List, length, take, length-append, sym, ap, ◌∙◌, arith}
use Rattle.std.proofs.Math.Seq.{take-add}
use Rattle.std.proofs.lemmas.List.{map-append}
use Rattle.std.proofs.lemmas.Grind.{flat_map-append}
use Rattle.map_model.specs.EdgeMap.{exit_numbers, all_numbers, row_of, rows_of}
use Rattle.verifier.specs.Walks.{longest}
use Rattle.edge_fold.specs.declared.outcome.MapOutcome.{MapOutcome}
use Rattle.edge_fold.specs.Numbers.{combination}
use Rattle.edge_fold.specs.Rows.{reported_rows}
use Rattle.edge_fold.proofs.Reductions.{total_more}
use Rattle.edge_fold.proofs.RowFacts.{told_append}
use Rattle.map_model.specs.declared.row.Row.{Row}
use Rattle.edge_map.specs.Maps.{IsMap}
use Rattle.edge_map.specs.Pieces.{Task, IsPart, piece_of}

-- the map of the first pieces
abbrev pub IsBegun : Task → ℕ → MapOutcome → Type 0
IsBegun t k out = IsMap t.rows t.program t.graph t.reduction t.argument (take (64 * k) t.frontier) out

-- one piece more
pub begun_more : (t : Task) (k : ℕ) (out part next : MapOutcome) → IsBegun t k out → IsPart t k part
    → next.edges ≡ out.edges + part.edges → next.total ≡ combination t.reduction out.total part.total → next.rows.items ≡ out.rows.items ++ part.rows.items
    → IsBegun t (k + 1) next
begun_more t k out part next begun is edges total rows =
    let p = t.program in
    let g = t.graph in
    let early = take (64 * k) t.frontier in
    let own = piece_of t.frontier k in
    let more : take (64 * (k + 1)) t.frontier ≡ early ++ own = ap (λ n. take n t.frontier) (omega arith) ∙ take-add (64 * k) 64 t.frontier in
    let numbers : all_numbers p (longest p) g t.argument (take (64 * (k + 1)) t.frontier) ≡ all_numbers p (longest p) g t.argument early ++ all_numbers p (longest p) g t.argument own =
    ap (all_numbers p (longest p) g t.argument) more ∙ flat_map-append (exit_numbers p (longest p) g t.argument) early own in
    let told : List ℕ → List Row = (λ frontier. reported_rows t.rows g (rows_of p (longest p) g t.reduction t.argument frontier)) in
    let listed : told (take (64 * (k + 1)) t.frontier) ≡ told early ++ told own =
    ap told more ∙ ap (reported_rows t.rows g) (map-append (row_of p (longest p) g t.reduction t.argument) early own)
    ∙ told_append t.rows g (rows_of p (longest p) g t.reduction t.argument early) (rows_of p (longest p) g t.reduction t.argument own) in
    record {
      edges = edges ∙ omega (arith, begun.edges, is.right.edges, ap length numbers, length-append (all_numbers p (longest p) g t.argument early) (all_numbers p (longest p) g t.argument own));
      total = total_more t.reduction out.total part.total next.total (all_numbers p (longest p) g t.argument early) (all_numbers p (longest p) g t.argument own) _ begun.total is.right.total numbers total;
      reported = rows ∙ ap (λ l. l ++ part.rows.items) begun.reported ∙ ap (λ l. told early ++ l) is.right.reported ∙ sym listed;
    }

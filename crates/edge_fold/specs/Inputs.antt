-- What runs over edges are lent besides their edges, and the bytes that columns give them.
use Rattle.std.specs.Prelude.{ℕ, List, [], ◌∷◌, map, length, slice_index, Bool, ◌&&◌, ◌==◌, nat_le}
use Rattle.std.specs.Borrow.{Bor}
use Rattle.std.specs.List.{flat_map, list_all}
use Rattle.std.specs.Int.{w64, to_le_bytes}
use Rattle.map_model.specs.EdgeMap.{Inputs, record_of, with_ends}
use Rattle.map_model.specs.declared.limits.TheConstants.{MOST_COLUMNS}
use Rattle.bpf_blocks.specs.declared.edges.Edges.{Edges}
use Rattle.edge_fold.specs.declared.edge.Edge.{Edge}
use Rattle.edge_fold.specs.declared.mapped.Mapped.{Mapped}

-- an argument and columns that a caller lends
abbrev pub inputs_from : List ℕ → List (Bor (List ℕ)) → Inputs
inputs_from argument columns = record { argument = argument; columns = map (λ column. column.now) columns }

-- what the runs of a map are lent
abbrev pub inputs_of : Mapped → Inputs
inputs_of m = inputs_from m.argument.now m.columns.now

-- whether columns are few enough for a record, and each has a number for each of so many vertices
abbrev pub are_columns : (vertices : ℕ) → List (List ℕ) → Bool
are_columns vertices columns = nat_le (length columns) MOST_COLUMNS && list_all (λ column. length column == vertices) columns

-- the numbers that columns have for the ends of an edge: of each in turn the source's and the target's
abbrev pub ends_of : (columns : List (List ℕ)) → (source target : ℕ) → List ℕ
ends_of columns source target = flat_map (λ column. slice_index column source ∷ slice_index column target ∷ []) columns

-- the same as bytes
abbrev pub end_bytes : (columns : List (List ℕ)) → (source target : ℕ) → List ℕ
end_bytes columns source target = flat_map (to_le_bytes w64) (ends_of columns source target)

-- the record of an edge, whatever graph it is of, with all that its run is lent
abbrev pub edge_bytes : Edge → Inputs → List ℕ
edge_bytes e inputs = record_of e.source e.target e.place e.degree (with_ends inputs.columns inputs.argument e.source e.target)

-- the record of the edge in a lane of a block, with all that its run is lent
abbrev pub lane_bytes : Inputs → Edges → ℕ → List ℕ
lane_bytes inputs e lane =
    let source = slice_index e.sources lane in
    let target = slice_index e.targets lane in
    record_of source target (slice_index e.places lane) (slice_index e.degrees lane) (with_ends inputs.columns inputs.argument source target)

-- A program mapped over edges: one run for each edge, each on a record of its own.
use Rattle.std.specs.Prelude.{ℕ, ◌+◌, ◌-◌, ◌^◌, ◌%◌, min, max, List, [], ◌∷◌, ◌++◌, map, sum, Option, Some, None, slice_index}
use Rattle.std.specs.List.{flat_map, filter_map}
use Rattle.std.specs.Int.{w32, w64, to_le_bytes}
use Rattle.bpf_image.specs.Program.{Program}
use Rattle.graph_model.specs.Graph.{Graph, numbers_below, neighbours, degree}
use Rattle.map_model.specs.declared.reduction.Reduction.{Reduction}
use Rattle.map_model.specs.declared.reduction.Reduction.TheVariants.{Min, Max, Sum}
use Rattle.map_model.specs.declared.row.Row.{Row}
use Rattle.map_model.specs.declared.listed_edge.ListedEdge.{ListedEdge}
use Rattle.bpf_model.specs.Run.{number_for}

-- the record of an edge: source, target, the target's place among the neighbours, how many neighbours the
-- source has, each as four bytes in little-endian order, and then the argument
abbrev pub record_of : (source target place count : ℕ) → List ℕ → List ℕ
record_of source target place count argument =
    (to_le_bytes w32 source ++ to_le_bytes w32 target ++ to_le_bytes w32 place ++ to_le_bytes w32 count) ++ argument

-- that of an edge of a graph
abbrev pub edge_record : Graph → ℕ → ℕ → ℕ → List ℕ → List ℕ
edge_record g source target place argument = record_of source target place (degree g source) argument

-- what runs over edges are lent besides their edges: an argument, and columns, each of which has a number for each vertex
pub record Inputs : Type 0 where
  pub argument : List ℕ
  pub columns : List (List ℕ)

-- an argument, and no column
abbrev pub plain : List ℕ → Inputs
plain argument = record { argument = argument; columns = [] }

-- bytes, and after them of each column in turn the number of an edge's source and that of its target, each as eight bytes
abbrev pub with_ends : (columns : List (List ℕ)) → (bytes : List ℕ) → (source target : ℕ) → List ℕ
with_ends [] bytes source target = bytes
with_ends (column ∷ columns) bytes source target =
    with_ends columns (bytes ++ (to_le_bytes w64 (slice_index column source) ++ to_le_bytes w64 (slice_index column target))) source target

-- the record of an edge of a graph with all that its run is lent: its four numbers, the argument, and the numbers of its ends
abbrev pub input_record : Graph → (source target place : ℕ) → Inputs → List ℕ
input_record g source target place inputs = edge_record g source target place (with_ends inputs.columns inputs.argument source target)

-- the exit numbers of a vertex's edges, from the edge at a place on
abbrev pub numbers_with : Program → ℕ → Graph → Inputs → ℕ → ℕ → List ℕ → List (Option ℕ)
numbers_with p steps g inputs source place [] = []
numbers_with p steps g inputs source place (target ∷ targets) =
    number_for p steps g (input_record g source target place inputs) ∷ numbers_with p steps g inputs source (place + 1) targets

-- the exit numbers of a vertex's edges, targets ascending, as far as runs exit within so many steps
abbrev pub exits_with : Program → ℕ → Graph → Inputs → ℕ → List ℕ
exits_with p steps g inputs source = filter_map (λ number. number) (numbers_with p steps g inputs source 0 (neighbours g source))

-- those of a frontier's vertices, one vertex after another
abbrev pub all_with : Program → ℕ → Graph → Inputs → List ℕ → List ℕ
all_with p steps g inputs frontier = flat_map (exits_with p steps g inputs) frontier

abbrev pub least : List ℕ → ℕ
least [] = 2 ^ 64 - 1
least (x ∷ xs) = min x (least xs)

abbrev pub greatest : List ℕ → ℕ
greatest [] = 0
greatest (x ∷ xs) = max x (greatest xs)

-- the numbers of some edges as one
abbrev pub reduction_of_numbers : Reduction → List ℕ → ℕ
reduction_of_numbers Min numbers = least numbers
reduction_of_numbers Max numbers = greatest numbers
reduction_of_numbers Sum numbers = sum numbers % 2 ^ 64

-- what a vertex's edges reduce to
abbrev pub row_with : Program → ℕ → Graph → Reduction → Inputs → ℕ → Row
row_with p steps g reduction inputs v =
    record { vertex = v; value = reduction_of_numbers reduction (exits_with p steps g inputs v) }

-- one row for each vertex of the frontier, in the frontier's order
abbrev pub rows_with : Program → ℕ → Graph → Reduction → Inputs → List ℕ → List Row
rows_with p steps g reduction inputs frontier = map (row_with p steps g reduction inputs) frontier

-- The same of runs without columns: their records have the argument after the edge, and nothing more.

abbrev pub numbers_from : Program → ℕ → Graph → List ℕ → ℕ → ℕ → List ℕ → List (Option ℕ)
numbers_from p steps g argument source place targets = numbers_with p steps g (plain argument) source place targets

abbrev pub numbers_of : Program → ℕ → Graph → List ℕ → ℕ → List (Option ℕ)
numbers_of p steps g argument source = numbers_from p steps g argument source 0 (neighbours g source)

abbrev pub exit_numbers : Program → ℕ → Graph → List ℕ → ℕ → List ℕ
exit_numbers p steps g argument source = exits_with p steps g (plain argument) source

abbrev pub all_numbers : Program → ℕ → Graph → List ℕ → List ℕ → List ℕ
all_numbers p steps g argument frontier = all_with p steps g (plain argument) frontier

abbrev pub row_of : Program → ℕ → Graph → Reduction → List ℕ → ℕ → Row
row_of p steps g reduction argument v = row_with p steps g reduction (plain argument) v

abbrev pub rows_of : Program → ℕ → Graph → Reduction → List ℕ → List ℕ → List Row
rows_of p steps g reduction argument frontier = rows_with p steps g reduction (plain argument) frontier

-- an edge with its exit number, if there is one
abbrev pub edge_with_number : ℕ → ℕ → Option ℕ → Option ListedEdge
edge_with_number source target None = None
edge_with_number source target (Some n) = Some (record { source = source; target = target; number = n })

-- a vertex's edges with their exit numbers, from the edge at a place on
abbrev pub numbered_from : Program → ℕ → Graph → List ℕ → ℕ → ℕ → List ℕ → List (Option ListedEdge)
numbered_from p steps g argument source place [] = []
numbered_from p steps g argument source place (target ∷ targets) =
    edge_with_number source target (number_for p steps g (edge_record g source target place argument))
    ∷ numbered_from p steps g argument source (place + 1) targets

-- a vertex's edges with their exit numbers, targets ascending, as far as runs exit within so many steps
abbrev pub listed_of : Program → ℕ → Graph → List ℕ → ℕ → List ListedEdge
listed_of p steps g argument source =
    filter_map (λ edge. edge) (numbered_from p steps g argument source 0 (neighbours g source))

-- all edges of a graph with their exit numbers, sources ascending
abbrev pub listed_edges : Program → ℕ → Graph → List ℕ → List ListedEdge
listed_edges p steps g argument = flat_map (listed_of p steps g argument) (numbers_below g.vertex_count)

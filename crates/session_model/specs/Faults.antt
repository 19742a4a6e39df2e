-- What is wrong with a command: the first test that holds.
use Rattle.std.specs.Prelude.{ℕ, ◌≤◌, ◌+◌, ◌*◌, ◌==◌, ◌&&◌, not, nat_le, nat_lt, if◌then◌else◌, Bool, true, List, [], ◌∷◌, length, Option, Some, None, is_some}
use Rattle.std.specs.List.{list_all}
use Rattle.bpf_image.specs.declared.limits.TheConstants.{LEAST_RECORD_LENGTH, MOST_RECORD_LENGTH}
use Rattle.past_model.specs.declared.edit.Edit.{Edit}
use Rattle.past_model.specs.Edits.{is_edit_below, are_edits_below}
use Rattle.past_model.specs.Past.{Past, number_of, epoch_of}
use Rattle.session_model.specs.declared.fault.Fault.{Fault}
use Rattle.session_model.specs.declared.fault.Fault.TheVariants as faults
use Rattle.past_model.specs.declared.limits.TheConstants.{SERVED_VERTICES, MOST_EDITS, MOST_BATCHES, SERVED_EPOCHS, FEEDS}
use Rattle.map_model.specs.declared.limits.TheConstants.{COLUMN_BYTES, EDGE_BYTES, MOST_COLUMNS}
use Rattle.session_model.specs.declared.limits.TheConstants.{MOST_KEPT, MOST_KEPT_COLUMNS}
use Rattle.bpf_image.specs.Program.{Program}
use Rattle.session_model.specs.Commands.{Asked}
use Rattle.session_model.specs.Session.{Session, program_named, pin_named, column_named}

-- tests in their order: the first that holds gives the fault
abbrev pub first_fault : List (Bool × Fault) → Option Fault
first_fault [] = None
first_fault (test ∷ tests) = if test.0 then Some test.1 else first_fault tests

abbrev pub is_vertex_count : ℕ → Bool
is_vertex_count n = nat_le 1 n && nat_le n SERVED_VERTICES

-- a graph has no more vertices than it may have
abbrev pub AreFewVertices : Option Past → Type 0
AreFewVertices None = Unit {0}
AreFewVertices (Some past) = past.vertex_count ≤ SERVED_VERTICES

abbrev pub HasFewVertices : Session → Type 0
HasFewVertices s = AreFewVertices s.past

abbrev pub is_record_length : ℕ → Bool
is_record_length n = nat_le LEAST_RECORD_LENGTH n && nat_le n MOST_RECORD_LENGTH

abbrev pub graph_fault : ℕ → Session → Option Fault
graph_fault n s = first_fault ((is_some s.past, faults.Order) ∷ (not (is_vertex_count n), faults.Range) ∷ [])

-- an edit more, after those of a batch
abbrev pub edit_fault : Edit → List Edit → Option Past → Option Fault
edit_fault e edits None = Some faults.Order
edit_fault e edits (Some past) =
    first_fault ((not (is_edit_below past.vertex_count e), faults.Range) ∷ (nat_le MOST_EDITS (length edits), faults.TooMany) ∷ [])

-- there is such a feed, and the edits are of the graph that a version shows
abbrev pub is_batch_of : ℕ → List Edit → Past → Bool
is_batch_of feed edits past = nat_lt feed FEEDS && are_edits_below past.vertex_count edits

-- a batch by a feed, of the graph that a version shows
abbrev pub batch_fault : ℕ → List Edit → Past → Option Fault
batch_fault feed edits past =
    first_fault ((not (is_batch_of feed edits past), faults.Range) ∷ (nat_lt MOST_EDITS (length edits), faults.TooMany) ∷ (nat_le MOST_BATCHES (number_of past), faults.LogFull) ∷ [])

-- a program more, under its name, with the length of its record
abbrev pub program_fault : List ℕ → ℕ → Session → Option Fault
program_fault name record_length s =
    first_fault ((not (is_some s.past), faults.Order) ∷ (not (is_record_length record_length), faults.Range) ∷ (is_some (program_named name s.programs), faults.Name) ∷ (nat_le MOST_KEPT (length s.programs), faults.TooMany) ∷ [])

-- an image more, under its name
abbrev pub image_fault : List ℕ → Session → Option Fault
image_fault name s =
    first_fault ((not (is_some s.past), faults.Order) ∷ (is_some (program_named name s.programs), faults.Name) ∷ (nat_le MOST_KEPT (length s.programs), faults.TooMany) ∷ [])

-- a pin more
abbrev pub pin_fault : List ℕ → Session → Option Fault
pin_fault name s =
    first_fault ((not (is_some s.past), faults.Order) ∷ (is_some (pin_named name s.pins), faults.Name) ∷ (nat_le MOST_KEPT (length s.pins), faults.TooMany) ∷ [])

abbrev pub is_ascending : List ℕ → Bool
is_ascending [] = true
is_ascending (v ∷ []) = true
is_ascending (v ∷ w ∷ vs) = nat_lt v w && is_ascending (w ∷ vs)

-- vertices of a graph
abbrev pub vertices_fault : List ℕ → Past → Option Fault
vertices_fault frontier past = first_fault ((not (list_all (λ v. nat_lt v past.vertex_count) frontier), faults.Range) ∷ [])

-- a vertex of the graph that a version shows
abbrev pub home_fault : ℕ → Past → Option Fault
home_fault v past = first_fault ((not (nat_lt v past.vertex_count), faults.Range) ∷ [])

-- a rebase of a version
abbrev pub rebase_fault : Past → Option Fault
rebase_fault past = first_fault ((nat_le SERVED_EPOCHS (epoch_of past), faults.EpochsFull) ∷ [])

-- a frontier of a graph with so many vertices
abbrev pub is_frontier : ℕ → List ℕ → Bool
is_frontier vertices frontier = is_ascending frontier && list_all (λ v. nat_lt v vertices) frontier

-- an argument for a record of this length, and a frontier of a graph with so many vertices
abbrev pub argument_fault : List ℕ → ℕ → ℕ → List ℕ → Option Fault
argument_fault argument record_length vertices frontier =
    first_fault ((not (length argument + EDGE_BYTES == record_length), faults.ArgumentLength) ∷ (not (is_frontier vertices frontier), faults.Frontier) ∷ [])

-- an argument for a record of this length
abbrev pub length_fault : List ℕ → ℕ → Option Fault
length_fault argument record_length =
    first_fault ((not (length argument + EDGE_BYTES == record_length), faults.ArgumentLength) ∷ [])

-- so many numbers from a vertex on are of vertices
abbrev pub is_span : (vertices first count : ℕ) → Bool
is_span vertices first count = nat_lt first vertices && nat_le (first + count) vertices

-- numbers of a column from a vertex on
abbrev pub column_fault : List ℕ → ℕ → List ℕ → Past → Session → Option Fault
column_fault name first numbers past s =
    first_fault ((not (is_span past.vertex_count first (length numbers)), faults.Range) ∷ (not (is_some (column_named name s.columns)) && nat_le MOST_KEPT_COLUMNS (length s.columns), faults.TooMany) ∷ [])

-- vertices whose numbers are shown
abbrev pub shown_fault : List ℕ → Option Fault
shown_fault frontier = first_fault ((not (is_ascending frontier), faults.Frontier) ∷ [])

-- a number for each of so many vertices
abbrev pub is_column : ℕ → List ℕ → Bool
is_column vertices numbers = length numbers == vertices

-- columns for the records of a graph's edges, and those that are written: there are few enough for a record, and each has a
-- number for each vertex
abbrev pub are_lent : (vertices : ℕ) → (columns into : List (List ℕ)) → Bool
are_lent vertices columns into = nat_le (length columns) MOST_COLUMNS && list_all (is_column vertices) columns && list_all (is_column vertices) into

-- an argument and columns for a program's records, a frontier of a graph with so many vertices, and the columns that are written
abbrev pub lent_fault : Asked → Program → (vertices : ℕ) → (columns into : List (List ℕ)) → Option Fault
lent_fault asked p vertices columns into =
    first_fault ((not (length asked.argument + EDGE_BYTES + COLUMN_BYTES * length columns == p.record_length), faults.ArgumentLength) ∷ (not (is_frontier vertices asked.frontier), faults.Frontier) ∷ (not (are_lent vertices columns into), faults.TooMany) ∷ [])

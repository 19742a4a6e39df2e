-- What a session answers to a command, and the session after it.
use Rattle.std.specs.Prelude.{ℕ, ◌+◌, ◌*◌, ◌==◌, ◌&&◌, nat_le, nat_lt, Bool, if◌then◌else◌, not, List, [], ◌∷◌, ◌++◌, length, map, filter, take, drop, replicate, slice_index, slice_set, Option, Some, None, Result, Ok, Err}
use Rattle.bpf_isa.specs.declared.limits.TheConstants.{MOST_UNITS}
use Rattle.past_model.specs.declared.edit.Edit.{Edit}
use Rattle.past_model.specs.declared.entry.Entry.{Entry}
use Rattle.graph_model.specs.Graph.{Graph, numbers_below, edge_count, degree}
use Rattle.past_model.specs.Edits.{added, removed}
use Rattle.past_model.specs.Past.{Past, opening, longer, graph_of, number_of, epoch_of}
use Rattle.past_model.specs.Epochs.{rebased}
use Rattle.past_model.specs.Homes.{home_of}
use Rattle.bpf_image.specs.Program.{Program, units}
use Rattle.bpf_image.specs.declared.image_error.ImageError.{ImageError}
use Rattle.bpf_image.specs.declared.image_error.ImageError.TheVariants.{CodeLength}
use Rattle.map_model.specs.declared.reduction.Reduction.{Reduction}
use Rattle.map_model.specs.declared.row.Row.{Row}
use Rattle.map_model.specs.EdgeMap.{Inputs, all_numbers, all_with, rows_of, rows_with, reduction_of_numbers, listed_edges}
use Rattle.map_model.specs.Parts.{values_for, pair_numbers}
use Rattle.map_model.specs.Pushes.{changed}
use Rattle.map_model.specs.PushParts.{pushed_edges}
use Rattle.verifier.specs.Walks.{longest}
use Rattle.verifier.specs.Verdict.{Verdict, Accepted, Refused, verdict}
use Rattle.session_model.specs.declared.fault.Fault.{Fault}
use Rattle.session_model.specs.declared.fault.Fault.TheVariants as faults
use Rattle.session_model.specs.declared.way.Way.{Way}
use Rattle.session_model.specs.declared.way.Way.TheVariants as ways
use Rattle.session_model.specs.Session.{Session, program_named, pin_named, column_named, columns_named, stored}
use Rattle.session_model.specs.Images.{loaded}
use Rattle.session_model.specs.Commands.{Asked, Command, MakeGraph, PublishBatch, LoadProgram, LoadImage, TakePin, RunProgram, ReportHome, Rebase, ListEdges, SetColumn, ShowValues, PullRows, WriteColumn, Answer, GraphMade, BatchPublished, ProgramAccepted, ProgramRefused, NoImage, PinTaken, EdgesMapped, HomeReported, Rebased, EdgesListed, ColumnSet, ValuesShown, RowsPulled, ColumnWritten}
use Rattle.session_model.specs.Faults.{graph_fault, batch_fault, program_fault, image_fault, pin_fault, vertices_fault, home_fault, rebase_fault, argument_fault, length_fault, column_fault, shown_fault, lent_fault}

-- an answer with the session after it, or a fault
pub data Response : Type 0 where
  Answers : Answer → Session → Response
  Fails : Fault → Response

-- a fault, or else this
abbrev pub unless_fault : Option Fault → Response → Response
unless_fault None response = response
unless_fault (Some fault) response = Fails fault

-- goes on with what is there, or has a fault
abbrev pub response_with : {A : Type 0} → Option A → Fault → (A → Response) → Response
response_with None fault go = Fails fault
response_with (Some x) fault go = go x

abbrev pub graph_response : ℕ → Session → Response
graph_response n s = unless_fault (graph_fault n s) (Answers (GraphMade n) (record s { past = Some (opening n) }))

abbrev pub entry_of : ℕ → List Edit → Entry
entry_of feed edits = record { feed = feed; batch = edits }

-- what a batch does to the graph of a version, as the next version's number and counts
abbrev pub published_answer : ℕ → List Edit → Past → Answer
published_answer feed edits past =
    BatchPublished feed (number_of past + 1) (added edits (graph_of past)) (removed edits (graph_of past))

abbrev pub publish_response : ℕ → List Edit → Session → Response
publish_response feed edits s =
    response_with s.past faults.Order (λ past.
    unless_fault (batch_fault feed edits past)
    (Answers (published_answer feed edits past) (record s { past = Some (longer past (entry_of feed edits)); held = None })))

-- code of some whole units, and of no more than there may be
abbrev pub is_code : Program → Bool
is_code p = (8 * units p == length p.code) && nat_le 1 (units p) && nat_le (units p) MOST_UNITS

-- a program is kept where the verifier accepts it
abbrev pub verdict_response : Verdict → List ℕ → Program → Session → Response
verdict_response (Accepted bound frames) name p s =
    Answers (ProgramAccepted name bound frames) (record s { programs = s.programs ++ record { name = name; program = p } ∷ [] })
verdict_response (Refused refusal) name p s = Answers (ProgramRefused name refusal) s

-- what becomes of a program whose name and record length are allowed
abbrev pub code_response : List ℕ → Program → Session → Response
code_response name p s = if is_code p then verdict_response (verdict p) name p s else Answers (NoImage name CodeLength) s

abbrev pub load_response : List ℕ → Program → Session → Response
load_response name p s = unless_fault (program_fault name p.record_length s) (code_response name p s)

-- what becomes of an image whose name is allowed
abbrev pub loaded_response : Result Program ImageError → List ℕ → Session → Response
loaded_response (Ok p) name s = verdict_response (verdict p) name p s
loaded_response (Err error) name s = Answers (NoImage name error) s

abbrev pub image_response : List ℕ → List ℕ → Session → Response
image_response name bytes s = unless_fault (image_fault name s) (loaded_response (loaded bytes) name s)

abbrev pub pin_response : List ℕ → Session → Response
pin_response name s =
    unless_fault (pin_fault name s)
    (response_with s.past faults.Order (λ past.
    Answers (PinTaken name (number_of past) (edge_count (graph_of past))) (record s { pins = s.pins ++ record { name = name; past = past } ∷ [] })))

-- the vertices whose edges are mapped: those that are named, or all
abbrev pub frontier_of : List ℕ → Graph → List ℕ
frontier_of [] g = numbers_below g.vertex_count
frontier_of (v ∷ vs) g = v ∷ vs

-- whether a row is of a vertex with a neighbour
abbrev pub has_neighbour : Graph → Row → Bool
has_neighbour g row = nat_lt 0 (degree g row.vertex)

-- a program mapped over the edges of a graph: how many there are, what all their numbers reduce to, and the rows of
-- vertices with a neighbour
abbrev pub map_answer : List ℕ → List ℕ → Program → Graph → Reduction → List ℕ → List ℕ → Answer
map_answer program pin p g reduction argument frontier =
    let numbers = all_numbers p (longest p) g argument frontier in
    EdgesMapped program pin (length numbers) (reduction_of_numbers reduction numbers)
    (filter (has_neighbour g) (rows_of p (longest p) g reduction argument frontier))

-- a run of a program and a pin that are there
abbrev pub map_response : List ℕ → List ℕ → Reduction → List ℕ → List ℕ → Program → Past → Session → Response
map_response program pin reduction argument frontier p past s =
    unless_fault (argument_fault argument p.record_length past.vertex_count frontier)
    (Answers (map_answer program pin p (graph_of past) reduction argument (frontier_of frontier (graph_of past))) s)

-- a run of a program and a pin, where both are there
abbrev pub found_response : List ℕ → List ℕ → Reduction → List ℕ → List ℕ → Option Program → Option Past → Session → Response
found_response program pin reduction argument frontier found kept s =
    response_with found faults.Name (λ p. response_with kept faults.Name (λ past. map_response program pin reduction argument frontier p past s))

abbrev pub run_response : List ℕ → List ℕ → Reduction → List ℕ → List ℕ → Session → Response
run_response program pin reduction argument frontier s =
    response_with s.past faults.Order (λ last.
    unless_fault (vertices_fault frontier last)
    (found_response program pin reduction argument frontier (program_named program s.programs) (pin_named pin s.pins) s))

-- where a vertex's neighbours are kept in a version, and how many they are
abbrev pub home_answer : ℕ → Past → Answer
home_answer v past = HomeReported v (home_of past v) (degree (graph_of past) v)

abbrev pub home_response : ℕ → Session → Response
home_response v s =
    response_with s.past faults.Order (λ past. unless_fault (home_fault v past) (Answers (home_answer v past) s))

-- a new epoch: its number, and how many edges the graph has
abbrev pub rebase_answer : Past → Answer
rebase_answer past = Rebased (epoch_of past + 1) (edge_count (graph_of past))

-- what is held still is
abbrev pub rebase_response : Session → Response
rebase_response s =
    response_with s.past faults.Order (λ past.
    unless_fault (rebase_fault past) (Answers (rebase_answer past) (record s { past = Some (rebased past) })))

-- all edges of a graph with the numbers of a program: how many there are, and each
abbrev pub list_answer : List ℕ → List ℕ → Program → Graph → List ℕ → Answer
list_answer program pin p g argument = EdgesListed program pin (edge_count g) (listed_edges p (longest p) g argument)

-- the edges of a pin with the numbers of a program, where both are there
abbrev pub listed_response : List ℕ → List ℕ → List ℕ → Option Program → Option Past → Session → Response
listed_response program pin argument found kept s =
    response_with found faults.Name (λ p.
    response_with kept faults.Name (λ past.
    unless_fault (length_fault argument p.record_length)
    (Answers (list_answer program pin p (graph_of past) argument) s)))

abbrev pub list_response : List ℕ → List ℕ → List ℕ → Session → Response
list_response program pin argument s =
    response_with s.past faults.Order (λ last.
    listed_response program pin argument (program_named program s.programs) (pin_named pin s.pins) s)

-- ---- columns

-- a column's numbers, or a 0 for each of so many vertices where there is none
abbrev pub numbers_or_zeros : ℕ → Option (List ℕ) → List ℕ
numbers_or_zeros vertices None = replicate vertices 0
numbers_or_zeros vertices (Some numbers) = numbers

-- a column with these numbers from a vertex on
abbrev pub with_numbers : (first : ℕ) → (numbers column : List ℕ) → List ℕ
with_numbers first numbers column = take first column ++ (numbers ++ drop (first + length numbers) column)

abbrev pub column_response : List ℕ → ℕ → List ℕ → Session → Response
column_response name first numbers s =
    response_with s.past faults.Order (λ past.
    unless_fault (column_fault name first numbers past s)
    (Answers (ColumnSet name (length numbers))
    (record s { columns = stored name (with_numbers first numbers (numbers_or_zeros past.vertex_count (column_named name s.columns))) s.columns })))

-- a vertex with its number
abbrev pub value_at : List ℕ → ℕ → Row
value_at numbers v = record { vertex = v; value = slice_index numbers v }

abbrev pub is_not_zero : Row → Bool
is_not_zero row = not (row.value == 0)

-- the numbers of vertices; where none is named, those of all vertices that are not 0
abbrev pub values_of : (vertices : ℕ) → (numbers frontier : List ℕ) → List Row
values_of vertices numbers [] = filter is_not_zero (map (value_at numbers) (numbers_below vertices))
values_of vertices numbers (v ∷ vs) = map (value_at numbers) (v ∷ vs)

abbrev pub values_response : List ℕ → List ℕ → Session → Response
values_response name frontier s =
    response_with s.past faults.Order (λ last.
    unless_fault (vertices_fault frontier last)
    (response_with (column_named name s.columns) faults.Name (λ numbers.
    unless_fault (shown_fault frontier) (Answers (ValuesShown (values_of last.vertex_count numbers frontier)) s))))

-- a command that lends columns goes on with its program, the version of its pin, and the numbers of its columns
abbrev pub lent_response : Asked → Session → (Program → Past → List (List ℕ) → Response) → Response
lent_response asked s go =
    response_with s.past faults.Order (λ last.
    unless_fault (vertices_fault asked.frontier last)
    (response_with (program_named asked.program s.programs) faults.Name (λ p.
    response_with (pin_named asked.pin s.pins) faults.Name (λ past.
    response_with (columns_named asked.columns s.columns) faults.Name (λ columns. go p past columns)))))

abbrev pub inputs_of : List ℕ → List (List ℕ) → Inputs
inputs_of argument columns = record { argument = argument; columns = columns }

-- the numbers of the edges of a frontier, whose records have columns
abbrev pub lent_numbers : Asked → Program → Graph → List (List ℕ) → List ℕ
lent_numbers asked p g columns = all_with p (longest p) g (inputs_of asked.argument columns) (frontier_of asked.frontier g)

-- how many edges there are, what all their numbers reduce to, and the rows of vertices with a neighbour
abbrev pub rows_answer : Asked → Program → Graph → List (List ℕ) → Answer
rows_answer asked p g columns =
    let numbers = lent_numbers asked p g columns in
    RowsPulled asked.program asked.pin (length numbers) (reduction_of_numbers asked.reduction numbers)
    (filter (has_neighbour g) (rows_with p (longest p) g asked.reduction (inputs_of asked.argument columns) (frontier_of asked.frontier g)))

abbrev pub pull_response : Asked → Session → Response
pull_response asked s =
    lent_response asked s (λ p past columns.
    unless_fault (lent_fault asked p past.vertex_count columns [])
    (Answers (rows_answer asked p (graph_of past) columns) s))

-- a column after each vertex of a frontier has got its value
abbrev pub placed : (frontier values numbers : List ℕ) → List ℕ
placed [] values numbers = numbers
placed (v ∷ vs) [] numbers = numbers
placed (v ∷ vs) (x ∷ xs) numbers = placed vs xs (slice_set numbers v x)

-- the exit numbers of a command that writes a column: of the edges of a frontier, or of its vertices, each as a pair with itself
abbrev pub exit_numbers : Way → Program → Graph → Inputs → (frontier : List ℕ) → List ℕ
exit_numbers ways.Pull p g inputs frontier = all_with p (longest p) g inputs frontier
exit_numbers ways.Push p g inputs frontier = all_with p (longest p) g inputs frontier
exit_numbers ways.Each p g inputs frontier = pair_numbers p (longest p) g inputs frontier frontier

-- What such a command leaves of a column: at each vertex of the frontier what the numbers of its edges reduce to; the number
-- of each edge reduced into that of its target; or at each vertex of the frontier its own number.
abbrev pub column_after : Way → Program → Graph → Reduction → Inputs → (frontier numbers : List ℕ) → List ℕ
column_after ways.Pull p g r inputs frontier numbers = placed frontier (values_for p (longest p) g r inputs frontier) numbers
column_after ways.Push p g r inputs frontier numbers = pushed_edges p (longest p) g r inputs frontier numbers
column_after ways.Each p g r inputs frontier numbers =
    placed frontier (pair_numbers p (longest p) g inputs frontier frontier) numbers

-- a command that writes a column: all numbers that it reads are those before it, also of the column that it writes
abbrev pub write_response : Way → Asked → List ℕ → Session → Response
write_response way asked into s =
    lent_response asked s (λ p past columns.
    response_with (column_named into s.columns) faults.Name (λ numbers.
    unless_fault (lent_fault asked p past.vertex_count columns (numbers ∷ []))
    (let g = graph_of past in
    let inputs = inputs_of asked.argument columns in
    let frontier = frontier_of asked.frontier g in
    let exits = exit_numbers way p g inputs frontier in
    let after = column_after way p g asked.reduction inputs frontier numbers in
    Answers (ColumnWritten way asked.program asked.pin (length exits) (reduction_of_numbers asked.reduction exits) (changed numbers after))
    (record s { columns = stored into after s.columns }))))

abbrev pub response : Command → Session → Response
response (MakeGraph n) s = graph_response n s
response (PublishBatch feed edits) s = publish_response feed edits s
response (LoadProgram name p) s = load_response name p s
response (LoadImage name bytes) s = image_response name bytes s
response (TakePin name) s = pin_response name s
response (RunProgram program pin reduction argument frontier) s =
    run_response program pin reduction argument frontier s
response (ReportHome v) s = home_response v s
response Rebase s = rebase_response s
response (ListEdges program pin argument) s = list_response program pin argument s
response (SetColumn name first numbers) s = column_response name first numbers s
response (ShowValues name frontier) s = values_response name frontier s
response (PullRows asked) s = pull_response asked s
response (WriteColumn way asked into) s = write_response way asked into s

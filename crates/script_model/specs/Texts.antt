-- The lines that are written.
use Rattle.std.specs.Prelude.{ℕ, ◌==◌, if◌then◌else◌, List, [], ◌∷◌, ◌++◌, codes}
use Rattle.std.specs.List.{flat_map}
use Rattle.std.specs.Fmt.{decimal}
use Rattle.bpf_image.specs.declared.image_error.ImageError.{ImageError}
use Rattle.bpf_image.specs.declared.image_error.ImageError.TheVariants as images
use Rattle.verifier.specs.declared.refusal.Refusal.{Refusal}
use Rattle.verifier.specs.Causes.{cause_number}
use Rattle.bpf_asm.specs.declared.errors.TextCause.{TextCause}
use Rattle.bpf_asm.specs.declared.errors.TextCause.TheVariants.{Syntax, UnknownName, DoubleLabel, UnknownLabel, NumberRange, TooLong, OutOfMemory}
use Rattle.bpf_asm.specs.declared.errors.AssembleError.{AssembleError}
use Rattle.map_model.specs.declared.row.Row.{Row}
use Rattle.map_model.specs.declared.listed_edge.ListedEdge.{ListedEdge}
use Rattle.past_model.specs.declared.home.Home.{Home}
use Rattle.past_model.specs.declared.home.Home.TheVariants.{Block, Gapped, Tree}
use Rattle.session_model.specs.declared.fault.Fault.{Fault}
use Rattle.session_model.specs.declared.fault.Fault.TheVariants as faults
use Rattle.session_model.specs.declared.way.Way.{Way}
use Rattle.session_model.specs.declared.way.Way.TheVariants as ways
use Rattle.session_model.specs.Commands.{Answer, GraphMade, BatchPublished, ProgramAccepted, ProgramRefused, NoImage, PinTaken, EdgesMapped, HomeReported, Rebased, EdgesListed, ColumnSet, ValuesShown, RowsPulled, ColumnWritten}
use Rattle.script_model.specs.declared.line_fault.LineFault.{LineFault}
use Rattle.script_model.specs.declared.line_fault.LineFault.TheVariants as line_faults

abbrev pub newline : List ℕ
newline = 10 ∷ []

abbrev pub fault_number : Fault → ℕ
fault_number faults.Order = 3
fault_number faults.Range = 4
fault_number faults.Name = 5
fault_number faults.ArgumentLength = 6
fault_number faults.Frontier = 7
fault_number faults.TooMany = 8
fault_number faults.LogFull = 9
fault_number faults.EpochsFull = 11

abbrev pub line_fault_number : LineFault → ℕ
line_fault_number line_faults.LongLine = 1
line_fault_number line_faults.Words = 2
line_fault_number (line_faults.Command fault) = fault_number fault
line_fault_number line_faults.OpenBlock = 10

-- the number of what is wrong with a program's text
abbrev pub text_cause_number : TextCause → ℕ
text_cause_number Syntax = 1
text_cause_number UnknownName = 2
text_cause_number DoubleLabel = 3
text_cause_number UnknownLabel = 4
text_cause_number NumberRange = 5
text_cause_number TooLong = 6
text_cause_number OutOfMemory = 7

abbrev pub graph_text : ℕ → List ℕ
graph_text n = codes "graph " ++ decimal n ++ newline

-- the letter of a feed
abbrev pub feed_text : ℕ → List ℕ
feed_text feed =
    if feed == 0 then codes "A"
    else (if feed == 1 then codes "B"
    else (if feed == 2 then codes "C" else codes "D"))

abbrev pub batch_text : ℕ → ℕ → ℕ → ℕ → List ℕ
batch_text feed number added removed =
    codes "batch " ++ feed_text feed ++ codes " version " ++ decimal number ++ codes " added " ++ decimal added ++ codes " removed " ++ decimal removed ++ newline

abbrev pub program_text : List ℕ → ℕ → ℕ → List ℕ
program_text name bound frames =
    codes "program " ++ name ++ codes " bound " ++ decimal bound ++ codes " frames " ++ decimal frames ++ newline

abbrev pub refused_text : List ℕ → Refusal → List ℕ
refused_text name refusal =
    codes "refused " ++ name ++ codes " cause " ++ decimal (cause_number refusal.cause) ++ codes " pc " ++ decimal refusal.pc ++ newline

-- the number of what is wrong with an image
abbrev pub image_error_number : ImageError → ℕ
image_error_number images.Magic = 1
image_error_number images.Length = 2
image_error_number images.RecordLength = 3
image_error_number images.CodeLength = 4
image_error_number images.OutOfMemory = 5
image_error_number images.TableLength = 6

abbrev pub image_text : List ℕ → ImageError → List ℕ
image_text name error = codes "image " ++ name ++ codes " error " ++ decimal (image_error_number error) ++ newline

-- what is wrong with a program's text, at a line of its block
abbrev pub assembler_text : List ℕ → AssembleError → List ℕ
assembler_text name e =
    codes "assembler " ++ name ++ codes " error " ++ decimal (text_cause_number e.cause) ++ codes " line " ++ decimal e.line ++ newline

abbrev pub pin_text : List ℕ → ℕ → ℕ → List ℕ
pin_text name number edges =
    codes "pin " ++ name ++ codes " version " ++ decimal number ++ codes " edges " ++ decimal edges ++ newline

-- what was mapped, and what that gave, after the first word of a line
abbrev pub mapped_text : (program pin : List ℕ) → (edges total : ℕ) → List ℕ
mapped_text program pin edges total =
    program ++ codes " " ++ pin ++ codes " edges " ++ decimal edges ++ codes " total " ++ decimal total

abbrev pub run_text : (program pin : List ℕ) → (edges total : ℕ) → List ℕ
run_text program pin edges total = codes "run " ++ mapped_text program pin edges total ++ newline

abbrev pub row_text : Row → List ℕ
row_text row = codes "row " ++ decimal row.vertex ++ codes " " ++ decimal row.value ++ newline

abbrev pub home_word : Home → List ℕ
home_word Block = codes "block"
home_word Gapped = codes "gapped"
home_word Tree = codes "tree"

abbrev pub home_text : ℕ → Home → ℕ → List ℕ
home_text v home degree =
    codes "home " ++ decimal v ++ codes " " ++ home_word home ++ codes " degree " ++ decimal degree ++ newline

abbrev pub rebase_text : ℕ → ℕ → List ℕ
rebase_text epoch edges = codes "rebase epoch " ++ decimal epoch ++ codes " edges " ++ decimal edges ++ newline

-- the first line of a list
abbrev pub list_text : List ℕ → List ℕ → ℕ → List ℕ
list_text program pin edges =
    codes "list " ++ program ++ codes " " ++ pin ++ codes " edges " ++ decimal edges ++ newline

-- an edge of a list
abbrev pub edge_text : ListedEdge → List ℕ
edge_text e =
    codes "edge " ++ decimal e.source ++ codes " " ++ decimal e.target ++ codes " " ++ decimal e.number ++ newline

abbrev pub column_text : List ℕ → ℕ → List ℕ
column_text name count = codes "column " ++ name ++ codes " set " ++ decimal count ++ newline

abbrev pub value_text : Row → List ℕ
value_text row = codes "value " ++ decimal row.vertex ++ codes " " ++ decimal row.value ++ newline

-- the first line of a pull
abbrev pub pull_text : (program pin : List ℕ) → (edges total : ℕ) → List ℕ
pull_text program pin edges total = codes "pull " ++ mapped_text program pin edges total ++ newline

-- the first word of a command that writes a column
abbrev pub way_word : Way → List ℕ
way_word ways.Pull = codes "pull "
way_word ways.Push = codes "push "
way_word ways.Each = codes "each "

-- what it was run for
abbrev pub counted_word : Way → List ℕ
counted_word ways.Pull = codes " edges "
counted_word ways.Push = codes " edges "
counted_word ways.Each = codes " vertices "

-- what came of it
abbrev pub counts_text : Way → (count total changed : ℕ) → List ℕ
counts_text way count total changed =
    counted_word way ++ decimal count ++ codes " total " ++ decimal total ++ codes " changed " ++ decimal changed ++ newline

abbrev pub written_text : Way → (program pin : List ℕ) → (count total changed : ℕ) → List ℕ
written_text way program pin count total changed =
    way_word way ++ program ++ codes " " ++ pin ++ counts_text way count total changed

-- what is written for an answer
abbrev pub answer_text : Answer → List ℕ
answer_text (GraphMade vertices) = graph_text vertices
answer_text (BatchPublished feed number added removed) = batch_text feed number added removed
answer_text (ProgramAccepted name bound frames) = program_text name bound frames
answer_text (ProgramRefused name refusal) = refused_text name refusal
answer_text (NoImage name error) = image_text name error
answer_text (PinTaken name number edges) = pin_text name number edges
answer_text (EdgesMapped program pin edges total rows) = run_text program pin edges total ++ flat_map row_text rows
answer_text (HomeReported v home degree) = home_text v home degree
answer_text (Rebased epoch edges) = rebase_text epoch edges
answer_text (EdgesListed program pin edges listed) = list_text program pin edges ++ flat_map edge_text listed
answer_text (ColumnSet name count) = column_text name count
answer_text (ValuesShown rows) = flat_map value_text rows
answer_text (RowsPulled program pin edges total rows) = pull_text program pin edges total ++ flat_map row_text rows
answer_text (ColumnWritten way program pin count total changed) = written_text way program pin count total changed

abbrev pub fault_text : LineFault → ℕ → List ℕ
fault_text fault line = codes "fault " ++ decimal (line_fault_number fault) ++ codes " line " ++ decimal line ++ newline

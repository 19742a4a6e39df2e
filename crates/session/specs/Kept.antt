-- What a session keeps, and what commands and answers stand for.
use Rattle.std.specs.Prelude.{ℕ, List, map, Option, Some, None, option_map}
use Rattle.std.specs.Borrow.{Bor}
use Rattle.std.specs.Option.{option_copied}
use Rattle.std.specs.declared.sync.Arc.{Arc}
use Rattle.std.specs.declared.alloc.Global.{Global}
use Rattle.std.specs.Arc.{arc_value}
use Rattle.bpf_image.specs.Program.{Program, without_table}
use Rattle.map_model.specs.declared.listed_edge.ListedEdge.{ListedEdge}
use Rattle.past_model.specs.declared.entry.Entry.{Entry}
use Rattle.past_model.specs.Past.{Past}
use Rattle.history.specs.Moment.{Moment}
use Rattle.session_model.specs.Session.{KeptProgram, KeptPin, KeptColumn, Session}
use Rattle.session_model.specs.Commands.{Asked, Command, MakeGraph, PublishBatch, LoadProgram, LoadImage, TakePin, RunProgram, ReportHome, Rebase, ListEdges, SetColumn, ShowValues, PullRows, WriteColumn, Answer, GraphMade, BatchPublished, ProgramAccepted, ProgramRefused, NoImage, PinTaken, EdgesMapped, HomeReported, Rebased, EdgesListed, ColumnSet, ValuesShown, RowsPulled, ColumnWritten}
use Rattle.session.specs.Handles.{StoreState}
use Rattle.session.specs.declared.kept.NamedProgram.{NamedProgram}
use Rattle.session.specs.declared.kept.NamedPin.{NamedPin}
use Rattle.session.specs.declared.kept.NamedColumn.{NamedColumn}
use Rattle.session.specs.declared.command.Asked.{Asked as GivenAsked}
use Rattle.session.specs.declared.command.Command.{Command as GivenCommand}
use Rattle.session.specs.declared.command.Command.TheVariants as commands
use Rattle.session.specs.declared.answer.Answer.{Answer as GivenAnswer}
use Rattle.session.specs.declared.answer.Answer.TheVariants as answers

abbrev pub kept_program : NamedProgram → KeptProgram
kept_program p = record { name = p.name.items; program = arc_value p.program }

abbrev pub kept_pin : NamedPin → KeptPin
kept_pin p = record { name = p.name.items; past = p.pin.past }

abbrev pub kept_column : NamedColumn → KeptColumn
kept_column c = record { name = c.name.items; numbers = c.numbers.items }

-- numbers, where there are any
abbrev pub numbers_in : Option (Bor (List ℕ)) → Option (List ℕ)
numbers_in numbers = option_map (λ (b : Bor (List ℕ)). b.now) numbers

abbrev pub each_now : List (Bor (List ℕ)) → List (List ℕ)
each_now lent = map (λ (b : Bor (List ℕ)). b.now) lent

-- a session with this store
abbrev pub with_store : Session → StoreState → Session
with_store s store = record s { past = Some store.past; held = store.held }

-- a program, where there is one
abbrev pub program_of : Option (Bor (Arc Program Global)) → Option Program
program_of program = option_map (λ (p : Arc Program Global). arc_value p) (option_copied program)

-- what the version of a pin is the replay of, where there is a pin
abbrev pub past_of : Option (Bor Moment) → Option Past
past_of pin = option_map (λ (m : Moment). m.past) (option_copied pin)

-- the last version of a store, where there is a store
abbrev pub past_in : Option StoreState → Option Past
past_in None = None
past_in (Some store) = Some store.past

-- the batch that a store holds, where there is one
abbrev pub held_in : Option StoreState → Option Entry
held_in None = None
held_in (Some store) = store.held

abbrev pub session_of : Option StoreState → List NamedProgram → List NamedPin → List NamedColumn → Session
session_of store programs pins columns =
    record { past = past_in store; held = held_in store; programs = map kept_program programs; pins = map kept_pin pins; columns = map kept_column columns }

abbrev pub asked_of : GivenAsked → Asked
asked_of a =
    record { program = a.program.now; pin = a.pin.now; reduction = a.reduction; argument = a.argument.now; columns = each_now a.columns.now; frontier = a.frontier.now }

abbrev pub command_of : GivenCommand → Command
command_of (commands.MakeGraph vertices) = MakeGraph vertices
command_of (commands.PublishBatch feed edits) = PublishBatch feed edits.items
command_of (commands.LoadProgram name record_length code) =
    LoadProgram name.now (without_table code.items record_length)
command_of (commands.LoadImage name bytes) = LoadImage name.now bytes.items
command_of (commands.TakePin name) = TakePin name.now
command_of (commands.RunProgram program pin reduction argument frontier) =
    RunProgram program.now pin.now reduction argument.now frontier.now
command_of (commands.ReportHome vertex) = ReportHome vertex
command_of commands.Rebase = Rebase
command_of (commands.ListEdges program pin argument) = ListEdges program.now pin.now argument.items
command_of (commands.SetColumn name first numbers) = SetColumn name.now first numbers.now
command_of (commands.ShowValues name frontier) = ShowValues name.now frontier.now
command_of (commands.PullRows asked) = PullRows (asked_of asked)
command_of (commands.WriteColumn way asked into) = WriteColumn way (asked_of asked) into.now

abbrev pub answer_of : GivenAnswer → Answer
answer_of (answers.GraphMade vertices) = GraphMade vertices
answer_of (answers.BatchPublished feed number added removed) = BatchPublished feed number added removed
answer_of (answers.ProgramAccepted name bound frames) = ProgramAccepted name.now bound frames
answer_of (answers.ProgramRefused name refusal) = ProgramRefused name.now refusal
answer_of (answers.NoImage name error) = NoImage name.now error
answer_of (answers.PinTaken name number edges) = PinTaken name.now number edges
answer_of (answers.EdgesMapped program pin edges total rows) = EdgesMapped program.now pin.now edges total rows.items
answer_of (answers.HomeReported vertex home degree) = HomeReported vertex home degree
answer_of (answers.Rebased epoch edges) = Rebased epoch edges
answer_of (answers.EdgesListed program pin edges listing) = EdgesListed program.now pin.now edges listing
answer_of (answers.ColumnSet name count) = ColumnSet name.now count
answer_of (answers.ValuesShown rows) = ValuesShown rows.items
answer_of (answers.RowsPulled program pin edges total rows) = RowsPulled program.now pin.now edges total rows.items
answer_of (answers.ColumnWritten way program pin count total changed) = ColumnWritten way program.now pin.now count total changed

-- the edges that an answer lists, if it does
abbrev pub listing_of : GivenAnswer → Option (List ListedEdge)
listing_of (answers.EdgesListed program pin edges listing) = Some listing
listing_of (answers.GraphMade vertices) = None
listing_of (answers.BatchPublished feed number added removed) = None
listing_of (answers.ProgramAccepted name bound frames) = None
listing_of (answers.ProgramRefused name refusal) = None
listing_of (answers.NoImage name error) = None
listing_of (answers.PinTaken name number edges) = None
listing_of (answers.EdgesMapped program pin edges total rows) = None
listing_of (answers.HomeReported vertex home degree) = None
listing_of (answers.Rebased epoch edges) = None
listing_of (answers.ColumnSet name count) = None
listing_of (answers.ValuesShown rows) = None
listing_of (answers.RowsPulled program pin edges total rows) = None
listing_of (answers.ColumnWritten way program pin count total changed) = None

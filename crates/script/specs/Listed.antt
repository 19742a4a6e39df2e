-- The lines of a list, which are written apart from its first one.
use Rattle.std.specs.Prelude.{ℕ, List}
use Rattle.session_model.specs.Commands.{Answer, GraphMade, BatchPublished, ProgramAccepted, ProgramRefused, NoImage, PinTaken, EdgesMapped, HomeReported, Rebased, EdgesListed, ColumnSet, ValuesShown, RowsPulled, ColumnWritten}
use Rattle.script_model.specs.Texts.{answer_text, list_text}

-- the lines of an answer, but for those of the edges that it lists
abbrev pub first_text : Answer → List ℕ
first_text (EdgesListed program pin edges listed) = list_text program pin edges
first_text (GraphMade vertices) = answer_text (GraphMade vertices)
first_text (BatchPublished feed number added removed) = answer_text (BatchPublished feed number added removed)
first_text (ProgramAccepted name bound frames) = answer_text (ProgramAccepted name bound frames)
first_text (ProgramRefused name refusal) = answer_text (ProgramRefused name refusal)
first_text (NoImage name error) = answer_text (NoImage name error)
first_text (PinTaken name number edges) = answer_text (PinTaken name number edges)
first_text (EdgesMapped program pin edges total rows) = answer_text (EdgesMapped program pin edges total rows)
first_text (HomeReported v home degree) = answer_text (HomeReported v home degree)
first_text (Rebased epoch edges) = answer_text (Rebased epoch edges)
first_text (ColumnSet name count) = answer_text (ColumnSet name count)
first_text (ValuesShown rows) = answer_text (ValuesShown rows)
first_text (RowsPulled program pin edges total rows) = answer_text (RowsPulled program pin edges total rows)
first_text (ColumnWritten way program pin count total changed) = answer_text (ColumnWritten way program pin count total changed)

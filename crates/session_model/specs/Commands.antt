-- What a session can be asked for, and what it can answer.
use Rattle.std.specs.Prelude.{ℕ, List}
use Rattle.bpf_image.specs.Program.{Program}
use Rattle.bpf_image.specs.declared.image_error.ImageError.{ImageError}
use Rattle.map_model.specs.declared.reduction.Reduction.{Reduction}
use Rattle.map_model.specs.declared.row.Row.{Row}
use Rattle.map_model.specs.declared.listed_edge.ListedEdge.{ListedEdge}
use Rattle.past_model.specs.declared.edit.Edit.{Edit}
use Rattle.past_model.specs.declared.home.Home.{Home}
use Rattle.verifier.specs.declared.refusal.Refusal.{Refusal}
use Rattle.session_model.specs.declared.way.Way.{Way}

-- what a command that lends columns asks for: a program, a pin and columns by their names, how numbers are reduced, the
-- argument, and the frontier; an empty one stands for all vertices
pub record Asked : Type 0 where
  pub program : List ℕ
  pub pin : List ℕ
  pub reduction : Reduction
  pub argument : List ℕ
  pub columns : List (List ℕ)
  pub frontier : List ℕ

pub data Command : Type 0 where
  -- a graph of so many vertices
  MakeGraph : (vertices : ℕ) → Command
  -- a batch of edits, from a feed
  PublishBatch : (feed : ℕ) (edits : List Edit) → Command
  -- a program under a name
  LoadProgram : (name : List ℕ) → Program → Command
  -- the program of an image's bytes under a name
  LoadImage : (name bytes : List ℕ) → Command
  -- a name for the last version
  TakePin : (name : List ℕ) → Command
  -- a program mapped over the edges of a pin; an empty frontier stands for all vertices
  RunProgram : (program pin : List ℕ) (reduction : Reduction) (argument frontier : List ℕ) → Command
  -- where the last version keeps a vertex's neighbours
  ReportHome : (vertex : ℕ) → Command
  -- the last version's graph becomes the base of a new epoch
  Rebase : Command
  -- all edges of a pin, each with the number that a program exits with for it
  ListEdges : (program pin argument : List ℕ) → Command
  -- numbers of a column from a vertex on; the column is made if there is none
  SetColumn : (name : List ℕ) (first : ℕ) (numbers : List ℕ) → Command
  -- the numbers of a column at vertices; an empty list stands for all vertices whose number is not 0
  ShowValues : (name frontier : List ℕ) → Command
  -- a program mapped over the edges of a pin with columns, a row for each vertex
  PullRows : Asked → Command
  -- a program run with columns, whose numbers go into a column in one of three ways
  WriteColumn : Way → Asked → (into : List ℕ) → Command

pub data Answer : Type 0 where
  GraphMade : (vertices : ℕ) → Answer
  BatchPublished : (feed number added removed : ℕ) → Answer
  ProgramAccepted : (name : List ℕ) (bound frames : ℕ) → Answer
  ProgramRefused : (name : List ℕ) → Refusal → Answer
  -- no image has such code, or is spelled by such bytes
  NoImage : (name : List ℕ) → ImageError → Answer
  PinTaken : (name : List ℕ) (number edges : ℕ) → Answer
  EdgesMapped : (program pin : List ℕ) (edges total : ℕ) → List Row → Answer
  HomeReported : (vertex : ℕ) → Home → (degree : ℕ) → Answer
  Rebased : (epoch edges : ℕ) → Answer
  -- how many edges there are, and then each with its number
  EdgesListed : (program pin : List ℕ) (edges : ℕ) → List ListedEdge → Answer
  -- how many numbers were given
  ColumnSet : (name : List ℕ) (count : ℕ) → Answer
  ValuesShown : List Row → Answer
  RowsPulled : (program pin : List ℕ) (edges total : ℕ) → List Row → Answer
  -- how many runs there were, what their exit numbers reduce to, and at how many vertices the column has another number than before
  ColumnWritten : Way → (program pin : List ℕ) (count total changed : ℕ) → Answer

-- What commands that lend columns find, and what they come to.
use Rattle.std.proofs.Common.{◌≡◌, ◌≤◌, true, false, drop, length, min, List, [], ◌∷◌, ℕ, Some, None, Result, Ok, Err, refl, sym, ap, subst, ◌∙◌, inl, inr, arith}
use Rattle.std.proofs.lemmas.Bool.{cases_lt}
use Rattle.std.proofs.lemmas.List.{drop_all}
use Rattle.std.specs.Prelude.{nat_lt, map, Option}
use Rattle.std.specs.List.{flat_map, list_all}
use Rattle.bpf_image.specs.Program.{Program}
use Rattle.past_model.specs.Past.{Past}
use Rattle.session_model.specs.declared.fault.Fault.TheVariants as faults
use Rattle.map_model.specs.declared.reduction.Reduction.{Reduction}
use Rattle.map_model.specs.EdgeMap.{Inputs, all_with, reduction_of_numbers}
use Rattle.map_model.specs.Pushes.{changed}
use Rattle.map_model.proofs.Pushes.{pushed_long}
use Rattle.verifier.specs.Walks.{longest}
use Rattle.past_model.specs.Past.{graph_of}
use Rattle.session_model.specs.Commands.{Asked, Answer, RowsPulled, ValuesShown, ColumnWritten}
use Rattle.session_model.specs.Faults.{is_ascending, lent_fault}
use Rattle.session_model.specs.Session.{KeptColumn, Session, program_named, pin_named, column_named, stored}
use Rattle.session_model.specs.Responses.{Response, Answers, Fails, response_with, unless_fault, lent_response, exit_numbers, column_after, write_response, inputs_of, frontier_of, rows_answer, values_response, values_of, placed}
use Rattle.session.specs.declared.error.CommandError.{CommandError}
use Rattle.session.specs.declared.error.CommandError.TheVariants as errors
use Rattle.session.specs.declared.lending.Lent.{Lent}
use Rattle.edge_map.specs.declared.job.JobOutcome.{JobOutcome}
use Rattle.edge_map.specs.declared.job.Wanted.TheVariants.{Rows}
use Rattle.edge_map.specs.Jobs.{job_numbers, IsDone}
use Rattle.graph_model.specs.Graph.{Graph, neighbours}
use Rattle.session_model.specs.declared.way.Way.{Way}
use Rattle.session_model.specs.declared.way.Way.TheVariants as ways
use Rattle.session.specs.declared.lending.Written.{Written}
use Rattle.session.specs.declared.answer.Answer.{Answer as GivenAnswer}
use Rattle.session.specs.declared.kept.NamedProgram.{NamedProgram}
use Rattle.session.specs.declared.kept.NamedPin.{NamedPin}
use Rattle.session.specs.declared.kept.NamedColumn.{NamedColumn}
use Rattle.session.specs.Handles.{StoreState}
use Rattle.session.specs.Kept.{answer_of, each_now, kept_column, session_of}
use Rattle.session.specs.Lending.{GoesOn, IsLeft, IsLent, IsWritten, lends, wanted_of, Writes, WritesInto}
use Rattle.session.specs.Performs.{Performs}

pub lent_outside : (asked : Asked) (s : Session) (last : Past) (go : GoesOn) → s.past ≡ Some last → list_all (λ v. nat_lt v last.vertex_count) asked.frontier ≡ false → lent_response asked s go ≡ Fails faults.Range
lent_outside asked s last go past-is below = rw (past-is, below) refl

pub lent_inside : (asked : Asked) (s : Session) (last : Past) (go : GoesOn) → s.past ≡ Some last → list_all (λ v. nat_lt v last.vertex_count) asked.frontier ≡ true
    → lends asked (program_named asked.program s.programs) (pin_named asked.pin s.pins) s.columns go ≡ lent_response asked s go
lent_inside asked s last go past-is below = rw (past-is, below) refl

-- what was found for one response was found for another that goes on alike
pub lent_along : (one other : GoesOn → Response) (found : Result Lent CommandError) → ((go : GoesOn) → one go ≡ other go) → IsLent one found → IsLent other found
lent_along one other (Ok lent) same is = λ go. sym (same go) ∙ is go
lent_along one other (Err (errors.Fault fault)) same is = λ go. sym (same go) ∙ is go
lent_along one other (Err errors.OutOfMemory) same is = is
lent_along one other (Err errors.WorkerRefused) same is = is
lent_along one other (Err errors.Store) same is = is

-- where not all is found, the command has the same fault
pub lent_fails : (response : GoesOn → Response) (go : GoesOn) (s : Session) (error : CommandError) → IsLent response (Err error) → Performs (response go) (Err error) s s
lent_fails response go s (errors.Fault fault) is = (is go, refl)
lent_fails response go s errors.OutOfMemory is = inl refl
lent_fails response go s errors.WorkerRefused is = absurd is
lent_fails response go s errors.Store is = absurd is

-- a command that writes a column, once its program, its pin and its columns are found
abbrev writes_of : Way → Asked → List ℕ → Session → GoesOn
writes_of way asked into s p past columns =
    response_with (column_named into s.columns) faults.Name (λ numbers.
    unless_fault (lent_fault asked p past.vertex_count columns (numbers ∷ []))
    (let g = graph_of past in
    let inputs = inputs_of asked.argument columns in
    let frontier = frontier_of asked.frontier g in
    let exits = exit_numbers way p g inputs frontier in
    let after = column_after way p g asked.reduction inputs frontier numbers in
    Answers (ColumnWritten way asked.program asked.pin (length exits) (reduction_of_numbers asked.reduction exits) (changed numbers after))
    (record s { columns = stored into after s.columns })))

pub write_fails : (way : Way) (asked : Asked) (into : List ℕ) (s : Session) (error : CommandError) → IsLent (lent_response asked s) (Err error) → WritesInto way asked into s (Err error)
write_fails way asked into s (errors.Fault fault) is = is (writes_of way asked into s)
write_fails way asked into s errors.OutOfMemory is = is
write_fails way asked into s errors.WorkerRefused is = is
write_fails way asked into s errors.Store is = is

pub write_unnamed : (way : Way) (asked : Asked) (into : List ℕ) (s : Session) (lent : Lent) → IsLent (lent_response asked s) (Ok lent) → column_named into s.columns ≡ None → WritesInto way asked into s (Err (errors.Fault faults.Name))
write_unnamed way asked into s lent is none =
    is (writes_of way asked into s) ∙ (rw none refl)

pub wrote : (way : Way) (asked : Asked) (into : List ℕ) (s : Session) (lent : Lent) (numbers : List ℕ) (result : Result Written CommandError) → IsLent (lent_response asked s) (Ok lent) → column_named into s.columns ≡ Some numbers
    → Writes way asked lent.program.now lent.pin.now.past (each_now lent.columns.items) numbers result → WritesInto way asked into s result
wrote way asked into s lent numbers (Ok w) is named did =
    is (writes_of way asked into s) ∙ (rw (named, did.fits, did.left.count, did.left.total, did.left.changes, did.left.after) refl)
wrote way asked into s lent numbers (Err (errors.Fault fault)) is named did = is (writes_of way asked into s) ∙ (rw (named, did) refl)
wrote way asked into s lent numbers (Err errors.OutOfMemory) is named did = did
wrote way asked into s lent numbers (Err errors.WorkerRefused) is named did = did
wrote way asked into s lent numbers (Err errors.Store) is named did = did

-- the session after a column is stored
pub session_stored : (store : Option StoreState) (programs : List NamedProgram) (pins : List NamedPin) (before after : List NamedColumn) (s : Session) (into numbers : List ℕ)
    → session_of store programs pins before ≡ s → map kept_column after ≡ stored into numbers (map kept_column before)
    → session_of store programs pins after ≡ record s { columns = stored into numbers s.columns }
session_stored store programs pins before after s into numbers view same =
    subst (λ (t : Session). session_of store programs pins after ≡ record t { columns = stored into numbers t.columns }) view
    (ap (λ (kept : List KeptColumn). record (session_of store programs pins after) { columns = kept }) same)

pub wrote_column : (way : Way) (asked : Asked) (into : List ℕ) (s new : Session) (w : Written) (answer : GivenAnswer) → WritesInto way asked into s (Ok w)
    → new ≡ record s { columns = stored into w.numbers.items s.columns } → answer_of answer ≡ ColumnWritten way asked.program asked.pin w.count w.total w.changed
    → write_response way asked into s ≡ Answers (answer_of answer) new
wrote_column way asked into s new w answer told after said = told ∙ ap (λ (a : Answer). Answers a (record s { columns = stored into w.numbers.items s.columns })) (sym said) ∙ ap (λ (t : Session). Answers (answer_of answer) t) (sym after)

-- ---- the numbers of a column

pub values_outside : (name frontier : List ℕ) (s : Session) (last : Past) → s.past ≡ Some last → list_all (λ v. nat_lt v last.vertex_count) frontier ≡ false → values_response name frontier s ≡ Fails faults.Range
values_outside name frontier s last past-is below = rw (past-is, below) refl

pub values_unnamed : (name frontier : List ℕ) (s : Session) (last : Past) → s.past ≡ Some last → list_all (λ v. nat_lt v last.vertex_count) frontier ≡ true → column_named name s.columns ≡ None → values_response name frontier s ≡ Fails faults.Name
values_unnamed name frontier s last past-is below none = rw (past-is, below, none) refl

pub values_down : (name frontier numbers : List ℕ) (s : Session) (last : Past) → s.past ≡ Some last → list_all (λ v. nat_lt v last.vertex_count) frontier ≡ true → column_named name s.columns ≡ Some numbers → is_ascending frontier ≡ false → values_response name frontier s ≡ Fails faults.Frontier
values_down name frontier numbers s last past-is below named down = rw (past-is, below, named, down) refl

pub values_shown : (name frontier numbers : List ℕ) (s : Session) (last : Past) → s.past ≡ Some last → list_all (λ v. nat_lt v last.vertex_count) frontier ≡ true → column_named name s.columns ≡ Some numbers → is_ascending frontier ≡ true → values_response name frontier s ≡ Answers (ValuesShown (values_of last.vertex_count numbers frontier)) s
values_shown name frontier numbers s last past-is below named up = rw (past-is, below, named, up) refl

-- ---- what is written

pub left_written : (way : Way) (asked : Asked) (p : Program) (past : Past) (columns : List (List ℕ)) (numbers : List ℕ) (w : Written) → lent_fault asked p past.vertex_count columns (numbers ∷ []) ≡ None
    → IsLeft way p (graph_of past) asked.reduction (inputs_of asked.argument columns) (frontier_of asked.frontier (graph_of past)) numbers w → IsWritten way asked p past columns numbers w
left_written way asked p past columns numbers w fits is = record { fits = fits; left = is }

pub rows_told : (asked : Asked) (p : Program) (past : Past) (columns : List (List ℕ)) (first : List ℕ) (out : JobOutcome) (s : Session) → lent_fault asked p past.vertex_count columns [] ≡ None
    → IsDone Rows p (graph_of past) asked.reduction (inputs_of asked.argument columns) (frontier_of asked.frontier (graph_of past)) first out
    → unless_fault (lent_fault asked p past.vertex_count columns []) (Answers (rows_answer asked p (graph_of past) columns) s) ≡ Answers (RowsPulled asked.program asked.pin out.count out.total out.rows.items) s
rows_told asked p past columns first out s fits is = rw (fits, is.count, is.total, is.rows) refl

-- a push has a number for each vertex still
pub found_long : (way : Way) (p : Program) (g : Graph) (r : Reduction) (inputs : Inputs) (frontier numbers : List ℕ) (found : JobOutcome)
    → IsDone (wanted_of way) p g r inputs frontier numbers found → way ≡ ways.Push → length found.numbers.items ≡ length numbers
found_long way p g r inputs frontier numbers found is push =
    ap length (is.numbers ∙ ap (λ (w : Way). job_numbers (wanted_of w) p g r inputs frontier numbers) push)
    ∙ pushed_long r (flat_map (neighbours g) frontier) (all_with p (longest p) g inputs frontier) numbers

placed_none : (vertices numbers : List ℕ) → placed vertices [] numbers ≡ numbers
placed_none [] numbers = refl
placed_none (v ∷ vs) numbers = refl

-- where the vertices or their values are at the end, all are placed
pub placed_all : (vertices values numbers : List ℕ) (at : ℕ) → min (length vertices) (length values) ≤ at → placed (drop at vertices) (drop at values) numbers ≡ numbers
placed_all vertices values numbers at ended = elim (cases_lt (length vertices) (length values)) [
  | inl less ↦ ap (λ (l : List ℕ). placed l (drop at values) numbers) (drop_all at vertices (omega (arith, ended, less)))
  | inr more ↦ ap (λ (l : List ℕ). placed (drop at vertices) l numbers) (drop_all at values (omega (arith, ended, more))) ∙ placed_none (drop at vertices) numbers
]

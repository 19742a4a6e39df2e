-- A number that is cut at 2^64 - 1 meets the same tests as the whole one, so a line does the same.
use Rattle.std.proofs.Common.{◌≡◌, ℕ, ◌<◌, ◌≤◌, Bool, true, false, ltb, leb, ◌&&◌, List, [], ◌∷◌, Option, Some, None, refl, sym, ap, ◌∙◌, arith, inl, inr}
use Rattle.std.specs.Prelude.{map, nat_lt, option_map, is_some}
use Rattle.std.specs.List.{list_all}
use Rattle.std.proofs.lemmas.Bool.{cases_Bool, cases_lt, le-ltb, ltb-true, leb-true, and_parts}
use Rattle.map_model.specs.declared.reduction.Reduction.{Reduction}
use Rattle.past_model.specs.Edits.{is_edit_below}
use Rattle.past_model.specs.Past.{Past}
use Rattle.past_model.specs.declared.edit.Edit.{Edit}
use Rattle.past_model.specs.declared.edit.Edit.TheVariants.{Insert, Remove}
use Rattle.bpf_image.specs.Program.{Program}
use Rattle.session_model.specs.declared.fault.Fault.TheVariants as faults
use Rattle.session_model.specs.Session.{Session}
use Rattle.session_model.specs.Commands.{Asked, Command, MakeGraph, PublishBatch, LoadProgram, LoadImage, TakePin, RunProgram, ReportHome, Rebase, ListEdges, SetColumn, ShowValues, PullRows, WriteColumn}
use Rattle.session_model.specs.Faults.{is_vertex_count, is_record_length, AreFewVertices, HasFewVertices}
use Rattle.session_model.specs.Responses.{Response, Fails, response, graph_response, load_response, run_response, home_response, column_response, values_response, lent_response}
use Rattle.script_model.specs.State.{OpenBatch, Script}
use Rattle.script_model.specs.Parsing.{Statement, Asks, BeginBatch, BeginProgram, statement, BatchLine, OneEdit, EndBatch, batch_line}
use Rattle.script_model.specs.Execution.{one_edit, inside_batch, begin_program, statement_execution, execution_of, is_comment, with_words, outside}
use Rattle.script.specs.Said.{cut_number, cut_asked, cut_edit, cut_batch_line, cut_command, cut_statement, Saying, Nothing, NoStatement, Makes, found_statement, saying_of, cut_saying}
use Rattle.script.specs.Executes.{line_of}

-- ---- numbers

-- a limit up to 2^64 - 1 tells them apart from neither
pub ltb-cut : (n limit : ℕ) → limit ≤ 1048576 → ltb (cut_number n) limit ≡ ltb n limit
ltb-cut n limit small =
    elim (cases_lt n limit) [
      | inl below ↦
          let same : cut_number n ≡ n = omega arith in
          rw same refl
      | inr above ↦
          let high : limit ≤ cut_number n = omega arith in
          le-ltb _ _ high ∙ sym (le-ltb _ _ above)
    ]

cut_below : (n limit : ℕ) → limit ≤ 1048576 → n < limit → cut_number n ≡ n
cut_below n limit small below = omega arith

cut_same : (n : ℕ) → n ≤ 1048576 → cut_number n ≡ n
cut_same n le = omega arith

above : (a : Bool) (n limit : ℕ) → limit < n → (a && leb n limit) ≡ false
above a n limit lt =
    elim (cases_Bool (a && leb n limit)) [
      | inl is ↦
          let below : n ≤ limit = leb-true _ _ (and_parts _ _ is).1 in
          absurd (omega arith)
      | inr not_is ↦ not_is
    ]

below-cut : (limit : ℕ) (vs : List ℕ) → limit ≤ 1048576 → list_all (λ v. nat_lt v limit) (map cut_number vs) ≡ list_all (λ v. nat_lt v limit) vs
below-cut limit [] small = refl
below-cut limit (v ∷ vs) small = rw (ltb-cut v limit small, below-cut limit vs small) refl

same-cut : (limit : ℕ) (vs : List ℕ) → limit ≤ 1048576 → list_all (λ v. nat_lt v limit) vs ≡ true → map cut_number vs ≡ vs
same-cut limit [] small all = refl
same-cut limit (v ∷ vs) small all =
    let parts = and_parts _ _ all in
    let first : cut_number v ≡ v = cut_below v limit small (ltb-true _ _ parts.0) in
    rw (first, same-cut limit vs small parts.1) refl

-- ---- commands and statements

run_at : (program pin : List ℕ) (reduction : Reduction) (argument : List ℕ) (frontier : List ℕ) (s : Session) (past : Option Past) → s.past ≡ past → AreFewVertices past → run_response program pin reduction argument (map cut_number frontier) s ≡ run_response program pin reduction argument frontier s
run_at program pin reduction argument frontier s None past-is small = rw past-is refl
run_at program pin reduction argument frontier s (Some p) past-is small =
    elim (cases_Bool (list_all (λ v. nat_lt v p.vertex_count) frontier)) [
      | inl all ↦ rw (same-cut p.vertex_count frontier small all) refl
      | inr not_all ↦
          let other : list_all (λ v. nat_lt v p.vertex_count) (map cut_number frontier) ≡ false = below-cut p.vertex_count frontier small ∙ not_all in
          rw (past-is, other, not_all) refl
    ]

graph-cut : (n : ℕ) (s : Session) → graph_response (cut_number n) s ≡ graph_response n s
graph-cut n s =
    elim (cases_lt 1048576 n) [
      | inl big ↦
          let first : is_vertex_count (cut_number n) ≡ false = above (leb 1 (cut_number n)) (cut_number n) 1048576 (omega arith) in
          let second : is_vertex_count n ≡ false = above (leb 1 n) n 1048576 big in
          elim (cases_Bool (is_some s.past)) [
            | inl made ↦ rw made refl
            | inr none ↦ rw (none, first, second) refl
          ]
      | inr small ↦ rw (cut_same n small) refl
    ]

load-cut : (name code table : List ℕ) (n : ℕ) (s : Session)
    → load_response name (record { code = code; record_length = cut_number n; table = table }) s ≡ load_response name (record { code = code; record_length = n; table = table }) s
load-cut name code table n s =
    elim (cases_lt 256 n) [
      | inl big ↦
          let first : is_record_length (cut_number n) ≡ false = above (leb 16 (cut_number n)) (cut_number n) 256 (omega arith) in
          let second : is_record_length n ≡ false = above (leb 16 n) n 256 big in
          elim (cases_Bool (is_some s.past)) [
            | inl made ↦ rw (made, first, second) refl
            | inr none ↦ rw none refl
          ]
      | inr small ↦ rw (cut_same n (omega arith)) refl
    ]

home_at : (v : ℕ) (s : Session) (past : Option Past) → s.past ≡ past → AreFewVertices past → home_response (cut_number v) s ≡ home_response v s
home_at v s None past-is small = rw past-is refl
home_at v s (Some p) past-is small =
    elim (cases_lt v p.vertex_count) [
      | inl inside ↦ rw (cut_below v p.vertex_count small inside) refl
      | inr outside ↦
          let second : ltb v p.vertex_count ≡ false = le-ltb _ _ outside in
          let first : ltb (cut_number v) p.vertex_count ≡ false = ltb-cut v p.vertex_count small ∙ second in
          rw (past-is, first, second) refl
    ]

column_at : (name : List ℕ) (first : ℕ) (numbers : List ℕ) (s : Session) (past : Option Past) → s.past ≡ past → AreFewVertices past → column_response name (cut_number first) numbers s ≡ column_response name first numbers s
column_at name first numbers s None past-is small = rw past-is refl
column_at name first numbers s (Some p) past-is small =
    elim (cases_lt first p.vertex_count) [
      | inl inside ↦ rw (cut_below first p.vertex_count small inside) refl
      | inr outside ↦
          let second : ltb first p.vertex_count ≡ false = le-ltb _ _ outside in
          let same : ltb (cut_number first) p.vertex_count ≡ false = ltb-cut first p.vertex_count small ∙ second in
          rw (past-is, same, second) refl
    ]

values_at : (name : List ℕ) (frontier : List ℕ) (s : Session) (past : Option Past) → s.past ≡ past → AreFewVertices past → values_response name (map cut_number frontier) s ≡ values_response name frontier s
values_at name frontier s None past-is small = rw past-is refl
values_at name frontier s (Some p) past-is small =
    elim (cases_Bool (list_all (λ v. nat_lt v p.vertex_count) frontier)) [
      | inl all ↦ rw (same-cut p.vertex_count frontier small all) refl
      | inr not_all ↦
          let other : list_all (λ v. nat_lt v p.vertex_count) (map cut_number frontier) ≡ false = below-cut p.vertex_count frontier small ∙ not_all in
          rw (past-is, other, not_all) refl
    ]

-- of a command that lends columns, whatever it does with them
same_asked : (limit : ℕ) (asked : Asked) → limit ≤ 1048576 → list_all (λ v. nat_lt v limit) asked.frontier ≡ true → cut_asked asked ≡ asked
same_asked limit asked small all = rw (same-cut limit asked.frontier small all) refl

lent_outside : (asked : Asked) (s : Session) (p : Past) (go : Program → Past → List (List ℕ) → Response) → s.past ≡ Some p → list_all (λ v. nat_lt v p.vertex_count) asked.frontier ≡ false → lent_response asked s go ≡ Fails faults.Range
lent_outside asked s p go past-is below = rw (past-is, below) refl

-- what a response of such a command is, if its frontier is in the graph or there is none
lent_at : (R : Asked → Response) (asked : Asked) (s : Session) (past : Option Past) → s.past ≡ past → AreFewVertices past
    → ((a : Asked) → (go : Program → Past → List (List ℕ) → Response) × (R a ≡ lent_response a s go)) → R (cut_asked asked) ≡ R asked
lent_at R asked s None past-is small is =
    let cut = is (cut_asked asked) in
    let whole = is asked in
    cut.1 ∙ (rw past-is refl) ∙ sym whole.1
lent_at R asked s (Some p) past-is small is =
    elim (cases_Bool (list_all (λ v. nat_lt v p.vertex_count) asked.frontier)) [
      | inl all ↦ ap R (same_asked p.vertex_count asked small all)
      | inr not_all ↦
          let other : list_all (λ v. nat_lt v p.vertex_count) (map cut_number asked.frontier) ≡ false = below-cut p.vertex_count asked.frontier small ∙ not_all in
          let cut = is (cut_asked asked) in
          let whole = is asked in
          cut.1 ∙ lent_outside (cut_asked asked) s p cut.0 past-is other ∙ sym (lent_outside asked s p whole.0 past-is not_all) ∙ sym whole.1
    ]

response-cut : (c : Command) (s : Session) → HasFewVertices s → response (cut_command c) s ≡ response c s
response-cut (MakeGraph n) s few = graph-cut n s
response-cut (PublishBatch feed edits) s few = refl
response-cut (LoadProgram name p) s few = load-cut name p.code p.table p.record_length s
response-cut (LoadImage name bytes) s few = refl
response-cut (TakePin name) s few = refl
response-cut (RunProgram program pin reduction argument frontier) s few =
    run_at program pin reduction argument frontier s s.past refl few
response-cut (ReportHome v) s few = home_at v s s.past refl few
response-cut Rebase s few = refl
response-cut (ListEdges program pin argument) s few = refl
response-cut (SetColumn name first numbers) s few = column_at name first numbers s s.past refl few
response-cut (ShowValues name frontier) s few = values_at name frontier s s.past refl few
response-cut (PullRows asked) s few = lent_at (λ a. response (PullRows a) s) asked s s.past refl few (λ a. (_, refl))
response-cut (WriteColumn way asked into) s few = lent_at (λ a. response (WriteColumn way a into) s) asked s s.past refl few (λ a. (_, refl))

begin_program-cut : (name : List ℕ) (n : ℕ) (s : Script) → begin_program name (cut_number n) s ≡ begin_program name n s
begin_program-cut name n s =
    elim (cases_lt 256 n) [
      | inl big ↦
          let first : is_record_length (cut_number n) ≡ false = above (leb 16 (cut_number n)) (cut_number n) 256 (omega arith) in
          let second : is_record_length n ≡ false = above (leb 16 n) n 256 big in
          elim (cases_Bool (is_some s.session.past)) [
            | inl made ↦ rw (made, first, second) refl
            | inr none ↦ rw none refl
          ]
      | inr small ↦ rw (cut_same n (omega arith)) refl
    ]

statement-cut : (x : Statement) (s : Script) → HasFewVertices s.session → statement_execution (cut_statement x) s ≡ statement_execution x s
statement-cut (Asks c) s few = ap (λ r. execution_of r s) (response-cut c s.session few)
statement-cut (BeginBatch feed) s few = refl
statement-cut (BeginProgram name n) s few = begin_program-cut name n s

line_of-found : (o : Option Statement) (s : Script) → line_of (found_statement o) s ≡ with_words o (λ x. statement_execution x s)
line_of-found None s = refl
line_of-found (Some x) s = refl

line_of-saying : (words : List (List ℕ)) (s : Script) → line_of (saying_of words) s ≡ outside words s
line_of-saying [] s = refl
line_of-saying (word ∷ operands) s =
    elim (cases_Bool (is_comment word)) [
      | inl is ↦ rw is refl
      | inr not_is ↦ rw not_is (line_of-found (statement word operands) s)
    ]

line_of-cut : (x : Saying) (s : Script) → HasFewVertices s.session → line_of (cut_saying x) s ≡ line_of x s
line_of-cut Nothing s few = refl
line_of-cut NoStatement s few = refl
line_of-cut (Makes x) s few = statement-cut x s few

-- a line outside blocks does what it says, whether or not its numbers are cut
pub outside-cut : (words : List (List ℕ)) (s : Script) → HasFewVertices s.session → line_of (cut_saying (saying_of words)) s ≡ outside words s
outside-cut words s few = line_of-cut (saying_of words) s few ∙ line_of-saying words s

-- ---- edits

edit_in-cut : (e : Edit) (past : Past) → past.vertex_count ≤ 1048576 → is_edit_below past.vertex_count (cut_edit e) ≡ is_edit_below past.vertex_count e
edit_in-cut (Insert u v) past small = rw (ltb-cut u past.vertex_count small, ltb-cut v past.vertex_count small) refl
edit_in-cut (Remove u v) past small = rw (ltb-cut u past.vertex_count small, ltb-cut v past.vertex_count small) refl

same_edit : (e : Edit) (past : Past) → past.vertex_count ≤ 1048576 → is_edit_below past.vertex_count e ≡ true → cut_edit e ≡ e
same_edit (Insert u v) past small is =
    let ends = and_parts _ _ is in
    let first : cut_number u ≡ u = cut_below u past.vertex_count small (ltb-true _ _ ends.0) in
    let second : cut_number v ≡ v = cut_below v past.vertex_count small (ltb-true _ _ ends.1) in
    rw (first, second) refl
same_edit (Remove u v) past small is =
    let ends = and_parts _ _ is in
    let first : cut_number u ≡ u = cut_below u past.vertex_count small (ltb-true _ _ ends.0) in
    let second : cut_number v ≡ v = cut_below v past.vertex_count small (ltb-true _ _ ends.1) in
    rw (first, second) refl

edit_at : (e : Edit) (begun : OpenBatch) (s : Script) (past : Option Past) → s.session.past ≡ past → AreFewVertices past → one_edit (cut_edit e) begun s ≡ one_edit e begun s
edit_at e begun s None past-is few = rw past-is refl
edit_at e begun s (Some past) past-is few =
    elim (cases_Bool (is_edit_below past.vertex_count e)) [
      | inl is ↦ ap (λ (d : Edit). one_edit d begun s) (same_edit e past few is)
      | inr not_is ↦ rw (past-is, edit_in-cut e past few, not_is) refl
    ]

-- what a line says that the code takes as an edit
said_edit : (o : Option BatchLine) (e : Edit) → Some (OneEdit e) ≡ option_map cut_batch_line o → (d : Edit) × (o ≡ Some (OneEdit d)) × (cut_edit d ≡ e)
said_edit None e h = absurd cc
said_edit (Some EndBatch) e h = absurd cc
said_edit (Some (OneEdit d)) e h = (d, refl, cc)

inside_edit : (words : List (List ℕ)) (e : Edit) (begun : OpenBatch) (s : Script) → batch_line words ≡ Some (OneEdit e) → one_edit e begun s ≡ inside_batch words begun s
inside_edit words e begun s said = rw said refl

-- an edit inside a batch does what the definitions say of the line
pub edit_line : (words : List (List ℕ)) (e : Edit) (begun : OpenBatch) (s : Script) → Some (OneEdit e) ≡ option_map cut_batch_line (batch_line words) → HasFewVertices s.session → one_edit e begun s ≡ inside_batch words begun s
edit_line words e begun s said few =
    let whole = said_edit (batch_line words) e said in
    ap (λ (d : Edit). one_edit d begun s) (sym whole.2) ∙ edit_at whole.0 begun s s.session.past refl few ∙ inside_edit words whole.0 begun s whole.1

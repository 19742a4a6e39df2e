use Rattle.std.proofs.Common.{◌≡◌, ℕ, true, false, List, Some, sym, ap, ◌∙◌, refl}
use Rattle.std.specs.Prelude.{nat_lt, map}
use Rattle.std.specs.List.{list_all}
use Rattle.session_model.specs.Session.{Session, column_named}
use Rattle.session_model.specs.Faults.{is_ascending}
use Rattle.session_model.specs.Responses.{values_of}
use Rattle.session_model.specs.Commands.{ValuesShown}
use Rattle.session_model.specs.Responses.{Answers}
use Rattle.map_model.specs.declared.row.Row.{Row}
use Rattle.session.specs.declared.kept.NamedColumn.{NamedColumn}
use Rattle.session.specs.Kept.{kept_column, numbers_in, past_in}
use Rattle.session.proofs.LentLemmas.{values_outside, values_unnamed, values_down, values_shown}
use Rattle.session.proofs.session.Session.show_values.Goals as goal

pub returns-then-not-are_below : goal.returns-then-not-are_below
returns-then-not-are_below c =
    let vertices = c.args.frontier.now in
    let last : c.args.self.now.past ≡ Some c.in-Some.store.past = ap (λ (s : Session). s.past) (sym c.self.view_is) ∙ ap past_in c.in-Some.is in
    let below : list_all (λ v. nat_lt v c.in-Some.store.past.vertex_count) vertices ≡ false = ap (λ (n : ℕ). list_all (λ v. nat_lt v n) vertices) (sym c.vertex_count-vertices.ensures.value) ∙ sym c.are_below.ensures ∙ c.if-not-are_below.true in
    (values_outside c.args.name.now vertices c.args.self.now c.in-Some.store.past last below, refl)

pub returns-in_default-find_column : goal.returns-in_default-find_column
returns-in_default-find_column c =
    let name = c.args.name.now in
    let vertices = c.args.frontier.now in
    let last : c.args.self.now.past ≡ Some c.in-Some.store.past = ap (λ (s : Session). s.past) (sym c.self.view_is) ∙ ap past_in c.in-Some.is in
    let below : list_all (λ v. nat_lt v c.in-Some.store.past.vertex_count) vertices ≡ true = ap (λ (n : ℕ). list_all (λ v. nat_lt v n) vertices) (sym c.vertex_count-vertices.ensures.value) ∙ sym c.are_below.ensures ∙ c.if-not-are_below.false in
    let named : numbers_in c.find_column.result ≡ column_named name c.args.self.now.columns = c.find_column.ensures ∙ ap (λ (cs : List NamedColumn). column_named name (map kept_column cs)) c.deref.ensures.value ∙ ap (λ (s : Session). column_named name s.columns) c.self.view_is in
    (values_unnamed name vertices c.args.self.now c.in-Some.store.past last below (sym named ∙ ap numbers_in c.in_default-find_column.is), refl)

pub returns-then-not-ascends : goal.returns-then-not-ascends
returns-then-not-ascends c =
    let name = c.args.name.now in
    let vertices = c.args.frontier.now in
    let last : c.args.self.now.past ≡ Some c.in-Some.store.past = ap (λ (s : Session). s.past) (sym c.self.view_is) ∙ ap past_in c.in-Some.is in
    let below : list_all (λ v. nat_lt v c.in-Some.store.past.vertex_count) vertices ≡ true = ap (λ (n : ℕ). list_all (λ v. nat_lt v n) vertices) (sym c.vertex_count-vertices.ensures.value) ∙ sym c.are_below.ensures ∙ c.if-not-are_below.false in
    let named : numbers_in c.find_column.result ≡ column_named name c.args.self.now.columns = c.find_column.ensures ∙ ap (λ (cs : List NamedColumn). column_named name (map kept_column cs)) c.deref.ensures.value ∙ ap (λ (s : Session). column_named name s.columns) c.self.view_is in
    let down : is_ascending vertices ≡ false = sym c.ascends.ensures ∙ c.if-not-ascends.true in
    (values_down name vertices c.in-Some-find_column.numbers.now c.args.self.now c.in-Some.store.past last below (sym named ∙ ap numbers_in c.in-Some-find_column.is) down, refl)

pub returns : goal.returns
returns c =
    let name = c.args.name.now in
    let vertices = c.args.frontier.now in
    let numbers = c.in-Some-find_column.numbers.now in
    let last : c.args.self.now.past ≡ Some c.in-Some.store.past = ap (λ (s : Session). s.past) (sym c.self.view_is) ∙ ap past_in c.in-Some.is in
    let below : list_all (λ v. nat_lt v c.in-Some.store.past.vertex_count) vertices ≡ true = ap (λ (n : ℕ). list_all (λ v. nat_lt v n) vertices) (sym c.vertex_count-vertices.ensures.value) ∙ sym c.are_below.ensures ∙ c.if-not-are_below.false in
    let named : numbers_in c.find_column.result ≡ column_named name c.args.self.now.columns = c.find_column.ensures ∙ ap (λ (cs : List NamedColumn). column_named name (map kept_column cs)) c.deref.ensures.value ∙ ap (λ (s : Session). column_named name s.columns) c.self.view_is in
    let up : is_ascending vertices ≡ true = sym c.ascends.ensures ∙ c.if-not-ascends.false in
    let shown = values_shown name vertices numbers c.args.self.now c.in-Some.store.past last below (sym named ∙ ap numbers_in c.in-Some-find_column.is) up in
    let same : values_of c.in-Some.store.past.vertex_count numbers vertices ≡ c.in_ok-rows.rows.items = ap (λ (n : ℕ). values_of n numbers vertices) (sym c.vertex_count-vertices.ensures.value) ∙ sym c.in_ok-rows.ensures in
    shown ∙ ap (λ (rows : List Row). Answers (ValuesShown rows) c.args.self.now) same

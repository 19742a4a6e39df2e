use Rattle.std.proofs.Common.{◌≡◌, Some, None, sym, ap, ◌∙◌}
use Rattle.std.specs.Prelude.{Option, option_map}
use Rattle.session_model.specs.Commands.{Asked, PullRows, WriteColumn}
use Rattle.session_model.specs.declared.way.Way.TheVariants.{Pull}
use Rattle.script_model.specs.Lexing.{words}
use Rattle.script_model.specs.Parsing.{Statement, Asks, asked_of, pull_to}
use Rattle.script.specs.Said.{said_asked, cut_asked, cut_statement}
use Rattle.script.specs.declared.reading.line.Asking.{Asking}
use Rattle.script.proofs.StatementLemmas.{lend_none, lend_some, pull_rows, pull_into, pull_unnamed}
use Rattle.script.proofs.reading.lending.pull.Goals as goal

pub returns-in_default-2 : goal.returns-in_default-2
returns-in_default-2 c =
    let f = c.in-Some.found in
    let asked = asked_of f.program.now f.pin.now f.reduction f.digits.now f.names.now (words f.frontier.now) in
    let none : None ≡ option_map cut_asked asked = ap (λ (a : Option Asking). option_map said_asked a) (sym c.in_default-2.is) ∙ c.in_ok-asking.ensures in
    lend_none asked (pull_to f.into.now) none ∙ ap (λ (s : Option Statement). option_map cut_statement s) (sym (c.in-Some.ensures pull_to))

pub returns-then-is_dash : goal.returns-then-is_dash
returns-then-is_dash c =
    let f = c.in-Some.found in
    let asked = asked_of f.program.now f.pin.now f.reduction f.digits.now f.names.now (words f.frontier.now) in
    let said : Asked = said_asked c.in-Some-2.asking in
    let some : Some said ≡ option_map cut_asked asked = ap (λ (a : Option Asking). option_map said_asked a) (sym c.in-Some-2.is) ∙ c.in_ok-asking.ensures in
    lend_some asked (pull_to f.into.now) said (Some (Asks (PullRows said))) some (λ a same. pull_rows f.into.now said a (sym c.is_dash.ensures ∙ c.if-is_dash.true) same) ∙ ap (λ (s : Option Statement). option_map cut_statement s) (sym (c.in-Some.ensures pull_to))

pub returns-then-not-is_column_name : goal.returns-then-not-is_column_name
returns-then-not-is_column_name c =
    let f = c.in-Some.found in
    let asked = asked_of f.program.now f.pin.now f.reduction f.digits.now f.names.now (words f.frontier.now) in
    let said : Asked = said_asked c.in-Some-2.asking in
    let some : Some said ≡ option_map cut_asked asked = ap (λ (a : Option Asking). option_map said_asked a) (sym c.in-Some-2.is) ∙ c.in_ok-asking.ensures in
    lend_some asked (pull_to f.into.now) said None some (λ a same. pull_unnamed f.into.now a (sym c.is_dash.ensures ∙ c.if-is_dash.false) (sym c.is_column_name.ensures ∙ c.if-not-is_column_name.true)) ∙ ap (λ (s : Option Statement). option_map cut_statement s) (sym (c.in-Some.ensures pull_to))

pub returns : goal.returns
returns c =
    let f = c.in-Some.found in
    let asked = asked_of f.program.now f.pin.now f.reduction f.digits.now f.names.now (words f.frontier.now) in
    let said : Asked = said_asked c.in-Some-2.asking in
    let some : Some said ≡ option_map cut_asked asked = ap (λ (a : Option Asking). option_map said_asked a) (sym c.in-Some-2.is) ∙ c.in_ok-asking.ensures in
    lend_some asked (pull_to f.into.now) said (Some (Asks (WriteColumn Pull said f.into.now))) some (λ a same. pull_into f.into.now said a (sym c.is_dash.ensures ∙ c.if-is_dash.false) (sym c.is_column_name.ensures ∙ c.if-not-is_column_name.false) same) ∙ ap (λ (s : Option Statement). option_map cut_statement s) (sym (c.in-Some.ensures pull_to))

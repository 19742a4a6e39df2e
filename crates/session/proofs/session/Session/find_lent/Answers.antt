use Rattle.std.proofs.Common.{◌≡◌, ℕ, true, false, List, Some, sym, ap, ◌∙◌}
use Rattle.std.specs.Prelude.{nat_lt, map}
use Rattle.std.specs.List.{list_all}
use Rattle.session_model.specs.Session.{Session, program_named, pin_named}
use Rattle.session_model.specs.Responses.{lent_response}
use Rattle.session.specs.declared.kept.NamedProgram.{NamedProgram}
use Rattle.session.specs.declared.kept.NamedPin.{NamedPin}
use Rattle.session.specs.declared.kept.NamedColumn.{NamedColumn}
use Rattle.session.specs.Kept.{asked_of, kept_program, kept_pin, kept_column, program_of, past_of, past_in}
use Rattle.session.specs.Lending.{lends}
use Rattle.session.proofs.LentLemmas.{lent_outside, lent_inside, lent_along}
use Rattle.session.proofs.session.Session.find_lent.Goals as goal

pub returns-then-not-are_below : goal.returns-then-not-are_below
returns-then-not-are_below c =
    let asked = asked_of c.args.asked.now in
    let last : c.args.self.now.past ≡ Some c.in-Some.store.past = ap (λ (s : Session). s.past) (sym c.self.view_is) ∙ ap past_in c.in-Some.is in
    let below : list_all (λ v. nat_lt v c.in-Some.store.past.vertex_count) asked.frontier ≡ false = ap (λ (n : ℕ). list_all (λ v. nat_lt v n) asked.frontier) (sym c.vertex_count.ensures.value) ∙ sym c.are_below.ensures ∙ c.if-not-are_below.true in
    λ go. lent_outside asked c.args.self.now c.in-Some.store.past go last below

pub returns : goal.returns
returns c =
    let asked = asked_of c.args.asked.now in
    let last : c.args.self.now.past ≡ Some c.in-Some.store.past = ap (λ (s : Session). s.past) (sym c.self.view_is) ∙ ap past_in c.in-Some.is in
    let below : list_all (λ v. nat_lt v c.in-Some.store.past.vertex_count) asked.frontier ≡ true = ap (λ (n : ℕ). list_all (λ v. nat_lt v n) asked.frontier) (sym c.vertex_count.ensures.value) ∙ sym c.are_below.ensures ∙ c.if-not-are_below.false in
    let program : program_of c.find_program-program.result ≡ program_named asked.program c.args.self.now.programs = c.find_program-program.ensures ∙ ap (λ (ps : List NamedProgram). program_named asked.program (map kept_program ps)) c.deref.ensures.value ∙ ap (λ (s : Session). program_named asked.program s.programs) c.self.view_is in
    let pin : past_of c.find_pin-pin.result ≡ pin_named asked.pin c.args.self.now.pins = c.find_pin-pin.ensures ∙ ap (λ (ps : List NamedPin). pin_named asked.pin (map kept_pin ps)) c.deref-2.ensures.value ∙ ap (λ (s : Session). pin_named asked.pin s.pins) c.self.view_is in
    let columns : map kept_column c.deref-3.result.now ≡ c.args.self.now.columns = ap (λ (cs : List NamedColumn). map kept_column cs) c.deref-3.ensures.value ∙ ap (λ (s : Session). s.columns) c.self.view_is in
    let told = (rw (program, pin, columns) at c.lent_of.ensures) in
    lent_along (lends asked (program_named asked.program c.args.self.now.programs) (pin_named asked.pin c.args.self.now.pins) c.args.self.now.columns) (lent_response asked c.args.self.now) c.lent_of.result (λ go. lent_inside asked c.args.self.now c.in-Some.store.past go last below) told

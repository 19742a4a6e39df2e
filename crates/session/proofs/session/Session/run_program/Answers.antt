use Rattle.std.proofs.Common.{◌≡◌, ℕ, true, false, List, Some, refl, sym, ap, subst, ◌∙◌}
use Rattle.std.specs.Prelude.{nat_lt, map}
use Rattle.std.specs.List.{list_all}
use Rattle.session_model.specs.Session.{Session, program_named, pin_named}
use Rattle.session_model.specs.Responses.{Response}
use Rattle.session.specs.declared.kept.NamedProgram.{NamedProgram}
use Rattle.session.specs.declared.kept.NamedPin.{NamedPin}
use Rattle.session.specs.Kept.{kept_program, kept_pin, program_of, past_of, past_in}
use Rattle.session.specs.Performs.{Performs}
use Rattle.session.proofs.RunLemmas.{run_outside, run_inside}
use Rattle.session.proofs.session.Session.run_program.Goals as goal

pub returns-then-not-are_below : goal.returns-then-not-are_below
returns-then-not-are_below g c =
    let last : c.args.self.now.past ≡ Some c.in-Some.store.past = ap (λ (s : Session). s.past) (sym c.self.view_is) ∙ ap past_in c.in-Some.is in
    let below : list_all (λ v. nat_lt v c.in-Some.store.past.vertex_count) c.args.run.now.frontier.now ≡ false = ap (λ (n : ℕ). list_all (λ v. nat_lt v n) c.args.run.now.frontier.now) (sym c.vertex_count-vertices.ensures.value) ∙ sym c.are_below.ensures ∙ c.if-not-are_below.true in
    (run_outside c.args.run.now.program.now c.args.run.now.pin.now c.args.run.now.reduction c.args.run.now.argument.now c.args.run.now.frontier.now c.args.self.now c.in-Some.store.past last below, refl)

pub returns : goal.returns
returns g c =
    let last : c.args.self.now.past ≡ Some c.in-Some.store.past = ap (λ (s : Session). s.past) (sym c.self.view_is) ∙ ap past_in c.in-Some.is in
    let below : list_all (λ v. nat_lt v c.in-Some.store.past.vertex_count) c.args.run.now.frontier.now ≡ true = ap (λ (n : ℕ). list_all (λ v. nat_lt v n) c.args.run.now.frontier.now) (sym c.vertex_count-vertices.ensures.value) ∙ sym c.are_below.ensures ∙ c.if-not-are_below.false in
    let program : program_of c.find_program-program.result ≡ program_named c.args.run.now.program.now c.args.self.now.programs = c.find_program-program.ensures ∙ ap (λ (ps : List NamedProgram). program_named c.args.run.now.program.now (map kept_program ps)) c.deref.ensures.value ∙ ap (λ (s : Session). program_named c.args.run.now.program.now s.programs) c.self.view_is in
    let pin : past_of c.find_pin-pin.result ≡ pin_named c.args.run.now.pin.now c.args.self.now.pins = c.find_pin-pin.ensures ∙ ap (λ (ps : List NamedPin). pin_named c.args.run.now.pin.now (map kept_pin ps)) c.deref-2.ensures.value ∙ ap (λ (s : Session). pin_named c.args.run.now.pin.now s.pins) c.self.view_is in
    let same = run_inside c.args.run.now.program.now c.args.run.now.pin.now c.args.run.now.reduction c.args.run.now.argument.now c.args.run.now.frontier.now c.args.self.now c.in-Some.store.past last below in
    let kept = (rw (program, pin) at c.map_found.ensures c.args.self.now) in
    subst (λ (r : Response). Performs r c.map_found.result c.args.self.now c.args.self.now) same kept

use Rattle.std.proofs.Common.{◌≡◌, List, sym, ap, subst, ◌∙◌}
use Rattle.std.specs.Prelude.{map}
use Rattle.session_model.specs.Session.{Session, program_named, pin_named}
use Rattle.session_model.specs.Responses.{Response}
use Rattle.session.specs.declared.kept.NamedProgram.{NamedProgram}
use Rattle.session.specs.declared.kept.NamedPin.{NamedPin}
use Rattle.session.specs.Kept.{kept_program, kept_pin, program_of, past_of, past_in}
use Rattle.session.specs.Performs.{Performs}
use Rattle.session.proofs.RunLemmas.{list_inside}
use Rattle.session.proofs.session.Session.list_program.Goals as goal

pub returns : goal.returns
returns c =
    let names = c.args.names.now in
    let last = ap (λ (s : Session). s.past) (sym c.self.view_is) ∙ ap past_in c.in-Some.is in
    let program : program_of c.find_program-program.result ≡ program_named names.program.now c.args.self.now.programs = c.find_program-program.ensures ∙ ap (λ (ps : List NamedProgram). program_named names.program.now (map kept_program ps)) c.deref.ensures.value ∙ ap (λ (s : Session). program_named names.program.now s.programs) c.self.view_is in
    let pin : past_of c.find_pin-pin.result ≡ pin_named names.pin.now c.args.self.now.pins = c.find_pin-pin.ensures ∙ ap (λ (ps : List NamedPin). pin_named names.pin.now (map kept_pin ps)) c.deref-2.ensures.value ∙ ap (λ (s : Session). pin_named names.pin.now s.pins) c.self.view_is in
    let same = list_inside names.program.now names.pin.now c.args.argument.items c.args.self.now _ last in
    let kept = (rw (program, pin) at c.list_found.ensures c.args.self.now) in
    subst (λ (r : Response). Performs r c.list_found.result c.args.self.now c.args.self.now) same kept

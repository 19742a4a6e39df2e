use Rattle.std.proofs.Common.{◌++◌, ◌<◌, length, take, ap, ◌∙◌, arith}
use Rattle.service.specs.declared.serve_error.ServeError.TheVariants as errors
use Rattle.service.specs.Stand.{Stand}
use Rattle.service.proofs.KnownLemmas.{unread}
use Rattle.service.proofs.RoundLemmas.{turn_stops, turn_unread, turn_fails, turn_advances, turn_concludes, turn_unended}
use Rattle.service.proofs.AskingLemmas.{asks_read, asks_unread, on_store, passed_on}
use Rattle.service.proofs.serving.Serving.turn.Goals as goal

pub returns-in_default-clause-turn : goal.returns-in_default-clause-turn
returns-in_default-clause-turn g c =
    turn_unread (g.I.Input.remaining c.args.input.now) (g.I.Input.remaining c.read.new.self) (g.O.Output.contents c.args.output.now) c.args.self.now c.args.self.now errors.Read (unread (g.I.Input.remaining c.args.input.now) (g.I.Input.remaining c.read.new.self) c.read.result c.read.new.buffer c.in_default.not-Ok c.read.ensures.bytes)

pub returns-in_err-ending-clause-turn : goal.returns-in_err-ending-clause-turn
returns-in_err-ending-clause-turn g c =
    let none = c.if-count-eq0.true in
    let some : 0 < length c.read.new.buffer = omega (arith, c.requires.room, c.read.auto.buffer) in
    turn_stops c.from_residual.result _ (g.I.Input.remaining c.args.input.now) (g.I.Input.remaining c.read.new.self) (g.O.Output.contents c.args.output.now) (g.O.Output.contents c.conclude.new.output) c.args.self.now c.conclude.new.self c.from_residual.ensures.1 (λ e.
    turn_unended (g.I.Input.remaining c.args.input.now) (g.I.Input.remaining c.read.new.self) (g.O.Output.contents c.args.output.now) (g.O.Output.contents c.conclude.new.output) c.in-Ok.count c.read.new.buffer c.args.self.now c.conclude.new.self e none some c.in-Ok.ensures.bytes c.in_err-ending.ensures.concluded)

pub returns-then-count-eq0-clause-turn : goal.returns-then-count-eq0-clause-turn
returns-then-count-eq0-clause-turn g c =
    turn_concludes (g.I.Input.remaining c.args.input.now) (g.I.Input.remaining c.read.new.self) (g.O.Output.contents c.args.output.now) (g.O.Output.contents c.conclude.new.output) c.in-Ok.count c.read.new.buffer c.args.self.now c.conclude.new.self c.in_ok-ending.ending c.if-count-eq0.true (omega (arith, c.requires.room, c.read.auto.buffer)) c.in-Ok.ensures.bytes c.in_ok-ending.ensures.concluded

pub returns-in_err-extend_from_slice-clause-turn : goal.returns-in_err-extend_from_slice-clause-turn
returns-in_err-extend_from_slice-clause-turn g c =
    turn_stops c.from_residual-in_err-extend_from_slice.result _ (g.I.Input.remaining c.args.input.now) (g.I.Input.remaining c.read.new.self) (g.O.Output.contents c.args.output.now) (g.O.Output.contents c.args.output.now) c.args.self.now _ c.from_residual-in_err-extend_from_slice.ensures.1 (λ e.
    turn_fails (g.I.Input.remaining c.args.input.now) (g.I.Input.remaining c.read.new.self) (g.O.Output.contents c.args.output.now) c.args.self.now c.args.self.now e (take c.in-Ok.count c.read.new.buffer, c.in-Ok.ensures.bytes.0))

pub returns-clause-turn : goal.returns-clause-turn
returns-clause-turn g c =
    let more = take c.in-Ok.count c.read.new.buffer in
    let mid : Stand = record { script = c.self.inside.script; pending = c.extend_from_slice.new.self.items; text = c.self.inside.text.items } in
    turn_advances (g.I.Input.remaining c.args.input.now) (g.I.Input.remaining c.read.new.self) (g.O.Output.contents c.args.output.now) (g.O.Output.contents c.advance.new.output) more c.args.self.now mid c.advance.new.self c.advance.result (ap (λ (s : Stand). s.script) c.self.view_is) (c.in_ok-extend_from_slice.ensures.items ∙ ap (λ (s : Stand). s.pending ++ more) c.self.view_is) c.in-Ok.ensures.bytes.0 c.advance.ensures.advance

pub returns-in_err-ending-clause-store : goal.returns-in_err-ending-clause-store
returns-in_err-ending-clause-store g c =
    passed_on c.conclude.result c.from_residual.result c.in_err-ending.field-0.0 _ _ c.in_err-ending.was c.from_residual.ensures.1 (asks_unread (g.I.Input.remaining c.args.input.now) (g.I.Input.remaining c.read.new.self) (g.O.Output.contents c.args.output.now) c.in-Ok.count c.read.new.buffer c.args.self.now c.if-count-eq0.true c.in-Ok.ensures.bytes.0) c.conclude.ensures.store

pub returns-clause-store : goal.returns-clause-store
returns-clause-store g c =
    let more = take c.in-Ok.count c.read.new.buffer in
    let mid : Stand = record { script = c.self.inside.script; pending = c.extend_from_slice.new.self.items; text = c.self.inside.text.items } in
    on_store c.advance.result _ _ (asks_read (g.I.Input.remaining c.args.input.now) (g.I.Input.remaining c.read.new.self) (g.O.Output.contents c.args.output.now) more c.args.self.now mid (ap (λ (s : Stand). s.script) c.self.view_is) (c.in_ok-extend_from_slice.ensures.items ∙ ap (λ (s : Stand). s.pending ++ more) c.self.view_is) c.in-Ok.ensures.bytes.0) c.advance.ensures.store

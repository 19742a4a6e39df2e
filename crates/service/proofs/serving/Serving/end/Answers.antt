use Rattle.std.specs.Prelude.{Ok, Err}
use Rattle.std.proofs.Common.{subst}
use Rattle.service.specs.Stand.{Stand}
use Rattle.service.specs.Rounds.{Ends}
use Rattle.service.proofs.EndLemmas.{last_so_far, end_begins, end_written}
use Rattle.service.proofs.RoundLemmas.{is_that}
use Rattle.service.proofs.serving.Serving.end.Goals as goal

pub returns-in_err-ending-clause-ended : goal.returns-in_err-ending-clause-ended
returns-in_err-ending-clause-ended g c =
    let same = is_that c.from_residual.result _ c.from_residual.ensures.1 in
    rw same (λ read held last. last_so_far read held (g.O.Output.contents c.args.output.now) c.args.self.now last)

pub returns-in_err-write_text-clause-ended : goal.returns-in_err-write_text-clause-ended
returns-in_err-write_text-clause-ended g c =
    let e = c.in_err-write_text.field-0.0 in
    let same = is_that c.from_residual-in_err-write_text.result e c.from_residual-in_err-write_text.ensures.1 in
    let kept = g.O.Output.contents c.args.output.now in
    let holds = g.O.Output.contents c.write_text.new.output in
    let old : Stand = record { script = c.self.inside.script; pending = c.self.inside.pending.items; text = c.self.inside.text.items } in
    rw same (subst (λ (s : Stand). Ends (Err e) kept holds s) c.self.view_is (λ read held last.
    end_begins read held kept holds old c.finish.new.text.items c.in_ok-ending.ensures.text c.in_err-write_text.ensures.err last))

pub returns-clause-ended : goal.returns-clause-ended
returns-clause-ended g c =
    let ending = c.in_ok-ending.ending in
    let kept = g.O.Output.contents c.args.output.now in
    let holds = g.O.Output.contents c.write_text.new.output in
    let old : Stand = record { script = c.self.inside.script; pending = c.self.inside.pending.items; text = c.self.inside.text.items } in
    subst (λ (s : Stand). Ends (Ok ending) kept holds s) c.self.view_is (λ read held last.
    end_written read held kept holds old c.finish.new.text.items ending c.in_ok-ending.ensures.text c.in_ok-ending.ensures.ending c.in_ok-write_text.ensures.ok last)

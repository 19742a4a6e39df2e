use Rattle.std.proofs.Common.{◌++◌, List, ℕ, sym, ap, subst, subst₂, ◌∙◌}
use Rattle.script_model.specs.State.{Script}
use Rattle.script_model.specs.Execution.{execution}
use Rattle.script_model.specs.Texts.{fault_text}
use Rattle.service.specs.Served.{IsOneLine}
use Rattle.service.specs.Stand.{Stand}
use Rattle.service.proofs.Following.{some_left, none_left}
use Rattle.service.proofs.RoundLemmas.{conclude_fails, written_front}
use Rattle.service.proofs.EndLemmas.{ends_conclude, last_none, last_executed, last_listed, last_begins, last_fault, last_fault_begins}
use Rattle.script.specs.Executes.{AsksStore}
use Rattle.service.proofs.AskingLemmas.{asks_last, served_passed}
use Rattle.service.proofs.serving.Serving.conclude.Goals as goal

pub returns-then-is_empty-clause-concluded : goal.returns-then-is_empty-clause-concluded
returns-then-is_empty-clause-concluded g c =
    let kept = g.O.Output.contents c.args.output.now in
    let script = ap (λ (s : Stand). s.script) c.self.view_is in
    let rest = c.as_slice-rest.ensures.value ∙ ap (λ (s : Stand). s.pending) c.self.view_is in
    let none = none_left c.as_slice-rest.result.now (sym c.if-is_empty.true ∙ c.is_empty.ensures) in
    let s = c.args.self.now in
    ends_conclude c.end.result kept kept (g.O.Output.contents c.end.new.output) s s (λ read held wrote. last_none read held kept s (sym rest ∙ none) c.requires.written wrote) c.end.ensures.ended

pub returns-in_err-execute-clause-concluded : goal.returns-in_err-execute-clause-concluded
returns-in_err-execute-clause-concluded g c =
    let kept = g.O.Output.contents c.args.output.now in
    conclude_fails c.from_residual.result _ kept kept c.args.self.now c.from_residual.ensures.1 (λ read held wrote. written_front read held kept c.args.self.now wrote)

pub returns-in-Executed-clause-concluded : goal.returns-in-Executed-clause-concluded
returns-in-Executed-clause-concluded g c =
    let kept = g.O.Output.contents c.args.output.now in
    let script = ap (λ (s : Stand). s.script) c.self.view_is in
    let rest = c.as_slice-rest.ensures.value ∙ ap (λ (s : Stand). s.pending) c.self.view_is in
    let one = subst IsOneLine (sym rest) c.requires.one in
    let some = some_left c.as_slice-rest.result.now (sym c.if-is_empty.false ∙ c.is_empty.ensures) in
    let done = (rw c.in-Executed.is at c.in_ok-execute.ensures.steps) in
    let text = done.2 ∙ ap (λ (s : Stand). s.text ++ done.0) c.self.view_is in
    let s = c.args.self.now in
    let last : Stand = record { script = c.execute.new.self; pending = c.self.inside.pending.items; text = c.execute.new.text.items } in
    ends_conclude c.end-in-Executed.result kept kept (g.O.Output.contents c.end-in-Executed.new.output) s last (λ read held wrote.
    last_executed read held kept s last c.as_slice-rest.result.now done.0 c.self.inside.script done.1 rest script c.requires.written one some done.3 done.4 text wrote) c.end-in-Executed.ensures.ended

pub returns-in_ok-write_edges-in-Lists-clause-concluded : goal.returns-in_ok-write_edges-in-Lists-clause-concluded
returns-in_ok-write_edges-in-Lists-clause-concluded g c =
    let kept = g.O.Output.contents c.args.output.now in
    let script = ap (λ (s : Stand). s.script) c.self.view_is in
    let rest = c.as_slice-rest.ensures.value ∙ ap (λ (s : Stand). s.pending) c.self.view_is in
    let one = subst IsOneLine (sym rest) c.requires.one in
    let some = some_left c.as_slice-rest.result.now (sym c.if-is_empty.false ∙ c.is_empty.ensures) in
    let done = (rw c.in-Lists.is at c.in_ok-execute.ensures.steps) in
    let text = done.2 ∙ ap (λ (s : Stand). s.text ++ done.0) c.self.view_is in
    let s = c.args.self.now in
    let mid = g.O.Output.contents c.write_edges.new.output in
    let last : Stand = record { script = c.execute.new.self; pending = c.self.inside.pending.items; text = c.write_edges.new.text.items } in
    ends_conclude c.end-in-Lists.result kept mid (g.O.Output.contents c.end-in-Lists.new.output) s last (λ read held wrote.
    last_listed read held kept mid s last c.as_slice-rest.result.now done.0 c.execute.new.text.items c.in-Lists.listing c.self.inside.script done.1 rest script c.requires.written one some done.3 text done.4 c.in_ok-write_edges-in-Lists.ensures.empty c.in_ok-write_edges-in-Lists.ensures.ok wrote) c.end-in-Lists.ensures.ended

pub returns-in_err-write_edges-in-Lists-clause-concluded : goal.returns-in_err-write_edges-in-Lists-clause-concluded
returns-in_err-write_edges-in-Lists-clause-concluded g c =
    let kept = g.O.Output.contents c.args.output.now in
    let script = ap (λ (s : Stand). s.script) c.self.view_is in
    let rest = c.as_slice-rest.ensures.value ∙ ap (λ (s : Stand). s.pending) c.self.view_is in
    let one = subst IsOneLine (sym rest) c.requires.one in
    let some = some_left c.as_slice-rest.result.now (sym c.if-is_empty.false ∙ c.is_empty.ensures) in
    let done = (rw c.in-Lists.is at c.in_ok-execute.ensures.steps) in
    let text = done.2 ∙ ap (λ (s : Stand). s.text ++ done.0) c.self.view_is in
    let holds = g.O.Output.contents c.write_edges.new.output in
    conclude_fails c.from_residual-in_err-write_edges-in-Lists.result _ kept holds c.args.self.now c.from_residual-in_err-write_edges-in-Lists.ensures.1 (λ read held wrote.
    last_begins read held kept holds c.args.self.now c.as_slice-rest.result.now done.0 c.execute.new.text.items c.in-Lists.listing c.self.inside.script done.1 rest script c.requires.written one some done.3 text c.in_err-write_edges-in-Lists.ensures.err wrote)

pub returns-in_err-write_text-in-Stopped-clause-concluded : goal.returns-in_err-write_text-in-Stopped-clause-concluded
returns-in_err-write_text-in-Stopped-clause-concluded g c =
    let kept = g.O.Output.contents c.args.output.now in
    let script = ap (λ (s : Stand). s.script) c.self.view_is in
    let rest = c.as_slice-rest.ensures.value ∙ ap (λ (s : Stand). s.pending) c.self.view_is in
    let one = subst IsOneLine (sym rest) c.requires.one in
    let some = some_left c.as_slice-rest.result.now (sym c.if-is_empty.false ∙ c.is_empty.ensures) in
    let done = (rw c.in-Stopped.is at c.in_ok-execute.ensures.steps) in
    let text = done.1 ∙ ap (λ (s : Stand). s.text ++ fault_text done.0 c.self.inside.script.line) c.self.view_is in
    let holds = g.O.Output.contents c.write_text.new.output in
    conclude_fails c.from_residual-in_err-write_text-in-Stopped.result _ kept holds c.args.self.now c.from_residual-in_err-write_text-in-Stopped.ensures.1 (λ read held wrote.
    last_fault_begins read held kept holds c.args.self.now c.as_slice-rest.result.now c.execute.new.text.items c.self.inside.script done.0 rest script c.requires.written one some done.2 text c.in_err-write_text-in-Stopped.ensures.err wrote)

pub returns-in_ok-write_text-in-Stopped-clause-concluded : goal.returns-in_ok-write_text-in-Stopped-clause-concluded
returns-in_ok-write_text-in-Stopped-clause-concluded g c read held wrote =
    let kept = g.O.Output.contents c.args.output.now in
    let script = ap (λ (s : Stand). s.script) c.self.view_is in
    let rest = c.as_slice-rest.ensures.value ∙ ap (λ (s : Stand). s.pending) c.self.view_is in
    let one = subst IsOneLine (sym rest) c.requires.one in
    let some = some_left c.as_slice-rest.result.now (sym c.if-is_empty.false ∙ c.is_empty.ensures) in
    let done = (rw c.in-Stopped.is at c.in_ok-execute.ensures.steps) in
    let text = done.1 ∙ ap (λ (s : Stand). s.text ++ fault_text done.0 c.self.inside.script.line) c.self.view_is in
    last_fault read held kept (g.O.Output.contents c.write_text.new.output) c.args.self.now c.as_slice-rest.result.now c.execute.new.text.items c.self.inside.script done.0 rest script c.requires.written one some done.2 text c.in_ok-write_text-in-Stopped.ensures.ok wrote

pub returns-in_err-execute-clause-store : goal.returns-in_err-execute-clause-store
returns-in_err-execute-clause-store g c =
    let script = ap (λ (s : Stand). s.script) c.self.view_is in
    let rest = c.as_slice-rest.ensures.value ∙ ap (λ (s : Stand). s.pending) c.self.view_is in
    served_passed c.execute.result c.from_residual.result c.in_err-execute.field-0.0 _ _ c.in_err-execute.was c.from_residual.ensures.1 (λ asks.
    asks_last c.args.self.now.script c.args.self.now.pending c.requires.one (subst₂ (λ (s : Script) (bytes : List ℕ). AsksStore (execution s bytes)) script rest asks)) c.execute.ensures.store

use Rattle.std.proofs.Common.{◌≡◌, ℕ, List, ◌+◌, ◌++◌, drop, sym, ap, subst, ◌∙◌, append_assoc, arith, length-drop}
use Rattle.std.proofs.lemmas.List.{drop-drop}
use Rattle.script_model.specs.Execution.{execution}
use Rattle.script.specs.Executes.{AsksStore}
use Rattle.service.specs.Served.{Settled}
use Rattle.service.proofs.FirstLines.{found_at, line_at, executed_line, listed_line, stopped_line}
use Rattle.service.proofs.RoundLemmas.{lists_after, serving_after}
use Rattle.service.proofs.AskingLemmas.{asks_first, asks_after, script_passed}
use Rattle.service.proofs.lines.execute_lines.Goals as goal

pub loop-end-preserved : goal.loop-end-preserved
loop-end-preserved g c =
    let bytes = c.args.bytes.now in
    let from = c.loop-end.from in
    let k = c.in-Some.end in
    let found = found_at bytes from k c.in-Some.ensures in
    let line = line_at bytes from k in
    let here = executed_line (drop from bytes) _ k c.loop-end.script c.execute.new.self c.loop-end.text.items c.execute.new.text.items found line (rw c.in-Executed.is at c.in_ok-execute.ensures.steps) in (
      omega (arith, found.2, length-drop from bytes),
      serving_after c.args.script.now c.loop-end.script c.execute.new.self bytes (drop from bytes) (drop (k + 1) (drop from bytes)) (drop (from + (k + 1)) bytes) c.args.text.now.items c.loop-end.text.items c.execute.new.text.items c.loop-end.invariant.1 here (sym (drop-drop (k + 1) from bytes)),
    )

pub returns-in-Lists-clause-taken : goal.returns-in-Lists-clause-taken
returns-in-Lists-clause-taken g c =
    let bytes = c.args.bytes.now in
    let from = c.loop-end.from in
    let k = c.in-Some.end in
    let found = found_at bytes from k c.in-Some.ensures in
    let line = line_at bytes from k in
    let here = listed_line (drop from bytes) _ k c.loop-end.script c.execute.new.self c.loop-end.text.items c.execute.new.text.items c.in-Lists.listing found line (rw c.in-Lists.is at c.in_ok-execute.ensures.steps) in
    let behind : drop (from + k + 1) bytes ≡ drop (k + 1) (drop from bytes) = ap (λ (n : ℕ). drop n bytes) (omega arith) ∙ sym (drop-drop (k + 1) from bytes) in (
      omega (arith, found.2, length-drop from bytes),
      omega arith,
      lists_after c.args.script.now c.loop-end.script c.execute.new.self bytes (drop from bytes) (drop (k + 1) (drop from bytes)) (drop (from + k + 1) bytes) c.args.text.now.items c.loop-end.text.items c.execute.new.text.items c.in-Lists.listing c.loop-end.invariant.1 here behind,
    )

pub returns-in-Stopped-clause-taken : goal.returns-in-Stopped-clause-taken
returns-in-Stopped-clause-taken g c read before h =
    let bytes = c.args.bytes.now in
    let from = c.loop-end.from in
    let k = c.in-Some.end in
    let found = found_at bytes from k c.in-Some.ensures in
    let line = line_at bytes from k in
    let so_far = c.loop-end.invariant.1 read before h in
    let next = stopped_line (drop from bytes) _ k c.loop-end.script c.execute.new.self c.loop-end.text.items c.execute.new.text.items found line (rw c.in-Stopped.is at c.in_ok-execute.ensures.steps) read (before ++ so_far.0) so_far.2 in
    let said = next.1 ∙ ap (λ (x : List ℕ). x ++ next.0) so_far.1 ∙ append_assoc c.args.text.now.items so_far.0 next.0 in
    (so_far.0 ++ next.0, said, subst (λ (x : List ℕ). Settled read x) (append_assoc before so_far.0 next.0) next.2)

pub returns-in_err-execute-clause-store : goal.returns-in_err-execute-clause-store
returns-in_err-execute-clause-store g c =
    let bytes = c.args.bytes.now in
    let from = c.loop-end.from in
    let k = c.in-Some.end in
    let found = found_at bytes from k c.in-Some.ensures in
    let line = line_at bytes from k in
    script_passed c.execute.result c.from_residual.result c.in_err-execute.field-0.0 _ _ c.in_err-execute.was c.from_residual.ensures.1 (λ asks.
    asks_after c.args.script.now c.loop-end.script bytes (drop from bytes) c.args.text.now.items c.loop-end.text.items c.loop-end.invariant.1 (asks_first c.loop-end.script (drop from bytes) k found (subst (λ (l : List ℕ). AsksStore (execution c.loop-end.script l)) line asks))) c.execute.ensures.store

use Rattle.std.proofs.Common.{ℕ, ◌<◌, List, ◌++◌, length, drop, ap, subst, ◌∙◌, append_assoc, arith, length-drop}
use Rattle.script_model.specs.declared.limits.TheConstants.{MOST_LINE_BYTES}
use Rattle.script_model.specs.Texts.{fault_text}
use Rattle.script_model.specs.declared.line_fault.LineFault.TheVariants as faults
use Rattle.service.specs.Served.{Settled}
use Rattle.service.proofs.Following.{served_long}
use Rattle.service.proofs.lines.execute_read.Goals as goal

pub returns-clause-taken : goal.returns-clause-taken
returns-clause-taken g c read before h =
    let goes = (rw c.in-Left.is at c.in_ok-progress.ensures.taken) in
    let told = goes.2 read before h in
    let fault = fault_text faults.LongLine c.execute_lines.new.script.line in
    let said = c.in_ok-stop_at_long_line.ensures.text ∙ ap (λ (x : List ℕ). x ++ fault) told.1 ∙ append_assoc c.args.text.now.items told.0 fault in
    let long : MOST_LINE_BYTES < length (drop c.in-Left.from c.args.bytes.now) = omega (arith, length-drop c.in-Left.from c.args.bytes.now, c.if-bytes-from-gt-MOST_LINE_BYTES.true) in
    (told.0 ++ fault, said, subst (λ (x : List ℕ). Settled read x) (append_assoc before told.0 fault) (served_long read (before ++ told.0) (drop c.in-Left.from c.args.bytes.now) c.execute_lines.new.script told.2 goes.1 long))

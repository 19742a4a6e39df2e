use Rattle.std.proofs.Common.{rules, ◌≡◌, Some, option_map, subst}
use Rattle.script_model.specs.Parsing.{OneEdit, batch_line}
use Rattle.script_model.specs.Execution.{Execution, one_edit}
use Rattle.past_model.specs.declared.edit.Edit.TheVariants.{Insert, Remove}
use Rattle.script.specs.Said.{cut_batch_line}
use Rattle.script.specs.Executes.{Executes}
use Rattle.script.proofs.Cuts.{edit_line}
use Rattle.script.proofs.ProgramLemmas.{silent, whole_tells}
use Rattle.script.proofs.script.Script.execute_in_batch.Goals as goal

pub returns-in-Some-Insert-clause-executed : goal.returns-in-Some-Insert-clause-executed
returns-in-Some-Insert-clause-executed g c = λ words begun is_open said.
    let edit = Insert c.in-Some-Insert.source c.in-Some-Insert.target in
    let told : Some (OneEdit edit) ≡ option_map cut_batch_line (batch_line words) = search rules in
    let same = edit_line words edit begun c.args.self.now told c.add_edit.ensures.few in
    let done = silent (one_edit edit begun c.args.self.now) c.add_edit.result c.args.text.now.items c.add_edit.new.self (c.add_edit.ensures.executed begun is_open) in
    whole_tells _ c.add_edit.result c.whole.result _ _ _ c.whole.ensures (subst (λ (x : Execution). Executes x c.add_edit.result c.args.text.now.items c.args.text.now.items c.add_edit.new.self) same done)

pub returns-in-Some-Remove-clause-executed : goal.returns-in-Some-Remove-clause-executed
returns-in-Some-Remove-clause-executed g c = λ words begun is_open said.
    let edit = Remove c.in-Some-Remove.source c.in-Some-Remove.target in
    let told : Some (OneEdit edit) ≡ option_map cut_batch_line (batch_line words) = search rules in
    let same = edit_line words edit begun c.args.self.now told c.add_edit-in-Some-Remove.ensures.few in
    let done = silent (one_edit edit begun c.args.self.now) c.add_edit-in-Some-Remove.result c.args.text.now.items c.add_edit-in-Some-Remove.new.self (c.add_edit-in-Some-Remove.ensures.executed begun is_open) in
    whole_tells _ c.add_edit-in-Some-Remove.result c.whole-in-Some-Remove.result _ _ _ c.whole-in-Some-Remove.ensures (subst (λ (x : Execution). Executes x c.add_edit-in-Some-Remove.result c.args.text.now.items c.args.text.now.items c.add_edit-in-Some-Remove.new.self) same done)

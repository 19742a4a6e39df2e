use Rattle.std.proofs.Common.{◌≡◌, refl, sym, subst, List, ℕ}
use Rattle.std.specs.Prelude.{Result, Ok, Err}
use Rattle.session_model.specs.Session.{Session, stored}
use Rattle.session_model.specs.Responses.{write_response}
use Rattle.session.specs.declared.answer.Answer.{Answer as GivenAnswer}
use Rattle.session.specs.declared.answer.Answer.TheVariants as answers
use Rattle.session.specs.declared.error.CommandError.{CommandError}
use Rattle.session.specs.Kept.{asked_of, session_of}
use Rattle.session.specs.Performs.{Performs}
use Rattle.session.proofs.LentLemmas.{session_stored, wrote_column}
use Rattle.session.proofs.session.Session.write_column.Goals as goal

pub returns-clause-performed : goal.returns-clause-performed
returns-clause-performed g c =
    let asked = asked_of c.args.asked.now in
    let into = c.args.into.now in
    let s : Session = c.args.self.now in
    let written = c.in_ok-written.written in
    let new : Session = session_of c.self.inside.store c.self.inside.programs.items c.self.inside.pins.items c.store_column.new.columns.items in
    let after : new ≡ record s { columns = stored into written.numbers.items s.columns } = session_stored c.self.inside.store c.self.inside.programs.items c.self.inside.pins.items c.self.inside.columns.items c.store_column.new.columns.items s into written.numbers.items c.self.view_is c.in_ok-store_column.ensures.stored in
    wrote_column c.args.way asked into s new written (answers.ColumnWritten c.args.way c.args.asked.now.program c.args.asked.now.pin written.count written.total written.changed) c.in_ok-written.ensures after refl

use Rattle.std.proofs.Common.{[], sym, subst}
use Rattle.past_model.specs.Past.{graph_of}
use Rattle.session_model.specs.Session.{Session}
use Rattle.session_model.specs.Commands.{Asked}
use Rattle.session_model.specs.Faults.{lent_fault}
use Rattle.session_model.specs.Responses.{Response, Answers, unless_fault, lent_response, rows_answer}
use Rattle.session.specs.Kept.{asked_of}
use Rattle.session.specs.Lending.{GoesOn}
use Rattle.session.specs.Performs.{Performs}
use Rattle.session.proofs.LentLemmas.{lent_fails}
use Rattle.session.proofs.session.Session.pull_rows.Goals as goal

abbrev answers_rows : Asked → Session → GoesOn
answers_rows asked s p past columns = unless_fault (lent_fault asked p past.vertex_count columns []) (Answers (rows_answer asked p (graph_of past) columns) s)

pub returns-in-Err : goal.returns-in-Err
returns-in-Err g c =
    let asked = asked_of c.args.asked.now in
    lent_fails (lent_response asked c.args.self.now) (answers_rows asked c.args.self.now) c.args.self.now c.in-Err.error c.in-Err.ensures

pub returns-in-Ok : goal.returns-in-Ok
returns-in-Ok g c =
    let asked = asked_of c.args.asked.now in
    subst (λ (r : Response). Performs r c.pulled_rows.result c.args.self.now c.args.self.now)
    (sym (c.in-Ok.ensures (answers_rows asked c.args.self.now))) (c.pulled_rows.ensures c.args.self.now)

use Rattle.std.proofs.Common.{◌≡◌, List, sym, ap, ◌∙◌}
use Rattle.std.specs.Prelude.{map}
use Rattle.session_model.specs.Session.{Session, column_named}
use Rattle.session.specs.declared.kept.NamedColumn.{NamedColumn}
use Rattle.session.specs.Kept.{asked_of, kept_column, numbers_in}
use Rattle.session.proofs.LentLemmas.{write_fails, write_unnamed}
use Rattle.session.proofs.session.Session.write.Goals as goal

pub returns-in-Err : goal.returns-in-Err
returns-in-Err g c = write_fails c.args.way (asked_of c.args.asked.now) c.args.into.now c.args.self.now c.in-Err.error c.in-Err.ensures

pub returns-in_default : goal.returns-in_default
returns-in_default g c =
    let into = c.args.into.now in
    let named : numbers_in c.find_column.result ≡ column_named into c.args.self.now.columns = c.find_column.ensures ∙ ap (λ (cs : List NamedColumn). column_named into (map kept_column cs)) c.deref.ensures.value ∙ ap (λ (s : Session). column_named into s.columns) c.self.view_is in
    write_unnamed c.args.way (asked_of c.args.asked.now) into c.args.self.now c.in-Ok.lent c.in-Ok.ensures (sym named ∙ ap numbers_in c.in_default.is)

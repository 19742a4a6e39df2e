use Rattle.std.proofs.Common.{◌≡◌, ◌<◌, ◌++◌, true, List, length, get_or, take, drop, refl, sym, ap, ◌∙◌, subst, arith}
use Rattle.std.specs.Prelude.{map}
use Rattle.std.proofs.lemmas.List.{get_or-map}
use Rattle.bpf_asm.specs.Lexing.{same_bytes}
use Rattle.session_model.specs.Session.{KeptColumn, stored}
use Rattle.session.specs.declared.kept.NamedColumn.{NamedColumn}
use Rattle.session.specs.Kept.{kept_column}
use Rattle.session.proofs.NamedColumns.{stored_there}
use Rattle.session.proofs.kept.store_column.Goals as goal

pub returns-then-at-len-clause-stored : goal.returns-then-at-len-clause-stored
returns-then-at-len-clause-stored c =
    let items : List NamedColumn = c.args.columns.now.items in
    let i = c.place_of-at.result in
    let old : NamedColumn = c.index_mut.result.now in
    let name = c.args.name.now in
    let numbers = c.args.numbers.items in
    let there : i < length items = omega (arith, c.if-at-len.true, c.len.ensures, c.args.columns.now.ok.0) in
    let is : old ≡ get_or items i old = c.index_mut.ensures.value in
    let place : stored name numbers (map kept_column items) ≡ map kept_column (take i items) ++ stored name numbers (map kept_column (drop i items)) =
    subst (λ (l : List NamedColumn). stored name numbers (map kept_column l) ≡ map kept_column (take i l) ++ stored name numbers (map kept_column (drop i l))) c.deref.ensures.value (c.place_of-at.ensures.place numbers) in
    let named = subst (λ (l : List NamedColumn). (k : KeptColumn) → i < length l → k ≡ get_or (map kept_column l) i k → same_bytes k.name name ≡ true) c.deref.ensures.value c.place_of-at.ensures.same in
    let kept : kept_column old ≡ get_or (map kept_column items) i (kept_column old) = ap kept_column is ∙ sym (get_or-map kept_column items i old (kept_column old) there) in
    stored_there name numbers items i old (record { name = old.name; numbers = c.args.numbers }) there is (named (kept_column old) there kept) refl place

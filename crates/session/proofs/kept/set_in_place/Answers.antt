use Rattle.std.proofs.Common.{◌≡◌, ◌<◌, ◌++◌, true, ℕ, List, length, get_or, take, drop, refl, sym, ap, ◌∙◌, subst, arith}
use Rattle.std.specs.Prelude.{map, Option, Some, is_some}
use Rattle.std.specs.Vec.{with_items}
use Rattle.std.proofs.lemmas.List.{get_or-map, with_items_is}
use Rattle.bpf_asm.specs.Lexing.{same_bytes}
use Rattle.session_model.specs.Session.{KeptColumn, column_named, stored}
use Rattle.session_model.specs.Responses.{numbers_or_zeros, with_numbers}
use Rattle.session.specs.declared.kept.NamedColumn.{NamedColumn}
use Rattle.session.specs.Kept.{kept_column}
use Rattle.session.proofs.NamedColumns.{named_there, stored_there}
use Rattle.session.proofs.kept.set_in_place.Goals as goal

pub returns-clause-set : goal.returns-clause-set
returns-clause-set c done vertices =
    let items : List NamedColumn = c.args.columns.now.items in
    let i = c.place_of-at.result in
    let old : NamedColumn = c.index_mut.result.now in
    let name = c.args.name.now in
    let after : List ℕ = with_numbers c.args.first c.args.numbers.now old.numbers.items in
    let there : i < length items = omega (arith, c.if-at-len.false, c.len.ensures, c.args.columns.now.ok.0) in
    let is : old ≡ get_or items i old = c.index_mut.ensures.value in
    let place : stored name after (map kept_column items) ≡ map kept_column (take i items) ++ stored name after (map kept_column (drop i items)) =
    subst (λ (l : List NamedColumn). stored name after (map kept_column l) ≡ map kept_column (take i l) ++ stored name after (map kept_column (drop i l))) c.deref.ensures.value (c.place_of-at.ensures.place after) in
    let named = subst (λ (l : List NamedColumn). (k : KeptColumn) → i < length l → k ≡ get_or (map kept_column l) i k → same_bytes k.name name ≡ true) c.deref.ensures.value c.place_of-at.ensures.same in
    let kept : kept_column old ≡ get_or (map kept_column items) i (kept_column old) = ap kept_column is ∙ sym (get_or-map kept_column items i old (kept_column old) there) in
    let same : same_bytes old.name.items name ≡ true = named (kept_column old) there kept in
    let first : column_named name (map kept_column items) ≡ column_named name (map kept_column (drop i items)) =
    subst (λ (l : List NamedColumn). column_named name (map kept_column l) ≡ column_named name (map kept_column (drop i l))) c.deref.ensures.value c.place_of-at.ensures.first in
    let found : column_named name (map kept_column items) ≡ Some old.numbers.items = named_there name items i old there is same first in
    let written : c.write_over.new.column ≡ after = c.write_over.ensures.set ∙ ap (with_numbers c.args.first c.args.numbers.now) c.deref_mut.ensures.value in
    let new : NamedColumn = record { name = old.name; numbers = with_items old.numbers c.write_over.new.column } in
    let long : length c.write_over.new.column ≡ old.numbers.len = omega (arith, c.write_over.ensures.long, ap length c.deref_mut.ensures.value, old.numbers.ok.0) in
    let column : List ℕ → KeptColumn = λ n. record { name = old.name.items; numbers = n } in
    let made : kept_column new ≡ record { name = old.name.items; numbers = after } = ap column (with_items_is old.numbers c.write_over.new.column long ∙ written) in
    stored_there name after items i old new there is same made place
    ∙ ap (λ (o : Option (List ℕ)). stored name (with_numbers c.args.first c.args.numbers.now (numbers_or_zeros vertices o)) (map kept_column items)) (sym found)

pub returns-clause-there : goal.returns-clause-there
returns-clause-there c done =
    let items : List NamedColumn = c.args.columns.now.items in
    let i = c.place_of-at.result in
    let old : NamedColumn = c.index_mut.result.now in
    let name = c.args.name.now in
    let there : i < length items = omega (arith, c.if-at-len.false, c.len.ensures, c.args.columns.now.ok.0) in
    let is : old ≡ get_or items i old = c.index_mut.ensures.value in
    let named = subst (λ (l : List NamedColumn). (k : KeptColumn) → i < length l → k ≡ get_or (map kept_column l) i k → same_bytes k.name name ≡ true) c.deref.ensures.value c.place_of-at.ensures.same in
    let kept : kept_column old ≡ get_or (map kept_column items) i (kept_column old) = ap kept_column is ∙ sym (get_or-map kept_column items i old (kept_column old) there) in
    let first : column_named name (map kept_column items) ≡ column_named name (map kept_column (drop i items)) =
    subst (λ (l : List NamedColumn). column_named name (map kept_column l) ≡ column_named name (map kept_column (drop i l))) c.deref.ensures.value c.place_of-at.ensures.first in
    ap (λ (o : Option (List ℕ)). is_some o) (named_there name items i old there is (named (kept_column old) there kept) first)

-- Columns by their names.
use Rattle.std.proofs.Common.{◌≡◌, ℕ, ◌+◌, ◌<◌, suc, true, List, ◌∷◌, ◌++◌, length, take, drop, get_or, set, refl, sym, ap, ◌∙◌, arith}
use Rattle.std.specs.Prelude.{map, Option, Some, option_map}
use Rattle.std.proofs.lemmas.List.{drop_more, set_split, map-append}
use Rattle.bpf_asm.specs.Lexing.{same_bytes}
use Rattle.session_model.specs.Session.{KeptColumn, column_named, stored}
use Rattle.session.specs.declared.kept.NamedColumn.{NamedColumn}
use Rattle.session.specs.Kept.{kept_column}

-- columns, and those after them
abbrev pub after : List (List ℕ) → Option (List (List ℕ)) → Option (List (List ℕ))
after found rest = option_map (λ others. found ++ others) rest

-- a column that is stored where one of its name stands, after those of other names
pub stored_there : (name numbers : List ℕ) (columns : List NamedColumn) (at : ℕ) (old new : NamedColumn) → at < length columns → old ≡ get_or columns at old → same_bytes old.name.items name ≡ true
    → kept_column new ≡ record { name = old.name.items; numbers = numbers }
    → stored name numbers (map kept_column columns) ≡ map kept_column (take at columns) ++ stored name numbers (map kept_column (drop at columns))
    → map kept_column (set columns at new) ≡ stored name numbers (map kept_column columns)
stored_there name numbers columns at old new there is same made place =
    let next : at + 1 ≡ suc at = omega arith in
    let rest : drop at columns ≡ old ∷ drop (suc at) columns = drop_more columns at old there ∙ ap (λ (c : NamedColumn). c ∷ drop (at + 1) columns) (sym is) ∙ ap (λ (n : ℕ). old ∷ drop n columns) next in
    let here : stored name numbers (map kept_column (old ∷ drop (suc at) columns)) ≡ record { name = old.name.items; numbers = numbers } ∷ map kept_column (drop (suc at) columns) = rw same refl in
    ap (λ (l : List NamedColumn). map kept_column l) (set_split columns at new there) ∙ map-append kept_column (take at columns) (new ∷ drop (suc at) columns)
    ∙ ap (λ (c : KeptColumn). map kept_column (take at columns) ++ c ∷ map kept_column (drop (suc at) columns)) made
    ∙ ap (λ (l : List KeptColumn). map kept_column (take at columns) ++ l) (sym here)
    ∙ ap (λ (l : List NamedColumn). map kept_column (take at columns) ++ stored name numbers (map kept_column l)) (sym rest)
    ∙ sym place

-- the column of a name, after those of other names
pub named_there : (name : List ℕ) (columns : List NamedColumn) (at : ℕ) (old : NamedColumn) → at < length columns → old ≡ get_or columns at old → same_bytes old.name.items name ≡ true
    → column_named name (map kept_column columns) ≡ column_named name (map kept_column (drop at columns))
    → column_named name (map kept_column columns) ≡ Some old.numbers.items
named_there name columns at old there is same first =
    let next : at + 1 ≡ suc at = omega arith in
    let rest : drop at columns ≡ old ∷ drop (suc at) columns = drop_more columns at old there ∙ ap (λ (c : NamedColumn). c ∷ drop (at + 1) columns) (sym is) ∙ ap (λ (n : ℕ). old ∷ drop n columns) next in
    let here : column_named name (map kept_column (old ∷ drop (suc at) columns)) ≡ Some old.numbers.items = rw same refl in
    first ∙ ap (λ (l : List NamedColumn). column_named name (map kept_column l)) rest ∙ here

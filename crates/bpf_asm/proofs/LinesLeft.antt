-- The lines of a text, one after another.
use Rattle.std.proofs.Common.{◌≡◌, ◌+◌, ℕ, suc, List, [], ◌∷◌, ◌++◌, length, ap}
use Rattle.std.specs.Prelude.{Option, Some, None, Result, Ok}
use Rattle.std.specs.Borrow.{Bor}
use Rattle.bpf_asm.specs.declared.errors.TextCause.{TextCause}
use Rattle.bpf_asm.specs.Statements.{Item, item}
use Rattle.bpf_asm.specs.Assembly.{reading_admission, after_line, items_from}

-- how much text is left
abbrev pub left_over : Option (Bor (List ℕ)) → ℕ
left_over None = 0
left_over (Some rest) = suc (length rest.now)

pub read_one : (before : List Item) (line : List ℕ) (lines : List (List ℕ)) (i : Item) → reading_admission before (item line) ≡ Ok i → items_from before (line ∷ lines) ≡ items_from (before ++ (i ∷ [])) lines
read_one before line lines i is = ap (λ (r : Result Item TextCause). after_line before r (λ j. items_from (before ++ (j ∷ [])) lines)) is

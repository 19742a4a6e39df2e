-- The lines of a program's text.
use Rattle.std.proofs.Common.{◌≡◌, ◌<◌, ◌^◌, ℕ, Bool, true, false, List, [], ◌∷◌, ◌++◌, refl, sym, ap, ◌∙◌, append_assoc}
use Rattle.std.specs.Prelude.{◌==◌, not, codes, if◌then◌else◌}
use Rattle.std.specs.List.{AllByRecursion, list_all, flat_map}
use Rattle.std.proofs.lemmas.Bool.{and_parts}
use Rattle.bpf_asm.specs.declared.writing.placed.Placed.{Placed}
use Rattle.bpf_asm.specs.Lexing.{parts}
use Rattle.bpf_asm.specs.Writing.{label_text, statement_text}
use Rattle.bpf_asm.specs.Listing.{is_target, label_line, lines_of}
use Rattle.bpf_asm.proofs.Solids.{is_inner, all_weaker, all_both, split_at}
use Rattle.bpf_asm.proofs.Spoken.{inner_all}
use Rattle.bpf_asm.proofs.Operands.{label_reads}

-- with a label's line before them
abbrev pub label_first : Bool → ℕ → List (List ℕ) → List (List ℕ)
label_first true pc lines = (label_text pc ++ (58 ∷ [])) ∷ lines
label_first false pc lines = lines

-- the lines of some instructions of a program, and the empty line at the end
abbrev pub texts_of : List Placed → List Placed → List (List ℕ)
texts_of all [] = [] ∷ []
texts_of all (p ∷ placed) = label_first (is_target p.pc all) p.pc (statement_text p.pc p.instruction ∷ texts_of all placed)

no_ends : (text : List ℕ) → list_all is_inner text ≡ true → list_all (λ b. not (b == 10)) text ≡ true
no_ends text inner = all_weaker is_inner (λ b. not (b == 10)) text (λ b is. (and_parts (not (b == 10)) (not (b == 59)) is).0) inner

cut_statement : (text rest : List ℕ) → list_all is_inner text ≡ true → parts 10 ((text ++ codes "\n") ++ rest) ≡ text ∷ parts 10 rest
cut_statement text rest inner = ap (parts 10) (append_assoc text (10 ∷ []) rest) ∙ split_at (λ b. b == 10) text 10 rest (no_ends text inner) refl

cut_label : (k : ℕ) (rest : List ℕ) → k < 2 ^ 64 → parts 10 (label_line k ++ rest) ≡ (label_text k ++ (58 ∷ [])) ∷ parts 10 rest
cut_label k rest small =
    let regrouped : label_line k ++ rest ≡ (label_text k ++ (58 ∷ [])) ++ (10 ∷ rest) = append_assoc (label_text k) (58 ∷ 10 ∷ []) rest ∙ sym (append_assoc (label_text k) (58 ∷ []) (10 ∷ rest)) in
    let inner = all_both is_inner (label_text k) (58 ∷ []) (inner_all (label_text k) (label_reads k small).solid) refl in
    ap (parts 10) regrouped ∙ split_at (λ b. b == 10) (label_text k ++ (58 ∷ [])) 10 rest (no_ends (label_text k ++ (58 ∷ [])) inner) refl

cut_lines : (m : Bool) (k : ℕ) (text rest : List ℕ) → k < 2 ^ 64 → list_all is_inner text ≡ true → parts 10 (((if m then label_line k else []) ++ (text ++ codes "\n")) ++ rest) ≡ label_first m k (text ∷ parts 10 rest)
cut_lines false k text rest small inner = cut_statement text rest inner
cut_lines true k text rest small inner =
    ap (parts 10) (append_assoc (label_line k) (text ++ codes "\n") rest) ∙ cut_label k ((text ++ codes "\n") ++ rest) small ∙ ap (λ (x : List (List ℕ)). (label_text k ++ (58 ∷ [])) ∷ x) (cut_statement text rest inner)

-- an instruction whose text is one line
pub record IsOneLine (p : Placed) : Type 0 where
  pub small : p.pc < 2 ^ 64
  pub inner : list_all is_inner (statement_text p.pc p.instruction) ≡ true

pub lines_are : (all placed : List Placed) → AllByRecursion IsOneLine placed → parts 10 (flat_map (lines_of all) placed) ≡ texts_of all placed
lines_are all [] each = refl
lines_are all (p ∷ placed) each =
    cut_lines (is_target p.pc all) p.pc (statement_text p.pc p.instruction) (flat_map (lines_of all) placed) each.0.small each.0.inner ∙ ap (λ (x : List (List ℕ)). label_first (is_target p.pc all) p.pc (statement_text p.pc p.instruction ∷ x)) (lines_are all placed each.1)

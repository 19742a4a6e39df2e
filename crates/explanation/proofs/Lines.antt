-- Lines: what is left of the lines, one line on.
use Rattle.std.proofs.Common.{◌≡◌, ℕ, ◌+◌, ◌<◌, List, [], ◌∷◌, ◌++◌, map, filter, drop, length, sym, ap, ◌∙◌, append_assoc, arith}
use Rattle.std.specs.Borrow.{Bor}
use Rattle.std.specs.Prelude.{slice_index_or}
use Rattle.std.proofs.lemmas.List.{drop_more, get_or-map, length-map}
use Rattle.std.proofs.lemmas.List.Elements.{filter-append}
use Rattle.explanation.specs.SourceLines.{Numbered, holds_statement, numbered, numbered_line}

-- the statements of the lines from a place on
abbrev pub left : (place : ℕ) → List (List ℕ) → List Numbered
left place lines = filter holds_statement (numbered (place + 1) (drop place lines))

-- those of one line come first
pub left_more : (items : List (Bor (List ℕ))) (place : ℕ) (none : Bor (List ℕ)) → place < length items → left place (map (λ line. line.now) items) ≡ filter holds_statement (numbered_line (place + 1) (slice_index_or items place none).now ∷ []) ++ left (place + 1) (map (λ line. line.now) items)
left_more items place none lt =
    let lines : List (List ℕ) = map (λ line. line.now) items in
    let first = drop_more lines place none.now (omega (arith, lt, length-map items (λ line. line.now))) in
    let is = get_or-map (λ line. line.now) items place none none.now lt in
    ap (λ rest. filter holds_statement (numbered (place + 1) rest)) first
    ∙ ap (λ line. filter holds_statement (numbered_line (place + 1) line ∷ numbered (place + 1 + 1) (drop (place + 1) lines))) is
    ∙ filter-append holds_statement (numbered_line (place + 1) (slice_index_or items place none).now ∷ []) (numbered (place + 1 + 1) (drop (place + 1) lines))

-- so what was taken and what is left stay the same together
pub kept : (items : List (Bor (List ℕ))) (place : ℕ) (none : Bor (List ℕ)) (old new all : List Numbered) → place < length items → new ≡ old ++ filter holds_statement (numbered_line (place + 1) (slice_index_or items place none).now ∷ []) → old ++ left place (map (λ line. line.now) items) ≡ all → new ++ left (place + 1) (map (λ line. line.now) items) ≡ all
kept items place none old new all lt more before =
    let one = filter holds_statement (numbered_line (place + 1) (slice_index_or items place none).now ∷ []) in
    let rest = left (place + 1) (map (λ line. line.now) items) in
    ap (λ taken. taken ++ rest) more ∙ (append_assoc old one rest ∙ (ap (λ behind. old ++ behind) (sym (left_more items place none lt)) ∙ before))

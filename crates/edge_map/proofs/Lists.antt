-- The edges that were listed, and those that are left.
use Rattle.std.proofs.Common.{◌≡◌, ℕ, ◌≤◌, List, [], ◌++◌, length, take, drop, sym, ap, ◌∙◌, append-nil}
use Rattle.std.proofs.lemmas.List.{take_all, drop_all, take_at, drop_at}
use Rattle.map_model.specs.declared.listed_edge.ListedEdge.{ListedEdge}

-- a block that is full
pub full_block : (all block left : List ListedEdge) (n : ℕ) → all ≡ block ++ left → length block ≡ n → (block ≡ take n all) × (left ≡ drop n all)
full_block all block left n is long =
    (sym (ap (take n) is ∙ take_at block left n long), sym (ap (drop n) is ∙ drop_at block left n long))

-- the last block
pub last_block : (all block left : List ListedEdge) (n : ℕ) → all ≡ block ++ left → left ≡ [] → length block ≤ n → (block ≡ take n all) × (left ≡ drop n all)
last_block all block left n is ended few =
    let whole : all ≡ block = is ∙ ap (λ l. block ++ l) ended ∙ append-nil block in
    (sym (ap (take n) whole ∙ take_all n block few), ended ∙ sym (ap (drop n) whole ∙ drop_all n block few))

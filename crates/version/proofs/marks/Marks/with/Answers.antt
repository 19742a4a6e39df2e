use Rattle.std.proofs.Common.{rules, ◌≡◌, ◌+◌, [], ◌∷◌, ◌++◌, length, ℕ, List, ap, sym, ◌∙◌, append_assoc, append-nil, flat_map}
use Rattle.past_model.specs.Shared.{shared_items}
use Rattle.std.proofs.lemmas.List.{length_push}
use Rattle.version.specs.Chunks.{items_in, items_of}
use Rattle.version.proofs.marks.Marks.with.Goals as goal

pub invariant_of-result-2 : goal.invariant_of-result-2
invariant_of-result-2 c =
    let marks : List (List ℕ) = items_of (shared_items c.self.inside.full) c.self.inside.last.items in
    let chunk : items_in c.in_ok-new.field-0 ≡ c.self.inside.last.items ++ c.args.mark ∷ [] = search rules in
    let before : List (List ℕ) = flat_map items_in (shared_items c.self.inside.full) in
    let now : List (List ℕ) = flat_map items_in c.in_ok-full-2.full.value.items in
    let none : c.new-2.result.items ≡ [] = search rules in
    let all : now ++ c.new-2.result.items ≡ marks ++ c.args.mark ∷ [] =
    ap (λ (l : List (List ℕ)). now ++ l) none ∙ append-nil now ∙ c.in_ok-full-2.ensures ∙ ap (λ (l : List (List ℕ)). before ++ l) chunk
    ∙ sym (append_assoc before c.self.inside.last.items (c.args.mark ∷ [])) in
    ap (λ k. k + 1) c.self.invariant ∙ sym (length_push marks c.args.mark) ∙ ap (length {A = List ℕ}) (sym all)

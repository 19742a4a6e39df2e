use Rattle.std.proofs.Common.{rules, ◌≡◌, ◌+◌, [], ◌∷◌, ◌++◌, length, slice_set, ℕ, List, ap, sym, ◌∙◌, arith, append_assoc, append-nil, flat_map}
use Rattle.past_model.specs.declared.entry.Entry.{Entry}
use Rattle.past_model.specs.Epochs.{mark_of, marked}
use Rattle.past_model.specs.Shared.{shared_items}
use Rattle.std.proofs.lemmas.List.{length_push}
use Rattle.version.proofs.MarkLemmas.{mark_of-longer, marked-few}
use Rattle.version.specs.Chunks.{items_in, items_of}
use Rattle.version.proofs.log.Log.with.Goals as goal

pub counted-mark-requires : goal.counted-mark-requires
counted-mark-requires c =
    let log : List Entry = items_of (shared_items c.self.inside.full) c.self.inside.last.items in
    omega (arith, ap (λ (m : List ℕ). marked m c.args.entry.feed) c.self.invariant.1, marked-few log c.args.entry.feed, ap (length {A = Entry}) c.self.view_is, c.requires)

pub invariant_of-result-2 : goal.invariant_of-result-2
invariant_of-result-2 c =
    let log : List Entry = items_of (shared_items c.self.inside.full) c.self.inside.last.items in
    let chunk : items_in c.in_ok-new.field-0 ≡ c.self.inside.last.items ++ c.args.entry ∷ [] = search rules in
    let before : List Entry = flat_map items_in (shared_items c.self.inside.full) in
    let now : List Entry = flat_map items_in c.in_ok-full-2.full.value.items in
    let none : c.new-2.result.items ≡ [] = search rules in
    let all : now ++ c.new-2.result.items ≡ log ++ c.args.entry ∷ [] =
    ap (λ (l : List Entry). now ++ l) none ∙ append-nil now ∙ c.in_ok-full-2.ensures ∙ ap (λ (l : List Entry). before ++ l) chunk
    ∙ sym (append_assoc before c.self.inside.last.items (c.args.entry ∷ [])) in
    let mark : c.counted-mark.result ≡ mark_of (log ++ c.args.entry ∷ []) =
    c.counted-mark.ensures ∙ ap (λ (m : List ℕ). slice_set m c.args.entry.feed (marked m c.args.entry.feed + 1)) c.self.invariant.1 ∙ sym (mark_of-longer log c.args.entry) in
    (ap (λ k. k + 1) c.self.invariant.0 ∙ sym (length_push log c.args.entry) ∙ ap (length {A = Entry}) (sym all), mark ∙ ap mark_of (sym all))

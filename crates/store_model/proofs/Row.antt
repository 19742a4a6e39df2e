-- The worked row, by computing.
use Rattle.std.proofs.Common.{◌≡◌, ◌<◌, ◌++◌, ℕ, List, [], ◌∷◌, length, refl, sym, ap, arith}
use Rattle.past_model.specs.declared.edit.Edit.TheVariants.{Insert, Remove}
use Rattle.graph_model.specs.Graph.{neighbours}
use Rattle.store_model.specs.declared.event.Event.TheVariants.{Submit, Take, Part, Publish, Rebase, Pin, Lend}
use Rattle.store_model.specs.declared.reply.Reply.TheVariants.{Done, Slice, End}
use Rattle.store_model.specs.Core.{Core, opening_core}
use Rattle.store_model.specs.Events.{after, IsBeginning}
use Rattle.store_model.specs.Laws.{RowRuns}

one_word : (words : List ℕ) → words ≡ 2 ∷ [] → (0 < length words) × IsBeginning ([] ++ words) (2 ∷ [])
one_word words is = (omega (arith, ap length is), ([], ap (λ l. l ++ []) (sym is)))

pub row_runs : RowRuns
unfolding neighbours
row_runs words is =
    let core_1 : Core = after (opening_core 4) (Submit 0 (Insert 0 1 ∷ [])) Done in
    let core_2 : Core = after core_1 Take Done in
    let core_3 : Core = after core_2 (Pin 0 0) Done in
    let core_4 : Core = after core_3 (Part 0) Done in
    let core_5 : Core = after core_4 Publish Done in
    let core_6 : Core = after core_5 Rebase Done in
    let core_7 : Core = after core_6 (Submit 3 (Insert 0 2 ∷ Remove 0 1 ∷ [])) Done in
    let core_8 : Core = after core_7 Take Done in
    let core_9 : Core = after core_8 (Part 0) Done in
    let core_10 : Core = after core_9 Publish Done in
    let core_11 : Core = after core_10 (Lend 0) End in
    let core_12 : Core = after core_11 (Pin 0 0) Done in
    let core_13 : Core = after core_12 (Lend 0) (Slice words) in
    let core_14 : Core = after core_13 (Lend 0) End in
    (core_14, (core_1, (refl, refl, refl), (core_2, (refl, refl, refl), (core_3, (refl, refl, refl), (core_4, (refl, refl, refl), (core_5, (refl, refl, refl), (core_6, (refl, refl, refl), (core_7, (refl, refl, refl), (core_8, (refl, refl, refl), (core_9, (refl, refl, refl), (core_10, (refl, refl, refl), (core_11, (refl, refl, refl), (core_12, (refl, refl, refl), (core_13, (refl, one_word words.items is, refl), (core_14, (refl, is, refl), refl)))))))))))))))

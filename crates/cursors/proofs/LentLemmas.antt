-- The first of a lent slice.
use Rattle.std.proofs.Common.{◌≡◌, ℕ, ◌+◌, ◌<◌, List, length, get_or, drop, sym, ap, ◌∙◌, slice_get, Some, arith}
use Rattle.std.proofs.lemmas.Option.{slice_get-get_or}
use Rattle.std.proofs.lemmas.List.{get_or-drop, get_or_append_left}
use Rattle.shards.specs.Lent.{IsLentAt}

pub first_lent : (targets : List ℕ) (place : ℕ) (lent : List ℕ) → IsLentAt targets place lent → place < length targets → slice_get lent 0 ≡ slice_get targets place
first_lent targets place lent is inside =
    let some = is.some inside in
    let at : get_or lent 0 0 ≡ get_or targets place 0 =
    sym (get_or_append_left lent (drop (place + length lent) targets) 0 0 some)
    ∙ ap (λ l. get_or l 0 0) (sym is.whole)
    ∙ get_or-drop place targets 0 0
    ∙ ap (λ k. get_or targets k 0) (omega arith) in
    slice_get-get_or lent 0 0 some ∙ ap Some at ∙ sym (slice_get-get_or targets place 0 inside)

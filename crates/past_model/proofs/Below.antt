-- Edits below a number of vertices: the test says what the statement says.
use Rattle.std.proofs.Common.{◌≡◌, ℕ, nat_lt, true, List, [], ◌∷◌, refl}
use Rattle.std.proofs.lemmas.Bool.{and_from, and_parts, lt-ltb, ltb-true}
use Rattle.past_model.specs.declared.edit.Edit.{Edit}
use Rattle.past_model.specs.Edits.{source_of, target_of, AreEditsBelow, is_edit_below, are_edits_below}

pub below_from_test : (n : ℕ) (es : List Edit) → are_edits_below n es ≡ true → AreEditsBelow n es
below_from_test n [] h = tt
below_from_test n (e ∷ es) h =
    let parts = and_parts (is_edit_below n e) (are_edits_below n es) h in
    let ends = and_parts (nat_lt (source_of e) n) (nat_lt (target_of e) n) parts.0 in (
      (ltb-true (source_of e) n ends.0, ltb-true (target_of e) n ends.1),
      below_from_test n es parts.1,
    )

pub test_from_below : (n : ℕ) (es : List Edit) → AreEditsBelow n es → are_edits_below n es ≡ true
test_from_below n [] h = refl
test_from_below n (e ∷ es) h =
    and_from (is_edit_below n e) (are_edits_below n es)
    (and_from (nat_lt (source_of e) n) (nat_lt (target_of e) n) (lt-ltb (source_of e) n h.0.0) (lt-ltb (target_of e) n h.0.1))
    (test_from_below n es h.1)

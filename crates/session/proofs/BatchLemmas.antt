-- What is answered to a batch, test by test.
use Rattle.std.proofs.Common.{◌≡◌, ℕ, Bool, true, false, ltb, List, refl, ap, ◌∙◌, length}
use Rattle.past_model.specs.declared.edit.Edit.{Edit}
use Rattle.past_model.specs.Past.{Past, opening}
use Rattle.session_model.specs.declared.fault.Fault.TheVariants as faults
use Rattle.session_model.specs.Session.{Session}
use Rattle.session_model.specs.Faults.{is_batch_of}
use Rattle.session_model.specs.Responses.{Fails, publish_response}
use Rattle.session.specs.Handles.{StoreState}
use Rattle.session.specs.Kept.{with_store}

-- what a test of shown edits says of the graph's
pub same_test : (passed : Bool) (feed n : ℕ) (edits shown : List Edit) (past : Past) → passed ≡ is_batch_of feed shown (opening n) → shown ≡ edits → n ≡ past.vertex_count → passed ≡ is_batch_of feed edits past
same_test passed feed n edits shown past test same count =
    test ∙ ap (λ (es : List Edit). is_batch_of feed es (opening n)) same ∙ ap (λ (m : ℕ). is_batch_of feed edits (opening m)) count

pub batch_outside : (feed : ℕ) (edits : List Edit) (store : StoreState) (s : Session) → is_batch_of feed edits store.past ≡ false → publish_response feed edits (with_store s store) ≡ Fails faults.Range
batch_outside feed edits store s outside = rw outside refl

pub batch_too_long : (feed : ℕ) (edits : List Edit) (store : StoreState) (s : Session) → is_batch_of feed edits store.past ≡ true → ltb 65536 (length edits) ≡ true → publish_response feed edits (with_store s store) ≡ Fails faults.TooMany
batch_too_long feed edits store s inside long = rw (inside, long) refl

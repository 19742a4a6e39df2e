use Rattle.std.proofs.Common.{◌≡◌, true, ltb, length, refl, sym, ◌∙◌, arith}
use Rattle.std.proofs.lemmas.Bool.{lt-ltb}
use Rattle.session.proofs.BatchLemmas.{same_test, batch_outside, batch_too_long}
use Rattle.session.proofs.batches.publish.Goals as goal

pub returns-then-not-is_batch : goal.returns-then-not-is_batch
returns-then-not-is_batch g c s =
    (batch_outside c.args.feed c.args.edits.items c.args.store.now s (sym (same_test _ c.args.feed _ _ _ c.args.store.now.past c.is_batch.ensures c.deref.ensures.value c.vertex_count.ensures.value) ∙ c.if-not-is_batch.true), refl)

pub returns-then-len-gt-MOST_EDITS : goal.returns-then-len-gt-MOST_EDITS
returns-then-len-gt-MOST_EDITS g c s =
    let long : ltb 65536 (length c.args.edits.items) ≡ true = lt-ltb _ _ (omega (arith, c.len.ensures, c.if-len-gt-MOST_EDITS.true)) in
    (batch_too_long c.args.feed c.args.edits.items c.args.store.now s (sym (same_test _ c.args.feed _ _ _ c.args.store.now.past c.is_batch.ensures c.deref.ensures.value c.vertex_count.ensures.value) ∙ c.if-not-is_batch.false) long, refl)

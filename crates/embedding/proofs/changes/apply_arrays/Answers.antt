use Rattle.std.proofs.Common.{◌≡◌, ◌<◌, true, length, refl, arith, lt-ltb}
use Rattle.std.specs.Prelude.{nat_lt}
use Rattle.past_model.specs.declared.limits.TheConstants.{MOST_EDITS}
use Rattle.embedding.specs.Spelled.{spelled}
use Rattle.embedding.specs.Batches.{AreAlike}
use Rattle.embedding.proofs.EditLists.{length_spelled}
use Rattle.embedding.proofs.changes.apply_arrays.Goals as goal

pub returns-then-count-gt-MOST_EDITS : goal.returns-then-count-gt-MOST_EDITS
returns-then-count-gt-MOST_EDITS c =
    let sources = c.args.arrays.sources.now in
    let targets = c.args.arrays.targets.now in
    let removes = c.args.arrays.removes.now in
    let alike : AreAlike sources targets removes = (omega (arith, c.if-arrays-count.false), omega (arith, c.if-arrays-count-2.false)) in
    let many : MOST_EDITS < length (spelled sources targets removes) = omega (arith, c.if-count-gt-MOST_EDITS.true, length_spelled sources targets removes) in
    let test : nat_lt MOST_EDITS (length (spelled sources targets removes)) ≡ true = lt-ltb MOST_EDITS (length (spelled sources targets removes)) many in
    record {
      lengths = λ wrong. absurd (omega (arith, wrong));
      left = λ wrong. absurd (omega (arith, wrong));
      alike = λ _. alike;
      applied = λ _. record { done = λ wrong. absurd (omega (arith, wrong)); left = λ _. (refl, refl); fault = λ _. rw test refl };
    }

pub returns-in-Err : goal.returns-in-Err
returns-in-Err c =
    record {
      lengths = λ wrong. absurd (omega (arith, wrong));
      left = λ wrong. absurd (omega (arith, wrong));
      alike = λ _. (omega (arith, c.if-arrays-count.false), omega (arith, c.if-arrays-count-2.false));
      applied = λ _. record { done = λ wrong. absurd (omega (arith, wrong)); left = λ _. (refl, refl); fault = λ wrong. absurd (wrong refl) };
    }

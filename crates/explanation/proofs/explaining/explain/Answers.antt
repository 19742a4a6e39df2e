use Rattle.std.proofs.Common.{◌≡◌, ◌<◌, List, subst, inl, inr, arith}
use Rattle.std.specs.Prelude.{string_bytes}
use Rattle.bpf_image.specs.Program.{Program, IsImage, units}
use Rattle.verifier.specs.declared.known.KnownPassage.{KnownPassage}
use Rattle.verifier.specs.Verdict.{verdict}
use Rattle.verifier.specs.Verdict as verdicts
use Rattle.explanation.specs.declared.judgement.Judgement.TheVariants.{Refused}
use Rattle.explanation.specs.Explanation.{explanation_text}
use Rattle.explanation.proofs.Inside.{refused_inside}
use Rattle.explanation.proofs.explaining.explain.Goals as goal

pub write_all-requires-in-Err : goal.write_all-requires-in-Err
write_all-requires-in-Err c =
    let image : IsImage c.args.image = c.code-code.ensures.image in
    let some : 0 < units c.args.image = (let one = image.code.some in omega (arith, one)) in
    let refused : verdict c.args.image ≡ verdicts.Refused c.in-Err.refusal = (elim c.in-Err.ensures.exact [
      | inl memory ↦ absurd (c.in_ok-rule_or_memory-in-Err.ensures.rule memory)
      | inr rule ↦ rule
    ]) in
    let inside : c.in-Err.refusal.pc < units c.args.image = refused_inside c.args.image c.in-Err.refusal some refused in
    rw c.in-Err.ensures.back inside

pub returns : goal.returns
returns c =
    let refused : verdict c.args.image ≡ verdicts.Refused c.in-Err.refusal = (elim c.in-Err.ensures.exact [
      | inl memory ↦ absurd (c.in_ok-rule_or_memory-in-Err.ensures.rule memory)
      | inr rule ↦ rule
    ]) in
    let told : string_bytes c.in_ok-text-in-Err.text ≡ explanation_text c.in-Err.image c.args.source.now c.deref-in-Err.result.now (Refused c.in-Err.refusal) = c.in_ok-text-in-Err.ensures in
    let of_states : string_bytes c.in_ok-text-in-Err.text ≡ explanation_text c.in-Err.image c.args.source.now c.in_ok-passages.passages.items (Refused c.in-Err.refusal) = subst (λ (told : List KnownPassage). string_bytes c.in_ok-text-in-Err.text ≡ explanation_text c.in-Err.image c.args.source.now told (Refused c.in-Err.refusal)) c.deref-in-Err.ensures.value told in
    record {
      passages = c.in_ok-passages.passages.items;
      is_known = c.in_ok-passages.ensures;
      is_verdict = refused;
      is_text = subst (λ (p : Program). string_bytes c.in_ok-text-in-Err.text ≡ explanation_text p c.args.source.now c.in_ok-passages.passages.items (Refused c.in-Err.refusal)) c.in-Err.ensures.back of_states;
    }

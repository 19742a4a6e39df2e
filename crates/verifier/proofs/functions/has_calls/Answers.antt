use Rattle.std.proofs.Common.{◌≡◌, ◌/◌, length, ap, sym, arith, inl, inr}
use Rattle.std.proofs.lemmas.Bool.{cases_eq}
use Rattle.bpf_image.specs.Program.{units, IsImage}
use Rattle.verifier.specs.Tables.{HasOneFunction}
use Rattle.verifier.proofs.OneFunction.{no_calls, one_frame}
use Rattle.verifier.proofs.Pairs.{pairs_of_one}
use Rattle.verifier.proofs.functions.has_calls.Goals as goal

pub loop-pc-init : goal.loop-pc-init
loop-pc-init c = λ q lt. absurd (omega (arith, lt))

pub loop-pc-preserved : goal.loop-pc-preserved
loop-pc-preserved c = λ q lt.
    elim (cases_eq q c.loop-pc.pc) [
      | inl same ↦ rw same (sym c.if-is_call_at.ensures)
      | inr other ↦ c.loop-pc.invariant q (omega (arith, lt, other))
    ]

one : (c : goal.After-loop-pc) → HasOneFunction c.args.image.now
one c =
    let same : units c.args.image.now ≡ length c.code.result.now / 8 = ap (λ xs. length xs / 8) (sym c.code.ensures.exact) in
    no_calls c.args.image.now c.loop-pc.pc (omega (arith, same, c.loop-pc-test.false)) c.loop-pc.invariant

pub returns-clause-one : goal.returns-clause-one
returns-clause-one c = λ is. one c

pub returns-clause-frames : goal.returns-clause-frames
returns-clause-frames c = λ is.
    let image : IsImage c.args.image.now = c.code.ensures.image in
    one_frame c.args.image.now (one c) c.requires.decodes (let least = image.code.some in omega (arith, least))

pub returns-clause-pairs : goal.returns-clause-pairs
returns-clause-pairs c = λ is.
    let image : IsImage c.args.image.now = c.code.ensures.image in
    pairs_of_one c.args.image.now (one c) (let most = image.code.most in omega (arith, most))

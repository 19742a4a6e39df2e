-- Each clause from what `decode` ensures, that it returns what is decoded, and a law on that.
use Rattle.std.proofs.Common.{sym, ◌∙◌, arith}
use Rattle.bpf_isa.proofs.DecodedLaws.{is_found, is_inside, decoded-IsCodeAt}
use Rattle.bpf_isa.proofs.ErrorLaws.{IsDecodeError-decoded, decoded-IsDecodeError}
use Rattle.bpf_isa.proofs.decode.decode_at.Goals as goal

pub returns-clause-found : goal.returns-clause-found
returns-clause-found c =
    is_found c.args.code.now c.args.pc c.decode.result (λ i. omega (arith, c.type_inv.code i)) c.decode.ensures

pub returns-clause-inside : goal.returns-clause-inside
returns-clause-inside c = is_inside c.args.code.now c.args.pc c.decode.result c.decode.ensures

pub returns-clause-only : goal.returns-clause-only
returns-clause-only c = λ i units at. c.decode.ensures ∙ decoded-IsCodeAt c.args.code.now c.args.pc i units at

pub returns-clause-error : goal.returns-clause-error
returns-clause-error c =
    λ e. (
      (λ h. IsDecodeError-decoded c.args.code.now c.args.pc e (sym c.decode.ensures ∙ h)),
      (λ h. c.decode.ensures ∙ decoded-IsDecodeError c.args.code.now c.args.pc e h),
    )

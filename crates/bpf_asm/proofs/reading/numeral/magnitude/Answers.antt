use Rattle.std.proofs.Common.{◌≡◌, ◌≤◌, ◌+◌, ◌*◌, ◌^◌, ℕ, get_or, sym, ap, ◌∙◌, subst, arith}
use Rattle.std.proofs.lemmas.Bool.Decides.{nat_tests}
use Rattle.bpf_asm.specs.Statements.{digits_from, digit_value, magnitude}
use Rattle.bpf_asm.specs.Said.{said_numeral}
use Rattle.bpf_asm.proofs.Digits.{digits_end, digits_great, too_great, just_right}
use Rattle.bpf_asm.proofs.reading.numeral.magnitude.Goals as goal

pub returns-in_err-number : goal.returns-in_err-number
returns-in_err-number c =
    let far : 2 ^ 64 ≤ c.base_number-base.result * c.loop-byte.number + digit_value (get_or c.args.numeral.digits.now c.loop-byte.byte-index 0) = grind (arith, nat_tests, c.in_err-number.ensures, c.digit_value.ensures.exact) in
    let great = digits_great c.args.numeral.base c.loop-byte.number c.loop-byte.byte-index c.args.numeral.digits.now c.loop-byte-test.true (rw (← c.base_number-base.ensures.exact) far) in
    let all : 2 ^ 64 ≤ magnitude (said_numeral c.args.numeral) = subst (λ (n : ℕ). 2 ^ 64 ≤ n) (rw c.base_number-base.ensures.exact at c.loop-byte.invariant.same) great in
    c.from_residual.ensures ∙ too_great (magnitude (said_numeral c.args.numeral)) all

pub returns : goal.returns
returns c =
    let end = digits_end c.base_number-base.result c.loop-byte.number c.loop-byte.byte-index c.args.numeral.digits.now c.loop-byte-test.false in
    let all : digits_from c.base_number-base.result 0 c.args.numeral.digits.now ≡ magnitude (said_numeral c.args.numeral) = ap (λ (b : ℕ). digits_from b 0 c.args.numeral.digits.now) c.base_number-base.ensures.exact in
    just_right c.loop-byte.number (magnitude (said_numeral c.args.numeral)) c.loop-byte.invariant.small (sym end ∙ c.loop-byte.invariant.same ∙ all)

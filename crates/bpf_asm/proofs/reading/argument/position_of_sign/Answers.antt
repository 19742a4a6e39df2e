use Rattle.std.proofs.Common.{◌≡◌, sym, ◌∙◌, arith}
use Rattle.std.specs.List.{position_or_len}
use Rattle.std.proofs.lemmas.List.Sums.{position_or_len_is}
use Rattle.bpf_asm.specs.Lexing.{is_sign}
use Rattle.bpf_asm.proofs.reading.argument.position_of_sign.Goals as goal

pub returns-then-is_sign : goal.returns-then-is_sign
returns-then-is_sign c =
    sym (position_or_len_is is_sign c.args.text.now c.loop-at.at 0 (omega arith) c.loop-at.invariant (λ _. sym c.is_sign.ensures ∙ c.if-is_sign.true))

pub returns : goal.returns
returns c =
    let found : position_or_len is_sign c.args.text.now ≡ c.loop-at.at = position_or_len_is is_sign c.args.text.now c.loop-at.at 0 (omega arith) c.loop-at.invariant (λ lt. absurd (omega arith)) in
    omega arith

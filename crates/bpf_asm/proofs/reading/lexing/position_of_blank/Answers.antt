use Rattle.std.proofs.Common.{◌≡◌, sym, ◌∙◌, arith}
use Rattle.std.specs.List.{position_or_len}
use Rattle.std.proofs.lemmas.List.Sums.{position_or_len_is}
use Rattle.bpf_asm.specs.Lexing.{is_blank}
use Rattle.bpf_asm.proofs.reading.lexing.position_of_blank.Goals as goal

pub returns-then-is_blank : goal.returns-then-is_blank
returns-then-is_blank c =
    sym (position_or_len_is is_blank c.args.text.now c.loop-at.at 0 (omega arith) c.loop-at.invariant (λ _. sym c.is_blank.ensures ∙ c.if-is_blank.true))

pub returns : goal.returns
returns c =
    let found : position_or_len is_blank c.args.text.now ≡ c.loop-at.at = position_or_len_is is_blank c.args.text.now c.loop-at.at 0 (omega arith) c.loop-at.invariant (λ lt. absurd (omega arith)) in
    omega arith

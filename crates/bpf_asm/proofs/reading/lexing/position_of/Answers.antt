use Rattle.std.proofs.Common.{◌≡◌, ℕ, sym, eq-eqb, arith}
use Rattle.std.specs.Prelude.{◌==◌}
use Rattle.std.specs.List.{position_or_len}
use Rattle.std.proofs.lemmas.List.Sums.{position_or_len_is}
use Rattle.bpf_asm.proofs.reading.lexing.position_of.Goals as goal

pub returns-then-other-byte : goal.returns-then-other-byte
returns-then-other-byte c =
    sym (position_or_len_is (λ (b : ℕ). b == c.args.byte) c.args.text.now c.loop-at.at 0 (omega arith) c.loop-at.invariant (λ _. eq-eqb _ _ c.if-other-byte.true))

pub returns : goal.returns
returns c =
    let found : position_or_len (λ (b : ℕ). b == c.args.byte) c.args.text.now ≡ c.loop-at.at = position_or_len_is (λ (b : ℕ). b == c.args.byte) c.args.text.now c.loop-at.at 0 (omega arith) c.loop-at.invariant (λ lt. absurd (omega arith)) in
    omega arith

use Rattle.std.proofs.Common.{◌≤◌, ◌<◌, ◌+◌, ℕ, length, arith}
use Rattle.std.specs.Prelude.{◌==◌}
use Rattle.std.specs.List.{position_or_len}
use Rattle.std.proofs.lemmas.List.{take_rest}
use Rattle.bpf_asm.proofs.Parts.{split_none, split_first}
use Rattle.bpf_asm.proofs.reading.part.first_part.Goals as goal

pub returns-then-at-text-clause-first : goal.returns-then-at-text-clause-first
returns-then-at-text-clause-first c =
    let none : length c.args.text.now ≤ position_or_len (λ (b : ℕ). b == c.args.separator) c.args.text.now = omega arith in
    split_none (λ (b : ℕ). b == c.args.separator) c.args.text.now none

pub returns-clause-first : goal.returns-clause-first
returns-clause-first c =
    let some : position_or_len (λ (b : ℕ). b == c.args.separator) c.args.text.now < length c.args.text.now = omega arith in
    rw (take_rest c.args.text.now (c.position_of-at.result + 1), c.position_of-at.ensures) (split_first (λ (b : ℕ). b == c.args.separator) c.args.text.now some)

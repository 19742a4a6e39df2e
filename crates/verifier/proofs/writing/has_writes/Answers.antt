use Rattle.std.proofs.Common.{sym, arith, inl, inr}
use Rattle.std.proofs.lemmas.Bool.{cases_eq}
use Rattle.verifier.proofs.writing.has_writes.Goals as goal

pub loop-pc-init : goal.loop-pc-init
loop-pc-init c = λ q lt. absurd (omega (arith, lt))

pub loop-pc-preserved : goal.loop-pc-preserved
loop-pc-preserved c = λ q lt.
    elim (cases_eq q c.loop-pc.pc) [
      | inl same ↦ rw same (sym c.if-writes_at.ensures)
      | inr other ↦ c.loop-pc.invariant q (omega (arith, lt, other))
    ]

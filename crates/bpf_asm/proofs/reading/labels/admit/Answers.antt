use Rattle.std.proofs.Common.{refl, sym, ◌∙◌, arith}
use Rattle.bpf_asm.specs.Statements.{Item, Blank, Plain, Goes}
use Rattle.bpf_asm.proofs.Lines.{read_plain, fits}
use Rattle.bpf_asm.proofs.reading.labels.admit.Goals as goal

pub returns-in-Blank-clause-admits : goal.returns-in-Blank-clause-admits
returns-in-Blank-clause-admits c = λ before read.
    (rw c.in-Blank.is (refl, read_plain before Blank c.args.units c.args.units _ (λ q. refl) (omega arith) read))

pub returns-in-Ok-longer-clause-admits : goal.returns-in-Ok-longer-clause-admits
returns-in-Ok-longer-clause-admits c = λ before read.
    let i : Item = Plain c.in-Plain.instruction in
    let exact = (rw c.units.ensures at c.longer.ensures.exact) in
    let f = fits before i c.args.units c.in-Ok-longer.units read.total (sym exact ∙ c.in-Ok-longer.is) in
    (rw c.in-Plain.is (f.0, read_plain before i c.args.units c.in-Ok-longer.units _ (λ q. refl) f.1 read))

pub returns-in-Ok-longer-2-clause-admits : goal.returns-in-Ok-longer-2-clause-admits
returns-in-Ok-longer-2-clause-admits c = λ before read.
    let i : Item = Goes c.in-Goes.field-0 c.in-Goes.field-1.now in
    let f = fits before i c.args.units c.in-Ok-longer-2.units read.total (sym c.longer-in-Goes.ensures.exact ∙ c.in-Ok-longer-2.is) in
    (rw c.in-Goes.is (f.0, read_plain before i c.args.units c.in-Ok-longer-2.units _ (λ q. refl) f.1 read))

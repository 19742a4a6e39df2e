use Rattle.std.proofs.Common.{◌≡◌, ◌+◌, ◌*◌, ◌++◌, ℕ, List, take, refl, ap, ◌∙◌}
use Rattle.bpf_isa.specs.declared.instruction.Instruction.{Instruction}
use Rattle.bpf_isa.specs.declared.instruction.Instruction.TheVariants.{Wide}
use Rattle.bpf_isa.specs.Encoding.{spelling, units_of}
use Rattle.bpf_asm.proofs.reading.coding.put_instruction.Goals as goal

front : (i : Instruction) (zeros : List ℕ) → take (8 * units_of i) (spelling i ++ zeros) ≡ spelling i
front (Wide destination value) zeros = refl
front _ zeros = refl

spelled : (i : Instruction) (count : ℕ) (bytes zeros : List ℕ) → count ≡ 8 * units_of i → bytes ≡ spelling i ++ zeros → take count bytes ≡ spelling i
spelled i count bytes zeros size is = rw (size, is) (front i zeros)

pub returns-in-Ok : goal.returns-in-Ok
returns-in-Ok c =
    let written = spelled c.args.instruction _ _ _ c.encode-count.ensures.size c.encode-count.ensures.bytes in
    (c.in-Ok.ensures.items ∙ ap (λ (bytes : List ℕ). c.args.code.now.items ++ bytes) written, ap (λ (n : ℕ). c.args.pc + n) c.units.ensures)

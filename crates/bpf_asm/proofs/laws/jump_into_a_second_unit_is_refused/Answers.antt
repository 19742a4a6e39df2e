use Rattle.std.proofs.Common.{List, ℕ, [], ◌∷◌, refl}
use Rattle.std.specs.Prelude.{string_bytes}
use Rattle.bpf_isa.specs.Reading.{decoding, read_row, row_at, register_at}
use Rattle.bpf_asm.proofs.OutLaws.{refused_for_its_jump}
use Rattle.bpf_asm.proofs.laws.jump_into_a_second_unit_is_refused.Goals as goal

pub returns : goal.returns
unfolding decoding read_row row_at register_at
returns c =
    let code : List ℕ = 5 ∷ 0 ∷ 1 ∷ 0 ∷ 0 ∷ 0 ∷ 0 ∷ 0 ∷ 24 ∷ 0 ∷ 0 ∷ 0 ∷ 0 ∷ 0 ∷ 0 ∷ 0 ∷ 0 ∷ 0 ∷ 0 ∷ 0 ∷ 0 ∷ 0 ∷ 0 ∷ 0 ∷ 149 ∷ 0 ∷ 0 ∷ 0 ∷ 0 ∷ 0 ∷ 0 ∷ 0 ∷ [] in
    refused_for_its_jump c.disassemble.result string_bytes code 0 c.disassemble.ensures refl

-- A store that was encoded stands at the front of its bytes, and so does a load of 64 bits.
use Rattle.std.proofs.Common.{◌≡◌, ◌<◌, ◌^◌, ℕ, ℤ, ◌-◌, ◌++◌, List, take, drop, replicate, refl, ap, ap₂, ◌∙◌}
use Rattle.std.specs.Prelude.{FitsSigned}
use Rattle.std.specs.Int.{w16}
use Rattle.bpf_isa.specs.declared.register.Register.TheVariants.{R1, R3, R10}
use Rattle.bpf_isa.specs.declared.instruction.Size.TheVariants.{Double}
use Rattle.bpf_isa.specs.declared.instruction.Instruction.{Instruction}
use Rattle.bpf_isa.specs.declared.instruction.Instruction.TheVariants.{StoreRegister, Wide}
use Rattle.bpf_isa.specs.Encoding.{IsCodeAt, spelling}

abbrev pub stored : ℤ → Instruction
stored offset = StoreRegister Double R10 offset R1

pub store_stands : (offset : ℤ) (bytes : List ℕ) (n : ℕ) → FitsSigned w16 offset → n ≡ 8 → bytes ≡ spelling (stored offset) ++ replicate (16 - n) 0 → IsCodeAt (take n bytes) 0 (stored offset) 1
store_stands offset bytes n fits n_is bytes_are =
    let whole : bytes ≡ spelling (stored offset) ++ replicate 8 0 = bytes_are ∙ ap (λ k. spelling (stored offset) ++ replicate (16 - k) 0) n_is in
    let front : take n bytes ≡ spelling (stored offset) = ap₂ take n_is whole in
    record { fits = fits; units_are = refl; spelled = ap (λ code. take 8 (drop 0 code)) front }

abbrev pub long : ℕ → Instruction
long value = Wide R3 value

pub long_stands : (value : ℕ) (bytes : List ℕ) (n : ℕ) → value < 2 ^ 64 → n ≡ 16 → bytes ≡ spelling (long value) ++ replicate (16 - n) 0 → IsCodeAt (take n bytes) 0 (long value) 2
long_stands value bytes n fits n_is bytes_are =
    let whole : bytes ≡ spelling (long value) ++ replicate 0 0 = bytes_are ∙ ap (λ k. spelling (long value) ++ replicate (16 - k) 0) n_is in
    let front : take n bytes ≡ spelling (long value) = ap₂ take n_is whole in
    record { fits = fits; units_are = refl; spelled = ap (λ code. take 16 (drop 0 code)) front }

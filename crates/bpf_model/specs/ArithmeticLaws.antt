-- Laws of arithmetic. Each is the contract of a public function.
use Rattle.std.specs.Prelude.{◌≡◌, ℕ, ◌-◌, ◌<◌, ◌%◌, ◌^◌}
use Rattle.bpf_isa.specs.declared.instruction.Width.{Width}
use Rattle.bpf_isa.specs.declared.instruction.Width.TheVariants.{Bits32, Bits64}
use Rattle.bpf_isa.specs.declared.instruction.Operation.{Operation}
use Rattle.bpf_isa.specs.declared.instruction.Operation.TheVariants.{Divide, DivideSigned, ShiftLeft, ShiftRight, Modulo, ModuloSigned, ShiftRightSigned}
use Rattle.bpf_isa.specs.declared.instruction.Extension.{Extension}
use Rattle.bpf_isa.specs.declared.instruction.ByteOrder.{ByteOrder}
use Rattle.bpf_isa.specs.declared.instruction.SwapBits.{SwapBits}
use Rattle.bpf_isa.specs.Encoding.{extension_width, swap_bits}
use Rattle.bpf_model.specs.Arithmetic.{width_bits, modulus, low, alu_number, negate_number, move_signed_number, swap_number}

-- a quotient by zero is 0, and a remainder by zero the dividend; zero in the low bits is enough
abbrev pub DivisionByZero : Type 0
DivisionByZero =
    (w : Width) (x y : ℕ) → low w y ≡ 0
    → (alu_number w Divide x y ≡ 0) × (alu_number w DivideSigned x y ≡ 0) × (alu_number w Modulo x y ≡ low w x) × (alu_number w ModuloSigned x y ≡ low w x)

-- the least signed number of a width
abbrev pub least_signed : Width → ℕ
least_signed Bits32 = 2 ^ 31
least_signed Bits64 = 2 ^ 63

-- minus one
abbrev pub minus_one : Width → ℕ
minus_one Bits32 = 2 ^ 32 - 1
minus_one Bits64 = 2 ^ 64 - 1

-- the least signed number divided by minus one is itself, and leaves no remainder
abbrev pub LeastByMinusOne : Type 0
LeastByMinusOne =
    (w : Width)
    → (alu_number w DivideSigned (least_signed w) (minus_one w) ≡ least_signed w) × (alu_number w ModuloSigned (least_signed w) (minus_one w) ≡ 0)

-- results lie in their width, so those of 32 bits have a zero upper half
abbrev pub ResultsFit : Type 0
ResultsFit =
    ((w : Width) (operation : Operation) (x y : ℕ) → alu_number w operation x y < modulus w)
    × ((w : Width) (x : ℕ) → negate_number w x < modulus w)
    × ((extension : Extension) (x : ℕ) → move_signed_number extension x < modulus (extension_width extension))
    × ((order : ByteOrder) (bits : SwapBits) (x : ℕ) → swap_number order bits x < 2 ^ swap_bits bits)

-- a swap done twice is the low part
abbrev pub SwapTwice : Type 0
SwapTwice = (order : ByteOrder) (bits : SwapBits) (x : ℕ) → swap_number order bits (swap_number order bits x) ≡ x % 2 ^ swap_bits bits

-- shifts go as far as the low bits of their count say: 5 of them in 32 bits, 6 in 64
abbrev pub ShiftCountsMasked : Type 0
ShiftCountsMasked =
    (w : Width) (x y : ℕ)
    → (alu_number w ShiftLeft x y ≡ alu_number w ShiftLeft x (y % width_bits w))
    × (alu_number w ShiftRight x y ≡ alu_number w ShiftRight x (y % width_bits w))
    × (alu_number w ShiftRightSigned x y ≡ alu_number w ShiftRightSigned x (y % width_bits w))

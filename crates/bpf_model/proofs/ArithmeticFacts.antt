-- Results of arithmetic lie in their width, and shifts depend on the masked count alone.
use Rattle.std.proofs.Common.{◌≡◌, ℕ, ◌+◌, ◌-◌, ◌*◌, ◌/◌, ◌%◌, ◌^◌, ◌<◌, Bool, true, false, cond, nat_lt, arith}
use Rattle.std.specs.Prelude.{◌==◌, int_div, int_rem, bit_or, bit_xor}
use Rattle.std.proofs.Math.Nat.{div-le_self, mod-le}
use Rattle.std.proofs.lemmas.Nat.{or_lt, xor_lt, and_le_l}
use Rattle.bpf_isa.specs.declared.instruction.Width.{Width}
use Rattle.bpf_isa.specs.declared.instruction.Width.TheVariants.{Bits32, Bits64}
use Rattle.bpf_isa.specs.declared.instruction.Operation.{Operation}
use Rattle.bpf_isa.specs.declared.instruction.Operation.TheVariants.{Add, Subtract, Multiply, Divide, DivideSigned, Or, And, ShiftLeft, ShiftRight, Modulo, ModuloSigned, Xor, Move, ShiftRightSigned}
use Rattle.bpf_isa.specs.declared.instruction.Extension.{Extension}
use Rattle.bpf_isa.specs.declared.instruction.Extension.TheVariants.{From8To32, From16To32, From8To64, From16To64, From32To64}
use Rattle.bpf_isa.specs.declared.instruction.ByteOrder.{ByteOrder}
use Rattle.bpf_isa.specs.declared.instruction.ByteOrder.TheVariants.{Little, Big, Reversed}
use Rattle.bpf_isa.specs.declared.instruction.SwapBits.{SwapBits}
use Rattle.bpf_isa.specs.declared.instruction.SwapBits.TheVariants.{Low16, Low32, Low64}
use Rattle.bpf_isa.specs.Encoding.{extension_width, swap_bits}
use Rattle.std.proofs.lemmas.Bool.Decides.{nat_tests}
use Rattle.bpf_model.specs.Arithmetic.{move_signed_number, swap_number, modulus, width_bits, low, signed, unsigned, shift_count, operation_number, alu_number, negate_number}

low_fits : (w : Width) (x : ℕ) → low w x < modulus w
low_fits Bits32 x = omega arith
low_fits Bits64 x = omega arith

chosen_fits : (b : Bool) (x y m : ℕ) → x < m → y < m → cond b x y < m
chosen_fits true x y m left right = left
chosen_fits false x y m left right = right

quotient_fits : (x k m : ℕ) → x < m → x / k < m
quotient_fits x k m fits = omega (arith, div-le_self x k)

remainder_fits : (x k m : ℕ) → x < m → x % k < m
remainder_fits x k m fits = omega (arith, mod-le x k)

or_fits : (w : Width) (x y : ℕ) → x < modulus w → y < modulus w → bit_or x y < modulus w
or_fits Bits32 x y left right = or_lt 32 x y left right
or_fits Bits64 x y left right = or_lt 64 x y left right

xor_fits : (w : Width) (x y : ℕ) → x < modulus w → y < modulus w → bit_xor x y < modulus w
xor_fits Bits32 x y left right = xor_lt 32 x y left right
xor_fits Bits64 x y left right = xor_lt 64 x y left right

computed_fits : (w : Width) (operation : Operation) (x y : ℕ) → x < modulus w → y < modulus w → operation_number w operation x y < modulus w
computed_fits w Add x y left right = low_fits w (x + y)
computed_fits w Subtract x y left right = low_fits w (x + (modulus w - y))
computed_fits w Multiply x y left right = low_fits w (x * y)
computed_fits w Divide x y left right =
    chosen_fits (y == 0) 0 (x / y) (modulus w) (omega arith) (quotient_fits x y (modulus w) left)
computed_fits w DivideSigned x y left right =
    chosen_fits (y == 0) 0 (unsigned w (int_div (signed w x) (signed w y))) (modulus w) (omega arith) (low_fits w _)
computed_fits w Or x y left right = or_fits w x y left right
computed_fits w And x y left right = omega (arith, and_le_l x y)
computed_fits w ShiftLeft x y left right = low_fits w (x * 2 ^ shift_count w y)
computed_fits w ShiftRight x y left right = quotient_fits x (2 ^ shift_count w y) (modulus w) left
computed_fits w Modulo x y left right =
    chosen_fits (y == 0) x (x % y) (modulus w) left (remainder_fits x y (modulus w) left)
computed_fits w ModuloSigned x y left right =
    chosen_fits (y == 0) x (unsigned w (int_rem (signed w x) (signed w y))) (modulus w) left (low_fits w _)
computed_fits w Xor x y left right = xor_fits w x y left right
computed_fits w Move x y left right = right
computed_fits w ShiftRightSigned x y left right =
    let count = shift_count w y in
    chosen_fits (nat_lt x (2 ^ (width_bits w - 1))) (x / 2 ^ count) ((modulus w - 1) - ((modulus w - 1) - x) / 2 ^ count) (modulus w)
    (quotient_fits x (2 ^ count) (modulus w) left) (omega arith)

pub calculated_fits : (w : Width) (operation : Operation) (x y : ℕ) → alu_number w operation x y < modulus w
calculated_fits w operation x y = computed_fits w operation (low w x) (low w y) (low_fits w x) (low_fits w y)

pub negated_fits : (w : Width) (x : ℕ) → negate_number w x < modulus w
negated_fits w x = low_fits w (modulus w - low w x)

pub extended_fits : (extension : Extension) (x : ℕ) → move_signed_number extension x < modulus (extension_width extension)
extended_fits From8To32 x = grind (arith, nat_tests)
extended_fits From16To32 x = grind (arith, nat_tests)
extended_fits From8To64 x = grind (arith, nat_tests)
extended_fits From16To64 x = grind (arith, nat_tests)
extended_fits From32To64 x = grind (arith, nat_tests)

pub swapped_fits : (order : ByteOrder) (bits : SwapBits) (x : ℕ) → swap_number order bits x < 2 ^ swap_bits bits
swapped_fits Little Low16 x = omega arith
swapped_fits Little Low32 x = omega arith
swapped_fits Little Low64 x = omega arith
swapped_fits Big Low16 x = omega arith
swapped_fits Big Low32 x = omega arith
swapped_fits Big Low64 x = omega arith
swapped_fits Reversed Low16 x = omega arith
swapped_fits Reversed Low32 x = omega arith
swapped_fits Reversed Low64 x = omega arith

-- a count and its low bits shift as far
pub same_count : (w : Width) (y : ℕ) → shift_count w (low w y) ≡ shift_count w (low w (y % width_bits w))
same_count Bits32 y = omega arith
same_count Bits64 y = omega arith

-- What is known of a value: which numbers or addresses it may be, and how arithmetic changes that.
use Rattle.std.specs.Prelude.{ℕ, ◌^◌, ◌==◌, ◌&&◌, int_le, min, max, if◌then◌else◌, ℤ, pos, negsuc, ◌+ℤ◌, ◌-ℤ◌, ◌≤ℤ◌, unsigned_abs, Bool, Result, Ok, Err}
use Rattle.std.specs.Int.{w64, cast_signed}
use Rattle.std.specs.Ordering.{int_eq}
use Rattle.bpf_isa.specs.declared.instruction.Width.{Width}
use Rattle.bpf_isa.specs.declared.instruction.Width.TheVariants.{Bits32, Bits64}
use Rattle.bpf_isa.specs.declared.instruction.Operation.{Operation}
use Rattle.bpf_isa.specs.declared.instruction.Operation.TheVariants as operations
use Rattle.bpf_isa.specs.declared.instruction.Extension.{Extension}
use Rattle.bpf_isa.specs.declared.instruction.ByteOrder.{ByteOrder}
use Rattle.bpf_isa.specs.declared.instruction.SwapBits.{SwapBits}
use Rattle.bpf_isa.specs.Encoding.{extension_width}
use Rattle.bpf_image.specs.declared.lengths.Lengths.{Lengths}
use Rattle.bpf_model.specs.Arithmetic.{negate_number, move_signed_number, swap_number}
use Rattle.bpf_model.specs.declared.cause.Cause.{Cause}
use Rattle.bpf_model.specs.declared.cause.Cause.TheVariants.{UnsetRegister, PointerUse, OutOfRange}
use Rattle.abstract_values.specs.declared.range.Range.{Range}
use Rattle.abstract_values.specs.declared.limits.TheConstants.{FRAME_BOTTOM}
use Rattle.abstract_values.specs.declared.value.AbstractValue.{AbstractValue}
use Rattle.abstract_values.specs.declared.value.AbstractValue.TheVariants.{Unset, Number, Record, Stack, Table}
use Rattle.abstract_values.specs.Ranges.{range, constant, is_constant, everything, input, computed_range}

-- the least value that says no more than either (the hull of two ranges)
abbrev pub join_of : AbstractValue → AbstractValue → AbstractValue
join_of (Number a b) (Number c d) = Number (min a c) (max b d)
join_of (Record a b) (Record c d) = Record (min a c) (max b d)
join_of (Stack f a) (Stack g b) = if f == g && int_eq a b then Stack f a else Unset
join_of (Table a b) (Table c d) = Table (min a c) (max b d)
join_of _ _ = Unset

abbrev pub number : Range → AbstractValue
number r = Number r.lo r.hi

-- what a function makes of a number; a value that is not set is none, nor is a pointer
abbrev pub of_number : {A : Type 0} → (Range → A) → AbstractValue → Result A Cause
of_number f Unset = Err UnsetRegister
of_number f (Number lo hi) = Ok (f (range lo hi))
of_number f (Record lo hi) = Err PointerUse
of_number f (Stack frame offset) = Err PointerUse
of_number f (Table lo hi) = Err PointerUse

-- what a function makes of two numbers; a value that is not set comes before a pointer
abbrev pub of_numbers : {A : Type 0} → (Range → Range → A) → AbstractValue → AbstractValue → Result A Cause
of_numbers f Unset b = Err UnsetRegister
of_numbers f (Number lo hi) b = of_number (f (range lo hi)) b
of_numbers f (Record lo hi) Unset = Err UnsetRegister
of_numbers f (Record lo hi) b = Err PointerUse
of_numbers f (Stack frame offset) Unset = Err UnsetRegister
of_numbers f (Stack frame offset) b = Err PointerUse
of_numbers f (Table lo hi) Unset = Err UnsetRegister
of_numbers f (Table lo hi) b = Err PointerUse

-- a move copies in 64 bits what is set; in 32 bits there is no pointer
abbrev pub move_result : Width → AbstractValue → Result AbstractValue Cause
move_result w Unset = Err UnsetRegister
move_result w (Number lo hi) = Ok (number (input w (range lo hi)))
move_result Bits64 (Record lo hi) = Ok (Record lo hi)
move_result Bits64 (Stack frame offset) = Ok (Stack frame offset)
move_result Bits64 (Table lo hi) = Ok (Table lo hi)
move_result Bits32 (Record lo hi) = Err PointerUse
move_result Bits32 (Stack frame offset) = Err PointerUse
move_result Bits32 (Table lo hi) = Err PointerUse

-- how far a number may move a pointer, at least and at most: a constant counts as a signed number
abbrev pub least_distance : Range → ℤ
least_distance r = if is_constant r then cast_signed w64 r.lo else pos r.lo

abbrev pub greatest_distance : Range → ℤ
greatest_distance r = if is_constant r then cast_signed w64 r.hi else pos r.hi

-- a distance is at most 2^64 either way, so no sum with it wraps in 128 bits
abbrev pub IsShort : ℤ → Type 0
IsShort z = (negsuc (2 ^ 64) ≤ℤ z) × (z ≤ℤ pos (2 ^ 64))

-- a place in a record or a table of a length, or its end
abbrev pub is_place : ℕ → ℤ → Bool
is_place length z = int_le (pos 0) z && int_le z (pos length)

-- a pointer into a record, which does not leave it
abbrev pub record_pointer : Lengths → ℤ → ℤ → Result AbstractValue Cause
record_pointer lengths lo hi =
    if is_place lengths.record_length lo && is_place lengths.record_length hi then Ok (Record (unsigned_abs lo) (unsigned_abs hi)) else Err OutOfRange

-- a pointer into a table, which does not leave it
abbrev pub table_pointer : Lengths → ℤ → ℤ → Result AbstractValue Cause
table_pointer lengths lo hi =
    if is_place lengths.table_length lo && is_place lengths.table_length hi then Ok (Table (unsigned_abs lo) (unsigned_abs hi)) else Err OutOfRange

-- a pointer into a stack frame, which does not leave it
abbrev pub stack_pointer : ℕ → ℤ → Result AbstractValue Cause
stack_pointer frame offset =
    if int_le FRAME_BOTTOM offset && int_le offset (pos 0) then Ok (Stack frame offset) else Err OutOfRange

-- a stack pointer has one offset, so only a constant moves it
abbrev pub stack_result : Bool → ℕ → ℤ → Result AbstractValue Cause
stack_result is_known frame offset = if is_known then stack_pointer frame offset else Err PointerUse

-- the number that arithmetic on two numbers gives
abbrev pub number_result : Width → Operation → Range → Range → AbstractValue
number_result w operation a b = number (computed_range w operation a b)

-- a sum in 64 bits, where the left side may be a pointer
abbrev pub sum_result : Lengths → AbstractValue → AbstractValue → Result AbstractValue Cause
sum_result lengths (Record lo hi) (Number c d) =
    record_pointer lengths (pos lo +ℤ least_distance (range c d)) (pos hi +ℤ greatest_distance (range c d))
sum_result lengths (Stack frame offset) (Number c d) =
    stack_result (is_constant (range c d)) frame (offset +ℤ least_distance (range c d))
sum_result lengths (Table lo hi) (Number c d) =
    table_pointer lengths (pos lo +ℤ least_distance (range c d)) (pos hi +ℤ greatest_distance (range c d))
sum_result lengths a b = of_numbers (number_result Bits64 operations.Add) a b

-- a difference in 64 bits, where the left side may be a pointer
abbrev pub difference_result : Lengths → AbstractValue → AbstractValue → Result AbstractValue Cause
difference_result lengths (Record lo hi) (Number c d) =
    record_pointer lengths (pos lo -ℤ greatest_distance (range c d)) (pos hi -ℤ least_distance (range c d))
difference_result lengths (Stack frame offset) (Number c d) =
    stack_result (is_constant (range c d)) frame (offset -ℤ least_distance (range c d))
difference_result lengths (Table lo hi) (Number c d) =
    table_pointer lengths (pos lo -ℤ greatest_distance (range c d)) (pos hi -ℤ least_distance (range c d))
difference_result lengths a b = of_numbers (number_result Bits64 operations.Subtract) a b

-- what an arithmetic instruction makes of its destination and its operand, in a record and a table of these lengths
abbrev pub alu_result : Width → Operation → Lengths → AbstractValue → AbstractValue → Result AbstractValue Cause
alu_result w operations.Move lengths a b = move_result w b
alu_result Bits64 operations.Add lengths a b = sum_result lengths a b
alu_result Bits64 operations.Subtract lengths a b = difference_result lengths a b
alu_result w operation lengths a b = of_numbers (number_result w operation) a b

-- a function of one number is exact for a constant of the width, and else not known
abbrev pub exact : Width → (ℕ → ℕ) → Range → AbstractValue
exact w f r = number (if is_constant r then constant (f r.lo) else everything w)

abbrev pub negate_result : Width → AbstractValue → Result AbstractValue Cause
negate_result w = of_number (λ r. exact w (negate_number w) (input w r))

abbrev pub move_signed_result : Extension → AbstractValue → Result AbstractValue Cause
move_signed_result e = of_number (λ r. exact (extension_width e) (move_signed_number e) (input (extension_width e) r))

-- a swap takes its input whole
abbrev pub swap_result : ByteOrder → SwapBits → AbstractValue → Result AbstractValue Cause
swap_result order bits = of_number (exact Bits64 (swap_number order bits))

-- What loads and stores ask of what is known, and what is known after them.
use Rattle.std.specs.Prelude.{ℕ, zero, suc, ◌+◌, ◌-◌, ◌*◌, ◌/◌, ◌%◌, ◌^◌, ◌==◌, ◌&&◌, Bool, true, false, if◌then◌else◌, ℤ, pos, ◌+ℤ◌, int_le, unsigned_abs, List, Option, Some, None, Result, Ok, Err, slice_index_or, slice_set}
use Rattle.bpf_isa.specs.declared.instruction.SignedSize.{SignedSize}
use Rattle.bpf_isa.specs.Sizes.{size_bytes, plain_size}
use Rattle.bpf_image.specs.declared.lengths.Lengths.{Lengths}
use Rattle.bpf_model.specs.declared.limits.TheConstants.{FRAME_BYTES}
use Rattle.bpf_model.specs.declared.cause.Cause.{Cause}
use Rattle.bpf_model.specs.declared.cause.Cause.TheVariants.{UnsetRegister, PointerUse, OutOfRange, UnsetStackByte, HelperArgument, ReadOnly}
use Rattle.abstract_values.specs.declared.limits.TheConstants.{FRAME_BOTTOM}
use Rattle.abstract_values.specs.declared.value.AbstractValue.{AbstractValue}
use Rattle.abstract_values.specs.declared.value.AbstractValue.TheVariants.{Unset, Number, Record, Stack, Table}
use Rattle.abstract_state.specs.declared.state.Frame.{Frame}
use Rattle.abstract_state.specs.States.{AbstractState, frame_of, with_frame}

-- the bytes from lo + offset to hi + offset + size lie in a record or a table of this length
abbrev pub is_within : ℕ → ℕ → ℕ → ℤ → ℕ → Bool
is_within length lo hi offset size =
    int_le (pos 0) (pos lo +ℤ offset) && int_le (pos (hi + size) +ℤ offset) (pos length)

-- the bytes at a distance from the top of a frame lie in it
abbrev pub is_in_frame : ℤ → ℕ → Bool
is_in_frame place size = int_le FRAME_BOTTOM place && int_le (place +ℤ pos size) (pos 0)

-- which byte of the frame is at a distance from its top, counted from the lowest
abbrev pub frame_index : ℤ → ℕ
frame_index place = unsigned_abs (pos FRAME_BYTES +ℤ place)

-- bytes that make a whole slot
abbrev pub is_slot : ℕ → ℕ → Bool
is_slot k size = size == 8 && k % 8 == 0

abbrev pub is_spilled : AbstractValue → Bool
is_spilled Unset = false
is_spilled (Number lo hi) = true
is_spilled (Record lo hi) = true
is_spilled (Stack frame offset) = true
is_spilled (Table lo hi) = true

-- so many bytes from byte k are all set
abbrev pub are_set : List Bool → ℕ → ℕ → Bool
are_set flags k zero = true
are_set flags k (suc n) = slice_index_or flags k false && are_set flags (k + 1) n

-- any number of so many bytes
abbrev pub any_of_size : ℕ → AbstractValue
any_of_size size = Number 0 (2 ^ (8 * size) - 1)

-- what set bytes hold: what was spilled to them, if they are a slot
abbrev pub frame_value : Frame → ℕ → ℕ → AbstractValue
frame_value f k size =
    if is_slot k size && is_spilled (slice_index_or f.slots (k / 8) Unset) then slice_index_or f.slots (k / 8) Unset else any_of_size size

abbrev pub frame_read : Frame → ℕ → ℕ → Result AbstractValue Cause
frame_read f k size = if are_set f.bytes_set k size then Ok (frame_value f k size) else Err UnsetStackByte

-- what so many bytes at a distance from the top of a live frame hold
abbrev pub frame_load_result : Option Frame → ℤ → ℕ → Result AbstractValue Cause
frame_load_result None place size = Err OutOfRange
frame_load_result (Some f) place size =
    if is_in_frame place size then frame_read f (frame_index place) size else Err OutOfRange

-- what a load of so many bytes through a value gives
abbrev pub load_result : Lengths → AbstractState → AbstractValue → ℤ → ℕ → Result AbstractValue Cause
load_result lengths s Unset offset size = Err UnsetRegister
load_result lengths s (Number lo hi) offset size = Err PointerUse
load_result lengths s (Record lo hi) offset size =
    if is_within lengths.record_length lo hi offset size then Ok (any_of_size size) else Err OutOfRange
load_result lengths s (Stack frame top) offset size = frame_load_result (frame_of s frame) (top +ℤ offset) size
load_result lengths s (Table lo hi) offset size =
    if is_within lengths.table_length lo hi offset size then Ok (any_of_size size) else Err OutOfRange

-- a sign-extending load gives any number, where the load is allowed
abbrev pub any_number_where : Result AbstractValue Cause → Result AbstractValue Cause
any_number_where (Ok v) = Ok (Number 0 (2 ^ 64 - 1))
any_number_where (Err cause) = Err cause

abbrev pub load_signed_result : Lengths → AbstractState → AbstractValue → ℤ → SignedSize → Result AbstractValue Cause
load_signed_result lengths s base offset size =
    any_number_where (load_result lengths s base offset (size_bytes (plain_size size)))

-- so many bytes from byte k become set
abbrev pub set_from : List Bool → ℕ → ℕ → List Bool
set_from flags k zero = flags
set_from flags k (suc n) = set_from (slice_set flags k true) (k + 1) n

-- what was spilled is no longer known of so many slots from slot j
abbrev pub unset_from : List AbstractValue → ℕ → ℕ → List AbstractValue
unset_from slots j zero = slots
unset_from slots j (suc n) = unset_from (slice_set slots j Unset) (j + 1) n

-- how many slots so many bytes from byte k touch
abbrev pub slots_touched : ℕ → ℕ → ℕ
slots_touched k size = (k + size - 1) / 8 + 1 - k / 8

-- what was spilled is no longer known of any slot that the bytes touch
abbrev pub without_spills : List AbstractValue → ℕ → ℕ → List AbstractValue
without_spills slots k size = unset_from slots (k / 8) (slots_touched k size)

-- bytes of the frame are written; a slot that is written as a whole keeps the value
abbrev pub frame_write : Frame → ℕ → ℕ → AbstractValue → Frame
frame_write f k size v =
    record { bytes_set = set_from f.bytes_set k size; slots = if is_slot k size then slice_set f.slots (k / 8) v else without_spills f.slots k size }

abbrev pub is_pointer : AbstractValue → Bool
is_pointer Unset = false
is_pointer (Number lo hi) = false
is_pointer (Record lo hi) = true
is_pointer (Stack frame offset) = true
is_pointer (Table lo hi) = true

-- a pointer is stored nowhere but to a whole slot of the frame
abbrev pub may_store : AbstractValue → Bool → Bool
may_store v whole = if is_pointer v then whole else true

-- what is known after a store at a distance from the top of a live frame
abbrev pub frame_store_result : AbstractState → ℕ → Option Frame → ℤ → ℕ → AbstractValue → Result AbstractState Cause
frame_store_result s frame None place size v = Err OutOfRange
frame_store_result s frame (Some f) place size v =
    if may_store v (is_in_frame place size && is_slot (frame_index place) size) then (if is_in_frame place size then Ok (with_frame s frame (frame_write f (frame_index place) size v)) else Err OutOfRange) else Err PointerUse

-- the broken rule where bytes would be written through a pointer into the table: it is never written
abbrev pub table_write_cause : Lengths → ℕ → ℕ → ℤ → ℕ → Cause
table_write_cause lengths lo hi offset size = if is_within lengths.table_length lo hi offset size then ReadOnly else OutOfRange

-- what is known after a store of a value, which is set, through a base
abbrev pub store_result : Lengths → AbstractState → AbstractValue → ℤ → ℕ → AbstractValue → Result AbstractState Cause
store_result lengths s Unset offset size v = Err UnsetRegister
store_result lengths s (Number lo hi) offset size v = Err PointerUse
store_result lengths s (Record lo hi) offset size v =
    if is_pointer v then Err PointerUse else (if is_within lengths.record_length lo hi offset size then Ok s else Err OutOfRange)
store_result lengths s (Stack frame top) offset size v = frame_store_result s frame (frame_of s frame) (top +ℤ offset) size v
store_result lengths s (Table lo hi) offset size v =
    Err (if is_pointer v then PointerUse else table_write_cause lengths lo hi offset size)

-- bytes of the frame are filled, and no value is known of a slot that they touch
abbrev pub frame_fill : Frame → ℕ → ℕ → Frame
frame_fill f k size = record { bytes_set = set_from f.bytes_set k size; slots = without_spills f.slots k size }

abbrev pub frame_gather_result : AbstractState → ℕ → Option Frame → ℤ → ℕ → Result AbstractState Cause
frame_gather_result s frame None place room = Err OutOfRange
frame_gather_result s frame (Some f) place room =
    if is_in_frame place room then Ok (with_frame s frame (frame_fill f (frame_index place) room)) else Err OutOfRange

-- what is known after the helper gather has filled so many bytes from a pointer on
abbrev pub gather_result : Lengths → AbstractState → AbstractValue → ℕ → Result AbstractState Cause
gather_result lengths s Unset room = Err UnsetRegister
gather_result lengths s (Number lo hi) room = Err HelperArgument
gather_result lengths s (Record lo hi) room =
    if is_within lengths.record_length lo hi (pos 0) room then Ok s else Err OutOfRange
gather_result lengths s (Stack frame top) room = frame_gather_result s frame (frame_of s frame) top room
gather_result lengths s (Table lo hi) room = Err (table_write_cause lengths lo hi (pos 0) room)

-- an answer of the code and the state that it leaves
abbrev pub store_answer : Result (Unit {0}) Cause → AbstractState → Result AbstractState Cause
store_answer (Ok done) s = Ok s
store_answer (Err cause) s = Err cause

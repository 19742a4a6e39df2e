-- What an instruction asks of the state that is known before it: the first broken rule, or the ways that
-- a run may go on, each with what is known there.
use Rattle.std.specs.Prelude.{ℕ, ◌+◌, ◌-◌, ◌/◌, ◌^◌, ◌==◌, ◌&&◌, if◌then◌else◌, ℤ, pos, ◌+ℤ◌, Bool, true, false, List, [], ◌∷◌, ◌++◌, Option, Some, None, Result, Ok, Err, slice_index_or}
use Rattle.bpf_isa.specs.declared.register.Register.{Register}
use Rattle.bpf_isa.specs.declared.register.Register.TheVariants.{R1, R2, R3, R4}
use Rattle.bpf_isa.specs.declared.instruction.Width.{Width}
use Rattle.bpf_isa.specs.declared.instruction.Operation.{Operation}
use Rattle.bpf_isa.specs.declared.instruction.Operation.TheVariants.{Move}
use Rattle.bpf_isa.specs.declared.instruction.Operand.{Operand}
use Rattle.bpf_isa.specs.declared.instruction.Operand.TheVariants.{Immediate, Source}
use Rattle.bpf_isa.specs.declared.instruction.Comparison.{Comparison}
use Rattle.bpf_isa.specs.declared.instruction.Instruction.{Instruction}
use Rattle.bpf_isa.specs.declared.instruction.Instruction.TheVariants.{Alu, MoveSigned, Negate, Swap, Jump, Branch, CallHelper, CallLocal, Exit, Load, LoadSigned, Store, StoreRegister, Wide}
use Rattle.bpf_isa.specs.Encoding.{number_of}
use Rattle.bpf_model.specs.Arithmetic.{low}
use Rattle.bpf_model.specs.Step.{immediate_value, units_over}
use Rattle.bpf_model.specs.declared.helper.Helper.{Helper}
use Rattle.bpf_model.specs.declared.helper.Helper.TheVariants.{Degree, HasEdge, Neighbour, VertexCount, Gather}
use Rattle.bpf_model.specs.Helpers.{helper_of, is_room}
use Rattle.bpf_isa.specs.Sizes.{size_bytes}
use Rattle.bpf_image.specs.declared.lengths.Lengths.{Lengths}
use Rattle.bpf_model.specs.declared.cause.Cause.{Cause}
use Rattle.bpf_model.specs.declared.cause.Cause.TheVariants.{UnsetRegister, FrameRegister, HelperArgument, UnknownHelper, ResultNotNumber}
use Rattle.abstract_values.specs.declared.branch.Sides.{Sides}
use Rattle.abstract_values.specs.declared.value.AbstractValue.{AbstractValue}
use Rattle.abstract_values.specs.declared.value.AbstractValue.TheVariants.{Unset, Number, Record, Stack, Table}
use Rattle.abstract_values.specs.Values.{alu_result, negate_result, move_signed_result, swap_result}
use Rattle.abstract_values.specs.Narrowing.{narrowing}
use Rattle.abstract_state.specs.States.{AbstractState, register, with_register, state_behind_helper}
use Rattle.abstract_state.specs.Memory.{load_result, load_signed_result, store_result, gather_result}

-- goes on with what was found, or breaks the same rule
abbrev pub bind : {A B : Type 0} → Result A Cause → (A → Result B Cause) → Result B Cause
bind (Ok x) go = go x
bind (Err cause) go = Err cause

-- ---- what is read

-- a value that is read is set
abbrev pub known_value : AbstractValue → Result AbstractValue Cause
known_value Unset = Err UnsetRegister
known_value (Number lo hi) = Ok (Number lo hi)
known_value (Record lo hi) = Ok (Record lo hi)
known_value (Stack frame offset) = Ok (Stack frame offset)
known_value (Table lo hi) = Ok (Table lo hi)

abbrev pub known_register : AbstractState → Register → Result AbstractValue Cause
known_register s r = known_value (register s r)

abbrev pub constant : ℕ → AbstractValue
constant n = Number n n

-- a 32-bit instruction takes the pattern of an immediate, a 64-bit one its sign extension
abbrev pub known_operand : Width → AbstractState → Operand → Result AbstractValue Cause
known_operand w s (Immediate n) = Ok (constant (low w (immediate_value n)))
known_operand w s (Source r) = known_register s r

-- the left side of an operation; a move does not read it
abbrev pub known_left : Operation → AbstractState → Register → Result AbstractValue Cause
known_left Move s r = Ok (register s r)
known_left operation s r = known_register s r

-- ---- ways onward

-- to which pc a run may go on, and what is known there
abbrev pub Ways : Type 0
Ways = List (ℤ × AbstractState)

abbrev pub onward : ℕ → AbstractState → Ways
onward pc s = (pos pc, s) ∷ []

-- the destination gets a value, and the run goes on at a pc; R10 is never written
abbrev pub write_ways : ℕ → AbstractState → Register → Result AbstractValue Cause → Result Ways Cause
write_ways pc s r value =
    if number_of r == 10 then Err FrameRegister else bind value (λ v. Ok (onward pc (with_register s r v)))

-- the run goes on after a store
abbrev pub behind_store : ℕ → Result AbstractState Cause → Result Ways Cause
behind_store pc stored = bind stored (λ t. Ok (onward pc t))

-- the pc at a distance from the instruction after the one at a pc
abbrev pub target : ℕ → ℤ → ℤ
target pc distance = pos (pc + 1) +ℤ distance

-- ---- branches

abbrev pub is_same : Register → Operand → Bool
is_same left (Immediate n) = false
is_same left (Source r) = number_of left == number_of r

-- both sides of a branch. What a register is compared with itself for shows nothing of it.
abbrev pub branch_sides : Width → Comparison → Register → Operand → AbstractValue → AbstractValue → Result Sides Cause
branch_sides w comparison left right a b =
    bind (narrowing w comparison a b) (λ sides.
    Ok (if is_same left right then record { taken = Some (a, b); passed = Some (a, b) } else sides))

abbrev pub with_operand : AbstractState → Operand → AbstractValue → AbstractState
with_operand s (Immediate n) v = s
with_operand s (Source r) v = with_register s r v

-- the way to a pc by a side with these values; a side without values is not walked
abbrev pub side_way : AbstractState → Register → Operand → ℤ → Option (AbstractValue × AbstractValue) → Ways
side_way s left right pc None = []
side_way s left right pc (Some values) = (pc, with_operand (with_register s left values.0) right values.1) ∷ []

abbrev pub branch_ways : ℕ → ℤ → AbstractState → Register → Operand → Sides → Ways
branch_ways pc distance s left right sides =
    side_way s left right (target pc distance) sides.taken ++ side_way s left right (pos (pc + 1)) sides.passed

-- ---- helpers

abbrev pub is_number : AbstractValue → Bool
is_number Unset = false
is_number (Number lo hi) = true
is_number (Record lo hi) = false
is_number (Stack frame offset) = false
is_number (Table lo hi) = false

-- the room that gather is lent, where it is known and allowed
abbrev pub known_room : AbstractValue → Option ℕ
known_room Unset = None
known_room (Number lo hi) = if lo == hi && is_room lo then Some lo else None
known_room (Record lo hi) = None
known_room (Stack frame offset) = None
known_room (Table lo hi) = None

-- the run goes on after a helper whose answer is at most this number
abbrev pub way_with_answer : ℕ → AbstractState → (most : ℕ) → Ways
way_with_answer pc s most = onward (pc + 1) (state_behind_helper s (Number 0 most))

-- a helper is asked with one number, or with two
abbrev pub one_number_call : ℕ → AbstractState → (most : ℕ) → Result Ways Cause
one_number_call pc s most =
    bind (known_register s R1) (λ a. if is_number a then Ok (way_with_answer pc s most) else Err HelperArgument)

abbrev pub two_number_call : ℕ → AbstractState → (most : ℕ) → Result Ways Cause
two_number_call pc s most =
    bind (known_register s R1) (λ a. bind (known_register s R2) (λ b.
    if is_number a && is_number b then Ok (way_with_answer pc s most) else Err HelperArgument))

-- gather fills its room from a pointer on, and answers with no more than the words that the room has
abbrev pub gather_ways : Lengths → ℕ → AbstractState → (pointer : AbstractValue) → (room : Option ℕ) → Result Ways Cause
gather_ways lengths pc s pointer None = Err HelperArgument
gather_ways lengths pc s pointer (Some room) =
    bind (gather_result lengths s pointer room) (λ t. Ok (way_with_answer pc t (room / 4)))

abbrev pub gather_call : Lengths → ℕ → AbstractState → Result Ways Cause
gather_call lengths pc s =
    bind (known_register s R1) (λ v. bind (known_register s R2) (λ first.
    bind (known_register s R3) (λ pointer. bind (known_register s R4) (λ room.
    if is_number v && is_number first then gather_ways lengths pc s pointer (known_room room) else Err HelperArgument))))

-- the call of a helper: its arguments are set, and each is of its kind
abbrev pub helper_ways : Lengths → ℕ → Helper → AbstractState → Result Ways Cause
helper_ways lengths pc Degree s = one_number_call pc s (2 ^ 32 - 1)
helper_ways lengths pc HasEdge s = two_number_call pc s 1
helper_ways lengths pc Neighbour s = two_number_call pc s (2 ^ 64 - 1)
helper_ways lengths pc VertexCount s = Ok (way_with_answer pc s (2 ^ 32 - 1))
helper_ways lengths pc Gather s = gather_call lengths pc s

abbrev pub helper_call_ways : Lengths → ℕ → Option Helper → AbstractState → Result Ways Cause
helper_call_ways lengths pc None s = Err UnknownHelper
helper_call_ways lengths pc (Some helper) s = helper_ways lengths pc helper s

-- ---- instructions

-- the result of a function is a number
abbrev pub exit_ways : AbstractValue → Result Ways Cause
exit_ways Unset = Err UnsetRegister
exit_ways (Number lo hi) = Ok []
exit_ways (Record lo hi) = Err ResultNotNumber
exit_ways (Stack frame offset) = Err ResultNotNumber
exit_ways (Table lo hi) = Err ResultNotNumber

-- the instruction at a pc: the broken rule of the lowest cause, or the ways onward. A call of a function asks nothing
-- here: what is known after it is what its exits leave.
unfoldable pub transfer : Lengths → ℕ → Instruction → AbstractState → Result Ways Cause
transfer lengths pc (Alu width operation destination operand) s =
    bind (known_left operation s destination) (λ a. bind (known_operand width s operand) (λ b.
    write_ways (pc + 1) s destination (alu_result width operation lengths a b)))
transfer lengths pc (MoveSigned extension destination source) s =
    bind (known_register s source) (λ v. write_ways (pc + 1) s destination (move_signed_result extension v))
transfer lengths pc (Negate width destination) s =
    bind (known_register s destination) (λ v. write_ways (pc + 1) s destination (negate_result width v))
transfer lengths pc (Swap order bits destination) s =
    bind (known_register s destination) (λ v. write_ways (pc + 1) s destination (swap_result order bits v))
transfer lengths pc (Jump distance) s = Ok ((target pc (units_over distance), s) ∷ [])
transfer lengths pc (Branch width comparison left right distance) s =
    bind (known_register s left) (λ a. bind (known_operand width s right) (λ b.
    bind (branch_sides width comparison left right a b) (λ sides. Ok (branch_ways pc distance s left right sides))))
transfer lengths pc (CallHelper number) s = helper_call_ways lengths pc (helper_of number) s
transfer lengths pc (CallLocal distance) s = Ok []
transfer lengths pc Exit s = exit_ways (slice_index_or s.registers 0 Unset)
transfer lengths pc (Load size destination base offset) s =
    bind (known_register s base) (λ b. write_ways (pc + 1) s destination (load_result lengths s b offset (size_bytes size)))
transfer lengths pc (LoadSigned size destination base offset) s =
    bind (known_register s base) (λ b. write_ways (pc + 1) s destination (load_signed_result lengths s b offset size))
transfer lengths pc (Store size base offset immediate) s =
    bind (known_register s base) (λ b.
    behind_store (pc + 1) (store_result lengths s b offset (size_bytes size) (constant (immediate_value immediate))))
transfer lengths pc (StoreRegister size base offset source) s =
    bind (known_register s base) (λ b. bind (known_register s source) (λ v.
    behind_store (pc + 1) (store_result lengths s b offset (size_bytes size) v)))
transfer lengths pc (Wide destination value) s = write_ways (pc + 2) s destination (Ok (constant value))

-- When no instruction stands at a place of the code, and for which reason.
use Rattle.std.specs.Prelude.{◌≡◌, ℕ, ◌+◌, ◌*◌, ◌<◌, ◌≤◌, ◌/◌, ◌%◌, List, [], ◌∷◌, length, take, drop, slice_index, Option, Some, None, MatchOption, ⊤, ◌⊎◌}
use Rattle.std.specs.List.{AllByRecursion}
use Rattle.std.specs.Int.{w16, w32, from_le_bytes}
use Rattle.bpf_isa.specs.declared.instruction.Operation.{Operation}
use Rattle.bpf_isa.specs.declared.instruction.Operation.TheVariants.{Add, Subtract, Multiply, Divide, DivideSigned, Or, And, ShiftLeft, ShiftRight, Modulo, ModuloSigned, Xor, Move, ShiftRightSigned}
use Rattle.bpf_isa.specs.declared.instruction.Operand.{Operand}
use Rattle.bpf_isa.specs.declared.instruction.Operand.TheVariants.{Immediate, Source}
use Rattle.bpf_isa.specs.declared.instruction.Distance.{Distance}
use Rattle.bpf_isa.specs.declared.instruction.Distance.TheVariants.{Near, Far}
use Rattle.bpf_isa.specs.declared.instruction.Instruction.{Instruction}
use Rattle.bpf_isa.specs.declared.instruction.Instruction.TheVariants.{Alu, MoveSigned, Negate, Swap, Jump, Branch, CallHelper, CallLocal, Exit, Load, LoadSigned, Store, StoreRegister, Wide}
use Rattle.bpf_isa.specs.declared.decode_error.DecodeError.{DecodeError}
use Rattle.bpf_isa.specs.declared.decode_error.DecodeError.TheVariants.{Truncated, UnknownOpcode, UnusedField, BadRegister, BadWide}
use Rattle.bpf_isa.specs.Encoding.{Fields, fields_of}

-- a field of a unit beside the opcode
pub data Field : Type 0 where
  DestinationField : Field
  SourceField : Field
  OffsetField : Field
  ImmediateField : Field

abbrev pub value_at : Field → Fields → ℕ
value_at DestinationField f = f.destination
value_at SourceField f = f.source
value_at OffsetField f = f.offset
value_at ImmediateField f = f.immediate

-- the fields that the unit pc of the code has
abbrev pub fields_at : List ℕ → ℕ → Fields
fields_at code pc =
    let unit = take 8 (drop (8 * pc) code) in
    record { opcode = slice_index unit 0; destination = slice_index unit 1 % 16; source = slice_index unit 1 / 16; offset = from_le_bytes w16 (take 2 (drop 2 unit)); immediate = from_le_bytes w32 (drop 4 unit) }

-- the operations whose opcode several rows share, by the offset field
abbrev pub operation_choosing : Operation → Option Field
operation_choosing Divide = Some OffsetField
operation_choosing DivideSigned = Some OffsetField
operation_choosing Modulo = Some OffsetField
operation_choosing ModuloSigned = Some OffsetField
operation_choosing Move = Some OffsetField
operation_choosing Add = None
operation_choosing Subtract = None
operation_choosing Multiply = None
operation_choosing Or = None
operation_choosing And = None
operation_choosing ShiftLeft = None
operation_choosing ShiftRight = None
operation_choosing Xor = None
operation_choosing ShiftRightSigned = None

-- the field that says, beside the opcode, which row of the table it is
abbrev pub choosing_field : Instruction → Option Field
choosing_field (Alu width operation destination operand) = operation_choosing operation
choosing_field (MoveSigned extension destination source) = Some OffsetField
choosing_field (Swap order bits destination) = Some ImmediateField
choosing_field (CallHelper number) = Some SourceField
choosing_field (CallLocal distance) = Some SourceField
choosing_field (Wide destination value) = Some SourceField
choosing_field (Negate width destination) = None
choosing_field (Jump distance) = None
choosing_field (Branch width comparison left right distance) = None
choosing_field Exit = None
choosing_field (Load size destination base offset) = None
choosing_field (LoadSigned size destination base offset) = None
choosing_field (Store size base offset immediate) = None
choosing_field (StoreRegister size base offset source) = None

-- the field of an operand that is not used
abbrev pub operand_unused : Operand → Field
operand_unused (Immediate n) = SourceField
operand_unused (Source r) = ImmediateField

abbrev pub operation_unused : Option Field → List Field → List Field
operation_unused None fields = OffsetField ∷ fields
operation_unused (Some f) fields = fields

abbrev pub distance_unused : Distance → Field
distance_unused (Near n) = ImmediateField
distance_unused (Far n) = OffsetField

-- the fields that an instruction does not use, in the first unit
abbrev pub unused_fields : Instruction → List Field
unused_fields (Alu width operation destination operand) =
    operation_unused (operation_choosing operation) (operand_unused operand ∷ [])
unused_fields (MoveSigned extension destination source) = ImmediateField ∷ []
unused_fields (Negate width destination) = SourceField ∷ OffsetField ∷ ImmediateField ∷ []
unused_fields (Swap order bits destination) = SourceField ∷ OffsetField ∷ []
unused_fields (Jump distance) = DestinationField ∷ SourceField ∷ distance_unused distance ∷ []
unused_fields (Branch width comparison left right distance) = operand_unused right ∷ []
unused_fields (CallHelper number) = DestinationField ∷ OffsetField ∷ []
unused_fields (CallLocal distance) = DestinationField ∷ OffsetField ∷ []
unused_fields Exit = DestinationField ∷ SourceField ∷ OffsetField ∷ ImmediateField ∷ []
unused_fields (Load size destination base offset) = ImmediateField ∷ []
unused_fields (LoadSigned size destination base offset) = ImmediateField ∷ []
unused_fields (Store size base offset immediate) = SourceField ∷ []
unused_fields (StoreRegister size base offset source) = ImmediateField ∷ []
unused_fields (Wide destination value) = OffsetField ∷ []

-- the instruction's row has these fields' opcode, and what the choosing field says
abbrev pub HasRow : Instruction → Fields → Type 0
HasRow i f =
    ((fields_of i).opcode ≡ f.opcode)
    × MatchOption (choosing_field i) ⊤ (λ field. value_at field (fields_of i) ≡ value_at field f)

-- the code ends inside the unit, or inside the second unit of a wide instruction
abbrev pub IsTruncated : List ℕ → ℕ → Type 0
IsTruncated code pc =
    (length (drop (8 * pc) code) < 8)
    ⊎ (((fields_at code pc).opcode ≡ 0x18) × (length (drop (8 * pc) code) < 16))

-- every field that the row does not use is zero
abbrev pub UnusedAreZero : Instruction → Fields → Type 0
UnusedAreZero i f = AllByRecursion (λ field. value_at field f ≡ 0) (unused_fields i)

-- the register fields are those of registers; one that is not used or that chooses the row is below 11 anyway
abbrev pub HasRegisters : Fields → Type 0
HasRegisters f = (f.destination ≤ 10) × (f.source ≤ 10)

-- the second unit has nothing but its immediate
abbrev pub IsSecondUnit : Fields → Type 0
IsSecondUnit f = (f.opcode ≡ 0) × (f.destination ≡ 0) × (f.source ≡ 0) × (f.offset ≡ 0)

-- the reason is the first one that applies
abbrev pub IsDecodeError : List ℕ → ℕ → DecodeError → Type 0
IsDecodeError code pc Truncated = IsTruncated code pc
IsDecodeError code pc UnknownOpcode =
    ¬ IsTruncated code pc × ((i : Instruction) → ¬ HasRow i (fields_at code pc))
IsDecodeError code pc UnusedField =
    ¬ IsTruncated code pc × ((i : Instruction) × HasRow i (fields_at code pc) × ¬ UnusedAreZero i (fields_at code pc))
IsDecodeError code pc BadRegister =
    ¬ IsTruncated code pc
    × ((i : Instruction) × HasRow i (fields_at code pc) × UnusedAreZero i (fields_at code pc) × ¬ HasRegisters (fields_at code pc))
IsDecodeError code pc BadWide =
    ¬ IsTruncated code pc
    × ((i : Instruction) × HasRow i (fields_at code pc) × UnusedAreZero i (fields_at code pc) × HasRegisters (fields_at code pc) × ((fields_at code pc).opcode ≡ 0x18) × ¬ IsSecondUnit (fields_at code (pc + 1)))

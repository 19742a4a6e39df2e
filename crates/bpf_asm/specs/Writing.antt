-- The text of an instruction.
use Rattle.std.specs.Prelude.{ℕ, ◌+◌, List, [], ◌∷◌, ◌++◌, ℤ, pos, negsuc, suc, ◌+ℤ◌, codes, Option, Some, None}
use Rattle.std.specs.Fmt.{decimal, signed_decimal}
use Rattle.bpf_isa.specs.declared.register.Register.{Register}
use Rattle.bpf_isa.specs.declared.instruction.Width.{Width}
use Rattle.bpf_isa.specs.declared.instruction.Width.TheVariants.{Bits32, Bits64}
use Rattle.bpf_isa.specs.declared.instruction.Operation.{Operation}
use Rattle.bpf_isa.specs.declared.instruction.Operation.TheVariants.{Add, Subtract, Multiply, Divide, DivideSigned, Or, And, ShiftLeft, ShiftRight, Modulo, ModuloSigned, Xor, Move, ShiftRightSigned}
use Rattle.bpf_isa.specs.declared.instruction.Comparison.{Comparison}
use Rattle.bpf_isa.specs.declared.instruction.Comparison.TheVariants.{Equal, Greater, GreaterOrEqual, SharesBit, NotEqual, GreaterSigned, GreaterOrEqualSigned, Less, LessOrEqual, LessSigned, LessOrEqualSigned}
use Rattle.bpf_isa.specs.declared.instruction.Operand.{Operand}
use Rattle.bpf_isa.specs.declared.instruction.Operand.TheVariants.{Immediate, Source}
use Rattle.bpf_isa.specs.declared.instruction.Size.{Size}
use Rattle.bpf_isa.specs.declared.instruction.Size.TheVariants.{Byte, Half, Word, Double}
use Rattle.bpf_isa.specs.declared.instruction.SignedSize.{SignedSize}
use Rattle.bpf_isa.specs.declared.instruction.SignedSize.TheVariants.{SignedByte, SignedHalf, SignedWord}
use Rattle.bpf_isa.specs.declared.instruction.Extension.{Extension}
use Rattle.bpf_isa.specs.declared.instruction.Extension.TheVariants.{From8To32, From16To32, From8To64, From16To64, From32To64}
use Rattle.bpf_isa.specs.declared.instruction.ByteOrder.{ByteOrder}
use Rattle.bpf_isa.specs.declared.instruction.ByteOrder.TheVariants.{Little, Big, Reversed}
use Rattle.bpf_isa.specs.declared.instruction.SwapBits.{SwapBits}
use Rattle.bpf_isa.specs.declared.instruction.SwapBits.TheVariants.{Low16, Low32, Low64}
use Rattle.bpf_isa.specs.declared.instruction.Distance.{Distance}
use Rattle.bpf_isa.specs.declared.instruction.Distance.TheVariants.{Near, Far}
use Rattle.bpf_isa.specs.declared.instruction.Instruction.{Instruction}
use Rattle.bpf_isa.specs.declared.instruction.Instruction.TheVariants.{Alu, MoveSigned, Negate, Swap, Jump, Branch, CallHelper, CallLocal, Exit, Load, LoadSigned, Store, StoreRegister, Wide}
use Rattle.bpf_isa.specs.declared.register.Register.TheVariants.{R0, R1, R2, R3, R4, R5, R6, R7, R8, R9, R10}
use Rattle.bpf_asm.specs.declared.writing.placed.Target.{Target}
use Rattle.bpf_asm.specs.declared.writing.placed.Target.TheVariants.{Nowhere, Before, At}

-- ---- words

abbrev pub operation_word : Operation → List ℕ
operation_word Add = codes "add"
operation_word Subtract = codes "sub"
operation_word Multiply = codes "mul"
operation_word Divide = codes "div"
operation_word DivideSigned = codes "sdiv"
operation_word Or = codes "or"
operation_word And = codes "and"
operation_word ShiftLeft = codes "lsh"
operation_word ShiftRight = codes "rsh"
operation_word Modulo = codes "mod"
operation_word ModuloSigned = codes "smod"
operation_word Xor = codes "xor"
operation_word Move = codes "mov"
operation_word ShiftRightSigned = codes "arsh"

abbrev pub comparison_word : Comparison → List ℕ
comparison_word Equal = codes "jeq"
comparison_word Greater = codes "jgt"
comparison_word GreaterOrEqual = codes "jge"
comparison_word SharesBit = codes "jset"
comparison_word NotEqual = codes "jne"
comparison_word GreaterSigned = codes "jsgt"
comparison_word GreaterOrEqualSigned = codes "jsge"
comparison_word Less = codes "jlt"
comparison_word LessOrEqual = codes "jle"
comparison_word LessSigned = codes "jslt"
comparison_word LessOrEqualSigned = codes "jsle"

-- what stands after a word of 32 bits
abbrev pub width_mark : Width → List ℕ
width_mark Bits32 = codes "32"
width_mark Bits64 = []

abbrev pub extension_word : Extension → List ℕ
extension_word From8To32 = codes "mov32sx8"
extension_word From16To32 = codes "mov32sx16"
extension_word From8To64 = codes "movsx8"
extension_word From16To64 = codes "movsx16"
extension_word From32To64 = codes "movsx32"

abbrev pub order_word : ByteOrder → List ℕ
order_word Little = codes "le"
order_word Big = codes "be"
order_word Reversed = codes "swap"

abbrev pub swap_mark : SwapBits → List ℕ
swap_mark Low16 = codes "16"
swap_mark Low32 = codes "32"
swap_mark Low64 = codes "64"

abbrev pub jump_word : Distance → List ℕ
jump_word (Near distance) = codes "ja"
jump_word (Far distance) = codes "ja32"

abbrev pub size_mark : Size → List ℕ
size_mark Byte = codes "b"
size_mark Half = codes "h"
size_mark Word = codes "w"
size_mark Double = codes "dw"

abbrev pub signed_size_mark : SignedSize → List ℕ
signed_size_mark SignedByte = codes "sb"
signed_size_mark SignedHalf = codes "sh"
signed_size_mark SignedWord = codes "sw"

-- the word of an instruction
abbrev pub word_text : Instruction → List ℕ
word_text (Alu width operation destination operand) = operation_word operation ++ width_mark width
word_text (MoveSigned extension destination source) = extension_word extension
word_text (Negate width destination) = codes "neg" ++ width_mark width
word_text (Swap order bits destination) = order_word order ++ swap_mark bits
word_text (Jump distance) = jump_word distance
word_text (Branch width comparison left right distance) = comparison_word comparison ++ width_mark width
word_text (CallHelper number) = codes "call"
word_text (CallLocal distance) = codes "calllocal"
word_text Exit = codes "exit"
word_text (Load size destination base offset) = codes "ldx" ++ size_mark size
word_text (LoadSigned size destination base offset) = codes "ldx" ++ signed_size_mark size
word_text (Store size base offset immediate) = codes "st" ++ size_mark size
word_text (StoreRegister size base offset source) = codes "stx" ++ size_mark size
word_text (Wide destination value) = codes "lddw"

-- ---- operands

abbrev pub register_text : Register → List ℕ
register_text R0 = codes "r0"
register_text R1 = codes "r1"
register_text R2 = codes "r2"
register_text R3 = codes "r3"
register_text R4 = codes "r4"
register_text R5 = codes "r5"
register_text R6 = codes "r6"
register_text R7 = codes "r7"
register_text R8 = codes "r8"
register_text R9 = codes "r9"
register_text R10 = codes "r10"

abbrev pub operand_text : Operand → List ℕ
operand_text (Immediate n) = signed_decimal n
operand_text (Source r) = register_text r

-- a number that always has its sign
abbrev pub offset_text : ℤ → List ℕ
offset_text (pos n) = codes "+" ++ decimal n
offset_text (negsuc n) = codes "-" ++ decimal (suc n)

abbrev pub memory_text : Register → ℤ → List ℕ
memory_text base offset = codes "[" ++ (register_text base ++ (offset_text offset ++ codes "]"))

-- the label of a unit
abbrev pub label_text : ℕ → List ℕ
label_text k = codes "L" ++ decimal k

-- how far an instruction goes, if it is a jump or a local call
abbrev pub distance_of : Instruction → Option ℤ
distance_of (Jump (Near distance)) = Some distance
distance_of (Jump (Far distance)) = Some distance
distance_of (Branch width comparison left right distance) = Some distance
distance_of (CallLocal distance) = Some distance
distance_of _ = None

abbrev pub landing : ℤ → Target
landing (pos k) = At k
landing (negsuc k) = Before

abbrev pub target_at : ℕ → Option ℤ → Target
target_at pc None = Nowhere
target_at pc (Some distance) = landing (pos (pc + 1) +ℤ distance)

-- the unit to which the instruction at a pc goes
abbrev pub target_of : ℕ → Instruction → Target
target_of pc i = target_at pc (distance_of i)

-- a target that is no unit has no label
abbrev pub target_text : Target → List ℕ
target_text (At k) = label_text k
target_text Before = []
target_text Nowhere = []

-- the operands of an instruction that goes to this target
abbrev pub operand_texts : Instruction → Target → List (List ℕ)
operand_texts (Alu width operation destination operand) target = register_text destination ∷ operand_text operand ∷ []
operand_texts (MoveSigned extension destination source) target = register_text destination ∷ register_text source ∷ []
operand_texts (Negate width destination) target = register_text destination ∷ []
operand_texts (Swap order bits destination) target = register_text destination ∷ []
operand_texts (Jump distance) target = target_text target ∷ []
operand_texts (Branch width comparison left right distance) target =
    register_text left ∷ operand_text right ∷ target_text target ∷ []
operand_texts (CallHelper number) target = signed_decimal number ∷ []
operand_texts (CallLocal distance) target = target_text target ∷ []
operand_texts Exit target = []
operand_texts (Load size destination base offset) target = register_text destination ∷ memory_text base offset ∷ []
operand_texts (LoadSigned size destination base offset) target = register_text destination ∷ memory_text base offset ∷ []
operand_texts (Store size base offset immediate) target = memory_text base offset ∷ signed_decimal immediate ∷ []
operand_texts (StoreRegister size base offset source) target = memory_text base offset ∷ register_text source ∷ []
operand_texts (Wide destination value) target = register_text destination ∷ decimal value ∷ []

-- operands after the first, each after a comma
abbrev pub others_text : List (List ℕ) → List ℕ
others_text [] = []
others_text (operand ∷ operands) = codes ", " ++ (operand ++ others_text operands)

-- operands after a word
abbrev pub operands_text : List (List ℕ) → List ℕ
operands_text [] = []
operands_text (operand ∷ operands) = codes " " ++ (operand ++ others_text operands)

abbrev pub statement_text : ℕ → Instruction → List ℕ
statement_text pc i = word_text i ++ operands_text (operand_texts i (target_of pc i))

-- The words of statements.
use Rattle.std.specs.Prelude.{ℕ, ◌-◌, nat_le, ◌&&◌, if◌then◌else◌, Bool, List, [], ◌∷◌, length, take, drop, codes, Option, Some, None, option_map}
use Rattle.std.specs.Option.{option_or}
use Rattle.bpf_isa.specs.declared.instruction.Width.{Width}
use Rattle.bpf_isa.specs.declared.instruction.Width.TheVariants.{Bits32, Bits64}
use Rattle.bpf_isa.specs.declared.instruction.Operation.{Operation}
use Rattle.bpf_isa.specs.declared.instruction.Operation.TheVariants.{Add, Subtract, Multiply, Divide, DivideSigned, Or, And, ShiftLeft, ShiftRight, Modulo, ModuloSigned, Xor, Move, ShiftRightSigned}
use Rattle.bpf_isa.specs.declared.instruction.Comparison.{Comparison}
use Rattle.bpf_isa.specs.declared.instruction.Comparison.TheVariants.{Equal, Greater, GreaterOrEqual, SharesBit, NotEqual, GreaterSigned, GreaterOrEqualSigned, Less, LessOrEqual, LessSigned, LessOrEqualSigned}
use Rattle.bpf_isa.specs.declared.instruction.Size.TheVariants.{Byte, Half, Word, Double}
use Rattle.bpf_isa.specs.declared.instruction.SignedSize.TheVariants.{SignedByte, SignedHalf, SignedWord}
use Rattle.bpf_isa.specs.declared.instruction.Extension.TheVariants.{From8To32, From16To32, From8To64, From16To64, From32To64}
use Rattle.bpf_isa.specs.declared.instruction.ByteOrder.TheVariants.{Little, Big, Reversed}
use Rattle.bpf_isa.specs.declared.instruction.SwapBits.TheVariants.{Low16, Low32, Low64}
use Rattle.bpf_asm.specs.declared.reading.word.Word as statement_words
use Rattle.bpf_asm.specs.declared.reading.word.Word.TheVariants as words
use Rattle.bpf_asm.specs.Lexing.{same_bytes}

-- what a table has at a text
abbrev pub lookup : {A : Type 0} → List (List ℕ × A) → List ℕ → Option A
lookup [] text = None
lookup (entry ∷ entries) text = if same_bytes text entry.0 then Some entry.1 else lookup entries text

abbrev pub operations : List (List ℕ × Operation)
operations =
    (codes "mov", Move) ∷ (codes "add", Add) ∷ (codes "sub", Subtract) ∷ (codes "mul", Multiply) ∷ (codes "div", Divide) ∷ (codes "sdiv", DivideSigned) ∷ (codes "or", Or) ∷ (codes "and", And) ∷ (codes "lsh", ShiftLeft) ∷ (codes "rsh", ShiftRight) ∷ (codes "mod", Modulo) ∷ (codes "smod", ModuloSigned) ∷ (codes "xor", Xor) ∷ (codes "arsh", ShiftRightSigned) ∷ []

abbrev pub comparisons : List (List ℕ × Comparison)
comparisons =
    (codes "jeq", Equal) ∷ (codes "jgt", Greater) ∷ (codes "jge", GreaterOrEqual) ∷ (codes "jset", SharesBit) ∷ (codes "jne", NotEqual) ∷ (codes "jsgt", GreaterSigned) ∷ (codes "jsge", GreaterOrEqualSigned) ∷ (codes "jlt", Less) ∷ (codes "jle", LessOrEqual) ∷ (codes "jslt", LessSigned) ∷ (codes "jsle", LessOrEqualSigned) ∷ []

abbrev pub accesses : List (List ℕ × statement_words.Word)
accesses =
    (codes "ldxb", words.Load Byte) ∷ (codes "ldxh", words.Load Half) ∷ (codes "ldxw", words.Load Word) ∷ (codes "ldxdw", words.Load Double) ∷ (codes "ldxsb", words.LoadSigned SignedByte) ∷ (codes "ldxsh", words.LoadSigned SignedHalf) ∷ (codes "ldxsw", words.LoadSigned SignedWord) ∷ (codes "stb", words.Store Byte) ∷ (codes "sth", words.Store Half) ∷ (codes "stw", words.Store Word) ∷ (codes "stdw", words.Store Double) ∷ (codes "stxb", words.StoreRegister Byte) ∷ (codes "stxh", words.StoreRegister Half) ∷ (codes "stxw", words.StoreRegister Word) ∷ (codes "stxdw", words.StoreRegister Double) ∷ (codes "lddw", words.Wide) ∷ []

abbrev pub flows : List (List ℕ × statement_words.Word)
flows = (codes "exit", words.Exit) ∷ (codes "ja", words.JumpNear) ∷ (codes "ja32", words.JumpFar) ∷ (codes "call", words.CallHelper) ∷ (codes "calllocal", words.CallLocal) ∷ []

abbrev pub changes : List (List ℕ × statement_words.Word)
changes =
    (codes "neg", words.Negate Bits64) ∷ (codes "neg32", words.Negate Bits32) ∷ (codes "le16", words.Swap Little Low16) ∷ (codes "le32", words.Swap Little Low32) ∷ (codes "le64", words.Swap Little Low64) ∷ (codes "be16", words.Swap Big Low16) ∷ (codes "be32", words.Swap Big Low32) ∷ (codes "be64", words.Swap Big Low64) ∷ (codes "swap16", words.Swap Reversed Low16) ∷ (codes "swap32", words.Swap Reversed Low32) ∷ (codes "swap64", words.Swap Reversed Low64) ∷ (codes "movsx8", words.MoveSigned From8To64) ∷ (codes "movsx16", words.MoveSigned From16To64) ∷ (codes "movsx32", words.MoveSigned From32To64) ∷ (codes "mov32sx8", words.MoveSigned From8To32) ∷ (codes "mov32sx16", words.MoveSigned From16To32) ∷ []

-- a word of 32 bits ends in `32`
abbrev pub is_short : List ℕ → Bool
is_short text = nat_le 2 (length text) && same_bytes (drop (length text - 2) text) (codes "32")

abbrev pub width_of : List ℕ → Width
width_of text = if is_short text then Bits32 else Bits64

abbrev pub stem : List ℕ → List ℕ
stem text = if is_short text then take (length text - 2) text else text

-- the word that a text is
abbrev pub word : List ℕ → Option statement_words.Word
word text =
    option_or (option_map (words.Alu (width_of text)) (lookup operations (stem text))) (option_or (lookup accesses text) (option_or (option_map (words.Branch (width_of text)) (lookup comparisons (stem text))) (option_or (lookup flows text) (lookup changes text))))

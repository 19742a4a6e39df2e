-- Each instruction's text, read as the instruction.
use Rattle.std.proofs.Common.{◌≡◌, ℕ, true, List, [], ◌∷◌, ◌++◌, refl, ◌∙◌}
use Rattle.std.specs.Prelude.{ℤ, pos, Option, Some, None, Ok, ⊤}
use Rattle.std.specs.List.{list_all}
use Rattle.bpf_isa.specs.declared.instruction.Width.{Width}
use Rattle.bpf_isa.specs.declared.instruction.Width.TheVariants.{Bits32, Bits64}
use Rattle.bpf_isa.specs.declared.instruction.Operation.{Operation}
use Rattle.bpf_isa.specs.declared.instruction.Operation.TheVariants.{Add}
use Rattle.bpf_isa.specs.declared.instruction.Comparison.{Comparison}
use Rattle.bpf_isa.specs.declared.instruction.Comparison.TheVariants.{Equal}
use Rattle.bpf_isa.specs.declared.instruction.Operand.{Operand}
use Rattle.bpf_isa.specs.declared.instruction.Operand.TheVariants.{Immediate, Source}
use Rattle.bpf_isa.specs.declared.instruction.Size.{Size}
use Rattle.bpf_isa.specs.declared.instruction.Size.TheVariants.{Byte}
use Rattle.bpf_isa.specs.declared.instruction.SignedSize.{SignedSize}
use Rattle.bpf_isa.specs.declared.instruction.SignedSize.TheVariants.{SignedByte}
use Rattle.bpf_isa.specs.declared.instruction.Extension.{Extension}
use Rattle.bpf_isa.specs.declared.instruction.Extension.TheVariants.{From8To32}
use Rattle.bpf_isa.specs.declared.instruction.ByteOrder.{ByteOrder}
use Rattle.bpf_isa.specs.declared.instruction.ByteOrder.TheVariants.{Little, Big, Reversed}
use Rattle.bpf_isa.specs.declared.instruction.SwapBits.{SwapBits}
use Rattle.bpf_isa.specs.declared.instruction.SwapBits.TheVariants.{Low16}
use Rattle.bpf_isa.specs.declared.instruction.Distance.TheVariants as distances
use Rattle.bpf_isa.specs.declared.instruction.Instruction.{Instruction}
use Rattle.bpf_isa.specs.declared.instruction.Instruction.TheVariants.{Alu, MoveSigned, Negate, Swap, Jump, Branch, CallHelper, CallLocal, Exit, Load, LoadSigned, Store, StoreRegister, Wide}
use Rattle.bpf_isa.specs.Encoding.{InstructionFits, OperandFits}
use Rattle.bpf_asm.specs.declared.reading.word.Word.{Word}
use Rattle.bpf_asm.specs.declared.reading.word.Word.TheVariants as words
use Rattle.bpf_asm.specs.declared.reading.item.Jumping.TheVariants as jumpings
use Rattle.bpf_asm.specs.declared.writing.placed.Target.{Target}
use Rattle.bpf_asm.specs.Lexing.{is_word, Argument, Held, Counted, Addressed, Named, argument_list}
use Rattle.bpf_asm.specs.Words.{word}
use Rattle.bpf_asm.specs.Statements.{Item, Plain, Goes, item, statement}
use Rattle.bpf_asm.specs.Writing.{operation_word, comparison_word, width_mark, extension_word, order_word, swap_mark, word_text, operand_text, distance_of, target_of, target_text, operand_texts, statement_text}
use Rattle.bpf_asm.proofs.Decimals.{numeral_of, immediate_again, offset_again, wide_again}
use Rattle.bpf_asm.proofs.Solids.{is_inner}
use Rattle.bpf_asm.proofs.Spoken.{Reads, AllRead, item_statement, line_inner}
use Rattle.bpf_asm.proofs.Operands.{register_reads, decimal_reads, signed_reads, memory_reads}

-- ---- words

-- a text that is read as a word
pub record IsWordOf (text : List ℕ) (k : Word) : Type 0 where
  pub is : is_word text ≡ true
  pub known : word text ≡ Some k

short_operation : (o : Operation) → IsWordOf (operation_word o ++ width_mark Bits32) (words.Alu Bits32 o)
short_operation Add = record { is = refl; known = refl }
short_operation _ = record { is = refl; known = refl }

long_operation : (o : Operation) → IsWordOf (operation_word o ++ width_mark Bits64) (words.Alu Bits64 o)
long_operation Add = record { is = refl; known = refl }
long_operation _ = record { is = refl; known = refl }

operation_read : (w : Width) (o : Operation) → IsWordOf (operation_word o ++ width_mark w) (words.Alu w o)
operation_read Bits32 o = short_operation o
operation_read Bits64 o = long_operation o

short_comparison : (c : Comparison) → IsWordOf (comparison_word c ++ width_mark Bits32) (words.Branch Bits32 c)
short_comparison Equal = record { is = refl; known = refl }
short_comparison _ = record { is = refl; known = refl }

long_comparison : (c : Comparison) → IsWordOf (comparison_word c ++ width_mark Bits64) (words.Branch Bits64 c)
long_comparison Equal = record { is = refl; known = refl }
long_comparison _ = record { is = refl; known = refl }

comparison_read : (w : Width) (c : Comparison) → IsWordOf (comparison_word c ++ width_mark w) (words.Branch w c)
comparison_read Bits32 c = short_comparison c
comparison_read Bits64 c = long_comparison c

extension_read : (e : Extension) → IsWordOf (extension_word e) (words.MoveSigned e)
extension_read From8To32 = record { is = refl; known = refl }
extension_read _ = record { is = refl; known = refl }

little_read : (bits : SwapBits) → IsWordOf (order_word Little ++ swap_mark bits) (words.Swap Little bits)
little_read Low16 = record { is = refl; known = refl }
little_read _ = record { is = refl; known = refl }

big_read : (bits : SwapBits) → IsWordOf (order_word Big ++ swap_mark bits) (words.Swap Big bits)
big_read Low16 = record { is = refl; known = refl }
big_read _ = record { is = refl; known = refl }

reversed_read : (bits : SwapBits) → IsWordOf (order_word Reversed ++ swap_mark bits) (words.Swap Reversed bits)
reversed_read Low16 = record { is = refl; known = refl }
reversed_read _ = record { is = refl; known = refl }

swap_read : (order : ByteOrder) (bits : SwapBits) → IsWordOf (order_word order ++ swap_mark bits) (words.Swap order bits)
swap_read Little bits = little_read bits
swap_read Big bits = big_read bits
swap_read Reversed bits = reversed_read bits

-- the word of an instruction
abbrev pub word_for : Instruction → Word
word_for (Alu width operation destination right) = words.Alu width operation
word_for (MoveSigned extension destination source) = words.MoveSigned extension
word_for (Negate width destination) = words.Negate width
word_for (Swap order bits destination) = words.Swap order bits
word_for (Jump (distances.Near distance)) = words.JumpNear
word_for (Jump (distances.Far distance)) = words.JumpFar
word_for (Branch width comparison left right distance) = words.Branch width comparison
word_for (CallHelper number) = words.CallHelper
word_for (CallLocal distance) = words.CallLocal
word_for Exit = words.Exit
word_for (Load size destination base offset) = words.Load size
word_for (LoadSigned size destination base offset) = words.LoadSigned size
word_for (Store size base offset immediate) = words.Store size
word_for (StoreRegister size base offset source) = words.StoreRegister size
word_for (Wide destination value) = words.Wide

word_read : (i : Instruction) → IsWordOf (word_text i) (word_for i)
word_read (Alu width operation destination right) = operation_read width operation
word_read (MoveSigned extension destination source) = extension_read extension
word_read (Negate Bits32 destination) = record { is = refl; known = refl }
word_read (Negate Bits64 destination) = record { is = refl; known = refl }
word_read (Swap order bits destination) = swap_read order bits
word_read (Jump (distances.Near distance)) = record { is = refl; known = refl }
word_read (Jump (distances.Far distance)) = record { is = refl; known = refl }
word_read (Branch width comparison left right distance) = comparison_read width comparison
word_read (CallHelper number) = record { is = refl; known = refl }
word_read (CallLocal distance) = record { is = refl; known = refl }
word_read Exit = record { is = refl; known = refl }
word_read (Load size destination base offset) = load_read size
  where
    load_read : (size : Size) → IsWordOf (word_text (Load size destination base offset)) (words.Load size)
    load_read Byte = record { is = refl; known = refl }
    load_read _ = record { is = refl; known = refl }
word_read (LoadSigned size destination base offset) = load_read size
  where
    load_read : (size : SignedSize) → IsWordOf (word_text (LoadSigned size destination base offset)) (words.LoadSigned size)
    load_read SignedByte = record { is = refl; known = refl }
    load_read _ = record { is = refl; known = refl }
word_read (Store size base offset immediate) = store_read size
  where
    store_read : (size : Size) → IsWordOf (word_text (Store size base offset immediate)) (words.Store size)
    store_read Byte = record { is = refl; known = refl }
    store_read _ = record { is = refl; known = refl }
word_read (StoreRegister size base offset source) = store_read size
  where
    store_read : (size : Size) → IsWordOf (word_text (StoreRegister size base offset source)) (words.StoreRegister size)
    store_read Byte = record { is = refl; known = refl }
    store_read _ = record { is = refl; known = refl }
word_read (Wide destination value) = record { is = refl; known = refl }

-- ---- operands

abbrev pub operand_argument : Operand → Argument
operand_argument (Immediate n) = Counted (numeral_of n)
operand_argument (Source r) = Held r

abbrev pub target_argument : Target → Argument
target_argument target = Named (target_text target)

-- the arguments of an instruction that goes to this target
abbrev pub arguments_for : Instruction → Target → List Argument
arguments_for (Alu width operation destination right) target = Held destination ∷ operand_argument right ∷ []
arguments_for (MoveSigned extension destination source) target = Held destination ∷ Held source ∷ []
arguments_for (Negate width destination) target = Held destination ∷ []
arguments_for (Swap order bits destination) target = Held destination ∷ []
arguments_for (Jump distance) target = target_argument target ∷ []
arguments_for (Branch width comparison left right distance) target = Held left ∷ operand_argument right ∷ target_argument target ∷ []
arguments_for (CallHelper number) target = Counted (numeral_of number) ∷ []
arguments_for (CallLocal distance) target = target_argument target ∷ []
arguments_for Exit target = []
arguments_for (Load size destination base offset) target = Held destination ∷ Addressed base (numeral_of offset) ∷ []
arguments_for (LoadSigned size destination base offset) target = Held destination ∷ Addressed base (numeral_of offset) ∷ []
arguments_for (Store size base offset immediate) target = Addressed base (numeral_of offset) ∷ Counted (numeral_of immediate) ∷ []
arguments_for (StoreRegister size base offset source) target = Addressed base (numeral_of offset) ∷ Held source ∷ []
arguments_for (Wide destination value) target = Held destination ∷ Counted (numeral_of (pos value)) ∷ []

-- the target of a jump has a label
abbrev pub HasLabel : Option ℤ → Target → Type 0
HasLabel None target = ⊤
HasLabel (Some distance) target = Reads (target_text target) (target_argument target)

operand_reads : (right : Operand) → OperandFits right → Reads (operand_text right) (operand_argument right)
operand_reads (Immediate n) fits = signed_reads n fits
operand_reads (Source r) fits = register_reads r

operands_read : (i : Instruction) (target : Target) → InstructionFits i → HasLabel (distance_of i) target → AllRead (operand_texts i target) (arguments_for i target)
operands_read (Alu width operation destination right) target fits label = (register_reads destination, (operand_reads right fits, tt))
operands_read (MoveSigned extension destination source) target fits label = (register_reads destination, (register_reads source, tt))
operands_read (Negate width destination) target fits label = (register_reads destination, tt)
operands_read (Swap order bits destination) target fits label = (register_reads destination, tt)
operands_read (Jump (distances.Near distance)) target fits label = (label, tt)
operands_read (Jump (distances.Far distance)) target fits label = (label, tt)
operands_read (Branch width comparison left right distance) target fits label = (register_reads left, (operand_reads right fits.0, (label, tt)))
operands_read (CallHelper number) target fits label = (signed_reads number fits, tt)
operands_read (CallLocal distance) target fits label = (label, tt)
operands_read Exit target fits label = tt
operands_read (Load size destination base offset) target fits label = (register_reads destination, (memory_reads base offset fits, tt))
operands_read (LoadSigned size destination base offset) target fits label = (register_reads destination, (memory_reads base offset fits, tt))
operands_read (Store size base offset immediate) target fits label = (memory_reads base offset fits.0, (signed_reads immediate fits.1, tt))
operands_read (StoreRegister size base offset source) target fits label = (memory_reads base offset fits, (register_reads source, tt))
operands_read (Wide destination value) target fits label = (register_reads destination, (decimal_reads value fits, tt))

-- ---- statements

-- what an instruction's line says
abbrev pub item_for : Instruction → Target → Item
item_for (Alu width operation destination right) target = Plain (Alu width operation destination right)
item_for (MoveSigned extension destination source) target = Plain (MoveSigned extension destination source)
item_for (Negate width destination) target = Plain (Negate width destination)
item_for (Swap order bits destination) target = Plain (Swap order bits destination)
item_for (Jump (distances.Near distance)) target = Goes jumpings.Near (target_text target)
item_for (Jump (distances.Far distance)) target = Goes jumpings.Far (target_text target)
item_for (Branch width comparison left right distance) target = Goes (jumpings.Branch width comparison left right) (target_text target)
item_for (CallHelper number) target = Plain (CallHelper number)
item_for (CallLocal distance) target = Goes jumpings.Call (target_text target)
item_for Exit target = Plain Exit
item_for (Load size destination base offset) target = Plain (Load size destination base offset)
item_for (LoadSigned size destination base offset) target = Plain (LoadSigned size destination base offset)
item_for (Store size base offset immediate) target = Plain (Store size base offset immediate)
item_for (StoreRegister size base offset source) target = Plain (StoreRegister size base offset source)
item_for (Wide destination value) target = Plain (Wide destination value)

statement_is : (i : Instruction) (target : Target) → InstructionFits i → statement (word_for i) (argument_list (arguments_for i target)) ≡ Ok (item_for i target)
statement_is (Alu width operation destination (Immediate n)) target fits = simp (immediate_again n fits)
statement_is (Alu width operation destination (Source r)) target fits = refl
statement_is (MoveSigned extension destination source) target fits = refl
statement_is (Negate width destination) target fits = refl
statement_is (Swap order bits destination) target fits = refl
statement_is (Jump (distances.Near distance)) target fits = refl
statement_is (Jump (distances.Far distance)) target fits = refl
statement_is (Branch width comparison left (Immediate n) distance) target fits = simp (immediate_again n fits.0)
statement_is (Branch width comparison left (Source r) distance) target fits = refl
statement_is (CallHelper number) target fits = simp (immediate_again number fits)
statement_is (CallLocal distance) target fits = refl
statement_is Exit target fits = refl
statement_is (Load size destination base offset) target fits = simp (offset_again offset fits)
statement_is (LoadSigned size destination base offset) target fits = simp (offset_again offset fits)
statement_is (Store size base offset immediate) target fits = simp (offset_again offset fits.0, immediate_again immediate fits.1)
statement_is (StoreRegister size base offset source) target fits = simp (offset_again offset fits)
statement_is (Wide destination value) target fits = simp (wide_again value fits)

-- an instruction's line says the instruction
pub line_says : (pc : ℕ) (i : Instruction) → InstructionFits i → HasLabel (distance_of i) (target_of pc i) → item (statement_text pc i) ≡ Ok (item_for i (target_of pc i))
line_says pc i fits label =
    let read = word_read i in
    item_statement (word_text i) (word_for i) (operand_texts i (target_of pc i)) (arguments_for i (target_of pc i)) read.is read.known (operands_read i (target_of pc i) fits label) ∙ statement_is i (target_of pc i) fits

pub line_whole : (pc : ℕ) (i : Instruction) → InstructionFits i → HasLabel (distance_of i) (target_of pc i) → list_all is_inner (statement_text pc i) ≡ true
line_whole pc i fits label = line_inner (word_text i) (operand_texts i (target_of pc i)) (arguments_for i (target_of pc i)) (word_read i).is (operands_read i (target_of pc i) fits label)

-- The instruction that a word and its arguments say.
use Rattle.std.specs.List.{position_or_len}
use Rattle.std.specs.Prelude.{length, take, drop, slice_index, ℕ, zero, suc, ◌+◌, ◌*◌, ◌-◌, ◌^◌, ◌==◌, nat_lt, nat_le, Bool, true, false, if◌then◌else◌, List, [], ◌∷◌, ℤ, pos, negsuc, Option, Some, None, option_map, Result, Ok, Err}
use Rattle.bpf_isa.specs.declared.register.Register.{Register}
use Rattle.bpf_isa.specs.declared.instruction.Width.{Width}
use Rattle.bpf_isa.specs.declared.instruction.Operation.{Operation}
use Rattle.bpf_isa.specs.declared.instruction.Comparison.{Comparison}
use Rattle.bpf_isa.specs.declared.instruction.Operand.{Operand}
use Rattle.bpf_isa.specs.declared.instruction.Operand.TheVariants.{Immediate, Source}
use Rattle.bpf_isa.specs.declared.instruction.Size.{Size}
use Rattle.bpf_isa.specs.declared.instruction.SignedSize.{SignedSize}
use Rattle.bpf_isa.specs.declared.instruction.Extension.{Extension}
use Rattle.bpf_isa.specs.declared.instruction.Instruction.{Instruction}
use Rattle.bpf_isa.specs.declared.instruction.Instruction.TheVariants.{Alu, MoveSigned, Negate, Swap, CallHelper, Exit, Load, LoadSigned, Store, StoreRegister, Wide}
use Rattle.bpf_asm.specs.declared.reading.numeral.Base.{Base}
use Rattle.bpf_asm.specs.declared.reading.numeral.Base.TheVariants.{Ten, Sixteen}
use Rattle.bpf_asm.specs.declared.errors.TextCause.{TextCause}
use Rattle.bpf_asm.specs.declared.errors.TextCause.TheVariants.{Syntax, UnknownName, NumberRange}
use Rattle.bpf_asm.specs.declared.reading.word.Word.{Word}
use Rattle.bpf_asm.specs.declared.reading.word.Word.TheVariants as words
use Rattle.bpf_asm.specs.declared.reading.item.Jumping.{Jumping}
use Rattle.bpf_asm.specs.declared.reading.item.Jumping.TheVariants.{Near, Far, Call, Branch}
use Rattle.bpf_asm.specs.Lexing.{Numeral, Argument, Held, Counted, Addressed, Named, Arguments, Zero, One, Two, Three, arguments, is_word, is_name, is_empty, is_blank, said_part}
use Rattle.bpf_asm.specs.Words.{word}

-- ---- numbers

abbrev pub base_number : Base → ℕ
base_number Ten = 10
base_number Sixteen = 16

-- the value of a digit, of either case
abbrev pub digit_value : ℕ → ℕ
digit_value b = if nat_le b 57 then b - 48 else (if nat_le b 70 then b - 55 else b - 87)

-- the number that digits spell, after a number that they go on from
abbrev pub digits_from : ℕ → ℕ → List ℕ → ℕ
digits_from base n [] = n
digits_from base n (b ∷ digits) = digits_from base (base * n + digit_value b) digits

abbrev pub magnitude : Numeral → ℕ
magnitude n = digits_from (base_number n.base) 0 n.digits

abbrev pub negative : ℕ → ℤ
negative zero = pos 0
negative (suc n) = negsuc n

-- a number from -limit to limit - 1
abbrev pub signed_below : ℕ → Bool → ℕ → Option ℤ
signed_below limit true n = if nat_le n limit then Some (negative n) else None
signed_below limit false n = if nat_lt n limit then Some (pos n) else None

abbrev pub immediate_of : Numeral → Option ℤ
immediate_of n = signed_below (2 ^ 31) n.negative (magnitude n)

abbrev pub offset_of : Numeral → Option ℤ
offset_of n = signed_below (2 ^ 15) n.negative (magnitude n)

abbrev pub unsigned_below : ℕ → Bool → ℕ → Option ℕ
unsigned_below limit true n = if n == 0 then Some 0 else None
unsigned_below limit false n = if nat_lt n limit then Some n else None

abbrev pub wide_of : Numeral → Option ℕ
wide_of n = unsigned_below (2 ^ 64) n.negative (magnitude n)

-- ---- instructions

abbrev pub in_range : {A : Type 0} → Option A → Result A TextCause
in_range None = Err NumberRange
in_range (Some x) = Ok x

-- a register or a number
abbrev pub operand : Argument → Result Operand TextCause
operand (Held r) = Ok (Source r)
operand (Counted n) = in_range (option_map Immediate (immediate_of n))
operand (Addressed base offset) = Err Syntax
operand (Named text) = Err Syntax

abbrev pub with_operand : (Operand → Instruction) → Result Operand TextCause → Result Instruction TextCause
with_operand go (Ok right) = Ok (go right)
with_operand go (Err e) = Err e

abbrev pub alu : Width → Operation → Arguments → Result Instruction TextCause
alu width operation (Two (Held destination) right) = with_operand (Alu width operation destination) (operand right)
alu width operation _ = Err Syntax

-- two registers
abbrev pub register_pair : Arguments → Option (Register × Register)
register_pair (Two (Held destination) (Held source)) = Some (destination, source)
register_pair _ = None

-- one register
abbrev pub one_register : Arguments → Option Register
one_register (One (Held destination)) = Some destination
one_register _ = None

abbrev pub in_form : {A : Type 0} → Option A → Result A TextCause
in_form None = Err Syntax
in_form (Some x) = Ok x

abbrev pub extension_to : Extension → Register × Register → Instruction
extension_to extension (destination, source) = MoveSigned extension destination source

abbrev pub call_helper : Arguments → Result Instruction TextCause
call_helper (One (Counted n)) = in_range (option_map CallHelper (immediate_of n))
call_helper _ = Err Syntax

abbrev pub exit : Arguments → Result Instruction TextCause
exit Zero = Ok Exit
exit _ = Err Syntax

abbrev pub load : Size → Arguments → Result Instruction TextCause
load size (Two (Held destination) (Addressed base offset)) = in_range (option_map (Load size destination base) (offset_of offset))
load size _ = Err Syntax

abbrev pub load_signed : SignedSize → Arguments → Result Instruction TextCause
load_signed size (Two (Held destination) (Addressed base offset)) =
    in_range (option_map (LoadSigned size destination base) (offset_of offset))
load_signed size _ = Err Syntax

abbrev pub store_of : Size → Register → Option ℤ → Option ℤ → Option Instruction
store_of size base None immediate = None
store_of size base (Some offset) None = None
store_of size base (Some offset) (Some immediate) = Some (Store size base offset immediate)

abbrev pub store : Size → Arguments → Result Instruction TextCause
store size (Two (Addressed base offset) (Counted n)) = in_range (store_of size base (offset_of offset) (immediate_of n))
store size _ = Err Syntax

abbrev pub store_register : Size → Arguments → Result Instruction TextCause
store_register size (Two (Addressed base offset) (Held source)) =
    in_range (option_map (λ n. StoreRegister size base n source) (offset_of offset))
store_register size _ = Err Syntax

abbrev pub wide : Arguments → Result Instruction TextCause
wide (Two (Held destination) (Counted n)) = in_range (option_map (Wide destination) (wide_of n))
wide _ = Err Syntax

-- ---- what a line says

pub data Item : Type 0 where
  Blank : Item
  Labelled : List ℕ → Item
  Plain : Instruction → Item
  -- it goes to the label of this name
  Goes : Jumping → List ℕ → Item

abbrev pub plain : Result Instruction TextCause → Result Item TextCause
plain (Ok i) = Ok (Plain i)
plain (Err e) = Err e

abbrev pub goes : Jumping → Arguments → Result Item TextCause
goes jumping (One (Named name)) = Ok (Goes jumping name)
goes jumping _ = Err Syntax

abbrev pub branch_to : Width → Comparison → Register → List ℕ → Result Operand TextCause → Result Item TextCause
branch_to width comparison left name (Ok right) = Ok (Goes (Branch width comparison left right) name)
branch_to width comparison left name (Err e) = Err e

abbrev pub branch : Width → Comparison → Arguments → Result Item TextCause
branch width comparison (Three (Held left) right (Named name)) = branch_to width comparison left name (operand right)
branch width comparison _ = Err Syntax

abbrev pub statement : Word → Arguments → Result Item TextCause
statement (words.Alu width operation) a = plain (alu width operation a)
statement (words.MoveSigned extension) a = plain (in_form (option_map (extension_to extension) (register_pair a)))
statement (words.Negate width) a = plain (in_form (option_map (Negate width) (one_register a)))
statement (words.Swap order bits) a = plain (in_form (option_map (Swap order bits) (one_register a)))
statement words.JumpNear a = goes Near a
statement words.JumpFar a = goes Far a
statement words.CallLocal a = goes Call a
statement (words.Branch width comparison) a = branch width comparison a
statement words.CallHelper a = plain (call_helper a)
statement words.Exit a = plain (exit a)
statement (words.Load size) a = plain (load size a)
statement (words.LoadSigned size) a = plain (load_signed size a)
statement (words.Store size) a = plain (store size a)
statement (words.StoreRegister size) a = plain (store_register size a)
statement words.Wide a = plain (wide a)

abbrev pub with_word : Option Word → Arguments → Result Item TextCause
with_word None a = Err UnknownName
with_word (Some w) a = statement w a

abbrev pub with_arguments : Option Word → Option Arguments → Result Item TextCause
with_arguments w None = Err Syntax
with_arguments w (Some a) = with_word w a

-- a word and what stands after it
abbrev pub word_line : List ℕ → List ℕ → Result Item TextCause
word_line text rest = if is_word text then with_arguments (word text) (arguments rest) else Err Syntax

abbrev pub label_line : List ℕ → Result Item TextCause
label_line name = if is_name name then Ok (Labelled name) else Err Syntax

-- the last byte is `:`
abbrev pub ends_in_colon : List ℕ → Bool
ends_in_colon text = slice_index text (length text - 1) == 58

abbrev pub item_of_text : List ℕ → Result Item TextCause
item_of_text text =
    if is_empty text then Ok Blank
    else (if ends_in_colon text then label_line (take (length text - 1) text)
    else word_line (take (position_or_len is_blank text) text) (drop (position_or_len is_blank text) text))

-- what a line says, or its first fault
abbrev pub item : List ℕ → Result Item TextCause
item line = item_of_text (said_part line)

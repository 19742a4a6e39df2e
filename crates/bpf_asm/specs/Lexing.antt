-- What stands on a line: a word and its arguments, each of one of four forms.
use Rattle.std.specs.Prelude.{ℕ, ◌-◌, ◌==◌, ◌&&◌, ◌||◌, not, nat_le, Bool, true, false, if◌then◌else◌, List, [], ◌∷◌, length, take, drop, slice_index, Option, Some, None, option_map}
use Rattle.std.specs.Option.{option_or}
use Rattle.std.specs.List.{slice_split, list_all, position_or_len}
use Rattle.bpf_isa.specs.declared.register.Register.{Register}
use Rattle.bpf_isa.specs.declared.register.Register.TheVariants.{R10}
use Rattle.bpf_isa.specs.Reading.{register_at}
use Rattle.bpf_asm.specs.declared.reading.numeral.Base.{Base}
use Rattle.bpf_asm.specs.declared.reading.numeral.Base.TheVariants.{Ten, Sixteen}

-- ---- bytes

abbrev pub is_blank : ℕ → Bool
is_blank b = (b == 32) || (b == 9)

abbrev pub is_digit : ℕ → Bool
is_digit b = nat_le 48 b && nat_le b 57

-- a letter or `_`
abbrev pub is_letter : ℕ → Bool
is_letter b = (nat_le 97 b && nat_le b 122) || ((nat_le 65 b && nat_le b 90) || (b == 95))

abbrev pub is_word_byte : ℕ → Bool
is_word_byte b = is_letter b || is_digit b

abbrev pub is_empty : {A : Type 0} → List A → Bool
is_empty [] = true
is_empty (x ∷ xs) = false

abbrev pub begins_with : ℕ → List ℕ → Bool
begins_with b [] = false
begins_with b (c ∷ bytes) = c == b

abbrev pub same_bytes : List ℕ → List ℕ → Bool
same_bytes [] [] = true
same_bytes [] (b ∷ bs) = false
same_bytes (a ∷ as') [] = false
same_bytes (a ∷ as') (b ∷ bs) = (a == b) && same_bytes as' bs

-- the parts between separators, one more than there are of these
abbrev pub parts : ℕ → List ℕ → List (List ℕ)
parts separator text = slice_split (λ b. b == separator) text

-- ---- blanks

abbrev pub without_front : List ℕ → List ℕ
without_front [] = []
without_front (b ∷ text) = if is_blank b then without_front text else b ∷ text

abbrev pub without_end : List ℕ → List ℕ
without_end [] = []
without_end (b ∷ text) = if list_all is_blank (b ∷ text) then [] else b ∷ without_end text

-- a text without the blanks at both ends
abbrev pub without_blanks : List ℕ → List ℕ
without_blanks text = without_end (without_front text)

-- a line without its comment, which begins at `;`, and without blanks at both ends
abbrev pub said_part : List ℕ → List ℕ
said_part line = without_blanks (take (position_or_len (λ b. b == 59) line) line)

-- ---- words and names

-- a letter or `_`, and then letters, digits and `_`
abbrev pub is_word : List ℕ → Bool
is_word [] = false
is_word (b ∷ text) = is_letter b && list_all is_word_byte text

-- `r0` to `r10`
abbrev pub register_named : List ℕ → Option Register
register_named (a ∷ b ∷ []) = if (a == 114) && is_digit b then register_at (b - 48) else None
register_named (a ∷ b ∷ c ∷ []) = if (a == 114) && ((b == 49) && (c == 48)) then Some R10 else None
register_named _ = None

abbrev pub is_none : {A : Type 0} → Option A → Bool
is_none None = true
is_none (Some x) = false

-- a word of at most 32 bytes that is no register
abbrev pub is_name : List ℕ → Bool
is_name text = is_word text && (nat_le (length text) 32 && is_none (register_named text))

-- ---- numbers

-- a number's sign, the base of its digits, and these
pub record Numeral : Type 0 where
  pub negative : Bool
  pub base : Base
  pub digits : List ℕ

abbrev pub is_digit_of : Base → ℕ → Bool
is_digit_of Ten b = is_digit b
is_digit_of Sixteen b = is_digit b || ((nat_le 97 b && nat_le b 102) || (nat_le 65 b && nat_le b 70))

-- `0x`
abbrev pub is_prefixed : List ℕ → Bool
is_prefixed (a ∷ b ∷ text) = (a == 48) && (b == 120)
is_prefixed _ = false

-- a text read as a number: after `-` in base ten, after `0x` in base sixteen
abbrev pub numeral : List ℕ → Numeral
numeral text =
    if begins_with 45 text then record { negative = true; base = Ten; digits = drop 1 text }
    else (if is_prefixed text then record { negative = false; base = Sixteen; digits = drop 2 text }
    else record { negative = false; base = Ten; digits = text })

-- it has digits, and nothing else
abbrev pub has_digits : Numeral → Bool
has_digits n = not (is_empty n.digits) && list_all (is_digit_of n.base) n.digits

abbrev pub number : List ℕ → Option Numeral
number text = if has_digits (numeral text) then Some (numeral text) else None

-- ---- memory

-- `+` or `-`
abbrev pub is_sign : ℕ → Bool
is_sign b = (b == 43) || (b == 45)

-- a sign and decimal digits, or nothing
abbrev pub displacement : List ℕ → Option Numeral
displacement [] = Some (record { negative = false; base = Ten; digits = [] })
displacement (sign ∷ digits) =
    if not (is_empty digits) && list_all is_digit digits then Some (record { negative = sign == 45; base = Ten; digits = digits }) else None

abbrev pub with_base : Option Register → Option Numeral → Option (Register × Numeral)
with_base None offset = None
with_base (Some base) None = None
with_base (Some base) (Some offset) = Some (base, offset)

-- a register, and a displacement after it
abbrev pub place : List ℕ → Option (Register × Numeral)
place text =
    with_base (register_named (take (position_or_len is_sign text) text)) (displacement (drop (position_or_len is_sign text) text))

-- a place in brackets
abbrev pub memory : List ℕ → Option (Register × Numeral)
memory text =
    if nat_le 2 (length text) && ((slice_index text 0 == 91) && (slice_index text (length text - 1) == 93))
    then place (take (length text - 2) (drop 1 text)) else None

-- ---- arguments

pub data Argument : Type 0 where
  Held : Register → Argument
  Counted : Numeral → Argument
  Addressed : (base : Register) (offset : Numeral) → Argument
  Named : List ℕ → Argument

abbrev pub address_argument : Register × Numeral → Argument
address_argument (base, offset) = Addressed base offset

abbrev pub name : List ℕ → Option (List ℕ)
name text = if is_name text then Some text else None

-- the form that a text has
abbrev pub argument : List ℕ → Option Argument
argument text =
    option_or (option_map Held (register_named text)) (option_or (option_map Counted (number text)) (option_or (option_map address_argument (memory text)) (option_map Named (name text))))

abbrev pub with_argument : Option Argument → Option (List Argument) → Option (List Argument)
with_argument None others = None
with_argument (Some argument) None = None
with_argument (Some argument) (Some others) = Some (argument ∷ others)

abbrev pub all_arguments : List (List ℕ) → Option (List Argument)
all_arguments [] = Some []
all_arguments (text ∷ texts) = with_argument (argument (without_blanks text)) (all_arguments texts)

-- no instruction has more than three
pub data Arguments : Type 0 where
  Zero : Arguments
  One : Argument → Arguments
  Two : (first second : Argument) → Arguments
  Three : (first second third : Argument) → Arguments
  More : Arguments

abbrev pub argument_list : List Argument → Arguments
argument_list [] = Zero
argument_list (a ∷ []) = One a
argument_list (a ∷ b ∷ []) = Two a b
argument_list (a ∷ b ∷ c ∷ []) = Three a b c
argument_list (a ∷ b ∷ c ∷ d ∷ others) = More

-- the arguments after a word, between commas
abbrev pub arguments : List ℕ → Option Arguments
arguments text = if is_empty text then Some Zero else option_map argument_list (all_arguments (parts 44 text))

-- Bytes as lines, words, numbers, names and hexadecimal digits.
use Rattle.std.specs.Prelude.{ℕ, ◌+◌, ◌*◌, ◌-◌, ◌==◌, ◌&&◌, ◌||◌, not, nat_le, Bool, false, if◌then◌else◌, List, [], ◌∷◌, length, filter, Option, Some, None}
use Rattle.std.specs.List.{slice_split, list_all}
-- blanks and digits are those of the assembler's text: spaces and tabs, and decimal digits
pub use Rattle.bpf_asm.specs.Lexing.{is_blank, is_digit, is_empty, same_bytes}

abbrev pub is_newline : ℕ → Bool
is_newline b = b == 10

-- a byte that a line may have: printable ASCII, or a tab
abbrev pub is_plain : ℕ → Bool
is_plain b = (nat_le 32 b && nat_le b 126) || (b == 9)

-- what stands after the last line end is a line too, unless it is empty
abbrev pub without_last_empty : List (List ℕ) → List (List ℕ)
without_last_empty [] = []
without_last_empty (line ∷ []) = if is_empty line then [] else line ∷ []
without_last_empty (line ∷ next ∷ lines) = line ∷ without_last_empty (next ∷ lines)

abbrev pub script_lines : List ℕ → List (List ℕ)
script_lines bytes = without_last_empty (slice_split is_newline bytes)

-- the words of a line
abbrev pub words : List ℕ → List (List ℕ)
words line = filter (λ word. not (is_empty word)) (slice_split is_blank line)

-- the number that decimal digits spell, after a number that they go on from
abbrev pub digits_from : ℕ → List ℕ → ℕ
digits_from n [] = n
digits_from n (b ∷ bytes) = digits_from (10 * n + (b - 48)) bytes

-- a number is one decimal digit or more
abbrev pub number : List ℕ → Option ℕ
number word = if not (is_empty word) && list_all is_digit word then Some (digits_from 0 word) else None

-- a letter, a digit, `_` or `-`
abbrev pub is_name_byte : ℕ → Bool
is_name_byte b =
    ((nat_le 65 b && nat_le b 90) || (nat_le 97 b && nat_le b 122)) || (is_digit b || (b == 95) || (b == 45))

-- a name is 1 to 32 such bytes
abbrev pub is_name : List ℕ → Bool
is_name word = not (is_empty word) && nat_le (length word) 32 && list_all is_name_byte word

-- the value of a hexadecimal digit of either case
abbrev pub hex_digit : ℕ → Option ℕ
hex_digit b =
    if is_digit b then Some (b - 48)
    else (if nat_le 97 b && nat_le b 102 then Some (b - 87)
    else (if nat_le 65 b && nat_le b 70 then Some (b - 55) else None))

abbrev pub hex_byte : Option ℕ → Option ℕ → Option ℕ
hex_byte (Some high) (Some low) = Some (16 * high + low)
hex_byte None low = None
hex_byte (Some high) None = None

abbrev pub onto : Option ℕ → Option (List ℕ) → Option (List ℕ)
onto (Some b) (Some bytes) = Some (b ∷ bytes)
onto None bytes = None
onto (Some b) None = None

-- the bytes that pairs of hexadecimal digits spell
abbrev pub hex_pairs : List ℕ → Option (List ℕ)
hex_pairs [] = Some []
hex_pairs (a ∷ []) = None
hex_pairs (a ∷ b ∷ digits) = onto (hex_byte (hex_digit a) (hex_digit b)) (hex_pairs digits)

-- the word for no byte, for no column, and for rows in place of a column: `-`
abbrev pub is_dash : List ℕ → Bool
is_dash [] = false
is_dash (b ∷ []) = b == 45
is_dash (b ∷ c ∷ bytes) = false

abbrev pub hex : List ℕ → Option (List ℕ)
hex word = if is_dash word then Some [] else hex_pairs word

abbrev pub is_comma : ℕ → Bool
is_comma b = b == 44

-- the name of a column, which is not `-`
abbrev pub is_column_name : List ℕ → Bool
is_column_name word = is_name word && not (is_dash word)

-- the names that commas separate
abbrev pub column_names : List ℕ → Option (List (List ℕ))
column_names word =
    if is_dash word then Some []
    else (if list_all is_column_name (slice_split is_comma word) then Some (slice_split is_comma word) else None)

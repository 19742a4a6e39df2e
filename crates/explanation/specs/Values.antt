-- What is known at a place, as text. Each thing that is known stands after two blanks.
use Rattle.std.specs.Prelude.{ℕ, ◌+◌, ◌-◌, ◌*◌, ◌^◌, ◌==◌, ◌&&◌, not, if◌then◌else◌, Bool, true, false, List, [], ◌++◌, codes, Option, Some, None, slice_index_or}
use Rattle.std.specs.Fmt.{decimal}
use Rattle.bpf_isa.specs.declared.register.Register.{Register}
use Rattle.bpf_isa.specs.Encoding.{number_of}
use Rattle.bpf_asm.specs.Writing.{offset_text}
use Rattle.abstract_values.specs.declared.value.AbstractValue.{AbstractValue}
use Rattle.abstract_values.specs.declared.value.AbstractValue.TheVariants.{Unset, Number, Record, Stack, Table}
use Rattle.abstract_state.specs.declared.state.Frame.{Frame}
use Rattle.abstract_state.specs.States.{AbstractState, register, known_of, frame_of}
use Rattle.bpf_model.specs.State.{most_frames}
use Rattle.explanation.specs.Pieces.{newline, pieces_to}

abbrev pub range_text : ℕ → ℕ → List ℕ
range_text lo hi = if lo == hi then decimal lo else decimal lo ++ codes " to " ++ decimal hi

-- a number of which nothing else is known
abbrev pub number_text : ℕ → ℕ → List ℕ
number_text lo hi = if (lo == 0) && (hi == 2 ^ 64 - 1) then codes "any number" else range_text lo hi

abbrev pub value_text : AbstractValue → List ℕ
value_text Unset = codes "nothing"
value_text (Number lo hi) = number_text lo hi
value_text (Record lo hi) = codes "record+" ++ range_text lo hi
value_text (Stack frame offset) = codes "stack[" ++ decimal frame ++ codes "]" ++ offset_text offset
value_text (Table lo hi) = codes "table+" ++ range_text lo hi

abbrev pub is_known : AbstractValue → Bool
is_known Unset = false
is_known (Number lo hi) = true
is_known (Record lo hi) = true
is_known (Stack frame offset) = true
is_known (Table lo hi) = true

-- something of which a value is known; it is left out where nothing is
abbrev pub known_text : List ℕ → AbstractValue → List ℕ
known_text name v = if is_known v then codes "  " ++ name ++ codes " " ++ value_text v else []

-- ---- registers

abbrev pub register_piece : AbstractState → ℕ → List ℕ
register_piece s r = known_text (codes "r" ++ decimal r) (known_of s r)

abbrev pub registers_text : AbstractState → List ℕ
registers_text s = pieces_to (register_piece s) 11

-- ---- a frame, which has a number: that of the program itself is frame 0

abbrev pub is_set : Frame → ℕ → Bool
is_set f byte = slice_index_or f.bytes_set byte false

-- it is set, and the byte before it is not
abbrev pub begins_row : Frame → ℕ → Bool
begins_row f byte = if byte == 0 then is_set f byte else is_set f byte && not (is_set f (byte - 1))

-- it is set, and the byte after it is not
abbrev pub ends_row : Frame → ℕ → Bool
ends_row f byte = is_set f byte && not (is_set f (byte + 1))

-- bytes that are set stand as rows: the first byte of a row begins it, and the last one ends it. A byte is named by how
-- far it is below the frame's top
abbrev pub row_text : (begins ends : Bool) → (number below : ℕ) → List ℕ
row_text true true number below = codes "  byte[" ++ decimal number ++ codes "] -" ++ decimal below
row_text true false number below = codes "  bytes[" ++ decimal number ++ codes "] -" ++ decimal below
row_text false true number below = codes " to -" ++ decimal below
row_text false false number below = []

abbrev pub byte_piece : Frame → (number byte : ℕ) → List ℕ
byte_piece f number byte = row_text (begins_row f byte) (ends_row f byte) number (512 - byte)

abbrev pub slot_piece : Frame → (number slot : ℕ) → List ℕ
slot_piece f number slot = known_text (codes "slot[" ++ decimal number ++ codes "] -" ++ decimal (512 - 8 * slot)) (slice_index_or f.slots slot Unset)

-- which bytes are set, and what was spilled
abbrev pub frame_text : Frame → (number : ℕ) → List ℕ
frame_text f number = pieces_to (byte_piece f number) 512 ++ pieces_to (slot_piece f number) 64

abbrev pub text_if_live : Option Frame → (number : ℕ) → List ℕ
text_if_live None number = []
text_if_live (Some f) number = frame_text f number

-- of each frame that is live
abbrev pub frame_piece : AbstractState → (number : ℕ) → List ℕ
frame_piece s number = text_if_live (frame_of s number) number

abbrev pub frames_text : AbstractState → List ℕ
frames_text s = pieces_to (frame_piece s) most_frames

-- all that is known at a place
abbrev pub state_text : AbstractState → List ℕ
state_text s = codes "  " ++ registers_text s ++ frames_text s ++ newline

-- what is known of a register, on a line of its own
abbrev pub register_line : AbstractState → Register → List ℕ
register_line s r = codes "known of r" ++ decimal (number_of r) ++ codes ": " ++ value_text (register s r) ++ newline

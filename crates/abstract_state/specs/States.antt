-- What is known of all registers and of the stacks of all live frames.
use Rattle.std.specs.Prelude.{ℕ, suc, ◌-◌, ◌/◌, ◌==◌, ◌&&◌, false, if◌then◌else◌, List, [], ◌∷◌, map, pos, Option, Some, None, slice_index_or, slice_set, replicate}
use Rattle.bpf_isa.specs.declared.register.Register.{Register}
use Rattle.bpf_isa.specs.Encoding.{number_of}
use Rattle.bpf_image.specs.declared.lengths.Lengths.{Lengths}
use Rattle.bpf_model.specs.State.{frame_bytes, most_frames}
use Rattle.abstract_values.specs.declared.value.AbstractValue.{AbstractValue}
use Rattle.abstract_values.specs.declared.value.AbstractValue.TheVariants.{Unset, Number, Record, Stack, Table}
use Rattle.abstract_values.specs.Values.{join_of}
use Rattle.abstract_state.specs.declared.state.Frame.{Frame}

-- R0 to R10; each frame that is live, frame 0 first; and R6 to R9 of each function that waits, that of frame 0 first
pub record AbstractState : Type 0 where
  pub registers : List AbstractValue
  pub frames : List (Option Frame)
  pub kept : List (List AbstractValue)

-- what is known of the register of a number
abbrev pub known_of : AbstractState → ℕ → AbstractValue
known_of s r = slice_index_or s.registers r Unset

abbrev pub register : AbstractState → Register → AbstractValue
register s r = known_of s (number_of r)

abbrev pub with_register : AbstractState → Register → AbstractValue → AbstractState
with_register s r v = record s { registers = slice_set s.registers (number_of r) v }

-- a slot has 8 bytes
abbrev pub frame_slots : ℕ
frame_slots = frame_bytes / 8

-- of a new frame no byte is set
abbrev pub new_frame : Frame
new_frame = record { bytes_set = replicate frame_bytes false; slots = replicate frame_slots Unset }

-- what is known of a frame, if it is live
abbrev pub frame_of : AbstractState → ℕ → Option Frame
frame_of s k = slice_index_or s.frames k None

abbrev pub with_if_live : AbstractState → ℕ → Option Frame → AbstractState
with_if_live s k f = record s { frames = slice_set s.frames k f }

abbrev pub with_frame : AbstractState → ℕ → Frame → AbstractState
with_frame s k f = with_if_live s k (Some f)

-- how many functions may wait
abbrev pub most_callers : ℕ
most_callers = most_frames - 1

-- nothing is known of R6 to R9
abbrev pub nothing_kept : List AbstractValue
nothing_kept = []

-- what is known of R6 + i of the function of frame k, which waits
abbrev pub kept_of : List (List AbstractValue) → ℕ → ℕ → AbstractValue
kept_of kept k i = slice_index_or (slice_index_or kept k []) i Unset

-- what is known of R3 where a program begins: it is the table's address, if there is a table
abbrev pub entry_table : Lengths → AbstractValue
entry_table lengths = if lengths.table_length == 0 then Unset else Table 0 0

-- at entry R1 is the record's address, R2 its length, R3 the table's address, and R10 the top of frame 0; no stack
-- byte is set
abbrev pub entry_state : Lengths → AbstractState
entry_state lengths =
    record { registers = Unset ∷ Record 0 0 ∷ Number lengths.record_length lengths.record_length ∷ entry_table lengths ∷ Unset ∷ Unset ∷ Unset ∷ Unset ∷ Unset ∷ Unset ∷ Stack 0 (pos 0) ∷ []; frames = Some new_frame ∷ replicate most_callers None; kept = replicate most_callers nothing_kept }

-- ---- where two ways meet

-- element by element
abbrev pub elementwise : {A : Type 0} → (A → A → A) → List A → List A → List A
elementwise f [] ys = []
elementwise f (x ∷ xs) [] = []
elementwise f (x ∷ xs) (y ∷ ys) = f x y ∷ elementwise f xs ys

-- a byte is set that both set, and a slot keeps what is known of both
abbrev pub join_of_frames : Frame → Frame → Frame
join_of_frames f g =
    record { bytes_set = elementwise (λ a b. a && b) f.bytes_set g.bytes_set; slots = elementwise join_of f.slots g.slots }

-- a frame is live that is live in both
abbrev pub join_if_live : Option Frame → Option Frame → Option Frame
join_if_live (Some f) (Some g) = Some (join_of_frames f g)
join_if_live (Some f) None = None
join_if_live None g = None

abbrev pub join_of_states : AbstractState → AbstractState → AbstractState
join_of_states s t =
    record { registers = elementwise join_of s.registers t.registers; frames = elementwise join_if_live s.frames t.frames; kept = elementwise (elementwise join_of) s.kept t.kept }

-- ---- calls of the program's own functions. The frame of the caller has a number.

-- a function begins with R1 to R5 as they are, also pointers into frames that wait, and with R10 at the top of a
-- new frame; its caller's R6 to R9 are kept
abbrev pub callee_state : ℕ → AbstractState → AbstractState
callee_state caller s =
    record { registers = Unset ∷ known_of s 1 ∷ known_of s 2 ∷ known_of s 3 ∷ known_of s 4 ∷ known_of s 5 ∷ Unset ∷ Unset ∷ Unset ∷ Unset ∷ Stack (suc caller) (pos 0) ∷ []; frames = slice_set s.frames (suc caller) (Some new_frame); kept = slice_set s.kept caller (known_of s 6 ∷ known_of s 7 ∷ known_of s 8 ∷ known_of s 9 ∷ []) }

-- nothing is kept of a pointer into a frame that is dropped
abbrev pub without_pointer : ℕ → AbstractValue → AbstractValue
without_pointer dropped Unset = Unset
without_pointer dropped (Number lo hi) = Number lo hi
without_pointer dropped (Record lo hi) = Record lo hi
without_pointer dropped (Stack frame offset) = if frame == dropped then Unset else Stack frame offset
without_pointer dropped (Table lo hi) = Table lo hi

-- its spills end, and the bytes that hold them stay set
abbrev pub without_pointers : ℕ → Option Frame → Option Frame
without_pointers dropped None = None
without_pointers dropped (Some f) = Some (record f { slots = map (without_pointer dropped) f.slots })

-- after the exit of a function R0 is its answer, nothing is known of R1 to R5, the caller has its R6 to R10, and
-- the frames that are still live are as the function left them
abbrev pub left_state : ℕ → AbstractState → AbstractState
left_state caller s =
    record { registers = known_of s 0 ∷ Unset ∷ Unset ∷ Unset ∷ Unset ∷ Unset ∷ kept_of s.kept caller 0 ∷ kept_of s.kept caller 1 ∷ kept_of s.kept caller 2 ∷ kept_of s.kept caller 3 ∷ Stack caller (pos 0) ∷ []; frames = map (without_pointers (suc caller)) (slice_set s.frames (suc caller) None); kept = slice_set s.kept caller nothing_kept }

-- after the call of a helper nothing is known of R1 to R5 and R0 is the answer; the rest is as it was
abbrev pub state_behind_helper : AbstractState → (answer : AbstractValue) → AbstractState
state_behind_helper s answer =
    record s { registers = answer ∷ Unset ∷ Unset ∷ Unset ∷ Unset ∷ Unset ∷ known_of s 6 ∷ known_of s 7 ∷ known_of s 8 ∷ known_of s 9 ∷ known_of s 10 ∷ [] }

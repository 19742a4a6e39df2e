-- Bytes that are written where a host wants them: the code of a text, and the explanation of a program.
use Rattle.std.specs.Prelude.{◌≡◌, ◌≢◌, ℕ, ◌<◌, List, [], ◌++◌, length, drop, nat_lt, if◌then◌else◌, Result, Ok, Err}
use Rattle.std.specs.Str.{IsUtf8}
use Rattle.bpf_image.specs.Program.{Program, IsImage}
use Rattle.explanation.specs.Explanation.{Explains}
use Rattle.explanation.specs.declared.judgement.Judgement.{Judgement}
use Rattle.bpf_asm.specs.Assembly.{assembly}
use Rattle.bpf_asm.specs.declared.errors.AssembleError.{AssembleError}
use Rattle.bpf_asm.specs.declared.errors.TextCause.{TextCause}
use Rattle.bpf_asm.specs.declared.errors.TextCause.TheVariants.{Syntax, UnknownName, DoubleLabel, UnknownLabel, NumberRange, TooLong, OutOfMemory}
use Rattle.embedding.specs.declared.statuses.TheConstants.{DONE, NO_MEMORY, LENGTHS, WRONG_TEXT}
use Rattle.embedding.specs.declared.texts.Assembled.{Assembled}

-- they stand at the beginning, and after them is what was there; or there is too little room for them, and none is written.
-- Their number is reported
pub record IsWritten (bytes before : List ℕ) (status : ℕ) (after : List ℕ) (count : ℕ) : Type 0 where
  pub counted : count ≡ length bytes
  pub done : status ≡ DONE → after ≡ bytes ++ drop (length bytes) before
  pub left : status ≢ DONE → (status ≡ LENGTHS) × (after ≡ before) × (length before < length bytes)

abbrev pub fault_number : TextCause → ℕ
fault_number Syntax = 1
fault_number UnknownName = 2
fault_number DoubleLabel = 3
fault_number UnknownLabel = 4
fault_number NumberRange = 5
fault_number TooLong = 6
fault_number OutOfMemory = 7

-- what is reported of a text: how many bytes of code it means, or the line of its first fault and which fault that is
abbrev pub assembled_of : Result (List ℕ) AssembleError → Assembled
assembled_of (Ok code) = record { length = length code; line = 0; cause = 0 }
assembled_of (Err e) = record { length = 0; line = e.line; cause = fault_number e.cause }

-- with room for so many bytes
abbrev pub assembled_status : Result (List ℕ) AssembleError → ℕ → ℕ
assembled_status (Ok code) room = if nat_lt room (length code) then LENGTHS else DONE
assembled_status (Err e) room = WRONG_TEXT

-- what is in the room afterwards
abbrev pub written_over : Result (List ℕ) AssembleError → List ℕ → List ℕ
written_over (Ok code) room = if nat_lt (length room) (length code) then room else code ++ drop (length code) room
written_over (Err e) room = room

-- all of it is reported, if there was memory; a text that is no UTF-8 has neither a length nor a line
pub record IsAssembled (text room : List ℕ) (status : ℕ) (assembled : Assembled) (new_room : List ℕ) : Type 0 where
  pub code : IsUtf8 text → status ≢ NO_MEMORY
      → (status ≡ assembled_status (assembly text) (length room)) × (assembled ≡ assembled_of (assembly text)) × (new_room ≡ written_over (assembly text) room)
  pub bytes : ¬ (IsUtf8 text) → (status ≡ WRONG_TEXT) × (assembled ≡ record { length = 0; line = 0; cause = 0 }) × (new_room ≡ room)
  pub memory : status ≡ NO_MEMORY → new_room ≡ room

-- its lengths are allowed, and what is written, or would be with more room, is a text that explains it
pub record IsExplained (p : Program) (before : List ℕ) (status : ℕ) (after : List ℕ) (count : ℕ) : Type 0 where
  pub image : IsImage p
  pub text : List ℕ
  pub judgement : Judgement
  pub explains : Explains p [] text judgement
  pub written : IsWritten text before status after count

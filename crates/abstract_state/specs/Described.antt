-- What is known of a state describes it.
use Rattle.std.specs.Prelude.{◌≡◌, ℕ, suc, ◌+◌, ◌-◌, ◌*◌, ◌%◌, ◌^◌, ◌<◌, ◌≤◌, ◌⊎◌, Option, Some, None, true, false, List, [], ◌∷◌, length, slice_index_or}
use Rattle.bpf_image.specs.declared.lengths.Lengths.{Lengths}
use Rattle.bpf_model.specs.State.{Partial, Saved, record_base, table_base, frame_bytes, frame_top, in_record, in_table, number_at}
use Rattle.abstract_values.specs.declared.value.AbstractValue.{AbstractValue}
use Rattle.abstract_values.specs.declared.value.AbstractValue.TheVariants.{Unset}
use Rattle.abstract_values.specs.Described.{Describes}
use Rattle.abstract_state.specs.declared.state.Frame.{Frame}
use Rattle.abstract_state.specs.States.{AbstractState, frame_slots, known_of, frame_of, kept_of}

-- a byte is there
abbrev pub IsByteAt : Partial → ℕ → Type 0
IsByteAt memory a = (b : ℕ) × (memory a ≡ Some b) × (b < 256)

-- the frame below a top, where so many frames are live: the bytes known to be set are there, and the number in each
-- slot is described as a register is
pub record DescribesFrame (lengths : Lengths) (live top : ℕ) (f : Frame) (memory : Partial) : Type 0 where
  pub stack_set : (k : ℕ) → k < frame_bytes → slice_index_or f.bytes_set k false ≡ true → IsByteAt memory (top - frame_bytes + k)
  pub spilled : (j : ℕ) → j < frame_slots → Describes lengths live (slice_index_or f.slots j Unset) (number_at memory (top - frame_bytes + 8 * j) 8)

-- of a frame that is not known as live nothing is said
abbrev pub DescribesLive : Lengths → ℕ → ℕ → Option Frame → Partial → Type 0
DescribesLive lengths live top None memory = Unit {0}
DescribesLive lengths live top (Some f) memory = DescribesFrame lengths live top f memory

-- registers and memory of a run in which so many frames are live: the registers, the bytes of record and table, and
-- those of every live frame that the state has
pub record DescribesParts (lengths : Lengths) (live : ℕ) (a : AbstractState) (registers memory : Partial) : Type 0 where
  pub values : (r : ℕ) → Describes lengths live (known_of a r) (registers r)
  pub record_set : (k : ℕ) → k < lengths.record_length → IsByteAt memory (record_base + k)
  pub table_set : (k : ℕ) → k < lengths.table_length → IsByteAt memory (table_base + k)
  pub frames : (k : ℕ) → k < live → DescribesLive lengths live (frame_top k) (frame_of a k) memory

-- R6 to R9 of each caller. What a caller keeps points into no frame above its own.
abbrev pub DescribesKept : Lengths → List (List AbstractValue) → List Saved → Type 0
DescribesKept lengths kept [] = Unit {0}
DescribesKept lengths kept (caller ∷ callers) =
    ((i : ℕ) → Describes lengths (suc (length callers)) (kept_of kept (length callers) i) (caller.registers (i + 6)))
    × DescribesKept lengths kept callers

-- so many bytes from an address lie in the record or in one of so many live frames
abbrev pub IsAllowed : Lengths → ℕ → ℕ → ℕ → Type 0
IsAllowed lengths live a size =
    (in_record lengths.record_length a size ≡ true)
    ⊎ ((k : ℕ) × (k < live) × (frame_top k - frame_bytes ≤ a) × (a + size ≤ frame_top k))

-- they lie there or in the table, which is read alone
abbrev pub IsReadable : Lengths → ℕ → ℕ → ℕ → Type 0
IsReadable lengths live a size = IsAllowed lengths live a size ⊎ (in_table lengths.table_length a size ≡ true)

-- a memory after so many bytes from an address on were written
pub record IsWritten (before after : Partial) (a size : ℕ) : Type 0 where
  pub outside : (p : ℕ) → (p < a) ⊎ (a + size ≤ p) → after p ≡ before p
  pub inside : (i : ℕ) → i < size → IsByteAt after (a + i)

-- and they are the low bytes of a number
pub record IsStored (before after : Partial) (a size n : ℕ) : Type 0 where
  pub written : IsWritten before after a size
  pub number : number_at after a size ≡ Some (n % 256 ^ size)

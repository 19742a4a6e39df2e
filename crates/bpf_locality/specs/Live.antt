-- That some bytes are live, and not all. So the two laws of steps speak of some bytes and leave others.
use Rattle.std.specs.Prelude.{◌≡◌, ℕ, ◌+◌, ◌-◌, ◌<◌, ◌≤◌, true, false, length}
use Rattle.bpf_image.specs.declared.lengths.Lengths.{Lengths}
use Rattle.bpf_model.specs.State.{State, record_base, table_base, frame_top, frame_bytes}
use Rattle.bpf_locality.specs.Locality.{is_live, is_readable}

-- the bytes of the record and of the current frame are live, those of the table may be read, and address 0 is neither
pub record HasLiveBytes (lengths : Lengths) (s : State) : Type 0 where
  pub lent : (a : ℕ) → record_base ≤ a → a < record_base + lengths.record_length → is_live lengths s a ≡ true
  pub current : (a : ℕ)
      → frame_top (length s.callers) - frame_bytes ≤ a
      → a < frame_top (length s.callers)
      → is_live lengths s a ≡ true
  pub table : (a : ℕ) → table_base ≤ a → a < table_base + lengths.table_length → is_readable lengths s a ≡ true
  pub none : is_readable lengths s 0 ≡ false

-- each state has live bytes, and others
abbrev pub SomeBytesAreLive : Type 0
SomeBytesAreLive = (lengths : Lengths) (s : State) → HasLiveBytes lengths s

-- What a step touches. A byte is live where it is in the record or in a live frame, and it may be read where it is live
-- or in the table.
use Rattle.std.specs.Prelude.{◌≡◌, ℕ, ◌≤◌, Bool, true, false, List, length}
use Rattle.bpf_image.specs.Program.{Program, IsImage, lengths_of}
use Rattle.bpf_image.specs.declared.lengths.Lengths.{Lengths}
use Rattle.graph_model.specs.Graph.{Graph}
use Rattle.bpf_model.specs.State.{State, start, HasTable, in_table, live_frames, may_read, may_write, most_frames}
use Rattle.bpf_model.specs.Step.{Next, Goes, Exits, Traps, step}
use Rattle.bpf_model.specs.Run.{after}

-- whether the byte at an address is live
abbrev pub is_live : Lengths → State → ℕ → Bool
is_live lengths s a = may_write lengths s a 1

-- whether it may be read
abbrev pub is_readable : Lengths → State → ℕ → Bool
is_readable lengths s a = may_read lengths s a 1

-- what comes of a state has each byte of it that is live neither there nor here
abbrev pub WritesLive : Lengths → State → Next → Type 0
WritesLive lengths s (Goes t) =
    (a : ℕ) → is_live lengths s a ≡ false → is_live lengths t a ≡ false → t.memory a ≡ s.memory a
WritesLive lengths s (Exits value) = Unit {0}
WritesLive lengths s (Traps kind pc) = Unit {0}

-- two states that differ in no register, no caller and no byte that may be read
pub record AreAlike (lengths : Lengths) (s t : State) : Type 0 where
  pub pc : t.pc ≡ s.pc
  pub registers : t.registers ≡ s.registers
  pub callers : t.callers ≡ s.callers
  pub bytes : (a : ℕ) → is_readable lengths s a ≡ true → t.memory a ≡ s.memory a

-- the same end, or states that are alike
abbrev pub LeadAlike : Lengths → Next → Next → Type 0
LeadAlike lengths (Goes s) next = (t : State) × (next ≡ Goes t) × AreAlike lengths s t
LeadAlike lengths (Exits value) next = next ≡ Exits value
LeadAlike lengths (Traps kind pc) next = next ≡ Traps kind pc

-- no step writes a byte that is not live
abbrev pub WritesLiveBytes : Type 0
WritesLiveBytes = (p : Program) (g : Graph) (s : State) → WritesLive (lengths_of p) s (step p g s)

-- no step of an image writes to its table, where no more frames are live than a run may have
abbrev pub LeavesTable : Type 0
LeavesTable =
    (p : Program) (g : Graph) (s t : State) → IsImage p → step p g s ≡ Goes t → live_frames s ≤ most_frames → live_frames t ≤ most_frames
    → (a : ℕ) → in_table (length p.table) a 1 ≡ true → t.memory a ≡ s.memory a

-- so each state of each run of an image has its table
abbrev pub RunsHaveTable : Type 0
RunsHaveTable =
    (p : Program) (g : Graph) (bytes : List ℕ) → IsImage p → length bytes ≡ p.record_length
    → (k : ℕ) (s : State) → after p g k (start p bytes) ≡ Goes s → HasTable s p.table

-- no step depends on a byte that may not be read
abbrev pub ReadsReadableBytes : Type 0
ReadsReadableBytes =
    (p : Program) (g : Graph) (s t : State) → AreAlike (lengths_of p) s t → LeadAlike (lengths_of p) (step p g s) (step p g t)

-- A machine with the bytes that it is lent, as a state of a run.
use Rattle.std.specs.Prelude.{◌≡◌, ℕ, zero, suc, ◌+◌, ◌-◌, ◌*◌, ◌/◌, ◌%◌, nat_le, ◌&&◌, if◌then◌else◌, ℤ, pos, List, [], ◌∷◌, Option, None, Result, Ok, Err, slice_index_or}
use Rattle.bpf_model.specs.declared.trap.TrapKind.{TrapKind}
use Rattle.bpf_model.specs.State.{Saved, State, Partial, record_memory, with_table, frame_bytes}
use Rattle.bpf_model.specs.Step.{Next, Goes, Exits, Traps}
use Rattle.bpf_model.specs.declared.limits.TheConstants.{STACK_BASE, FRAME_SPACE}
use Rattle.bpf_machine.specs.declared.callers.Kept.{Kept}
use Rattle.bpf_machine.specs.declared.machine.Machine.{Machine}
use Rattle.bpf_machine.specs.declared.stack.TheConstants.{FRAME_START}
use Rattle.bpf_machine.specs.Cells.{cells_of}
use Rattle.bpf_machine.specs.declared.turn.Turn.{Turn}
use Rattle.bpf_machine.specs.declared.turn.Turn.TheVariants.{Went, Exited, Trapped}

-- where a list of values has one
abbrev pub values_of : List (Option ℕ) → Partial
values_of values = λ k. slice_index_or values k None

-- the byte at a distance from the first frame's room, of the frames' bytes in a row: each frame is the end
-- of its room
abbrev pub stack_byte : Partial → ℕ → Option ℕ
stack_byte cells distance =
    if nat_le FRAME_START (distance % FRAME_SPACE) then cells (frame_bytes * (distance / FRAME_SPACE) + (distance % FRAME_SPACE - FRAME_START)) else None

-- the record, and the frames above it
abbrev pub memory_of : List ℕ → Partial → Partial
memory_of bytes cells =
    λ a. if nat_le STACK_BASE a then stack_byte cells (a - STACK_BASE) else record_memory bytes a

-- what is kept of a caller: R6 to R9, and where it goes on
abbrev pub saved_of : Kept → Saved
saved_of kept =
    record { registers = λ r. if nat_le 6 r && nat_le r 9 then values_of kept.registers (r - 6) else None; return_pc = kept.return_pc }

-- what stands after the last that is kept
abbrev pub no_caller : Kept
no_caller = record { registers = []; return_pc = pos 0 }

-- the first so many that are kept, the last one first
abbrev pub callers_of : List Kept → ℕ → List Saved
callers_of kept zero = []
callers_of kept (suc n) = saved_of (slice_index_or kept n no_caller) ∷ callers_of kept n

-- the machine's state when these are the bytes of its record and of its table
abbrev pub state_of : Machine → List ℕ → List ℕ → State
state_of machine bytes table =
    record { pc = machine.pc; registers = values_of machine.registers; memory = with_table table (memory_of bytes (values_of (cells_of machine.stack))); callers = callers_of machine.callers.kept machine.callers.count }

-- goes on with a number that was found, or traps as it says
abbrev pub going_on : Result ℕ TrapKind → ℤ → (ℕ → Next) → Next
going_on (Ok n) pc go = go n
going_on (Err kind) pc go = Traps kind pc

-- what came of a turn that leaves this state; a trap leaves the pc that it found
abbrev pub answer : Turn → State → Next
answer Went s = Goes s
answer (Exited value) s = Exits value
answer (Trapped kind) s = Traps kind s.pc

-- a turn that ends the run leaves the record as it was
abbrev pub Keeps : Turn → List ℕ → List ℕ → Type 0
Keeps Went old new = Unit {0}
Keeps (Exited value) old new = new ≡ old
Keeps (Trapped kind) old new = new ≡ old

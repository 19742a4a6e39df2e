-- The verifier's answer: the first broken rule, or the bound of a program that breaks none. The passes come in turn. A pass has
-- its first fault at the lowest pc, and there by the lowest cause; the last pass meets a function at each call of it.
use Rattle.std.specs.Prelude.{◌≡◌, ℕ, zero, suc, ◌+◌, nat_lt, nat_le, ◌&&◌, if◌then◌else◌, ℤ, pos, negsuc, ◌⊎◌, Option, Some, None, is_some}
use Rattle.std.specs.Option.{option_or}
use Rattle.bpf_isa.specs.declared.instruction.Instruction.{Instruction}
use Rattle.bpf_isa.specs.declared.instruction.Instruction.TheVariants.{Jump, Branch, CallLocal, Exit}
use Rattle.bpf_isa.specs.Encoding.{units_of}
use Rattle.bpf_model.specs.State.{most_frames}
use Rattle.bpf_model.specs.Step.{units_over}
use Rattle.bpf_image.specs.Program.{Program, units}
use Rattle.bpf_model.specs.declared.cause.Cause.{Cause}
use Rattle.bpf_model.specs.declared.cause.Cause.TheVariants.{BadInstruction, JumpOut, JumpBack, CallTarget, FallsOff, TooDeep, TooLong, TooManyPairs, OutOfMemory}
use Rattle.verifier.specs.Rules.{target}
use Rattle.verifier.specs.declared.refusal.Refusal.{Refusal}
use Rattle.verifier.specs.Listing.{instruction_at, is_start}
use Rattle.verifier.specs.Equations.{main_passage, calls_of, first_refusal}
use Rattle.verifier.specs.declared.weights.TheConstants.{MOST_COUNTED, MOST_PAIRS}
use Rattle.verifier.specs.Functions.{start_above, function_end}
use Rattle.verifier.specs.Walks.{longest, deepest, pairs}

-- the least pc below n at which a pass has a fault
abbrev pub fault_after : Option Refusal → Option Cause → ℕ → Option Refusal
fault_after (Some r) cause pc = Some r
fault_after None (Some cause) pc = Some (record { cause = cause; pc = pc })
fault_after None None pc = None

abbrev pub first_fault : (ℕ → Option Cause) → ℕ → Option Refusal
first_fault fault zero = None
first_fault fault (suc n) = fault_after (first_fault fault n) (fault n) n

-- ---- first pass: an instruction stands wherever one has to start

abbrev pub missing_cause : Option Instruction → Option Cause
missing_cause None = Some BadInstruction
missing_cause (Some i) = None

abbrev pub decoding_fault : Program → ℕ → Option Cause
decoding_fault p pc = if is_start p pc then missing_cause (instruction_at p pc) else None

-- ---- second pass: where jumps and calls land, and what stands last in each function

-- a jump lands on an instruction of its function, and after itself
abbrev pub landing_cause : Program → ℕ → ℤ → Option Cause
landing_cause p pc (pos q) =
    if is_some (instruction_at p q) && nat_lt q (function_end p pc) then (if nat_le q pc then Some JumpBack else None) else Some JumpOut
landing_cause p pc (negsuc n) = Some JumpOut

-- a call lands on an instruction above itself
abbrev pub calling_cause : Option ℕ → Option Cause
calling_cause None = Some CallTarget
calling_cause (Some entry) = None

-- the last instruction of a function does not go on after its end
abbrev pub falling_cause : Program → ℕ → ℕ → Option Cause
falling_cause p pc next = if nat_le (function_end p pc) next then Some FallsOff else None

abbrev pub flow_cause : Program → ℕ → Instruction → Option Cause
flow_cause p pc Exit = None
flow_cause p pc (Jump distance) = landing_cause p pc (target pc (units_over distance))
flow_cause p pc (Branch width comparison left right distance) =
    option_or (landing_cause p pc (target pc distance)) (falling_cause p pc (pc + 1))
flow_cause p pc (CallLocal distance) =
    option_or (calling_cause (start_above p pc (target pc distance))) (falling_cause p pc (pc + 1))
flow_cause p pc i = falling_cause p pc (pc + units_of i)

abbrev pub flow_at : Program → ℕ → Option Instruction → Option Cause
flow_at p pc None = None
flow_at p pc (Some i) = flow_cause p pc i

abbrev pub flow_fault : Program → ℕ → Option Cause
flow_fault p pc = flow_at p pc (instruction_at p pc)

-- ---- third and fourth pass: no walk has too many frames or counts too much. They are reported at pc 0.

abbrev pub frames_fault : Program → Option Refusal
frames_fault p = if nat_lt most_frames (deepest p) then Some (record { cause = TooDeep; pc = 0 }) else None

-- the greatest count that a run may have
abbrev pub most_counted : ℕ
most_counted = MOST_COUNTED

abbrev pub length_fault : Program → Option Refusal
length_fault p = if nat_lt most_counted (longest p) then Some (record { cause = TooLong; pc = 0 }) else None

-- ---- fifth pass: there are not too many instructions to verify, each function's once for every call of it. It is
-- reported at pc 0 too.

-- the most that are verified
abbrev pub most_pairs : ℕ
most_pairs = MOST_PAIRS

abbrev pub pairs_fault : Program → Option Refusal
pairs_fault p = if nat_lt most_pairs (pairs p) then Some (record { cause = TooManyPairs; pc = 0 }) else None

-- ---- sixth pass: at each walked pc the instruction's rules hold of what is known there, and within each call again of
-- what is known there by that call

abbrev pub rule_refusal : Program → Option Refusal
rule_refusal p = first_refusal p (calls_of p (main_passage p)) (main_passage p) (units p)

-- ---- the answer

pub data Verdict : Type 0 where
  -- with the greatest number of instructions that a run counts, and the greatest number of frames
  Accepted : (bound frames : ℕ) → Verdict
  Refused : Refusal → Verdict

-- a pass refuses, or the next one decides
abbrev pub unless_refused : Option Refusal → Verdict → Verdict
unless_refused None next = next
unless_refused (Some r) next = Refused r

unfoldable pub verdict : Program → Verdict
verdict p =
    unless_refused (first_fault (decoding_fault p) (units p))
    (unless_refused (first_fault (flow_fault p) (units p))
    (unless_refused (frames_fault p)
    (unless_refused (length_fault p)
    (unless_refused (pairs_fault p)
    (unless_refused (rule_refusal p) (Accepted (longest p) (deepest p)))))))

-- a refusal for lack of memory: no rule gives it
abbrev pub no_memory : Refusal
no_memory = record { cause = OutOfMemory; pc = 0 }

-- what is true of a refusal, if there was memory
abbrev pub unless_memory : Refusal → Type 0 → Type 0
unless_memory r P = (r ≡ no_memory) ⊎ P

-- a refusal is the one that the rules give, if there was memory
abbrev pub Refuses : Refusal → Verdict → Type 0
Refuses r v = unless_memory r (v ≡ Refused r)

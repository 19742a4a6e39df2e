-- The soundness of the rules, in the words of abstract interpretation. It is the contract of a public function.
use Rattle.std.specs.Prelude.{◌≡◌, ℕ, ◌<◌, ◌≤◌, ℤ, pos, Ok}
use Rattle.bpf_isa.specs.declared.instruction.Instruction.{Instruction}
use Rattle.bpf_isa.specs.declared.instruction.Instruction.TheVariants.{CallLocal}
use Rattle.bpf_isa.specs.Encoding.{InstructionFits}
use Rattle.bpf_image.specs.declared.limits.TheConstants.{MOST_RECORD_LENGTH, MOST_TABLE_LENGTH}
use Rattle.bpf_image.specs.declared.lengths.Lengths.{Lengths}
use Rattle.graph_model.specs.Graph.{Graph}
use Rattle.bpf_model.specs.Helpers.{IsView}
use Rattle.bpf_model.specs.State.{State, live_frames, most_frames}
use Rattle.bpf_model.specs.Step.{effect}
use Rattle.abstract_state.specs.States.{AbstractState}
use Rattle.verifier.specs.Rules.{Ways, transfer}
use Rattle.verifier.specs.Described.{DescribesState, Follows}

-- a frame is left for a function that is called. The rules know nothing of the depth.
abbrev pub MayCall : Instruction → State → Type 0
MayCall i s = (distance : ℤ) → i ≡ CallLocal distance → live_frames s < most_frames

-- record and table are no longer than those of an image
abbrev pub AreOfImage : Lengths → Type 0
AreOfImage lengths = (lengths.record_length ≤ MOST_RECORD_LENGTH) × (lengths.table_length ≤ MOST_TABLE_LENGTH)

-- on every graph that a program may run on, a step from a described state does not trap: in any frame it goes
-- on by one of the ways that the rules give, enters a function, returns to a caller, or exits
abbrev pub StepDescribes : Type 0
StepDescribes =
    (g : Graph) (lengths : Lengths) (pc : ℕ) (i : Instruction) (a : AbstractState) (s : State) (ws : Ways)
    → IsView g → AreOfImage lengths → InstructionFits i → s.pc ≡ pos pc → DescribesState lengths a s → MayCall i s
    → transfer lengths pc i a ≡ Ok ws → Follows lengths i a s ws (effect lengths g i s)

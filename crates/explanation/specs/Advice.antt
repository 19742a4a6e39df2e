-- What usually helps where a rule is broken.
use Rattle.std.specs.Prelude.{◌==◌, if◌then◌else◌, Option, Some, None}
use Rattle.bpf_isa.specs.declared.instruction.Width.{Width}
use Rattle.bpf_isa.specs.declared.instruction.Width.TheVariants.{Bits64}
use Rattle.bpf_isa.specs.declared.instruction.Operation.{Operation}
use Rattle.bpf_isa.specs.declared.instruction.Operation.TheVariants.{Add, Subtract}
use Rattle.bpf_isa.specs.declared.instruction.Operand.{Operand}
use Rattle.bpf_isa.specs.declared.instruction.Operand.TheVariants.{Immediate, Source}
use Rattle.bpf_isa.specs.declared.instruction.Instruction.{Instruction}
use Rattle.bpf_isa.specs.declared.instruction.Instruction.TheVariants.{Alu, Branch, Exit, Load, LoadSigned, Store, StoreRegister}
use Rattle.bpf_image.specs.Program.{record_alone}
use Rattle.bpf_model.specs.declared.cause.Cause.{Cause}
use Rattle.bpf_model.specs.declared.cause.Cause.TheVariants as causes
use Rattle.abstract_values.specs.declared.value.AbstractValue.{AbstractValue}
use Rattle.abstract_values.specs.declared.value.AbstractValue.TheVariants.{Unset, Number, Record, Stack, Table}
use Rattle.abstract_state.specs.States.{AbstractState, register, entry_state}
use Rattle.explanation.specs.declared.advice.Advice.{Advice}
use Rattle.explanation.specs.declared.advice.Advice.TheVariants.{KnownInstructions, LandInside, Unroll, ForwardCalls, EndFunctions, FewerFrames, ShorterRuns, SetRegister, SetResult, CopyFrameRegister, SwapOperands, MoveByConstants, MovePointers, CompareNumbers, NoTables, SpillWhole, TestFirst, KnowTheReach, SetBytes, HelperArguments, KnownHelpers, AnswerNumber, MoreMemory, WriteElsewhere, FewerCalls}

-- a register is read that is not set
abbrev pub unset_advice : Instruction → Advice
unset_advice Exit = SetResult
unset_advice _ = SetRegister

-- something is added to a value in 64 bits
abbrev pub sum_advice : (left : AbstractValue) → Advice
sum_advice (Number lo hi) = SwapOperands
sum_advice (Stack frame offset) = MoveByConstants
sum_advice (Record lo hi) = MovePointers
sum_advice (Table lo hi) = MovePointers
sum_advice Unset = MovePointers

-- something is taken from a value in 64 bits
abbrev pub difference_advice : (left : AbstractValue) → Advice
difference_advice (Stack frame offset) = MoveByConstants
difference_advice _ = MovePointers

abbrev pub alu_advice : Width → Operation → (left : AbstractValue) → Advice
alu_advice Bits64 Add left = sum_advice left
alu_advice Bits64 Subtract left = difference_advice left
alu_advice _ _ left = MovePointers

-- a load or a store goes by a number, or a pointer is stored where it may not
abbrev pub base_advice : (base : AbstractValue) → Advice
base_advice (Number lo hi) = NoTables
base_advice _ = SpillWhole

-- a pointer stands for a number, or a number for a pointer
abbrev pub pointer_advice : Instruction → AbstractState → Advice
pointer_advice (Alu width operation destination operand) s = alu_advice width operation (register s destination)
pointer_advice (Branch width comparison left right distance) s = CompareNumbers
pointer_advice (Load size destination base offset) s = base_advice (register s base)
pointer_advice (LoadSigned size destination base offset) s = base_advice (register s base)
pointer_advice (Store size base offset immediate) s = base_advice (register s base)
pointer_advice (StoreRegister size base offset source) s = base_advice (register s base)
pointer_advice _ s = MovePointers

-- a pointer reaches too far: more than one place is possible, or one alone
abbrev pub reach_advice : AbstractValue → Advice
reach_advice (Record lo hi) = if lo == hi then KnowTheReach else TestFirst
reach_advice (Table lo hi) = if lo == hi then KnowTheReach else TestFirst
reach_advice (Number lo hi) = if lo == hi then KnowTheReach else TestFirst
reach_advice _ = KnowTheReach

-- a pointer is moved by an operand
abbrev pub operand_advice : Operand → (moved : AbstractValue) → AbstractState → Advice
operand_advice (Immediate n) moved s = reach_advice moved
operand_advice (Source r) moved s = reach_advice (register s r)

abbrev pub range_advice : Instruction → AbstractState → Advice
range_advice (Alu width operation destination operand) s = operand_advice operand (register s destination) s
range_advice (Load size destination base offset) s = reach_advice (register s base)
range_advice (LoadSigned size destination base offset) s = reach_advice (register s base)
range_advice (Store size base offset immediate) s = reach_advice (register s base)
range_advice (StoreRegister size base offset source) s = reach_advice (register s base)
range_advice _ s = KnowTheReach

-- what helps against a broken rule at an instruction, before which so much is known
abbrev pub advice_at : Cause → Instruction → AbstractState → Advice
advice_at causes.BadInstruction i s = KnownInstructions
advice_at causes.JumpOut i s = LandInside
advice_at causes.JumpBack i s = Unroll
advice_at causes.CallTarget i s = ForwardCalls
advice_at causes.FallsOff i s = EndFunctions
advice_at causes.TooDeep i s = FewerFrames
advice_at causes.TooLong i s = ShorterRuns
advice_at causes.UnsetRegister i s = unset_advice i
advice_at causes.FrameRegister i s = CopyFrameRegister
advice_at causes.PointerUse i s = pointer_advice i s
advice_at causes.OutOfRange i s = range_advice i s
advice_at causes.UnsetStackByte i s = SetBytes
advice_at causes.HelperArgument i s = HelperArguments
advice_at causes.UnknownHelper i s = KnownHelpers
advice_at causes.ResultNotNumber i s = AnswerNumber
advice_at causes.OutOfMemory i s = MoreMemory
advice_at causes.ReadOnly i s = WriteElsewhere
advice_at causes.TooManyPairs i s = FewerCalls

-- where no instruction stands, or nothing is known before it, an exit and the entry serve: no rule of values asks then
abbrev pub advice_for : Cause → Option Instruction → Option AbstractState → Advice
advice_for cause (Some i) (Some s) = advice_at cause i s
advice_for cause (Some i) None = advice_at cause i (entry_state (record_alone 16))
advice_for cause None known = advice_at cause Exit (entry_state (record_alone 16))

-- The numbers that people read for causes.
use Rattle.std.specs.Prelude.{ℕ}
use Rattle.bpf_model.specs.declared.cause.Cause.{Cause}
use Rattle.bpf_model.specs.declared.cause.Cause.TheVariants as causes

abbrev pub cause_number : Cause → ℕ
cause_number causes.BadInstruction = 1
cause_number causes.JumpOut = 2
cause_number causes.JumpBack = 3
cause_number causes.CallTarget = 4
cause_number causes.FallsOff = 5
cause_number causes.TooDeep = 6
cause_number causes.TooLong = 7
cause_number causes.UnsetRegister = 8
cause_number causes.FrameRegister = 9
cause_number causes.PointerUse = 10
cause_number causes.OutOfRange = 11
cause_number causes.UnsetStackByte = 12
cause_number causes.HelperArgument = 13
cause_number causes.UnknownHelper = 14
cause_number causes.ResultNotNumber = 15
cause_number causes.OutOfMemory = 16
cause_number causes.ReadOnly = 17
cause_number causes.TooManyPairs = 18

-- Which rules look at what is known, and where that is listed.
use Rattle.std.specs.Prelude.{ℕ, ◌<◌, Bool, true, false, ⊤}
use Rattle.bpf_model.specs.declared.cause.Cause.{Cause}
use Rattle.bpf_model.specs.declared.cause.Cause.TheVariants as causes
use Rattle.explanation.specs.declared.judgement.Judgement.{Judgement}
use Rattle.explanation.specs.declared.judgement.Judgement.TheVariants.{Accepted, Refused}

-- a rule of the last pass, which looks at what is known
abbrev pub judges_values : Cause → Bool
judges_values causes.BadInstruction = false
judges_values causes.JumpOut = false
judges_values causes.JumpBack = false
judges_values causes.CallTarget = false
judges_values causes.FallsOff = false
judges_values causes.TooDeep = false
judges_values causes.TooLong = false
judges_values causes.UnsetRegister = true
judges_values causes.FrameRegister = true
judges_values causes.PointerUse = true
judges_values causes.OutOfRange = true
judges_values causes.UnsetStackByte = true
judges_values causes.HelperArgument = true
judges_values causes.UnknownHelper = true
judges_values causes.ResultNotNumber = true
judges_values causes.OutOfMemory = false
judges_values causes.ReadOnly = true
judges_values causes.TooManyPairs = false

-- what is known is listed for an accepted program, and for one that breaks a rule of values
abbrev pub lists_states : Judgement → Bool
lists_states (Accepted bound frames) = true
lists_states (Refused r) = judges_values r.cause

-- a rule of the program as a whole
abbrev pub is_of_the_whole : Cause → Bool
is_of_the_whole causes.TooDeep = true
is_of_the_whole causes.TooLong = true
is_of_the_whole causes.TooManyPairs = true
is_of_the_whole _ = false

-- a refusal stands inside a code of so many units
abbrev pub StandsInside : ℕ → Judgement → Type 0
StandsInside end (Accepted bound frames) = ⊤
StandsInside end (Refused r) = r.pc < end

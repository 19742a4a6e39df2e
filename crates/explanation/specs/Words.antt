-- The rules, and what usually helps, in words.
use Rattle.std.specs.Prelude.{ℕ, List, codes}
use Rattle.bpf_model.specs.declared.cause.Cause.{Cause}
use Rattle.bpf_model.specs.declared.cause.Cause.TheVariants as causes
use Rattle.explanation.specs.declared.advice.Advice.{Advice}
use Rattle.explanation.specs.declared.advice.Advice.TheVariants as advice

abbrev pub cause_text : Cause → List ℕ
cause_text causes.BadInstruction = codes "no instruction stands there"
cause_text causes.JumpOut = codes "a jump leads where no instruction starts, or out of its function"
cause_text causes.JumpBack = codes "a jump leads back, and there are no loops"
cause_text causes.CallTarget = codes "a call leads where no instruction starts, or not after itself"
cause_text causes.FallsOff = codes "a function ends neither in an exit nor in a jump"
cause_text causes.TooDeep = codes "more than eight functions may be live at once"
cause_text causes.TooLong = codes "more than 1,000,000 instructions may run"
cause_text causes.UnsetRegister = codes "a register is read of which nothing is known: it may be unset, or the ways that lead here set it to unlike values"
cause_text causes.FrameRegister = codes "r10 is written, which only points to the frame"
cause_text causes.PointerUse = codes "a pointer stands where only a number may, or a number where only a pointer may"
cause_text causes.OutOfRange = codes "bytes may lie outside the record, the table or the frame, or a pointer may leave them"
cause_text causes.UnsetStackByte = codes "bytes of the frame are read that may be unset"
cause_text causes.HelperArgument = codes "an argument of a helper is not what it has to be"
cause_text causes.UnknownHelper = codes "there is no helper of this number"
cause_text causes.ResultNotNumber = codes "a function answers a pointer"
cause_text causes.OutOfMemory = codes "there was no memory to verify it"
cause_text causes.ReadOnly = codes "a store or gather goes to the table, which is only read"
cause_text causes.TooManyPairs = codes "more than 1,000,000 instructions are to be verified: a function counts once for each call of it in the code"

abbrev pub advice_text : Advice → List ℕ
advice_text advice.KnownInstructions = codes "use the instructions of RFC 9669, groups base64 and divmul64: there are no atomic ones, and none for the address of a table in .rodata or of other data"
advice_text advice.LandInside = codes "put the label before an instruction of the same function"
advice_text advice.Unroll = codes "have the loop unrolled as often as it may go round, or ask for neighbours by gather, which answers a known number of them at most"
advice_text advice.ForwardCalls = codes "put each function after all that call it, and use no recursion"
advice_text advice.EndFunctions = codes "end each function in exit"
advice_text advice.FewerFrames = codes "have functions inlined, so that calls nest less deep"
advice_text advice.ShorterRuns = codes "unroll fewer rounds, or call functions less often on one way"
advice_text advice.SetRegister = codes "set the register on each way that leads here: on all to a number, on all to the record or the table, or to the same place of a frame; a call leaves r1 to r5 unset, so keep what is needed in r6 to r9"
advice_text advice.SetResult = codes "set r0 on each way that leads to the exit"
advice_text advice.CopyFrameRegister = codes "copy r10 to another register by mov, and move that one"
advice_text advice.SwapOperands = codes "swap the operands: add the number to the pointer, and not the pointer to the number"
advice_text advice.MoveByConstants = codes "move a pointer into the frame by constants alone; what is reached at an index belongs into the record"
advice_text advice.MovePointers = codes "do no more with a pointer than mov, and add or sub of a number in 64 bits"
advice_text advice.CompareNumbers = codes "compare numbers alone, such as two offsets in place of two pointers"
advice_text advice.NoTables = codes "go by a pointer to the record, the frame or the table; a table in .rodata is not there: mark one const object TABLE, pack its numbers into a constant, or hand them in as the argument of the run"
advice_text advice.SpillWhole = codes "store a pointer by stxdw to the frame alone, at a multiple of 8 below r10"
advice_text advice.TestFirst = codes "test the number first: compare it with a constant, in 64 bits unless it is known to have 32, and use what was compared where it is small enough; a signed number may be below zero besides"
advice_text advice.KnowTheReach = codes "stay inside: record and table have as many bytes as their lengths say, from 0 on, and the frame has 512 below r10"
advice_text advice.SetBytes = codes "store to these bytes on each way that leads here"
advice_text advice.HelperArguments = codes "vertices and places are numbers; r3 of gather is a pointer, and its r4 a constant multiple of 4 from 4 to 256"
advice_text advice.KnownHelpers = codes "the helpers are 1 degree, 2 has_edge, 3 neighbour, 4 vertex_count and 5 gather"
advice_text advice.AnswerNumber = codes "answer a number, such as the one to which the pointer points"
advice_text advice.MoreMemory = codes "try again with more memory"
advice_text advice.WriteElsewhere = codes "write to the record or the frame; copy there what is to change"
advice_text advice.FewerCalls = codes "call functions at fewer places, above all those that call others, and drop functions that no run reaches"

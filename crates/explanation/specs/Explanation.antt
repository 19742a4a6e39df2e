-- The whole text: a program's instructions with what is known before each, and what is said of it in the end.
use Rattle.std.specs.Prelude.{◌≡◌, ℕ, ◌+◌, ◌-◌, ◌==◌, ◌&&◌, nat_le, if◌then◌else◌, Bool, List, [], ◌++◌, length, codes, Option, Some, None, slice_get}
use Rattle.std.specs.Fmt.{decimal}
use Rattle.std.specs.List.{list_any}
use Rattle.bpf_isa.specs.declared.register.Register.TheVariants.{R0, R1, R2, R3, R4}
use Rattle.bpf_isa.specs.declared.instruction.Operation.{Operation}
use Rattle.bpf_isa.specs.declared.instruction.Operation.TheVariants.{Move}
use Rattle.bpf_isa.specs.declared.instruction.Operand.{Operand}
use Rattle.bpf_isa.specs.declared.instruction.Operand.TheVariants.{Immediate, Source}
use Rattle.bpf_isa.specs.declared.register.Register.{Register}
use Rattle.bpf_isa.specs.declared.instruction.Instruction.{Instruction}
use Rattle.bpf_isa.specs.declared.instruction.Instruction.TheVariants.{Alu, MoveSigned, Negate, Swap, Jump, Branch, CallHelper, CallLocal, Exit, Load, LoadSigned, Store, StoreRegister, Wide}
use Rattle.bpf_isa.specs.Reading.{decoding}
use Rattle.bpf_image.specs.Program.{Program, units}
use Rattle.bpf_asm.specs.Writing.{statement_text}
use Rattle.bpf_model.specs.Helpers.{helper_of}
use Rattle.bpf_model.specs.declared.helper.Helper.{Helper}
use Rattle.bpf_model.specs.declared.helper.Helper.TheVariants.{Degree, HasEdge, Neighbour, VertexCount, Gather}
use Rattle.bpf_model.specs.declared.cause.Cause.{Cause}
use Rattle.bpf_model.specs.declared.cause.Cause.TheVariants as causes
use Rattle.abstract_state.specs.declared.state.Frame.{Frame}
use Rattle.abstract_state.specs.States.{AbstractState, frame_of}
use Rattle.verifier.specs.declared.refusal.Refusal.{Refusal}
use Rattle.verifier.specs.declared.known.KnownPassage.{KnownPassage}
use Rattle.verifier.specs.Listing.{decoded_one, is_start}
use Rattle.verifier.specs.Verdict.{Verdict, verdict}
use Rattle.verifier.specs.Verdict as verdicts
use Rattle.verifier.specs.Tables.{state_at}
use Rattle.verifier.specs.Known.{IsKnown}
use Rattle.explanation.specs.declared.source.SourceLine.{SourceLine}
use Rattle.explanation.specs.declared.advice.Advice.{Advice}
use Rattle.explanation.specs.declared.judgement.Judgement.{Judgement}
use Rattle.explanation.specs.declared.judgement.Judgement.TheVariants.{Accepted, Refused}
use Rattle.explanation.specs.declared.labels.Label.TheVariants as labels
use Rattle.explanation.specs.Labels.{label_text}
use Rattle.explanation.specs.Starts.{starts_below}
use Rattle.explanation.specs.Judging.{judges_values, lists_states, is_of_the_whole}
use Rattle.explanation.specs.Advice.{advice_for}
use Rattle.explanation.specs.Pieces.{newline, pieces_to}
use Rattle.explanation.specs.Values.{state_text, frame_text, register_line}
use Rattle.bpf_model.specs.State.{most_frames}
use Rattle.explanation.specs.Words.{cause_text, advice_text}
use Rattle.verifier.specs.Causes.{cause_number}

-- ---- an instruction

-- where it stands, and in which line of the source
abbrev pub place_text : ℕ → Option SourceLine → List ℕ
place_text pc None = decimal pc
place_text pc (Some line) = decimal pc ++ codes ", line " ++ decimal line.number

-- the source's own words, or the statement that means the instruction
abbrev pub statement_of : ℕ → Option SourceLine → Option Instruction → List ℕ
statement_of pc (Some line) i = line.text.now
statement_of pc None (Some i) = statement_text pc i
statement_of pc None None = codes "no instruction"

abbrev pub decoded_at : Program → ℕ → Option Instruction
decoded_at p pc = decoded_one (decoding p.code pc)

-- an instruction on a line of its own
abbrev pub instruction_line : Program → List SourceLine → ℕ → (ordinal : ℕ) → List ℕ
instruction_line p source pc ordinal =
    place_text pc (slice_get source ordinal) ++ codes ": " ++ statement_of pc (slice_get source ordinal) (decoded_at p pc) ++ newline

-- ---- what is known before it

-- nothing is known where no run comes, or, in a function, none by the call that is listed; another one may come there
abbrev pub state_line : (entry : ℕ) → Option AbstractState → List ℕ
state_line entry None = if entry == 0 then codes "    no run comes here\n" else codes "    this call does not come here\n"
state_line entry (Some s) = state_text s

-- a passage comes to a pc
abbrev pub comes_to : KnownPassage → ℕ → Bool
comes_to t pc = nat_le t.entry pc && nat_le pc t.last

abbrev pub passage_line : (pc : ℕ) → Option KnownPassage → List ℕ
passage_line pc None = []
passage_line pc (Some t) = if comes_to t pc then state_line t.entry (state_at t.states.items pc) else []

-- what is known in each passage that comes to a pc
abbrev pub known_piece : List KnownPassage → (pc k : ℕ) → List ℕ
known_piece passages pc k = passage_line pc (slice_get passages k)

abbrev pub known_lines : List KnownPassage → ℕ → List ℕ
known_lines passages pc = pieces_to (known_piece passages pc) (length passages)

-- where a function begins, the call: it stands at the last pc of the passage before
abbrev pub call_line : (pc : ℕ) → (before after : Option KnownPassage) → List ℕ
call_line pc (Some t) (Some u) = if u.entry == pc then label_text labels.Called ++ decimal t.last ++ newline else []
call_line pc (Some t) None = []
call_line pc None after = []

abbrev pub call_piece : List KnownPassage → (pc k : ℕ) → List ℕ
call_piece passages pc k = call_line pc (slice_get passages k) (slice_get passages (k + 1))

abbrev pub call_lines : List KnownPassage → ℕ → List ℕ
call_lines passages pc = pieces_to (call_piece passages pc) (length passages)

abbrev pub if_listed : Bool → List ℕ → List ℕ
if_listed is_listed text = if is_listed then text else []

-- what is listed at a pc: nothing at the second unit of a wide instruction
abbrev pub pc_text : Program → List SourceLine → Judgement → List KnownPassage → ℕ → List ℕ
pc_text p source judgement passages pc =
    if is_start p pc then if_listed (lists_states judgement) (call_lines passages pc) ++ (instruction_line p source pc (starts_below p pc) ++ if_listed (lists_states judgement) (known_lines passages pc))
    else []

-- ---- what is said of the program

-- what is known of the values that an instruction reads
abbrev pub left_lines : Operation → AbstractState → Register → List ℕ
left_lines Move s r = []
left_lines operation s r = register_line s r

abbrev pub operand_lines : AbstractState → Operand → List ℕ
operand_lines s (Immediate n) = []
operand_lines s (Source r) = register_line s r

-- a helper's arguments
abbrev pub argument_lines : AbstractState → Option Helper → List ℕ
argument_lines s None = []
argument_lines s (Some Degree) = register_line s R1
argument_lines s (Some HasEdge) = register_line s R1 ++ register_line s R2
argument_lines s (Some Neighbour) = register_line s R1 ++ register_line s R2
argument_lines s (Some VertexCount) = []
argument_lines s (Some Gather) = register_line s R1 ++ register_line s R2 ++ register_line s R3 ++ register_line s R4

abbrev pub read_lines : AbstractState → Instruction → List ℕ
read_lines s (Alu width operation destination operand) = left_lines operation s destination ++ operand_lines s operand
read_lines s (MoveSigned extension destination source) = register_line s source
read_lines s (Negate width destination) = register_line s destination
read_lines s (Swap order bits destination) = register_line s destination
read_lines s (Jump distance) = []
read_lines s (Branch width comparison left right distance) = register_line s left ++ operand_lines s right
read_lines s (CallHelper number) = argument_lines s (helper_of number)
read_lines s (CallLocal distance) = []
read_lines s Exit = register_line s R0
read_lines s (Load size destination base offset) = register_line s base
read_lines s (LoadSigned size destination base offset) = register_line s base
read_lines s (Store size base offset immediate) = register_line s base
read_lines s (StoreRegister size base offset source) = register_line s base ++ register_line s source
read_lines s (Wide destination value) = []

-- and of each live frame, where it is asked which bytes are set
abbrev pub set_text : Frame → (number : ℕ) → List ℕ
set_text f number = if list_any (λ is_set. is_set) f.bytes_set then frame_text f number else label_text labels.NoByte

abbrev pub set_bytes_line : Option Frame → (number : ℕ) → List ℕ
set_bytes_line None number = []
set_bytes_line (Some f) number = label_text labels.Frame ++ decimal number ++ codes ":" ++ set_text f number ++ newline

abbrev pub set_bytes_piece : AbstractState → (number : ℕ) → List ℕ
set_bytes_piece s number = set_bytes_line (frame_of s number) number

abbrev pub frame_lines : Cause → AbstractState → List ℕ
frame_lines causes.UnsetStackByte s = pieces_to (set_bytes_piece s) most_frames
frame_lines _ s = []

abbrev pub broken_lines : Cause → Option Instruction → Option AbstractState → List ℕ
broken_lines cause (Some i) (Some s) = read_lines s i ++ frame_lines cause s
broken_lines cause (Some i) None = []
broken_lines cause None known = []

-- where a program is refused: some rules are of it as a whole
abbrev pub refused_line : Program → List SourceLine → Refusal → List ℕ
refused_line p source r =
    if is_of_the_whole r.cause then codes "refused as a whole\n" else codes "refused at " ++ instruction_line p source r.pc (starts_below p r.pc)

abbrev pub rule_line : Cause → List ℕ
rule_line cause = codes "rule " ++ decimal (cause_number cause) ++ codes ": " ++ cause_text cause ++ newline

abbrev pub advice_line : Advice → List ℕ
advice_line advice = label_text labels.Help ++ advice_text advice ++ newline

-- what is known where the last passage ends
abbrev pub end_state : Option KnownPassage → Option AbstractState
end_state None = None
end_state (Some t) = state_at t.states.items t.last

abbrev pub broken_state : List KnownPassage → Option AbstractState
broken_state passages = end_state (slice_get passages (length passages - 1))

-- what a broken rule looks at: where the last passage ends, if it is a rule of values
abbrev pub judged_state : Cause → List KnownPassage → Option AbstractState
judged_state cause passages = if judges_values cause then broken_state passages else None

abbrev pub refused_text : Program → List SourceLine → List KnownPassage → Refusal → List ℕ
refused_text p source passages r =
    refused_line p source r ++ (rule_line r.cause ++ (broken_lines r.cause (decoded_at p r.pc) (judged_state r.cause passages) ++ advice_line (advice_for r.cause (decoded_at p r.pc) (judged_state r.cause passages))))

abbrev pub accepted_text : (bound frames : ℕ) → List ℕ
accepted_text bound frames = label_text labels.Accepted ++ decimal bound ++ label_text labels.Frames ++ decimal frames ++ newline

abbrev pub end_text : Program → List SourceLine → List KnownPassage → Judgement → List ℕ
end_text p source passages (Accepted bound frames) = accepted_text bound frames
end_text p source passages (Refused r) = refused_text p source passages r

-- ---- all of it

abbrev pub head_text : Program → List ℕ
head_text p = label_text labels.Program ++ decimal (units p) ++ label_text labels.Records ++ decimal p.record_length ++ label_text labels.Bytes

abbrev pub explanation_text : Program → List SourceLine → List KnownPassage → Judgement → List ℕ
explanation_text p source passages judgement =
    head_text p ++ (pieces_to (pc_text p source judgement passages) (units p) ++ end_text p source passages judgement)

-- the verdict that a judgement stands for
abbrev pub verdict_of : Judgement → Verdict
verdict_of (Accepted bound frames) = verdicts.Accepted bound frames
verdict_of (Refused r) = verdicts.Refused r

-- a text and a judgement explain a program: the judgement is its verdict, and the text says it with what is known at the pcs
pub record Explains (p : Program) (source : List SourceLine) (text : List ℕ) (judgement : Judgement) : Type 0 where
  pub passages : List KnownPassage
  pub is_known : IsKnown p passages
  pub is_verdict : verdict p ≡ verdict_of judgement
  pub is_text : text ≡ explanation_text p source passages judgement

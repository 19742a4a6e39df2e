-- The code of lines, one after another.
use Rattle.std.proofs.Common.{◌≡◌, ◌≤◌, ◌<◌, ◌+◌, ℕ, List, ◌∷◌, ◌++◌, map, drop, get_or, length, refl, sym, ap, ◌∙◌, append_assoc, arith}
use Rattle.std.specs.Prelude.{Option, Result, Ok, Err}
use Rattle.bpf_isa.specs.declared.instruction.Instruction.{Instruction}
use Rattle.bpf_isa.specs.declared.instruction.Instruction.TheVariants.{Wide}
use Rattle.bpf_isa.specs.Encoding.{units_of}
use Rattle.bpf_asm.specs.declared.errors.TextCause.{TextCause}
use Rattle.bpf_asm.specs.declared.errors.TextCause.TheVariants.{Syntax, UnknownName, DoubleLabel, UnknownLabel, NumberRange, TooLong, OutOfMemory}
use Rattle.bpf_asm.specs.declared.errors.AssembleError.{AssembleError}
use Rattle.std.proofs.lemmas.List.{drop_more}
use Rattle.bpf_asm.specs.declared.reading.item.Jumping.{Jumping}
use Rattle.bpf_asm.specs.declared.reading.item.Item.{Item as CodeItem}
use Rattle.bpf_asm.specs.Said.{said_item, IsWritten}
use Rattle.bpf_asm.specs.Statements.{Item, Blank, Labelled, Plain, Goes}
use Rattle.bpf_asm.specs.Assembly.{code_from, bytes_first, item_bytes, item_units, place, jump_instruction, spelling_of, unless_memory}

-- some code, and what comes after it
abbrev pub behind_code : List ℕ → Result (List ℕ) AssembleError → Result (List ℕ) AssembleError
behind_code code (Ok others) = Ok (code ++ others)
behind_code code (Err e) = Err e

bytes_behind : (code : List ℕ) (line : ℕ) (bytes : List ℕ) (rest : Result (List ℕ) AssembleError) → behind_code code (bytes_first line (Ok bytes) rest) ≡ behind_code (code ++ bytes) rest
bytes_behind code line bytes (Ok others) = ap (λ (x : List ℕ). Ok x) (sym (append_assoc code bytes others))
bytes_behind code line bytes (Err e) = refl

-- a line that has bytes
pub code_one : (all : List Item) (code : List ℕ) (line pc : ℕ) (i : Item) (lines : List Item) (bytes : List ℕ) → item_bytes all pc i ≡ Ok bytes → behind_code code (code_from all line pc (i ∷ lines)) ≡ behind_code (code ++ bytes) (code_from all (line + 1) (pc + item_units i) lines)
code_one all code line pc i lines bytes is =
    ap (λ (r : Result (List ℕ) TextCause). behind_code code (bytes_first line r (code_from all (line + 1) (pc + item_units i) lines))) is ∙ bytes_behind code line bytes (code_from all (line + 1) (pc + item_units i) lines)

pub units_few : (i : Instruction) → units_of i ≤ 2
units_few (Wide destination value) = omega arith
units_few _ = omega arith

item_few : (i : Item) → item_units i ≤ 2
item_few Blank = omega arith
item_few (Labelled name) = omega arith
item_few (Plain i) = units_few i
item_few (Goes jumping name) = omega arith

pub goes_bytes : (all : List Item) (pc : ℕ) (jumping : Jumping) (name : List ℕ) (found : Option ℕ) (r : Result Instruction TextCause) → found ≡ place name all → r ≡ jump_instruction jumping (pc + 1) found → spelling_of r ≡ item_bytes all pc (Goes jumping name)
goes_bytes all pc jumping name found r is resolves = ap spelling_of resolves ∙ ap (λ (o : Option ℕ). spelling_of (jump_instruction jumping (pc + 1) o)) is

pub one_line : (lines : List CodeItem) (i : ℕ) (d : CodeItem) → i < length lines → map said_item (drop i lines) ≡ said_item (get_or lines i d) ∷ map said_item (drop (i + 1) lines)
one_line lines i d within = ap (map said_item) (drop_more lines i d within)

pub next_small : (all : List Item) (pc : ℕ) (i : Item) (old new : List ℕ) (next : ℕ) → IsWritten all pc i old new next → next ≤ pc + 2
next_small all pc i old new next w = omega (arith, w.ends, item_few i)

pub written_one : (all : List Item) (pc line : ℕ) (i : Item) (lines : List Item) (old new : List ℕ) (next : ℕ) → IsWritten all pc i old new next → behind_code new (code_from all (line + 1) next lines) ≡ behind_code old (code_from all line pc (i ∷ lines))
written_one all pc line i lines old new next w =
    ap (λ (x : List ℕ). behind_code x (code_from all (line + 1) next lines)) w.written ∙ ap (λ (n : ℕ). behind_code (old ++ w.bytes) (code_from all (line + 1) n lines)) w.ends ∙ sym (code_one all old line pc i lines w.bytes w.spelled)

pub unless : (cause : TextCause) (P : Type 0) → P → unless_memory cause P
unless OutOfMemory P p = tt
unless Syntax P p = p
unless UnknownName P p = p
unless DoubleLabel P p = p
unless UnknownLabel P p = p
unless NumberRange P p = p
unless TooLong P p = p

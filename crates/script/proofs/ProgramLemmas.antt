-- The lines of a program: they are text, and what they mean is told.
use Rattle.std.proofs.Common.{◌≡◌, ℕ, zero, suc, ◌<◌, true, false, List, [], ◌∷◌, ◌++◌, refl, sym, subst, append-nil, arith}
use Rattle.std.specs.List.{list_all}
use Rattle.std.specs.Str.{IsAscii, IsUtf8}
use Rattle.std.proofs.lemmas.Bool.{and_parts}
use Rattle.std.proofs.lemmas.Bool.Decides.{nat_tests}
use Rattle.std.proofs.lemmas.List.Folds.{list_all-append}
use Rattle.std.proofs.lemmas.Str.{IsUtf8-from_ascii}
use Rattle.bpf_asm.specs.declared.errors.TextCause.TheVariants.{OutOfMemory}
use Rattle.script_model.specs.Lexing.{is_plain, words}
use Rattle.std.specs.Prelude.{Option, Result, Ok, Err}
use Rattle.script_model.specs.State.{OpenProgram, Script}
use Rattle.script_model.specs.Parsing.{is_end}
use Rattle.script_model.specs.Execution.{Execution, one_line, inside_program}
use Rattle.script.specs.declared.error.LineError.{LineError}
use Rattle.script.specs.declared.error.LineError.TheVariants as errors
use Rattle.map_model.specs.declared.listed_edge.ListedEdge.{ListedEdge}
use Rattle.script.specs.Executes.{Executes, Prints, whole_of}
use Rattle.script.specs.Kept.{is_text_byte}

-- ---- text

plain_byte : (b : ℕ) → is_plain b ≡ true → is_text_byte b ≡ true
plain_byte b plain = rw plain refl

plain_text : (bytes : List ℕ) → list_all is_plain bytes ≡ true → list_all is_text_byte bytes ≡ true
plain_text [] all = refl
plain_text (b ∷ bytes) all =
    let parts = and_parts _ _ all in
    rw (plain_byte b parts.0, plain_text bytes parts.1) refl

-- a line more, with its line feed
pub text_more : (text bytes : List ℕ) → list_all is_text_byte text ≡ true → list_all is_plain bytes ≡ true → list_all is_text_byte ((text ++ bytes) ++ (10 ∷ [])) ≡ true
text_more text bytes old plain =
    rw (list_all-append is_text_byte (text ++ bytes) (10 ∷ []), list_all-append is_text_byte text bytes, old, plain_text bytes plain) refl

byte_below : (b : ℕ) → is_text_byte b ≡ true → b < 128
byte_below b is = grind (arith, nat_tests)

text_ascii : (text : List ℕ) → list_all is_text_byte text ≡ true → IsAscii text
text_ascii [] all i = omega arith
text_ascii (b ∷ text) all zero = byte_below b (and_parts _ _ all).0
text_ascii (b ∷ text) all (suc i) = text_ascii text (and_parts _ _ all).1 i

pub text_utf8 : (text : List ℕ) → list_all is_text_byte text ≡ true → IsUtf8 text
text_utf8 text all = IsUtf8-from_ascii text (text_ascii text all)

-- ---- lines

-- a line that writes nothing leaves any text as it is
pub silent : (x : Execution) (r : Result (Unit {0}) LineError) (text : List ℕ) (s : Script) → Executes x r [] [] s → Executes x r text text s
silent x (Ok _) text s h =
    let none : h.0 ≡ [] = sym h.1 in
    (h.0, rw none (sym (append-nil text)), h.2)
silent x (Err (errors.Fault fault)) text s h = (refl, h.1)
silent x (Err errors.OutOfMemory) text s h = tt
silent x (Err errors.WorkerRefused) text s h = tt
silent x (Err errors.Store) text s h = h

-- a line that is no end
pub program_line : (bytes text : List ℕ) (begun : OpenProgram) (s t : Script) (r : Result (Unit {0}) LineError) → is_end (words bytes) ≡ false → Executes (one_line bytes begun s) r [] [] t → Executes (inside_program bytes begun s) r text text t
program_line bytes text begun s t r other added =
    let line : one_line bytes begun s ≡ inside_program bytes begun s = rw other refl in
    subst (λ (x : Execution). Executes x r text text t) line (silent (one_line bytes begun s) r text t added)

-- a line all of whose text is written
pub whole_tells : (x : Execution) (r : Result (Unit {0}) LineError) (o : Result (Option (List ListedEdge)) LineError) (old new : List ℕ) (s : Script) → o ≡ whole_of r → Executes x r old new s → Prints x o old new s
whole_tells x (Ok _) o old new s is h = rw is h
whole_tells x (Err e) o old new s is h = rw is h

-- A script is served line by line.
use Rattle.std.proofs.Common.{◌≡◌, ℕ, zero, suc, ◌<◌, true, false, ltb, List, [], ◌∷◌, ◌++◌, length, refl, sym, ap, ◌∙◌, arith, inl, inr, append_assoc, length-append}
use Rattle.std.specs.List.{slice_split, onto_first}
use Rattle.std.specs.Prelude.{◌==◌}
use Rattle.std.proofs.lemmas.Bool.{cases_Bool, lt-ltb}
use Rattle.std.proofs.lemmas.Bool.Decides.{nat_tests}
use Rattle.std.proofs.lemmas.List.{append-nil}
use Rattle.std.proofs.lemmas.List.Splits.{slice_split-cons_yes, slice_split-cons_no}
use Rattle.script_model.specs.declared.line_fault.LineFault.{LineFault}
use Rattle.script_model.specs.declared.line_fault.LineFault.TheVariants as faults
use Rattle.script_model.specs.declared.limits.TheConstants.{MOST_LINE_BYTES}
use Rattle.script_model.specs.Lexing.{is_newline, without_last_empty, script_lines}
use Rattle.script_model.specs.State.{Script}
use Rattle.script_model.specs.Texts.{fault_text}
use Rattle.script_model.specs.Execution.{Says, Stops, execution}
use Rattle.script_model.specs.Script.{Meaning, after_text, fault_meaning, end_meaning, next_line, meaning_from, meaning}
use Rattle.service.specs.Served.{Served, Settled, IsOneLine}

abbrev parts : List ℕ → List (List ℕ)
parts bytes = slice_split is_newline bytes

-- the first part, and the others
first_part : (bytes : List ℕ) → (first : List ℕ) × (others : List (List ℕ)) × (parts bytes ≡ first ∷ others)
first_part [] = ([], [], refl)
first_part (b ∷ bytes) =
    let rest = first_part bytes in
    elim (cases_Bool (is_newline b)) [
      | inl is ↦ ([], parts bytes, slice_split-cons_yes is_newline b bytes is)
      | inr not_is ↦ (b ∷ rest.0, rest.1, slice_split-cons_no is_newline b bytes not_is ∙ ap (λ (ps : List (List ℕ)). onto_first b ps) rest.2)
    ]

split_line : (line left : List ℕ) → IsOneLine line → parts (line ++ (10 ∷ left)) ≡ line ∷ parts left
split_line [] left one = slice_split-cons_yes is_newline 10 left refl
split_line (b ∷ line) left one =
    slice_split-cons_no is_newline b (line ++ (10 ∷ left)) one.0 ∙ ap (λ (ps : List (List ℕ)). onto_first b ps) (split_line line left one.1)

keeps_first : (line : List ℕ) (others : List (List ℕ)) (left : List ℕ) → others ≡ parts left → without_last_empty (line ∷ others) ≡ line ∷ without_last_empty others
keeps_first line [] left h =
    let first = first_part left in
    absurd (let e : [] ≡ first.0 ∷ first.1 = h ∙ first.2 in cc)
keeps_first line (o ∷ os) left h = refl

-- a line with its end comes first
pub lines_first : (line left : List ℕ) → IsOneLine line → script_lines (line ++ (10 ∷ left)) ≡ line ∷ script_lines left
lines_first line left one = rw (split_line line left one) (keeps_first line (parts left) left refl)

after_after : (a b : List ℕ) (o : Meaning) → after_text a (after_text b o) ≡ after_text (a ++ b) o
after_after a b o = ap (λ (t : List ℕ). record { text = t; ending = o.ending }) (sym (append_assoc a b o.text))

-- more is read
pub served_more : (read said : List ℕ) (s : Script) (left more : List ℕ) → Served read said s left → Served (read ++ more) said s (left ++ more)
served_more read said s left more h rest =
    let first : (read ++ more) ++ rest ≡ read ++ (more ++ rest) = append_assoc read more rest in
    let second : (left ++ more) ++ rest ≡ left ++ (more ++ rest) = append_assoc left more rest in
    rw (first, second) (h (more ++ rest))

-- what follows from the first line
served_at : (read said line left : List ℕ) (s : Script) (rest : List ℕ) → Served read said s (line ++ (10 ∷ left)) → IsOneLine line → meaning (read ++ rest) ≡ after_text said (meaning_from s (line ∷ script_lines (left ++ rest)))
served_at read said line left s rest h one =
    let joined : (line ++ (10 ∷ left)) ++ rest ≡ line ++ (10 ∷ (left ++ rest)) = append_assoc line (10 ∷ left) rest in
    let lines : script_lines ((line ++ (10 ∷ left)) ++ rest) ≡ line ∷ script_lines (left ++ rest) = ap (λ (bytes : List ℕ). script_lines bytes) joined ∙ lines_first line (left ++ rest) one in
    h rest ∙ ap (λ (ls : List (List ℕ)). after_text said (meaning_from s ls)) lines

-- a line that was executed
pub served_line : (read said line left : List ℕ) (s : Script) (text : List ℕ) (next : Script) → Served read said s (line ++ (10 ∷ left)) → IsOneLine line → execution s line ≡ Says text next → Served read (said ++ text) (next_line s.line next) left
served_line read said line left s text next h one says rest =
    let here = served_at read said line left s rest h one in
    let goes : meaning_from s (line ∷ script_lines (left ++ rest)) ≡ after_text text (meaning_from (next_line s.line next) (script_lines (left ++ rest))) = rw says refl in
    here ∙ ap (λ (o : Meaning). after_text said o) goes ∙ after_after said text (meaning_from (next_line s.line next) (script_lines (left ++ rest)))

pub served_step : (read said line left : List ℕ) (s : Script) (text : List ℕ) (behind next : Script) → Served read said s (line ++ (10 ∷ left)) → IsOneLine line → execution s line ≡ Says text behind → next ≡ next_line s.line behind → Served read (said ++ text) next left
served_step read said line left s text behind next h one says is =
    rw is (served_line read said line left s text behind h one says)

-- a line with a fault settles the script
pub served_fault : (read said line left : List ℕ) (s : Script) (fault : LineFault) → Served read said s (line ++ (10 ∷ left)) → IsOneLine line → execution s line ≡ Stops fault → Settled read (said ++ fault_text fault s.line)
served_fault read said line left s fault h one fails rest =
    let here = served_at read said line left s rest h one in
    let goes : meaning_from s (line ∷ script_lines (left ++ rest)) ≡ fault_meaning fault s.line = rw fails refl in
    here ∙ ap (λ (o : Meaning). after_text said o) goes

-- bytes that end no line begin the first part
parts_begin : (left rest : List ℕ) → IsOneLine left → (first : List ℕ) × (others : List (List ℕ)) × (parts (left ++ rest) ≡ (left ++ first) ∷ others)
parts_begin [] rest one = first_part rest
parts_begin (b ∷ left) rest one =
    let more = parts_begin left rest one.1 in
    (more.0, more.1, slice_split-cons_no is_newline b (left ++ rest) one.0 ∙ ap (λ (ps : List (List ℕ)). onto_first b ps) more.2)

keeps_some : (b : ℕ) (line : List ℕ) (others : List (List ℕ)) → without_last_empty ((b ∷ line) ∷ others) ≡ (b ∷ line) ∷ without_last_empty others
keeps_some b line [] = refl
keeps_some b line (o ∷ os) = refl

-- so does the first line
lines_begin : (left rest : List ℕ) → 0 < length left → IsOneLine left → (first : List ℕ) × (others : List (List ℕ)) × (script_lines (left ++ rest) ≡ (left ++ first) ∷ others)
lines_begin [] rest some one = absurd (omega arith)
lines_begin (b ∷ left) rest some one =
    let begin = parts_begin (b ∷ left) rest one in
    (begin.0, without_last_empty begin.1, ap (λ (ps : List (List ℕ)). without_last_empty ps) begin.2 ∙ keeps_some b (left ++ begin.0) begin.1)

too_long : (s : Script) (line : List ℕ) → MOST_LINE_BYTES < length line → execution s line ≡ Stops faults.LongLine
unfolding execution
too_long s line long =
    let test : ltb MOST_LINE_BYTES (length line) ≡ true = lt-ltb _ _ long in
    rw test refl

-- a line that is too long settles the script, though its end has not come
pub served_long : (read said left : List ℕ) (s : Script) → Served read said s left → IsOneLine left → MOST_LINE_BYTES < length left → Settled read (said ++ fault_text faults.LongLine s.line)
served_long read said left s h one long rest =
    let begin = lines_begin left rest (omega arith) one in
    let here : meaning (read ++ rest) ≡ after_text said (meaning_from s ((left ++ begin.0) ∷ begin.1)) = h rest ∙ ap (λ (ls : List (List ℕ)). after_text said (meaning_from s ls)) begin.2 in
    let fails = too_long s (left ++ begin.0) (omega (arith, length-append left begin.0)) in
    let goes : meaning_from s ((left ++ begin.0) ∷ begin.1) ≡ fault_meaning faults.LongLine s.line = rw fails refl in
    here ∙ ap (λ (o : Meaning). after_text said o) goes

parts_one : (left : List ℕ) → IsOneLine left → parts left ≡ left ∷ []
parts_one [] one = refl
parts_one (b ∷ left) one =
    slice_split-cons_no is_newline b left one.0 ∙ ap (λ (ps : List (List ℕ)). onto_first b ps) (parts_one left one.1)

lines_one : (left : List ℕ) → IsOneLine left → 0 < length left → script_lines left ≡ left ∷ []
lines_one [] one some = absurd (omega arith)
lines_one (b ∷ left) one some = ap (λ (ps : List (List ℕ)). without_last_empty ps) (parts_one (b ∷ left) one)

-- the input is at its end
at_end : (read said left : List ℕ) (s : Script) → Served read said s left → meaning read ≡ after_text said (meaning_from s (script_lines left))
at_end read said left s h =
    ap (λ (bytes : List ℕ). meaning bytes) (sym (append-nil read)) ∙ h [] ∙ ap (λ (bytes : List ℕ). after_text said (meaning_from s (script_lines bytes))) (append-nil left)

pub served_end : (read said : List ℕ) (s : Script) → Served read said s [] → meaning read ≡ after_text said (end_meaning s.block)
served_end read said s h = at_end read said [] s h

-- and its last line lacks its end
pub served_last : (read said left : List ℕ) (s : Script) (text : List ℕ) (next : Script) → Served read said s left → IsOneLine left → 0 < length left → execution s left ≡ Says text next → meaning read ≡ after_text (said ++ text) (end_meaning next.block)
served_last read said left s text next h one some says =
    let lines = ap (λ (ls : List (List ℕ)). after_text said (meaning_from s ls)) (lines_one left one some) in
    let goes : meaning_from s (left ∷ []) ≡ after_text text (end_meaning next.block) = rw says refl in
    at_end read said left s h ∙ lines ∙ ap (λ (o : Meaning). after_text said o) goes ∙ after_after said text (end_meaning next.block)

pub served_last_fault : (read said left : List ℕ) (s : Script) (fault : LineFault) → Served read said s left → IsOneLine left → 0 < length left → execution s left ≡ Stops fault → meaning read ≡ after_text said (fault_meaning fault s.line)
served_last_fault read said left s fault h one some fails =
    let lines = ap (λ (ls : List (List ℕ)). after_text said (meaning_from s ls)) (lines_one left one some) in
    let goes : meaning_from s (left ∷ []) ≡ fault_meaning fault s.line = rw fails refl in
    at_end read said left s h ∙ lines ∙ ap (λ (o : Meaning). after_text said o) goes

-- bytes that are not none are some
pub some_left : (left : List ℕ) → false ≡ (length left == 0) → 0 < length left
some_left [] h = absurd cc
some_left (b ∷ left) h = omega (arith)

no_count : (n : ℕ) → true ≡ (n == 0) → n ≡ 0
no_count zero h = refl
no_count (suc n) h = grind (arith, nat_tests)

no_items : (left : List ℕ) → length left ≡ 0 → left ≡ []
no_items [] h = refl
no_items (b ∷ left) h = absurd (omega (arith, h))

-- or they are none
pub none_left : (left : List ℕ) → true ≡ (length left == 0) → left ≡ []
none_left left h = no_items left (no_count (length left) h)

-- A line of a word and operands, read.
use Rattle.std.proofs.Common.{◌≡◌, ◌-◌, ℕ, suc, Bool, true, false, List, [], ◌∷◌, ◌++◌, map, take, drop, refl, ap, ◌∙◌, append-nil, arith}
use Rattle.std.specs.Prelude.{◌==◌, ◌&&◌, length, not, Some, option_map, Ok, ⊤, slice_index}
use Rattle.std.specs.List.{list_all, position_or_len}
use Rattle.std.proofs.lemmas.Bool.{and_parts}
use Rattle.std.proofs.lemmas.Bool.Decides.{nat_tests}
use Rattle.std.proofs.lemmas.List.{take_all, length-append}
use Rattle.std.proofs.Math.Seq.{take-append_seam, drop-append_seam}
use Rattle.bpf_asm.specs.declared.reading.word.Word.{Word}
use Rattle.bpf_asm.specs.Lexing.{is_blank, is_letter, is_word_byte, is_empty, is_word, is_name, parts, without_end, without_front, without_blanks, said_part, Argument, argument, Arguments, all_arguments, argument_list, arguments}
use Rattle.bpf_asm.specs.Words.{word}
use Rattle.bpf_asm.specs.Statements.{Labelled, item, item_of_text, statement, word_line, ends_in_colon, label_line}
use Rattle.bpf_asm.specs.Writing.{others_text, operands_text}
use Rattle.bpf_asm.proofs.Solids.{is_solid, is_inner, word_solid, solid_inner, solid_not_blank, solid_no_comma, not_true, all_weaker, all_both, split_at, split_whole, position_none, position_at, last_or, last_behind, last_all, last_index}

-- ---- blanks at the ends

and_no : (a b : Bool) → b ≡ false → (a && b) ≡ false
and_no true false is = refl
and_no false b is = refl
and_no true true is = absurd (cc)

not_all_blank : (b : ℕ) (text : List ℕ) → is_blank (last_or b text) ≡ false → list_all is_blank (b ∷ text) ≡ false
not_all_blank b [] other = simp other
not_all_blank b (c ∷ text) other = and_no (is_blank b) (list_all is_blank (c ∷ text)) (not_all_blank c text other)

end_same : (b : ℕ) (text : List ℕ) → is_blank (last_or b text) ≡ false → without_end (b ∷ text) ≡ b ∷ text
end_same b [] other =
    let some = not_all_blank b [] other in
    simp some
end_same b (c ∷ text) other =
    let some = not_all_blank b (c ∷ text) other in
    let rest = end_same c text other in
    simp (some, rest)

pub trim_same : (b : ℕ) (text : List ℕ) → is_blank b ≡ false → is_blank (last_or b text) ≡ false → without_blanks (b ∷ text) ≡ b ∷ text
trim_same b text first last =
    let front : without_front (b ∷ text) ≡ b ∷ text = simp first in
    ap without_end front ∙ end_same b text last

-- a line without a comment, and without blanks at its ends, is said whole
pub said_same : (b : ℕ) (text : List ℕ) → list_all is_inner (b ∷ text) ≡ true → is_blank b ≡ false → is_blank (last_or b text) ≡ false → said_part (b ∷ text) ≡ b ∷ text
said_same b text inner first last =
    let none = all_weaker is_inner (λ c. not (c == 59)) (b ∷ text) (λ c is. (and_parts (not (c == 10)) (not (c == 59)) is).1) inner in
    let whole : take (position_or_len (λ c. c == 59) (b ∷ text)) (b ∷ text) ≡ b ∷ text = take_all (position_or_len (λ c. c == 59) (b ∷ text)) (b ∷ text) (omega (arith, position_none (λ c. c == 59) (b ∷ text) none)) in
    ap without_blanks whole ∙ trim_same b text first last

pub colon_is : (b : ℕ) (text : List ℕ) → ends_in_colon (b ∷ text) ≡ (last_or b text == 58)
colon_is b text =
    let e : suc (length text) - 1 ≡ length text = omega arith in
    ap (λ (n : ℕ). slice_index (b ∷ text) n == 58) e ∙ ap (λ (n : ℕ). n == 58) (last_index 0 b text)

-- ---- operands

-- a text that is read as an argument, and that nothing cuts
pub record Reads (text : List ℕ) (a : Argument) : Type 0 where
  pub is_a : argument text ≡ Some a
  pub some : is_empty text ≡ false
  pub solid : list_all is_solid text ≡ true

abbrev pub AllRead : List (List ℕ) → List Argument → Type 0
AllRead [] [] = ⊤
AllRead [] (a ∷ as') = ⊥
AllRead (text ∷ texts) [] = ⊥
AllRead (text ∷ texts) (a ∷ as') = Reads text a × AllRead texts as'

no_commas : (text : List ℕ) → list_all is_solid text ≡ true → list_all (λ b. not (b == 44)) text ≡ true
no_commas text solid = all_weaker is_solid (λ b. not (b == 44)) text solid_no_comma solid

parts_others : (text : List ℕ) (texts : List (List ℕ)) (as' : List Argument) → list_all is_solid text ≡ true → AllRead texts as' → parts 44 (text ++ others_text texts) ≡ text ∷ map (λ o. 32 ∷ o) texts
parts_others text [] as' solid read =
    ap (parts 44) (append-nil text) ∙ split_whole (λ b. b == 44) text (no_commas text solid)
parts_others text (o ∷ texts) [] solid read = absurd read
parts_others text (o ∷ texts) (a ∷ as') solid read =
    let rest = parts_others o texts as' read.0.solid read.1 in
    split_at (λ b. b == 44) text 44 (32 ∷ (o ++ others_text texts)) (no_commas text solid) refl ∙ simp rest

trim_blank : (text : List ℕ) (a : Argument) → Reads text a → without_blanks (32 ∷ text) ≡ text
trim_blank [] a reads = absurd (let e = reads.some in cc)
trim_blank (b ∷ text) a reads =
    let solid = and_parts (is_solid b) (list_all is_solid text) reads.solid in
    trim_same b text (not_true (is_blank b) (solid_not_blank b solid.0)) (not_true (is_blank (last_or b text)) (solid_not_blank (last_or b text) (last_all is_solid b text solid.0 solid.1)))

all_read : (texts : List (List ℕ)) (as' : List Argument) → AllRead texts as' → all_arguments (map (λ o. 32 ∷ o) texts) ≡ Some as'
all_read [] [] read = refl
all_read [] (a ∷ as') read = absurd read
all_read (text ∷ texts) [] read = absurd read
all_read (text ∷ texts) (a ∷ as') read =
    let first = ap argument (trim_blank text a read.0) ∙ read.0.is_a in
    let others = all_read texts as' read.1 in
    simp (first, others)

pub arguments_read : (texts : List (List ℕ)) (as' : List Argument) → AllRead texts as' → arguments (operands_text texts) ≡ Some (argument_list as')
arguments_read [] [] read = refl
arguments_read [] (a ∷ as') read = absurd read
arguments_read (text ∷ texts) [] read = absurd read
arguments_read (text ∷ texts) (a ∷ as') read =
    let cut = parts_others text texts as' read.0.solid read.1 in
    let whole : parts 44 (32 ∷ (text ++ others_text texts)) ≡ map (λ o. 32 ∷ o) (text ∷ texts) = simp cut in
    ap (λ (x : List (List ℕ)). option_map argument_list (all_arguments x)) whole ∙ ap (option_map argument_list) (all_read (text ∷ texts) (a ∷ as') read)

-- ---- the whole line

pub inner_all : (text : List ℕ) → list_all is_solid text ≡ true → list_all is_inner text ≡ true
inner_all text solid = all_weaker is_solid is_inner text solid_inner solid

inner_others : (texts : List (List ℕ)) (as' : List Argument) → AllRead texts as' → list_all is_inner (others_text texts) ≡ true
inner_others [] as' read = refl
inner_others (text ∷ texts) [] read = absurd read
inner_others (text ∷ texts) (a ∷ as') read = all_both is_inner text (others_text texts) (inner_all text read.0.solid) (inner_others texts as' read.1)

inner_operands : (texts : List (List ℕ)) (as' : List Argument) → AllRead texts as' → list_all is_inner (operands_text texts) ≡ true
inner_operands [] as' read = refl
inner_operands (text ∷ texts) [] read = absurd read
inner_operands (text ∷ texts) (a ∷ as') read = all_both is_inner text (others_text texts) (inner_all text read.0.solid) (inner_others texts as' read.1)

last_others : (b : ℕ) (text : List ℕ) (texts : List (List ℕ)) (as' : List Argument) → is_solid b ≡ true → list_all is_solid text ≡ true → AllRead texts as' → is_solid (last_or b (text ++ others_text texts)) ≡ true
last_others b text [] as' first solid read = ap (λ (x : List ℕ). is_solid (last_or b x)) (append-nil text) ∙ last_all is_solid b text first solid
last_others b text (o ∷ texts) [] first solid read = absurd read
last_others b text ([] ∷ texts) (a ∷ as') first solid read = absurd (let e = read.0.some in cc)
last_others b text ((c ∷ o) ∷ texts) (a ∷ as') first solid read =
    let parts = and_parts (is_solid c) (list_all is_solid o) read.0.solid in
    ap is_solid (last_behind b text 44 (32 ∷ ((c ∷ o) ++ others_text texts))) ∙ last_others c o texts as' parts.0 parts.1 read.1

last_operands : (b : ℕ) (text : List ℕ) (texts : List (List ℕ)) (as' : List Argument) → is_solid b ≡ true → list_all is_solid text ≡ true → AllRead texts as' → is_solid (last_or b (text ++ operands_text texts)) ≡ true
last_operands b text [] as' first solid read = ap (λ (x : List ℕ). is_solid (last_or b x)) (append-nil text) ∙ last_all is_solid b text first solid
last_operands b text (o ∷ texts) [] first solid read = absurd read
last_operands b text ([] ∷ texts) (a ∷ as') first solid read = absurd (let e = read.0.some in cc)
last_operands b text ((c ∷ o) ∷ texts) (a ∷ as') first solid read =
    let parts = and_parts (is_solid c) (list_all is_solid o) read.0.solid in
    ap is_solid (last_behind b text 32 ((c ∷ o) ++ others_text texts)) ∙ last_others c o texts as' parts.0 parts.1 read.1

no_blanks : (text : List ℕ) → list_all is_solid text ≡ true → list_all (λ b. not (is_blank b)) text ≡ true
no_blanks text solid = all_weaker is_solid (λ b. not (is_blank b)) text solid_not_blank solid

blank_at : (text : List ℕ) (texts : List (List ℕ)) → list_all is_solid text ≡ true → position_or_len is_blank (text ++ operands_text texts) ≡ length text
blank_at text [] solid = ap (position_or_len is_blank) (append-nil text) ∙ position_none is_blank text (no_blanks text solid)
blank_at text (o ∷ texts) solid = position_at is_blank text 32 (o ++ others_text texts) (no_blanks text solid) refl

solid_word : (b : ℕ) (text : List ℕ) → is_word (b ∷ text) ≡ true → list_all is_solid (b ∷ text) ≡ true
solid_word b text is =
    let parts = and_parts (is_letter b) (list_all is_word_byte text) is in
    let letter : is_word_byte b ≡ true = simp parts.0 in
    let first = word_solid b letter in
    let rest = all_weaker is_word_byte is_solid text word_solid parts.1 in
    simp (first, rest)

-- a line's text has no line end
pub line_inner : (w : List ℕ) (texts : List (List ℕ)) (as' : List Argument) → is_word w ≡ true → AllRead texts as' → list_all is_inner (w ++ operands_text texts) ≡ true
line_inner [] texts as' is read = absurd (cc)
line_inner (b ∷ w) texts as' is read = all_both is_inner (b ∷ w) (operands_text texts) (inner_all (b ∷ w) (solid_word b w is)) (inner_operands texts as' read)

-- what a line's text begins and ends with
pub record IsLine (b : ℕ) (text : List ℕ) : Type 0 where
  pub inner : list_all is_inner (b ∷ text) ≡ true
  pub first : is_solid b ≡ true
  pub last : is_solid (last_or b text) ≡ true

solid_no_colon : (b : ℕ) → is_solid b ≡ true → (b == 58) ≡ false
solid_no_colon b is = grind (arith, nat_tests)

line_said : (b : ℕ) (text : List ℕ) → IsLine b text → item (b ∷ text) ≡ word_line (take (position_or_len is_blank (b ∷ text)) (b ∷ text)) (drop (position_or_len is_blank (b ∷ text)) (b ∷ text))
line_said b text line =
    let same = said_same b text line.inner (not_true (is_blank b) (solid_not_blank b line.first)) (not_true (is_blank (last_or b text)) (solid_not_blank (last_or b text) line.last)) in
    let colon : ends_in_colon (b ∷ text) ≡ false = colon_is b text ∙ solid_no_colon (last_or b text) line.last in
    ap item_of_text same ∙ simp colon

-- a word and operands say its statement
pub item_statement : (w : List ℕ) (k : Word) (texts : List (List ℕ)) (as' : List Argument) → is_word w ≡ true → word w ≡ Some k → AllRead texts as' → item (w ++ operands_text texts) ≡ statement k (argument_list as')
item_statement [] k texts as' is known read = absurd (cc)
item_statement (b ∷ w) k texts as' is known read =
    let solid = solid_word b w is in
    let parts = and_parts (is_solid b) (list_all is_solid w) solid in
    let line : IsLine b (w ++ operands_text texts) = record {
      inner = all_both is_inner (b ∷ w) (operands_text texts) (inner_all (b ∷ w) solid) (inner_operands texts as' read);
      first = parts.0;
      last = last_operands b w texts as' parts.0 parts.1 read;
    } in
    let at = blank_at (b ∷ w) texts solid in
    let front : take (position_or_len is_blank ((b ∷ w) ++ operands_text texts)) ((b ∷ w) ++ operands_text texts) ≡ b ∷ w = ap (λ (n : ℕ). take n ((b ∷ w) ++ operands_text texts)) at ∙ take-append_seam (b ∷ w) (operands_text texts) in
    let behind : drop (position_or_len is_blank ((b ∷ w) ++ operands_text texts)) ((b ∷ w) ++ operands_text texts) ≡ operands_text texts = ap (λ (n : ℕ). drop n ((b ∷ w) ++ operands_text texts)) at ∙ drop-append_seam (b ∷ w) (operands_text texts) in
    line_said b (w ++ operands_text texts) line ∙ ap (λ (x : List ℕ). word_line x (drop (position_or_len is_blank ((b ∷ w) ++ operands_text texts)) ((b ∷ w) ++ operands_text texts))) front ∙ ap (word_line (b ∷ w)) behind ∙ spoken (b ∷ w) (operands_text texts) k (argument_list as') is known (arguments_read texts as' read)
  where
    spoken : (w rest : List ℕ) (k : Word) (as' : Arguments) → is_word w ≡ true → word w ≡ Some k → arguments rest ≡ Some as' → word_line w rest ≡ statement k as'
    spoken w rest k as' is known read = simp (is, known, read)

-- a name and a colon say a label
pub item_label : (name : List ℕ) → is_name name ≡ true → item (name ++ (58 ∷ [])) ≡ Ok (Labelled name)
item_label [] is = absurd (cc)
item_label (b ∷ name) is =
    let solid = solid_word b name (and_parts (is_word (b ∷ name)) _ is).0 in
    let parts = and_parts (is_solid b) (list_all is_solid name) solid in
    let last : last_or b (name ++ (58 ∷ [])) ≡ 58 = last_behind b name 58 [] in
    let no_blank : is_blank (last_or b (name ++ (58 ∷ []))) ≡ false = ap is_blank last in
    let same = said_same b (name ++ (58 ∷ [])) (all_both is_inner (b ∷ name) (58 ∷ []) (inner_all (b ∷ name) solid) refl) (not_true (is_blank b) (solid_not_blank b parts.0)) no_blank in
    let colon : ends_in_colon ((b ∷ name) ++ (58 ∷ [])) ≡ true = colon_is b (name ++ (58 ∷ [])) ∙ ap (λ (n : ℕ). n == 58) last in
    let long : length ((b ∷ name) ++ (58 ∷ [])) - 1 ≡ length (b ∷ name) = omega (arith, length-append (b ∷ name) (58 ∷ [])) in
    let front : take (length ((b ∷ name) ++ (58 ∷ [])) - 1) ((b ∷ name) ++ (58 ∷ [])) ≡ b ∷ name = ap (λ (n : ℕ). take n ((b ∷ name) ++ (58 ∷ []))) long ∙ take-append_seam (b ∷ name) (58 ∷ []) in
    ap item_of_text same ∙ (simp colon (ap label_line front ∙ simp is))

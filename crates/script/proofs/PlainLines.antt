-- A line of a batch that says something has allowed bytes alone, so its bytes need no test.
use Rattle.std.proofs.Common.{◌≡◌, ℕ, Bool, true, false, not, List, [], ◌∷◌, filter, Option, Some, None, refl, sym, ap, ◌∙◌, inl, inr, arith}
use Rattle.std.specs.Prelude.{◌&&◌, ◌≤◌, nat_lt, length, codes, option_map}
use Rattle.std.specs.List.{slice_split, list_all}
use Rattle.std.proofs.lemmas.Bool.{cases_Bool}
use Rattle.std.proofs.lemmas.Bool.Decides.{nat_tests}
use Rattle.script_model.specs.Lexing.{is_blank, is_digit, is_empty, is_plain, words, same_bytes, number}
use Rattle.script_model.specs.declared.limits.TheConstants.{MOST_LINE_BYTES}
use Rattle.script_model.specs.Parsing.{BatchLine, batch_line, pair_of, insert_line, remove_line}
use Rattle.script_model.specs.State.{Script, OpenBatch, BatchBlock}
use Rattle.script_model.specs.Execution.{execution, inside_batch}
use Rattle.script.proofs.WordLemmas.{same_bytes-true}

-- each word has allowed bytes alone
abbrev are_plain : List (List ℕ) → Bool
are_plain ws = list_all (list_all is_plain) ws

left_true : (a b : Bool) → (a && b) ≡ true → a ≡ true
left_true true b both = refl
left_true false b both = absurd cc

right_true : (a b : Bool) → (a && b) ≡ true → b ≡ true
right_true true b both = both
right_true false b both = absurd cc

blank_plain : (b : ℕ) → is_blank b ≡ true → is_plain b ≡ true
blank_plain b blank = grind (arith, nat_tests)

digit_plain : (b : ℕ) → is_digit b ≡ true → is_plain b ≡ true
digit_plain b digit = grind (arith, nat_tests)

digits_plain : (word : List ℕ) → list_all is_digit word ≡ true → list_all is_plain word ≡ true
digits_plain [] digits = refl
digits_plain (b ∷ word) digits =
    let first = digit_plain b (left_true (is_digit b) (list_all is_digit word) digits) in
    let others = digits_plain word (right_true (is_digit b) (list_all is_digit word) digits) in
    simp (first, others)

-- the parts of a line are one at least
record Split (line : List ℕ) : Type 0 where
  first : List ℕ
  others : List (List ℕ)
  is : slice_split is_blank line ≡ first ∷ others

split : (line : List ℕ) → Split line
split [] = record { first = []; others = []; is = refl }
split (b ∷ line) = elim (cases_Bool (is_blank b)) [
  | inl blank ↦ record { first = []; others = slice_split is_blank line; is = simp blank }
  | inr other ↦ (let rest = split line in record { first = b ∷ rest.first; others = rest.others; is = simp (other, rest.is) })
]

-- a line whose parts are plain is plain
parts_plain : (line : List ℕ) → are_plain (slice_split is_blank line) ≡ true → list_all is_plain line ≡ true
parts_plain [] plain = refl
parts_plain (b ∷ line) plain = elim (cases_Bool (is_blank b)) [
  | inl blank ↦ (let here = blank_plain b blank in
      let rest : are_plain (slice_split is_blank line) ≡ true = simp blank at plain in
      let others = parts_plain line rest in
      simp (here, others))
  | inr other ↦ (let rest = split line in
      let both : ((is_plain b && list_all is_plain rest.first) && are_plain rest.others) ≡ true = simp (other, rest.is) at plain in
      let ahead = left_true (is_plain b && list_all is_plain rest.first) (are_plain rest.others) both in
      let behind = right_true (is_plain b && list_all is_plain rest.first) (are_plain rest.others) both in
      let here = left_true (is_plain b) (list_all is_plain rest.first) ahead in
      let first = right_true (is_plain b) (list_all is_plain rest.first) ahead in
      let all : are_plain (slice_split is_blank line) ≡ true = rw rest.is (simp (first, behind)) in
      let others = parts_plain line all in
      simp (here, others))
]

-- parts without a byte are plain
filled_plain : (parts : List (List ℕ)) → are_plain (filter (λ word. not (is_empty word)) parts) ≡ true → are_plain parts ≡ true
filled_plain [] plain = refl
filled_plain ([] ∷ parts) plain = filled_plain parts plain
filled_plain ((b ∷ word) ∷ parts) plain =
    let first = left_true (list_all is_plain (b ∷ word)) (are_plain (filter (λ w. not (is_empty w)) parts)) plain in
    let rest = filled_plain parts (right_true (list_all is_plain (b ∷ word)) (are_plain (filter (λ w. not (is_empty w)) parts)) plain) in
    simp (first, rest)

-- a number is digits
number_plain : (word : List ℕ) (n : ℕ) → number word ≡ Some n → list_all is_plain word ≡ true
number_plain word n is = elim (cases_Bool (not (is_empty word) && list_all is_digit word)) [
  | inl digits ↦ digits_plain word (right_true (not (is_empty word)) (list_all is_digit word) digits)
  | inr other ↦ absurd (let none : None ≡ Some n = simp other at is in cc)
]

pair_plain : (source target : List ℕ) (s t : Option ℕ) (pair : ℕ × ℕ) → number source ≡ s → number target ≡ t → pair_of s t ≡ Some pair
    → (list_all is_plain source ≡ true) × (list_all is_plain target ≡ true)
pair_plain source target (Some n) (Some m) pair s t is = (number_plain source n s, number_plain target m t)
pair_plain source target None t pair s _ is = absurd cc
pair_plain source target (Some n) None pair s t is = absurd cc

mapped_pair : (make : ℕ × ℕ → BatchLine) (pair : Option (ℕ × ℕ)) (said : BatchLine) → option_map make pair ≡ Some said → (p : ℕ × ℕ) × (pair ≡ Some p)
mapped_pair make None said is = absurd cc
mapped_pair make (Some p) said is = (p, refl)

edit_plain : (sign source target : List ℕ) (make : ℕ × ℕ → BatchLine) (said : BatchLine) → list_all is_plain sign ≡ true
    → option_map make (pair_of (number source) (number target)) ≡ Some said → are_plain (sign ∷ source ∷ target ∷ []) ≡ true
edit_plain sign source target make said plain is =
    let pair = mapped_pair make (pair_of (number source) (number target)) said is in
    let both = pair_plain source target (number source) (number target) pair.0 refl refl pair.1 in
    simp (plain, both.0, both.1)

word_plain : (word text : List ℕ) → list_all is_plain text ≡ true → same_bytes word text ≡ true → list_all is_plain word ≡ true
word_plain word text plain same = ap (list_all is_plain) (same_bytes-true word text same) ∙ plain

said_plain : (ws : List (List ℕ)) (said : BatchLine) → batch_line ws ≡ Some said → are_plain ws ≡ true
said_plain [] said is = absurd cc
said_plain (word ∷ []) said is = elim (cases_Bool (same_bytes word (codes "end"))) [
  | inl end ↦ (let plain = word_plain word (codes "end") refl end in simp plain)
  | inr other ↦ absurd (let none : None ≡ Some said = simp other at is in cc)
]
said_plain (sign ∷ source ∷ []) said is = absurd cc
said_plain (sign ∷ source ∷ target ∷ []) said is = elim (cases_Bool (same_bytes sign (codes "+"))) [
  | inl plus ↦ edit_plain sign source target insert_line said (word_plain sign (codes "+") refl plus) (simp plus at is)
  | inr other ↦ elim (cases_Bool (same_bytes sign (codes "-"))) [
    | inl minus ↦ edit_plain sign source target remove_line said (word_plain sign (codes "-") refl minus) (simp (other, minus) at is)
    | inr neither ↦ absurd (let none : None ≡ Some said = simp (other, neither) at is in cc)
  ]
]
said_plain (sign ∷ source ∷ target ∷ word ∷ ws) said is = absurd cc

-- a line with another byte says nothing
none_said : (line : List ℕ) (said : Option BatchLine) → batch_line (words line) ≡ said → list_all is_plain line ≡ false → batch_line (words line) ≡ None
none_said line None is other = is
none_said line (Some said) is other =
    absurd (let plain = parts_plain line (filled_plain (slice_split is_blank line) (said_plain (words line) said is)) in
    let no : true ≡ false = sym plain ∙ other in cc)

not_said : (line : List ℕ) → list_all is_plain line ≡ false → batch_line (words line) ≡ None
not_said line other = none_said line (batch_line (words line)) refl other

-- what a line does where a batch is open
pub batch_execution : (s : Script) (bytes : List ℕ) (begun : OpenBatch) → s.block ≡ Some (BatchBlock begun) → length bytes ≤ MOST_LINE_BYTES
    → execution s bytes ≡ inside_batch (words bytes) begun s
unfolding execution
batch_execution s bytes begun is_open short =
    let long : nat_lt MOST_LINE_BYTES (length bytes) ≡ false = grind (arith, nat_tests) in
    elim (cases_Bool (list_all is_plain bytes)) [
      | inl plain ↦ rw (long, plain, is_open) refl
      | inr other ↦ rw (long, other, not_said bytes other) refl
    ]

-- Arguments between commas.
use Rattle.std.proofs.Common.{◌≡◌, ◌≢◌, ℕ, Bool, true, false, List, [], ◌∷◌, refl, sym, ap, ◌∙◌, inl, inr, arith}
use Rattle.std.specs.Prelude.{length, ◌==◌, Option, Some, None, option_map, is_some}
use Rattle.std.specs.List.{position_or_len}
use Rattle.std.proofs.lemmas.Bool.{cases_lt}
use Rattle.std.specs.Borrow.{Bor}
use Rattle.std.proofs.lemmas.Bool.Decides.{nat_tests}
use Rattle.bpf_asm.specs.Said.{parts_behind}
use Rattle.bpf_asm.specs.Lexing.{is_empty, arguments, Argument, argument, without_blanks, all_arguments, with_argument, parts, argument_list, More}
use Rattle.bpf_asm.proofs.Parts.{split_none, split_first}

with_some : (first : Option Argument) (rest : Option (List Argument)) → with_argument first rest ≢ Some []
with_some None rest = λ e. cc
with_some (Some a) None = λ e. cc
with_some (Some a) (Some others) = λ e. cc

all_some : (first : List ℕ) (others : List (List ℕ)) (texts : List (List ℕ)) → texts ≡ first ∷ others → all_arguments texts ≢ Some []
all_some first others texts is = λ e. with_some (argument (without_blanks first)) (all_arguments others) (sym (ap all_arguments is) ∙ e)

-- a text has a part, so it has an argument where it has any
pub never_empty : (text : List ℕ) → all_arguments (parts 44 text) ≢ Some []
never_empty text = elim (cases_lt (position_or_len (λ (b : ℕ). b == 44) text) (length text)) [
  | inl some ↦ all_some _ _ (parts 44 text) (split_first (λ (b : ℕ). b == 44) text some)
  | inr none ↦ all_some text [] (parts 44 text) (split_none (λ (b : ℕ). b == 44) text none)
]

gathered_more : (a b c : Argument) (rest : Option (List Argument)) → is_some rest ≡ true → rest ≢ Some [] → option_map argument_list (with_argument (Some a) (with_argument (Some b) (with_argument (Some c) rest))) ≡ Some More
gathered_more a b c None some more = absurd (cc)
gathered_more a b c (Some []) some more = absurd (more refl)
gathered_more a b c (Some (d ∷ others)) some more = refl

pub four : (a b c : Argument) (text : List ℕ) → is_some (all_arguments (parts 44 text)) ≡ true → option_map argument_list (with_argument (Some a) (with_argument (Some b) (with_argument (Some c) (all_arguments (parts 44 text))))) ≡ Some More
four a b c text some = gathered_more a b c (all_arguments (parts 44 text)) some (never_empty text)

some_text : (text : List ℕ) (none : Bool) → none ≡ (length text == 0) → none ≡ false → is_empty text ≡ false
some_text [] none is some = absurd (grind (arith, nat_tests))
some_text (b ∷ text) none is some = refl

-- one argument and those after the comma
behind : (text : List ℕ) (a : Argument) (q : Option (Bor (List ℕ))) (r : Bor (List ℕ)) → all_arguments (parts 44 text) ≡ with_argument (Some a) (all_arguments (parts_behind 44 q)) → q ≡ Some r → all_arguments (parts 44 text) ≡ with_argument (Some a) (all_arguments (parts 44 r.now))
behind text a q r first is = first ∙ ap (λ (o : Option (Bor (List ℕ))). with_argument (Some a) (all_arguments (parts_behind 44 o))) is

pub arguments_more : (text : List ℕ) (none : Bool) (a b c : Argument) (q q' q'' : Option (Bor (List ℕ))) (r r' r'' : Bor (List ℕ)) → none ≡ (length text == 0) → none ≡ false → all_arguments (parts 44 text) ≡ with_argument (Some a) (all_arguments (parts_behind 44 q)) → q ≡ Some r → all_arguments (parts 44 r.now) ≡ with_argument (Some b) (all_arguments (parts_behind 44 q')) → q' ≡ Some r' → all_arguments (parts 44 r'.now) ≡ with_argument (Some c) (all_arguments (parts_behind 44 q'')) → q'' ≡ Some r'' → is_some (all_arguments (parts 44 r''.now)) ≡ true → Some More ≡ arguments text
arguments_more text none a b c q q' q'' r r' r'' empty some first is second is' third is'' all =
    let whole = behind text a q r first is ∙ ap (with_argument (Some a)) (behind r.now b q' r' second is') ∙ ap (λ (o : Option (List Argument)). with_argument (Some a) (with_argument (Some b) o)) (behind r'.now c q'' r'' third is'') in
    sym (simp (some_text text none empty some) (ap (option_map argument_list) whole ∙ four a b c r''.now all))

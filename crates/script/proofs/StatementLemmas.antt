-- Lines outside blocks.
use Rattle.std.proofs.Common.{◌≡◌, ◌≢◌, ℕ, true, false, List, [], ◌∷◌, refl, sym, ◌∙◌, ap, inl, inr}
use Rattle.std.specs.Prelude.{map, Option, Some, None, option_map}
use Rattle.std.proofs.lemmas.Bool.{cases_Bool, and_parts, and_from}
use Rattle.std.proofs.lemmas.Option.{same_Some}
use Rattle.bpf_image.specs.Program.{without_table}
use Rattle.script_model.specs.Lexing.{number, hex, is_dash, is_name, is_column_name}
use Rattle.session_model.specs.Commands.{Asked, LoadProgram, SetColumn, PullRows, WriteColumn}
use Rattle.session_model.specs.declared.way.Way.{Way}
use Rattle.session_model.specs.declared.way.Way.TheVariants.{Pull}
use Rattle.script_model.specs.Parsing.{Statement, Asks, option_then, numbers, column_number, code_statement, image_statement, list_statement, column_statement, pull_to, write_to, statement}
use Rattle.script_model.specs.Execution.{is_comment}
use Rattle.script.specs.declared.reading.line.Statement.{Statement as CodeStatement}
use Rattle.script.specs.Said.{NoStatement, Makes, cut_asked, cut_number, cut_statement, cut_saying, said_statement, saying_of, found_statement}
use Rattle.script.specs.Reading.{cut_before, first_number, load_of, column_of}
use Rattle.script.proofs.NumberLemmas.{first_of}

-- ---- `code`

loaded_cut : (name : List ℕ) (value n : ℕ) (code : Option (List ℕ)) → cut_number value ≡ n → option_map cut_statement (option_then code (λ bytes. Some (Asks (LoadProgram name (without_table bytes value))))) ≡ option_then code (λ bytes. Some (Asks (LoadProgram name (without_table bytes n))))
loaded_cut name value n None is = refl
loaded_cut name value n (Some bytes) is = ap (λ m. Some (Asks (LoadProgram name (without_table bytes m)))) is

code_at : (name word digits : List ℕ) (value n : ℕ) → is_name name ≡ true → number word ≡ Some value → cut_number value ≡ n → option_map cut_statement (code_statement (name ∷ word ∷ digits ∷ [])) ≡ load_of name n digits
code_at name word digits value n named spells is = simp (named, spells) (loaded_cut name value n (hex digits) is)

pub code_statement-three : (name : List ℕ) (line : List (List ℕ)) (n : ℕ) (digits : List ℕ) (others : List (List ℕ)) → first_number line ≡ Some (n, digits ∷ others) → others ≡ [] → is_name name ≡ true → option_map cut_statement (code_statement (name ∷ line)) ≡ load_of name n digits
code_statement-three name line n digits others first none named =
    let f = first_of line n (digits ∷ others) first in
    rw (f.begins, none) (code_at name f.word digits f.value n named f.spells f.is_cut)

pub code_statement-unnamed : (name : List ℕ) (line : List (List ℕ)) → is_name name ≡ false → code_statement (name ∷ line) ≡ None
code_statement-unnamed name [] unnamed = refl
code_statement-unnamed name (a ∷ []) unnamed = refl
code_statement-unnamed name (a ∷ b ∷ []) unnamed = simp unnamed
code_statement-unnamed name (a ∷ b ∷ c ∷ line) unnamed = refl

code_long : (name word digits : List ℕ) (others : List (List ℕ)) → others ≢ [] → code_statement (name ∷ word ∷ digits ∷ others) ≡ None
code_long name word digits [] some = absurd (some refl)
code_long name word digits (a ∷ others) some = refl

pub code_statement-long : (name : List ℕ) (line : List (List ℕ)) (n : ℕ) (digits : List ℕ) (others : List (List ℕ)) → first_number line ≡ Some (n, digits ∷ others) → others ≢ [] → code_statement (name ∷ line) ≡ None
code_statement-long name line n digits others first some =
    let f = first_of line n (digits ∷ others) first in
    rw f.begins (code_long name f.word digits others some)

-- ---- `image`

pub image_statement-unnamed : (name : List ℕ) (line : List (List ℕ)) → is_name name ≡ false → image_statement (name ∷ line) ≡ None
image_statement-unnamed name [] unnamed = refl
image_statement-unnamed name (a ∷ []) unnamed = simp unnamed
image_statement-unnamed name (a ∷ b ∷ line) unnamed = refl

pub image_statement-long : (name digits : List ℕ) (others : List (List ℕ)) → others ≢ [] → image_statement (name ∷ digits ∷ others) ≡ None
image_statement-long name digits [] some = absurd (some refl)
image_statement-long name digits (a ∷ others) some = refl

-- ---- `list`

pub list_statement-unnamed : (program : List ℕ) (line : List (List ℕ)) → is_name program ≡ false → list_statement (program ∷ line) ≡ None
list_statement-unnamed program [] unnamed = refl
list_statement-unnamed program (a ∷ []) unnamed = refl
list_statement-unnamed program (a ∷ b ∷ []) unnamed = simp unnamed
list_statement-unnamed program (a ∷ b ∷ c ∷ line) unnamed = refl

pub list_statement-unnamed_pin : (program pin : List ℕ) (line : List (List ℕ)) → is_name pin ≡ false → list_statement (program ∷ pin ∷ line) ≡ None
list_statement-unnamed_pin program pin [] unnamed = refl
list_statement-unnamed_pin program pin (a ∷ []) unnamed = elim (cases_Bool (is_name program)) [
  | inl named ↦ simp (named, unnamed)
  | inr not_named ↦ simp not_named
]
list_statement-unnamed_pin program pin (a ∷ b ∷ line) unnamed = refl

pub list_statement-long : (program pin digits : List ℕ) (others : List (List ℕ)) → others ≢ [] → list_statement (program ∷ pin ∷ digits ∷ others) ≡ None
list_statement-long program pin digits [] some = absurd (some refl)
list_statement-long program pin digits (a ∷ others) some = refl

-- ---- `column`

column_cut : (name : List ℕ) (value n : ℕ) (given : Option (List ℕ)) → cut_number value ≡ n → option_map cut_statement (option_then given (λ ns. Some (Asks (SetColumn name value (map column_number ns))))) ≡ option_then given (λ ns. Some (Asks (SetColumn name n (map column_number ns))))
column_cut name value n None is = refl
column_cut name value n (Some ns) is = ap (λ m. Some (Asks (SetColumn name m (map column_number ns)))) is

column_at : (name word : List ℕ) (given : List (List ℕ)) (value n : ℕ) → is_column_name name ≡ true → number word ≡ Some value → cut_number value ≡ n → option_map cut_statement (column_statement (name ∷ word ∷ given)) ≡ column_of name n given
column_at name word given value n named spells is = simp (named, spells) (column_cut name value n (numbers given) is)

pub column_statement-named : (name : List ℕ) (line : List (List ℕ)) (n : ℕ) (given : List (List ℕ)) → first_number line ≡ Some (n, given) → is_column_name name ≡ true → option_map cut_statement (column_statement (name ∷ line)) ≡ column_of name n given
column_statement-named name line n given first named =
    let f = first_of line n given first in
    rw f.begins (column_at name f.word given f.value n named f.spells f.is_cut)

pub column_statement-unnamed : (name : List ℕ) (line : List (List ℕ)) → is_column_name name ≡ false → column_statement (name ∷ line) ≡ None
column_statement-unnamed name [] unnamed = refl
column_statement-unnamed name (a ∷ line) unnamed = simp unnamed

column_numberless_at : (name word : List ℕ) (given : List (List ℕ)) (value : Option ℕ) → number word ≡ value → option_map (cut_before given) value ≡ None → column_statement (name ∷ word ∷ given) ≡ None
column_numberless_at name word given None is none = elim (cases_Bool (is_column_name name)) [
  | inl named ↦ simp (named, is)
  | inr unnamed ↦ simp unnamed
]
column_numberless_at name word given (Some n) is none = absurd (cc)

pub column_statement-numberless : (name : List ℕ) (line : List (List ℕ)) → first_number line ≡ None → column_statement (name ∷ line) ≡ None
column_statement-numberless name [] none = refl
column_statement-numberless name (word ∷ given) none = column_numberless_at name word given (number word) refl none

-- ---- `pull`, `push` and `each`

pub lend_none : (asked : Option Asked) (to : Asked → Option Statement) → None ≡ option_map cut_asked asked → None ≡ option_map cut_statement (option_then asked to)
lend_none None to none = refl
lend_none (Some a) to none = absurd (cc)

pub lend_some : (asked : Option Asked) (to : Asked → Option Statement) (said : Asked) (means : Option Statement) → Some said ≡ option_map cut_asked asked → ((a : Asked) → cut_asked a ≡ said → means ≡ option_map cut_statement (to a)) → means ≡ option_map cut_statement (option_then asked to)
lend_some None to said means some same = absurd (cc)
lend_some (Some a) to said means some same = same a (sym (same_Some said (cut_asked a) some))

pub pull_rows : (into : List ℕ) (said a : Asked) → is_dash into ≡ true → cut_asked a ≡ said → Some (Asks (PullRows said)) ≡ option_map cut_statement (pull_to into a)
pull_rows into said a dash same = rw dash (ap (λ (b : Asked). Some (Asks (PullRows b))) (sym same))

pub pull_into : (into : List ℕ) (said a : Asked) → is_dash into ≡ false → is_column_name into ≡ true → cut_asked a ≡ said → Some (Asks (WriteColumn Pull said into)) ≡ option_map cut_statement (pull_to into a)
pull_into into said a word named same =
    let name : is_name into ≡ true = (and_parts _ _ named).0 in
    rw (word, name) (ap (λ (b : Asked). Some (Asks (WriteColumn Pull b into))) (sym same))

pub pull_unnamed : (into : List ℕ) (a : Asked) → is_dash into ≡ false → is_column_name into ≡ false → None ≡ option_map cut_statement (pull_to into a)
pull_unnamed into a word unnamed = elim (cases_Bool (is_name into)) [
  | inl name ↦ (let named : is_column_name into ≡ true = and_from _ _ name (rw word refl) in absurd (cc))
  | inr other ↦ rw (word, other) refl
]

pub write_into : (way : Way) (into : List ℕ) (said a : Asked) → is_column_name into ≡ true → cut_asked a ≡ said → Some (Asks (WriteColumn way said into)) ≡ option_map cut_statement (write_to way into a)
write_into way into said a named same = rw named (ap (λ (b : Asked). Some (Asks (WriteColumn way b into))) (sym same))

pub write_unnamed : (way : Way) (into : List ℕ) (a : Asked) → is_column_name into ≡ false → None ≡ option_map cut_statement (write_to way into a)
write_unnamed way into a unnamed = rw unnamed refl

-- ---- what a line says

pub saying-statement : (word : List ℕ) (operands : List (List ℕ)) → is_comment word ≡ false → saying_of (word ∷ operands) ≡ found_statement (statement word operands)
saying-statement word operands line = simp line

pub said_some : (found : Option CodeStatement) (c : CodeStatement) (means : Option Statement) → found ≡ Some c → option_map said_statement found ≡ option_map cut_statement means → Makes (said_statement c) ≡ cut_saying (found_statement means)
said_some found c None is says = absurd (let some : Some (said_statement c) ≡ None = sym (ap (option_map said_statement) is) ∙ says in cc)
said_some found c (Some d) is says = ap Makes (same_Some (said_statement c) (cut_statement d) (sym (ap (option_map said_statement) is) ∙ says))

pub said_none : (found : Option CodeStatement) (means : Option Statement) → found ≡ None → option_map said_statement found ≡ option_map cut_statement means → NoStatement ≡ cut_saying (found_statement means)
said_none found None is says = refl
said_none found (Some d) is says = absurd (let none : None ≡ Some (cut_statement d) = sym (ap (option_map said_statement) is) ∙ says in cc)

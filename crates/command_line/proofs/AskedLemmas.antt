-- What clap makes of the words that ask for workers.
use Rattle.std.proofs.Common.{◌≡◌, ◌==◌, ◌<◌, ◌≤◌, ◌⊎◌, ◌∙◌, ℕ, Bool, true, false, List, [], ◌∷◌, Some, None, Option, Ok, Err, Result, IfErr, IsErrAnd, codes, drop, refl, sym, ap, subst, inl, inr, arith}
use Rattle.std.specs.Prelude.{pos}
use Rattle.std.specs.Char.{digit_value}
use Rattle.std.specs.Str.Parse.{IsNumeral, ParsesUnsigned, digits_value, signed_digits_value, without_leading_plus, without_leading_sign}
use Rattle.std.proofs.lemmas.Bool.{cases_lt, ne_eqb}
use Rattle.std.proofs.lemmas.Int.{ints}
use Rattle.clap.specs.Words.{App, HasKind, HasMatchesOf, Kinds, ReadsOne, Rule, Text, built, fault_of, found_of, is_simple, is_simple_and_free, kind_of, new_app, new_rule, one_of, one_text, with_rule}
use Rattle.clap.specs.Walk.{nothing_held, rows_after}
use Rattle.clap.specs.Simple.{names_of}
use Rattle.clap.specs.Faults.{built_fault}
use Rattle.clap.specs.ValueTests.{accepts}
use Rattle.clap.specs.declared.error.Error.{Error}
use Rattle.clap.specs.declared.error.kind.ErrorKind.{ErrorKind}
use Rattle.clap.specs.declared.error.kind.ErrorKind.TheVariants.{DisplayHelp, DisplayVersion, OutOfMemory, ValueValidation}
use Rattle.clap.specs.declared.builder.action.ArgAction.TheVariants.{Set}
use Rattle.clap.specs.declared.builder.value_parser.ValueParser.{ValueParser}
use Rattle.clap.specs.declared.builder.value_parser.ValueParser.TheVariants as parsers
use Rattle.clap.specs.declared.parser.matches.ArgMatches.{ArgMatches}
use Rattle.command_line.specs.Asked.{with_version}
use Rattle.clap.proofs.OnLiterals.{clap_on_literals}
use Rattle.clap.proofs.ValueTestLemmas.{Accepts-accepts, accepts-Accepts}
use Rattle.clap.proofs.WalkLemmas.{one_text-rows}

abbrev pub one_to_sixteen : ValueParser
one_to_sixteen = parsers.Signed (pos 1) (pos 16)

abbrev pub workers_rule : Rule
workers_rule =
    record (new_rule (codes "workers")) {
      long = Some (codes "workers");
      action = Some Set;
      value_names = 1;
      parser = Some one_to_sixteen;
    }

abbrev pub edgebpf : App
edgebpf = with_rule (with_version (new_app (codes "edgebpf"))) workers_rule

-- the kinds of error at these words after the program's name, and the value of `--workers`
abbrev pub fault_at : List Text → Kinds
fault_at words = built_fault (built edgebpf) nothing_held words

abbrev pub value_at : List Text → Option Text
value_at words = one_of (codes "workers") (rows_after (built edgebpf).top.rules (names_of (built edgebpf)) words)

pub no_fault : fault_at [] ≡ []
unfolding clap_on_literals
no_fault = refl

pub no_value : value_at [] ≡ None
unfolding clap_on_literals
no_value = refl

pub help_shown : fault_at (codes "--help" ∷ []) ≡ DisplayHelp ∷ []
unfolding clap_on_literals
help_shown = refl

pub version_shown : fault_at (codes "--version" ∷ []) ≡ DisplayVersion ∷ []
unfolding clap_on_literals
version_shown = refl

module _ (d : ℕ) (ds : List ℕ) (no_minus : (d == 45) ≡ false) where
  pub value_asked : value_at (codes "--workers" ∷ (d ∷ ds) ∷ []) ≡ Some (d ∷ ds)
  unfolding clap_on_literals
  value_asked = simp no_minus

  pub fault_allowed : accepts false one_to_sixteen (d ∷ ds) ≡ true → fault_at (codes "--workers" ∷ (d ∷ ds) ∷ []) ≡ []
  unfolding clap_on_literals
  fault_allowed e = rw (no_minus, no_minus, e) refl

  pub fault_refused : accepts false one_to_sixteen (d ∷ ds) ≡ false → fault_at (codes "--workers" ∷ (d ∷ ds) ∷ []) ≡ ValueValidation ∷ []
  unfolding clap_on_literals
  fault_refused e = rw (no_minus, no_minus, e) refl

-- ---- digits

no_digit : (c d : ℕ) → digit_value d < 10 → 10 ≤ digit_value c → (d == c) ≡ false
no_digit c d digit other = ne_eqb d c (λ e. let same : digit_value d ≡ digit_value c = ap digit_value e in omega arith)

module _ (d : ℕ) (ds : List ℕ) (numeral : IsNumeral 10 (d ∷ ds)) where
  no_minus : (d == 45) ≡ false
  no_minus = no_digit 45 d numeral.1.0 (omega arith)

  no_plus : (d == 43) ≡ false
  no_plus = no_digit 43 d numeral.1.0 (omega arith)

  unsigned : without_leading_sign (d ∷ ds) ≡ d ∷ ds
  unsigned = simp (no_minus, no_plus)

  positive : signed_digits_value 10 (d ∷ ds) ≡ pos (digits_value 10 (d ∷ ds))
  positive = simp (no_minus, no_plus)

  allowed : 1 ≤ digits_value 10 (d ∷ ds) → digits_value 10 (d ∷ ds) ≤ 16 → accepts false one_to_sixteen (d ∷ ds) ≡ true
  allowed some most = Accepts-accepts false one_to_sixteen (d ∷ ds)
      (rw unsigned numeral, rw positive (omega (arith, ints)), rw positive (omega (arith, ints)), rw positive (omega (arith, ints)))

  refused : (digits_value 10 (d ∷ ds) ≡ 0) ⊎ (16 < digits_value 10 (d ∷ ds)) → accepts false one_to_sixteen (d ∷ ds) ≡ false
  refused out = go (accepts false one_to_sixteen (d ∷ ds)) refl
    where
      go : (b : Bool) → accepts false one_to_sixteen (d ∷ ds) ≡ b → b ≡ false
      go false e = refl
      go true e =
          let passed = accepts-Accepts false one_to_sixteen (d ∷ ds) e in
          let low = rw positive at passed.2 in
          let high = rw positive at passed.3 in
          absurd (elim out [ inl none ↦ omega (arith, ints) | inr many ↦ omega (arith, ints) ])

-- the words `--workers` and digits
abbrev pub asking : List ℕ → List Text
asking digits = codes "--workers" ∷ digits ∷ []

pub value_of_digits : (digits : List ℕ) → IsNumeral 10 digits → value_at (asking digits) ≡ Some digits
value_of_digits [] numeral = absurd (omega arith)
value_of_digits (d ∷ ds) numeral = value_asked d ds (no_minus d ds numeral)

pub no_fault_of_digits : (digits : List ℕ) → IsNumeral 10 digits → 1 ≤ digits_value 10 digits → digits_value 10 digits ≤ 16 → fault_at (asking digits) ≡ []
no_fault_of_digits [] numeral some most = absurd (omega arith)
no_fault_of_digits (d ∷ ds) numeral some most = fault_allowed d ds (no_minus d ds numeral) (allowed d ds numeral some most)

pub fault_of_digits : (digits : List ℕ) → IsNumeral 10 digits → (digits_value 10 digits ≡ 0) ⊎ (16 < digits_value 10 digits) → fault_at (asking digits) ≡ ValueValidation ∷ []
fault_of_digits [] numeral out = absurd (omega arith)
fault_of_digits (d ∷ ds) numeral out = fault_refused d ds (no_minus d ds numeral) (refused d ds numeral out)

-- words that no error comes at ask for 1 to 16
pub asked_range : (digits : List ℕ) → IsNumeral 10 digits → fault_at (asking digits) ≡ [] → (1 ≤ digits_value 10 digits) × (digits_value 10 digits ≤ 16)
asked_range digits numeral none = elim (cases_lt (digits_value 10 digits) 17) [
  | inr many ↦ absurd (bad (inr (omega arith)))
  | inl few ↦ elim (cases_lt 0 (digits_value 10 digits)) [
    | inl some ↦ (some, omega arith)
    | inr zero ↦ absurd (bad (inl (omega arith)))
  ]
]
  where
    bad : (digits_value 10 digits ≡ 0) ⊎ (16 < digits_value 10 digits) → ⊥
    bad out =
        let both : ValueValidation ∷ [] ≡ [] = sym (fault_of_digits digits numeral out) ∙ none in
        cc

unsigned_text : (digits : List ℕ) → IsNumeral 10 digits → without_leading_plus digits ≡ digits
unsigned_text [] numeral = refl
unsigned_text (d ∷ ds) numeral =
    let plus : (d == 43) ≡ false = no_plus d ds numeral in
    rw plus refl

-- `get_one` reads such digits as their number
pub byte_read : (E : Type 0) (Gives : List ℕ → Result ℕ E → Type 0) (digits : List ℕ) (r : Option ℕ) → IsNumeral 10 digits → digits_value 10 digits ≤ 16
    → ((text : List ℕ) (x : Result ℕ E) → Gives text x → ParsesUnsigned 8 10 text x) → ReadsOne Gives digits r → r ≡ Some (digits_value 10 digits)
byte_read E Gives digits (Some v) numeral few only read =
    let parsed = only digits (Ok v) read in
    ap Some (parsed.1 ∙ ap (digits_value 10) (unsigned_text digits numeral))
byte_read E Gives digits None numeral few only read =
    let same = unsigned_text digits numeral in
    absurd (only digits (Err read.0) read.1 (rw same numeral, rw same (omega arith)))

-- ---- what a parse of the program's command says

edgebpf_is_simple : is_simple edgebpf ≡ true
unfolding clap_on_literals
edgebpf_is_simple = refl

edgebpf_is_free : is_simple_and_free edgebpf ≡ true
unfolding clap_on_literals
edgebpf_is_free = refl

module _ (a : App) (words : List Text) (is : a ≡ edgebpf) where
  pub text_of : (m : ArgMatches) → HasMatchesOf a words m → one_text (found_of m) (codes "workers") ≡ value_at (drop 1 words)
  text_of m h =
      let matched : HasMatchesOf edgebpf words m = subst (λ (b : App). HasMatchesOf b words m) is h in
      one_text-rows (found_of m) (codes "workers") ∙ ap (one_of (codes "workers")) (matched edgebpf_is_simple).0

  -- what a clause says of the kinds of error that may come, at these words
  pub kinds_of : (Says : Kinds → Type 0) (behind : List Text) (kinds : Kinds) → drop 1 words ≡ behind → fault_at behind ≡ kinds
      → (is_simple_and_free a ≡ true → Says (fault_of a words)) → Says kinds
  kinds_of Says behind kinds are gives h =
      let says : is_simple_and_free edgebpf ≡ true → Says (fault_of edgebpf words) = subst (λ (b : App). is_simple_and_free b ≡ true → Says (fault_of b words)) is h in
      subst Says (ap fault_at are ∙ gives) (says edgebpf_is_free)

-- `?` hands up an error that no kind explains but memory
pub up_for_memory : {T : Type 0} (r : Result T Error) (e : Error) → IsErrAnd r (λ x. x ≡ e) → HasKind [] e → IfErr r (λ x. kind_of x ≡ OutOfMemory)
up_for_memory (Ok x) e up kinds = absurd up
up_for_memory (Err x) e up kinds = elim kinds [ inl memory ↦ ap kind_of up ∙ memory | inr none ↦ absurd none ]

pub up_of_kind : {T : Type 0} (kind : ErrorKind) (r : Result T Error) (e : Error) → IsErrAnd r (λ x. x ≡ e) → HasKind (kind ∷ []) e
    → IsErrAnd r (λ x. (kind_of x ≡ kind) ⊎ (kind_of x ≡ OutOfMemory))
up_of_kind kind (Ok x) e up kinds = absurd up
up_of_kind kind (Err x) e up kinds = elim kinds [
  | inl memory ↦ inr (ap kind_of up ∙ memory)
  | inr (inl same) ↦ inl (ap kind_of up ∙ same)
  | inr (inr none) ↦ absurd none
]

-- words that some error comes at are not parsed
pub none_is_parsed : (kind : ErrorKind) (kinds : Kinds) → kinds ≡ kind ∷ [] → kinds ≡ [] → ⊥
none_is_parsed kind kinds some none =
    let both : kind ∷ [] ≡ [] = sym some ∙ none in
    cc

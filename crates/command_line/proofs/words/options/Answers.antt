use Rattle.std.proofs.Common.{rules, ◌≡◌, ◌∙◌, ◌<◌, ◌⊎◌, [], None, arith, ap, ap₂, inl, inr, refl}
use Rattle.std.specs.Str.Parse.{ExplainsUnsignedError, HasUnsignedDigitsIfOk, ParsesUnsigned, digits_value}
use Rattle.clap.specs.Words.{HasKind, Kinds, app_of, rule_of, with_rule}
use Rattle.command_line.proofs.AskedLemmas.{asked_range, byte_read, edgebpf, fault_of_digits, help_shown, kinds_of, no_fault, no_fault_of_digits, no_value, none_is_parsed, text_of, up_for_memory, up_of_kind, value_at, value_of_digits, version_shown, workers_rule}
use Rattle.command_line.proofs.words.options.Goals as goal

command_is : (c : goal.Joined-matches) → app_of c.in_ok-command.command ≡ edgebpf
command_is c =
    let rule_is : rule_of c.value_parser-2.result ≡ workers_rule = search rules in
    c.in_ok-command.ensures.shape (search rules) ∙ ap₂ with_rule c.described.ensures rule_is

command_was : (c : goal.After-from_residual-in_err-matches) → app_of c.in_ok-command.command ≡ edgebpf
command_was c =
    let rule_is : rule_of c.value_parser-2.result ≡ workers_rule = search rules in
    c.in_ok-command.ensures.shape (search rules) ∙ ap₂ with_rule c.described.ensures rule_is

pub returns-clause-alone : goal.returns-clause-alone
returns-clause-alone c none =
    let text = text_of _ _ (command_is c) c.in_ok-matches.matches c.in_ok-matches.ensures.matches in
    let absent : c.get_one.result ≡ None = c.get_one.ensures.none (text ∙ ap value_at none ∙ no_value) in
    rw (c.clamp.ensures, c.unwrap_or-asked.ensures, absent) refl

pub returns-clause-asked : goal.returns-clause-asked
returns-clause-asked c n asks =
    let text = text_of _ _ (command_is c) c.in_ok-matches.matches c.in_ok-matches.ensures.matches in
    let range = asked_range asks.0 asks.2 (kinds_of _ _ (command_is c) (λ k. k ≡ []) _ _ asks.1 refl c.in_ok-matches.ensures.kinds) in
    let read = byte_read _ (λ t x. ParsesUnsigned 8 10 t x × ExplainsUnsignedError 10 t x × HasUnsignedDigitsIfOk t x) asks.0 c.get_one.result asks.2 range.1 (λ t x g. g.0)
    (c.get_one.ensures.value asks.0 (text ∙ ap value_at asks.1 ∙ value_of_digits asks.0 asks.2)) in
    rw (c.clamp.ensures, c.unwrap_or-asked.ensures, read) (omega arith)

pub returns-clause-refused : goal.returns-clause-refused
returns-clause-refused c n asks out =
    let range = asked_range asks.0 asks.2 (kinds_of _ _ (command_is c) (λ k. k ≡ []) _ _ asks.1 refl c.in_ok-matches.ensures.kinds) in
    elim out [ inl none ↦ omega arith | inr many ↦ omega arith ]

pub returns-in_err-matches-clause-allowed : goal.returns-in_err-matches-clause-allowed
returns-in_err-matches-clause-allowed c allowed =
    let has = λ (k : Kinds). HasKind k c.in_err-matches.field-0.0 in
    up_for_memory _ _ c.from_residual-in_err-matches.ensures.1 (elim allowed [
      | inl none ↦ kinds_of _ _ (command_was c) has _ _ none no_fault c.in_err-matches.ensures.kinds
      | inr few ↦
          let fault = no_fault_of_digits few.1.0 few.1.2 (omega arith) (omega arith) in
          kinds_of _ _ (command_was c) has _ _ few.1.1 fault c.in_err-matches.ensures.kinds
    ])

pub returns-in_err-matches-clause-refused : goal.returns-in_err-matches-clause-refused
returns-in_err-matches-clause-refused c n asks out =
    let out_of_range : (digits_value 10 asks.0 ≡ 0) ⊎ (16 < digits_value 10 asks.0) = elim out [ inl none ↦ inl (omega arith) | inr many ↦ inr (omega arith) ] in
    up_of_kind _ _ _ c.from_residual-in_err-matches.ensures.1
    (kinds_of _ _ (command_was c) (λ k. HasKind k c.in_err-matches.field-0.0) _ _ asks.1 (fault_of_digits asks.0 asks.2 out_of_range) c.in_err-matches.ensures.kinds)

pub returns-clause-help : goal.returns-clause-help
returns-clause-help c asks = absurd (none_is_parsed _ _ help_shown (kinds_of _ _ (command_is c) (λ k. k ≡ []) _ _ asks refl c.in_ok-matches.ensures.kinds))

pub returns-clause-version : goal.returns-clause-version
returns-clause-version c asks = absurd (none_is_parsed _ _ version_shown (kinds_of _ _ (command_is c) (λ k. k ≡ []) _ _ asks refl c.in_ok-matches.ensures.kinds))

pub returns-in_err-matches-clause-help : goal.returns-in_err-matches-clause-help
returns-in_err-matches-clause-help c asks =
    up_of_kind _ _ _ c.from_residual-in_err-matches.ensures.1
    (kinds_of _ _ (command_was c) (λ k. HasKind k c.in_err-matches.field-0.0) _ _ asks help_shown c.in_err-matches.ensures.kinds)

pub returns-in_err-matches-clause-version : goal.returns-in_err-matches-clause-version
returns-in_err-matches-clause-version c asks =
    up_of_kind _ _ _ c.from_residual-in_err-matches.ensures.1
    (kinds_of _ _ (command_was c) (λ k. HasKind k c.in_err-matches.field-0.0) _ _ asks version_shown c.in_err-matches.ensures.kinds)

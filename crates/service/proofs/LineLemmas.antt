-- The first end of a line that a search finds.
use Rattle.std.proofs.Common.{ℕ, zero, suc, ◌+◌, ◌<◌, ◌≡◌, true, false, List, [], ◌∷◌, length, ap, inl, inr, arith}
use Rattle.std.specs.Prelude.{slice_index, MatchOption, Option, Some, None}
use Rattle.std.proofs.lemmas.Bool.{cases_Bool, eqb-true}
use Rattle.memchr.specs.Find.{IsFirstByte, is_byte}
use Rattle.script_model.specs.Lexing.{is_newline}
use Rattle.service.specs.Served.{IsOneLine, IsLine}

no_newline : (b : ℕ) → ¬ (is_newline b ≡ true) → is_newline b ≡ false
no_newline b other = elim (cases_Bool (is_newline b)) [ inl passes ↦ absurd (other passes) | inr fails ↦ fails ]

pub one_line : (bytes : List ℕ) → ((k : ℕ) → k < length bytes → ¬ (is_newline (slice_index bytes k) ≡ true)) → IsOneLine bytes
one_line [] none = tt
one_line (b ∷ bytes) none = (no_newline b (none 0 (omega arith)), one_line bytes (λ k lt. none (suc k) (omega arith)))

line_before : (bytes : List ℕ) (k : ℕ) → k < length bytes → ((i : ℕ) → i < k → ¬ (is_newline (slice_index bytes i) ≡ true)) → is_newline (slice_index bytes k) ≡ true → IsLine bytes k
line_before [] k within none ends = absurd (omega arith)
line_before (b ∷ bytes) zero within none ends = (tt, ap (λ end. end ∷ bytes) (eqb-true b 10 ends), omega arith)
line_before (b ∷ bytes) (suc k) within none ends =
    let rest : IsLine bytes k = line_before bytes k (omega arith) (λ i lt. none (suc i) (omega arith)) ends in
    let later : suc k + 1 ≡ suc (k + 1) = omega arith in
    ((no_newline b (none 0 (omega arith)), rest.0), rw later (ap (λ left. b ∷ left) rest.1), omega arith)

pub first_line : (bytes : List ℕ) (found : Option ℕ) → IsFirstByte (is_byte 10) bytes found → MatchOption found (IsOneLine bytes) (λ k. IsLine bytes k)
first_line bytes None none = one_line bytes (λ k lt. none k (omega arith) lt)
first_line bytes (Some k) first = line_before bytes k first.0.high (λ i lt. first.0.before i (omega arith) lt) first.1

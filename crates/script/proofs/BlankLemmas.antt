-- The first blank that a search finds.
use Rattle.std.proofs.Common.{ℕ, ◌≡◌, true, false, List, length, inl, inr, get_or, arith}
use Rattle.std.specs.Prelude.{Option, Some, None}
use Rattle.std.specs.List.{position_or_len}
use Rattle.std.specs.Option.{unwrap_or}
use Rattle.std.proofs.lemmas.Bool.{cases_Bool}
use Rattle.std.proofs.lemmas.List.Sums.{position_or_len_is}
use Rattle.memchr.specs.Find.{IsFirstByte, is_byte2}
use Rattle.script_model.specs.Lexing.{is_blank}

no_blank : (b : ℕ) → ¬ (is_blank b ≡ true) → is_blank b ≡ false
no_blank b other = elim (cases_Bool (is_blank b)) [ inl passes ↦ absurd (other passes) | inr fails ↦ fails ]

pub first_blank : (line : List ℕ) (found : Option ℕ) → IsFirstByte (is_byte2 32 9) line found → position_or_len is_blank line ≡ unwrap_or found (length line)
first_blank line None none =
    position_or_len_is is_blank line (length line) 0 (omega arith) (λ k lt. no_blank (get_or line k 0) (none k (omega arith) lt)) (λ lt. absurd (omega arith))
first_blank line (Some k) first =
    position_or_len_is is_blank line k 0 (omega (arith, first.0.high)) (λ i lt. no_blank (get_or line i 0) (first.0.before i (omega arith) lt)) (λ lt. first.1)

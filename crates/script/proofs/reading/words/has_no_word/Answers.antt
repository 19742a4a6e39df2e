use Rattle.std.proofs.Common.{List, ℕ, [], ◌≡◌, subst}
use Rattle.std.specs.Prelude.{IsTrue, ◌↔◌}
use Rattle.script.proofs.WordLemmas.{no_words}
use Rattle.script.proofs.reading.words.has_no_word.Goals as goal

pub returns : goal.returns
returns c =
    subst (λ (found : List (List ℕ)). IsTrue c.is_empty.result ↔ (found ≡ [])) c.without_blanks.ensures.words (no_words c.without_blanks.result.now c.is_empty.result c.is_empty.ensures c.without_blanks.ensures.word)

-- Pieces that are written one after another.
use Rattle.std.proofs.Common.{◌≡◌, ℕ, ◌+◌, List, [], ◌++◌, add-one, append_assoc, refl, sym, ap, ◌∙◌}
use Rattle.std.proofs.lemmas.List.{append-nil}
use Rattle.explanation.specs.Pieces.{pieces_to}

pub pieces_none : (piece : ℕ → List ℕ) → pieces_to piece 0 ≡ []
unfolding pieces_to
pieces_none piece = refl

pub pieces_more : (piece : ℕ → List ℕ) (n : ℕ) → pieces_to piece (n + 1) ≡ pieces_to piece n ++ piece n
unfolding pieces_to
pieces_more piece n = rw add-one refl

-- a text that a piece more makes longer
pub written_more : (piece : ℕ → List ℕ) (n : ℕ) (before text after : List ℕ) → text ≡ before ++ pieces_to piece n → after ≡ text ++ piece n → after ≡ before ++ pieces_to piece (n + 1)
written_more piece n before text after h more =
    more ∙ ap (λ t. t ++ piece n) h ∙ append_assoc before (pieces_to piece n) (piece n) ∙ ap (λ t. before ++ t) (sym (pieces_more piece n))

-- a text before the first piece
pub written_none : (piece : ℕ → List ℕ) (text : List ℕ) → text ≡ text ++ pieces_to piece 0
written_none piece text = sym (ap (λ t. text ++ t) (pieces_none piece) ∙ append-nil text)

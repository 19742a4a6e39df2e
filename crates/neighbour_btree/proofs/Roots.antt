-- Roots after a change.
use Rattle.std.proofs.Common.{◌≡◌, ℕ, ◌*◌, ◌<◌, ◌≤◌, List, length, Result, Ok, Err, IfOk, sym, ap, subst, arith}
use Rattle.word_sets.specs.declared.places.TheConstants.{WORD_LIMIT}
use Rattle.word_sets.specs.Words.{with_word, without_word, IsSet, IsWithin}
use Rattle.word_sets.proofs.Within.{IsWithin-length}
use Rattle.word_sets.proofs.Members.{IsWithin-with, IsWithin-without}
use Rattle.neighbour_btree.specs.Node.{Node}
use Rattle.neighbour_btree.specs.Changes.{Adds}
use Rattle.neighbour_btree.specs.declared.levels.change.Change.{Change}
use Rattle.neighbour_btree.specs.declared.levels.change.Change.TheVariants.{Same, Changed, Unable}
use Rattle.neighbour_btree.specs.Root.{WordsAdded}

pub words_added : {E : Type 0} (least w : ℕ) (old new : Node) (r : Result Change E) → IfOk r (Adds least old new w) → IfOk r (WordsAdded old.words new.words w)
words_added least w old new (Ok Same) h = (h.0, ap (λ (n : Node). n.words) h.1)
words_added least w old new (Ok Changed) h = (h.0, h.1)
words_added least w old new (Ok Unable) h = ap (λ (n : Node). n.words) h
words_added least w old new (Err e) h = tt

pub set_with : (w : ℕ) (old new : List ℕ) → IsSet old → w < WORD_LIMIT → new ≡ with_word w old → IsSet new
set_with w old new s small e =
    subst IsSet (sym e) (IsWithin-with 0 WORD_LIMIT w old (omega arith) small s)

pub set_without : (w : ℕ) (old new : List ℕ) → IsSet old → new ≡ without_word w old → IsSet new
set_without w old new s e = subst IsSet (sym e) (IsWithin-without 0 WORD_LIMIT w old s)

-- words below a limit make no level that has more words than that
no_level : (limit least w : ℕ) (old new : List ℕ) → IsWithin 0 limit old → w < limit → new ≡ with_word w old → limit < 2 * least → 2 * least ≤ length new → ⊥
no_level limit least w old new s small e high many =
    let set : IsWithin 0 limit new = subst (IsWithin 0 limit) (sym e) (IsWithin-with 0 limit w old (omega arith) small s) in
    omega (arith, IsWithin-length 0 limit new set)

-- an eighth level would have more words than there are
pub no_eighth : (w : ℕ) (old new : List ℕ) → IsSet old → w < WORD_LIMIT → new ≡ with_word w old → 2 * 268435456 ≤ length new → ⊥
no_eighth w old new s small e many = no_level WORD_LIMIT 268435456 w old new s small e (omega arith) many

-- for words below 2^20 five levels are enough: they make no sixth
pub no_sixth : (w : ℕ) (old new : List ℕ) → IsWithin 0 1048576 old → w < 1048576 → new ≡ with_word w old → 2 * 1048576 ≤ length new → ⊥
no_sixth w old new s small e many = no_level 1048576 1048576 w old new s small e (omega arith) many

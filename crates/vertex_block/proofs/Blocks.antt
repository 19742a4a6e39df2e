-- The places of a block that is made of words.
use Rattle.std.proofs.Common.{◌≡◌, ℕ, ◌-◌, ◌≤◌, List, ◌++◌, length, drop, replicate, sym, subst, ◌∙◌, length-append, arith}
use Rattle.std.proofs.lemmas.List.{length-replicate, drop-replicate}
use Rattle.std.proofs.Math.Seq.{take-append_seam, drop-append_seam}
use Rattle.word_sets.specs.Words.{IsSet}
use Rattle.vertex_block.specs.Block.{IsBlock}

pub filled : (words front : List ℕ) → front ≡ words → length words ≤ 12 → IsSet words → IsBlock (length words) (front ++ drop (length words) (replicate 12 0))
filled words front is few set =
    let rest : drop (length words) (replicate 12 0) ≡ replicate (12 - length words) 0 = drop-replicate (length words) 12 0 in
    let many : length {A = ℕ} (replicate (12 - length words) 0) ≡ 12 - length words = length-replicate (12 - length words) 0 in
    subst (λ l. IsBlock (length words) (l ++ drop (length words) (replicate 12 0))) (sym is) (subst (λ l. IsBlock (length words) (words ++ l)) (sym rest) record {
      most = few;
      all = length-append words (replicate (12 - length words) 0) ∙ omega (arith, many, few);
      spare = drop-append_seam words (replicate (12 - length words) 0);
      set = subst IsSet (sym (take-append_seam words (replicate (12 - length words) 0))) set;
    })

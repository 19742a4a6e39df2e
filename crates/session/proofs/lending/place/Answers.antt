use Rattle.std.proofs.Common.{◌≡◌, ◌+◌, ◌∷◌, ℕ, List, drop, get_or, set, sym, ap, ◌∙◌, arith}
use Rattle.std.proofs.lemmas.List.{drop_more, set_past}
use Rattle.session_model.specs.Responses.{placed}
use Rattle.session.proofs.LentLemmas.{placed_all}
use Rattle.session.proofs.lending.place.Goals.{then-vertex-numbers, else-vertex-numbers}
use Rattle.session.proofs.lending.place.Goals as goal

pub loop-at-preserved : goal.loop-at-preserved
loop-at-preserved c =
    let vertices = c.args.frontier.now in
    let values = c.args.values.now in
    let i = c.loop-at.at in
    let first : drop i vertices ≡ get_or vertices i 0 ∷ drop (i + 1) vertices = drop_more vertices i 0 (omega (arith, c.loop-at-test.true, c.min-at-end.ensures)) in
    let second : drop i values ≡ get_or values i 0 ∷ drop (i + 1) values = drop_more values i 0 (omega (arith, c.loop-at-test.true, c.min-at-end.ensures)) in
    let step : set c.loop-at.numbers (get_or vertices i 0) (get_or values i 0) ≡ c.if-vertex-numbers.numbers = elim c.if-vertex-numbers.branch [
      | then-vertex-numbers w ↦ sym w.numbers-is
      | else-vertex-numbers w ↦ set_past c.loop-at.numbers (get_or vertices i 0) (get_or values i 0) (omega (arith, w.if-vertex-numbers.false)) ∙ sym w.numbers-is
    ] in
    ap (λ (n : List ℕ). placed (drop (i + 1) vertices) (drop (i + 1) values) n) (sym step) ∙ (rw (first, second) at c.loop-at.invariant)

pub returns : goal.returns
returns c =
    record {
      placed = sym (placed_all c.args.frontier.now c.args.values.now c.loop-at.numbers c.loop-at.at (omega (arith, c.loop-at-test.false, c.min-at-end.ensures))) ∙ c.loop-at.invariant;
    }

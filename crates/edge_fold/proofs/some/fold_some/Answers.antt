use Rattle.std.proofs.Common.{◌≡◌, ◌+◌, ◌-◌, ◌*◌, ◌<◌, ◌≤◌, ◌++◌, ℕ, zero, suc, List, true, false, Option, Some, None, MatchOption, length, take, drop, refl, sym, ap, subst, length-drop, ◌∙◌, lt-ltb, arith}
use Rattle.std.specs.Prelude.{nat_lt}
use Rattle.graph_model.specs.Graph.{neighbours}
use Rattle.past_model.specs.declared.limits.TheConstants.{MOST_VERTICES}
use Rattle.past_model.specs.Past.{graph_of}
use Rattle.map_model.specs.EdgeMap.{reduction_of_numbers}
use Rattle.verifier.specs.Walks.{longest}
use Rattle.edge_fold.specs.declared.budget.TheConstants.{EDGE_COST}
use Rattle.edge_fold.proofs.Numbers.{IsFolded, none_folded, found, none_left, row_behind}
use Rattle.edge_fold.proofs.Pieces.{some_folded, more_paid, more_spent, first_of_row, all_of}
use Rattle.edge_fold.proofs.some.fold_some.Goals as goal
use Rattle.edge_fold.specs.Inputs.{inputs_of}

pub slices-init : goal.slices-init
slices-init c =
    let p = c.args.mapped.now.program.now in
    let g = graph_of c.args.mapped.now.version.now in
    let a = (inputs_of c.args.mapped.now) in
    let zero : c.args.rest.place - c.args.rest.place ≡ 0 = omega arith in
    let left = drop c.args.rest.place (neighbours g c.args.rest.source.vertex) in
    record {
      on = omega arith;
      rest = λ _. ap (λ n. drop n left) zero ∙ sym c.requires.neighbours;
      used = λ is. absurd cc;
      memory = c.requires.memory;
      kept = c.requires.kept;
      folded = subst (λ (n : ℕ). IsFolded c.args.reduction p g a c.args.rest.source.vertex c.args.rest.place left n c.nothing-so_far.result) (sym zero)
          (none_folded c.args.reduction p g a c.args.rest.source.vertex c.args.rest.place left c.nothing-so_far.result c.nothing-so_far.ensures);
      paid = omega arith;
      spent = omega arith;
    }

nothing_left : {X : Type 0} (o : Option X) (P : Type 0) (Q : X → Type 0) → MatchOption o P Q → ((x : X) → o ≡ Some x → ⊥) → P
nothing_left None P Q h none = h
nothing_left (Some x) P Q h none = absurd (none x refl)

pub unreachable-requires : goal.unreachable-requires
unreachable-requires c =
    let all = neighbours (graph_of c.args.mapped.now.version.now) c.args.rest.source.vertex in
    let left = drop c.args.rest.place all in
    let ended = (nothing_left c.next_slice.result _ _ c.next_slice.ensures.lent c.in_default.not-Some).0 in
    let past : length left ≤ c.slices.at - c.args.rest.place = none_left _ _ (c.slices.invariant.rest c.slices-test.true ∙ ended) in
    omega (arith, past, c.if-at-source.true, c.requires.degree, length-drop c.args.rest.place all, c.slices.invariant.on)

some_left : (b : ℕ) → nat_lt 0 b ≡ true → 0 < b
some_left zero is = absurd cc
some_left (suc n) is = omega arith

used_up : (b : ℕ) → nat_lt 0 b ≡ false → b ≡ 0
used_up zero is = refl
used_up (suc n) is = absurd (let more : nat_lt 0 (suc n) ≡ true = lt-ltb 0 (suc n) (omega arith) in let no : true ≡ false = sym more ∙ is in cc)

few_behind : (all slice left : List ℕ) (place at most : ℕ) → place ≤ at → at - place ≤ length (drop place all) → drop (at - place) (drop place all) ≡ slice ++ left → place ≤ length all → length all ≤ most
    → at + length slice ≤ most
few_behind all slice left place at most on within ahead inside small =
    omega (arith, (row_behind (drop place all) slice left (at - place) ahead within).2, length-drop place all, on, inside, small)

pub fold_slice_some-part-requires-clause-few : goal.fold_slice_some-part-requires-clause-few
fold_slice_some-part-requires-clause-few c =
    let inv = c.slices.invariant in
    few_behind (neighbours (graph_of c.args.mapped.now.version.now) c.args.rest.source.vertex) c.in-Some.targets.now c.next_slice.new.self c.args.rest.place c.slices.at _ inv.on inv.folded.within
    (inv.rest c.slices-test.true ∙ c.in-Some.ensures.lent.1) (omega (arith, c.requires.inside, c.requires.degree)) (omega (arith, c.requires.small, c.requires.degree))

pub overflow_cast-at : goal.overflow_cast-at
overflow_cast-at c =
    let inv = c.slices.invariant in
    omega (
      arith,
      c.fold_slice_some-part.ensures.few,
      few_behind (neighbours (graph_of c.args.mapped.now.version.now) c.args.rest.source.vertex) c.in-Some.targets.now c.next_slice.new.self c.args.rest.place c.slices.at MOST_VERTICES inv.on inv.folded.within
          (inv.rest c.slices-test.true ∙ c.in-Some.ensures.lent.1) (omega (arith, c.requires.inside, c.requires.degree)) (omega (arith, c.requires.small, c.requires.degree)),
    )

pub overflow_add-at : goal.overflow_add-at
overflow_add-at c =
    let inv = c.slices.invariant in
    omega (
      arith,
      c.fold_slice_some-part.ensures.few,
      few_behind (neighbours (graph_of c.args.mapped.now.version.now) c.args.rest.source.vertex) c.in-Some.targets.now c.next_slice.new.self c.args.rest.place c.slices.at MOST_VERTICES inv.on inv.folded.within
          (inv.rest c.slices-test.true ∙ c.in-Some.ensures.lent.1) (omega (arith, c.requires.inside, c.requires.degree)) (omega (arith, c.requires.small, c.requires.degree)),
    )

pub slices-preserved : goal.slices-preserved
slices-preserved c =
    let p = c.args.mapped.now.program.now in
    let g = graph_of c.args.mapped.now.version.now in
    let a = (inputs_of c.args.mapped.now) in
    let u = c.args.rest.source.vertex in
    let place = c.args.rest.place in
    let left = drop place (neighbours g u) in
    let at = c.slices.at in
    let n = at - place in
    let slice = c.in-Some.targets.now in
    let part = c.fold_slice_some-part in
    let count = part.result.count in
    let budget = part.new.memory.budget in
    let ahead : drop n left ≡ slice ++ c.next_slice.new.self = c.slices.invariant.rest c.slices-test.true ∙ c.in-Some.ensures.lent.1 in
    let behind = row_behind left slice c.next_slice.new.self n ahead c.slices.invariant.folded.within in
    let fits : n + count ≤ length left = omega (arith, behind.2, part.ensures.few) in
    let first : at ≡ place + n = omega (arith, c.slices.invariant.on) in
    let rel : at + count - place ≡ n + count = omega (arith, c.slices.invariant.on) in
    let same : take count (drop n left) ≡ take count slice = first_of_row left slice c.next_slice.new.self n count ahead part.ensures.few in
    let there : found p g a u (place + n) (take count (drop n left)) ≡ found p g a u at (take count slice) =
    ap (λ k. found p g a u k (take count (drop n left))) (sym first) ∙ ap (found p g a u at) same in
    let more = some_folded c.args.reduction p g a u place left n count c.slices.so_far part.result.value c.combine-so_far.result c.slices.invariant.folded fits
    (part.ensures.value ∙ ap (reduction_of_numbers c.args.reduction) (sym there)) (ap length there ∙ part.ensures.count) c.combine-so_far.ensures in
    record {
      on = omega (arith, c.slices.invariant.on);
      rest = λ is.
          let all : count ≡ length slice = all_of count (length slice) budget part.ensures.few part.ensures.stops (some_left budget is) in
          ap (λ k. drop k left) rel ∙ ap (λ k. drop (n + k) left) all ∙ behind.1;
      used = λ is. (omega (arith, c.slices.invariant.on, part.ensures.some), used_up budget is);
      memory = part.ensures.memory;
      kept = part.ensures.kept;
      folded = subst (λ (k : ℕ). IsFolded c.args.reduction p g a u place left k c.combine-so_far.result) (sym rel) more;
      paid = subst (λ (k : ℕ). c.args.memory.now.budget ≤ budget + (longest p + EDGE_COST) * k) (sym rel)
          (more_paid (longest p + EDGE_COST) n count c.args.memory.now.budget c.slices.memory.budget ((longest p + EDGE_COST) * count) budget c.slices.invariant.paid (omega arith) part.ensures.cost);
      spent = subst (λ (k : ℕ). budget ≤ c.args.memory.now.budget - EDGE_COST * k) (sym rel)
          (more_spent n count c.args.memory.now.budget c.slices.memory.budget (EDGE_COST * count) budget c.slices.invariant.spent (omega arith) part.ensures.falls);
    }

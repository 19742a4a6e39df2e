use Rattle.std.proofs.Common.{◌≡◌, ◌+◌, ◌-◌, ◌*◌, ◌<◌, ◌≤◌, ◌++◌, ℕ, zero, suc, true, false, Option, Some, None, MatchOption, length, take, drop, refl, sym, ap, length-drop, lt-ltb, ◌∙◌, arith}
use Rattle.std.specs.Prelude.{nat_lt}
use Rattle.std.proofs.lemmas.List.{length-take-le}
use Rattle.graph_model.specs.Graph.{neighbours}
use Rattle.past_model.specs.Past.{graph_of}
use Rattle.verifier.specs.Walks.{longest}
use Rattle.edge_fold.specs.declared.budget.TheConstants.{EDGE_COST}
use Rattle.edge_fold.proofs.Numbers.{found, none_left, row_behind}
use Rattle.edge_fold.proofs.Pieces.{more_paid, more_spent, first_of_some, all_of}
use Rattle.edge_fold.proofs.Filled.{none_filled, more_filled, filled_long}
use Rattle.edge_fold.proofs.numbers_some.number_part.Goals as goal
use Rattle.edge_fold.specs.Inputs.{inputs_of}

nothing_left : {X : Type 0} (o : Option X) (P : Type 0) (Q : X → Type 0) → MatchOption o P Q → ((x : X) → o ≡ Some x → ⊥) → P
nothing_left None P Q h none = h
nothing_left (Some x) P Q h none = absurd (none x refl)

pub slices-init : goal.slices-init
slices-init c = record {
  few = omega arith;
  rest = λ _ _. sym c.requires.neighbours;
  used = λ is. absurd cc;
  filled = none_filled c.args.mapped.now.program.now (graph_of c.args.mapped.now.version.now) (inputs_of c.args.mapped.now) c.args.rest.source.vertex c.args.rest.place (drop c.args.rest.place (neighbours (graph_of c.args.mapped.now.version.now) c.args.rest.source.vertex)) c.args.numbers.now;
  paid = omega arith;
  spent = omega arith;
  memory = c.requires.memory;
}

some_left : (b : ℕ) → nat_lt 0 b ≡ true → 0 < b
some_left zero is = absurd cc
some_left (suc n) is = omega arith

used_up : (b : ℕ) → nat_lt 0 b ≡ false → b ≡ 0
used_up zero is = refl
used_up (suc n) is = absurd (let more : nat_lt 0 (suc n) ≡ true = lt-ltb 0 (suc n) (omega arith) in let no : true ≡ false = sym more ∙ is in cc)

pub unreachable-requires : goal.unreachable-requires
unreachable-requires c =
    let all = neighbours (graph_of c.args.mapped.now.version.now) c.args.rest.source.vertex in
    let ended = (nothing_left c.next_slice.result _ _ c.next_slice.ensures.lent c.in_default.not-Some).0 in
    let past : length (drop c.args.rest.place all) ≤ c.slices.written = none_left _ _ (c.slices.invariant.rest c.slices-test.true c.if-written-most.true ∙ ended) in
    omega (arith, past, c.if-written-most.true, c.min-most.ensures, c.requires.degree, length-drop c.args.rest.place all)

pub slices-preserved : goal.slices-preserved
slices-preserved c =
    let p = c.args.mapped.now.program.now in
    let g = graph_of c.args.mapped.now.version.now in
    let a = (inputs_of c.args.mapped.now) in
    let u = c.args.rest.source.vertex in
    let place = c.args.rest.place in
    let left = drop place (neighbours g u) in
    let written = c.slices.written in
    let slice = c.in-Some.targets.now in
    let count = c.min-count.result in
    let span = c.number_span_some-written in
    let n = span.result in
    let budget = span.new.memory.budget in
    let inv = c.slices.invariant in
    let ahead : drop written left ≡ slice ++ c.next_slice.new.self = inv.rest c.slices-test.true c.if-written-most.true ∙ c.in-Some.ensures.lent.1 in
    let behind = row_behind left slice c.next_slice.new.self written ahead inv.filled.within in
    let few : n ≤ count = omega (arith, span.ensures.few, c.first_targets.ensures.long) in
    let cut : count ≤ length slice = omega (arith, c.min-count.ensures) in
    let room : count ≤ c.min-most.result - written = omega (arith, c.min-count.ensures) in
    let same : take n c.first_targets.result.now ≡ take n (drop written left) = ap (take n) c.first_targets.ensures.same ∙ first_of_some left slice c.next_slice.new.self written count n ahead few cut in
    let size : written + count - written ≡ count = omega arith in
    let long = filled_long p g a u place left c.args.numbers.now c.slices.numbers written inv.filled in
    let fits : written + (written + count - written) ≤ length c.args.numbers.now = omega (arith, size, room, c.min-most.ensures, c.if-written-most.true) in
    let held : length (take (written + count - written) (drop written c.slices.numbers)) ≡ written + count - written =
    length-take-le (written + count - written) (drop written c.slices.numbers) (omega (arith, fits, long, length-drop written c.slices.numbers)) in
    record {
      few = omega (arith, few, room, c.if-written-most.true);
      rest = λ is more.
          let whole : n ≡ count = all_of n count budget few (λ less. span.ensures.stops (omega (arith, less, c.first_targets.ensures.long))) (some_left budget is) in
          let all : n ≡ length slice = omega (arith, whole, more, c.min-count.ensures, c.if-written-most.true) in
          ap (λ k. drop (written + k) left) all ∙ behind.1;
      used = λ is. (omega (arith, span.ensures.some (omega (arith, c.first_targets.ensures.long, c.min-count.ensures, c.if-written-most.true, c.in-Some.ensures.lent.0))), used_up budget is);
      filled = more_filled p g a u place left c.args.numbers.now c.slices.numbers span.new.numbers written n (written + count - written) inv.filled fits
          (omega (arith, few, size)) (omega (arith, behind.2, few, cut)) (span.auto.numbers ∙ held)
          (span.ensures.numbers ∙ ap (λ xs. found p g a u (place + written) xs ++ drop n (take (written + count - written) (drop written c.slices.numbers))) same);
      paid = more_paid (longest p + EDGE_COST) written n c.args.memory.now.budget c.slices.memory.budget ((longest p + EDGE_COST) * n) budget inv.paid (omega arith) span.ensures.cost;
      spent = more_spent written n c.args.memory.now.budget c.slices.memory.budget (EDGE_COST * n) budget inv.spent (omega arith) span.ensures.falls;
      memory = span.ensures.memory;
    }

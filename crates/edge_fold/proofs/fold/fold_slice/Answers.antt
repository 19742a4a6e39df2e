use Rattle.std.proofs.Common.{◌≡◌, ◌+◌, ◌<◌, ◌≤◌, ◌-◌, ℕ, List, Some, length, get_or, refl, ap, sym, ◌∙◌, subst, arith}
use Rattle.past_model.specs.Past.{graph_of}
use Rattle.bpf_model.specs.Run.{number_for}
use Rattle.map_model.specs.EdgeMap.{input_record, reduction_of_numbers}
use Rattle.verifier.specs.Walks.{longest}
use Rattle.edge_fold.specs.Inputs.{lane_bytes}
use Rattle.edge_fold.proofs.Numbers.{IsFolded, none_folded, one_folded, rest_folded, all_folded, found}
use Rattle.edge_fold.proofs.fold.fold_slice.Goals as goal
use Rattle.edge_fold.specs.Inputs.{inputs_of}

pub rounds-init : goal.rounds-init
rounds-init c = none_folded c.args.reduction c.args.mapped.now.program.now (graph_of c.args.mapped.now.version.now) (inputs_of c.args.mapped.now) c.args.span.source c.args.span.place c.args.span.targets.now c.nothing-so_far.result c.nothing-so_far.ensures

pub lanes-preserved : goal.lanes-preserved
lanes-preserved c =
    let p = c.args.mapped.now.program.now in
    let g = graph_of c.args.mapped.now.version.now in
    let a = (inputs_of c.args.mapped.now) in
    let s = c.args.span in
    let lane = c.lanes.lane in
    let e = c.fill.new.edges in
    let below = c.lanes-test.true in
    let left : c.min-count.result ≤ length s.targets.now - c.rounds.at = omega (arith, c.min-count.ensures) in
    let there : c.rounds.at + lane < length s.targets.now = omega (arith, below, left) in
    let same : lane_bytes a e lane ≡ input_record g s.source (get_or s.targets.now (c.rounds.at + lane) 0) (s.place + (c.rounds.at + lane)) a =
    rw (c.fill.ensures.sources lane below, c.fill.ensures.targets lane below, c.fill.ensures.places lane below, c.fill.ensures.degrees lane below, c.requires.degree) refl in
    let number : number_for p (longest p) g (input_record g s.source (get_or s.targets.now (c.rounds.at + lane) 0) (s.place + (c.rounds.at + lane)) a) ≡ Some c.number_of_lane-number.result =
    subst (λ (bytes : List ℕ). number_for p (longest p) g bytes ≡ Some (get_or c.sweep.new.numbers lane 0)) same (c.sweep.ensures.numbers c.if-not-sweep.false lane (omega (arith, below, c.fill.ensures.count)))
    ∙ ap (λ n. Some n) (sym c.number_of_lane-number.ensures) in
    let more = one_folded c.args.reduction p g a s.source s.place s.targets.now (c.rounds.at + lane) c.lanes.so_far (get_or s.targets.now (c.rounds.at + lane) 0) c.number_of_lane-number.result c.combine-so_far.result
    c.lanes.invariant there refl number c.number_of_lane-number.type_inv c.combine-so_far.ensures in
    subst (λ (n : ℕ). IsFolded c.args.reduction p g a s.source s.place s.targets.now n c.combine-so_far.result) (omega arith) more

pub overflow_cast-rest : goal.overflow_cast-rest
overflow_cast-rest c = record { fits = omega (arith, c.rounds.invariant.within, c.requires.few) }

pub overflow_add-rest : goal.overflow_add-rest
overflow_add-rest c = record { fits = omega (arith, c.rounds.invariant.within, c.requires.few) }

pub returns-clause-value : goal.returns-clause-value
returns-clause-value c =
    let p = c.args.mapped.now.program.now in
    let g = graph_of c.args.mapped.now.version.now in
    let s = c.args.span in
    (rest_folded c.args.reduction p g (inputs_of c.args.mapped.now) s.source s.place s.targets.now c.rounds.at c.rounds.so_far c.fold_span-value.result c.combine.result
    c.rounds.invariant
    (subst (λ (xs : List ℕ). c.fold_span-value.result ≡ reduction_of_numbers c.args.reduction (found p g (inputs_of c.args.mapped.now) s.source (s.place + c.rounds.at) xs)) c.targets_from.ensures c.fold_span-value.ensures.value)
    (subst (λ (xs : List ℕ). length (found p g (inputs_of c.args.mapped.now) s.source (s.place + c.rounds.at) xs) ≡ length xs) c.targets_from.ensures c.fold_span-value.ensures.count)
    c.combine.ensures).0

pub returns-clause-count : goal.returns-clause-count
returns-clause-count c =
    let p = c.args.mapped.now.program.now in
    let g = graph_of c.args.mapped.now.version.now in
    let s = c.args.span in
    (rest_folded c.args.reduction p g (inputs_of c.args.mapped.now) s.source s.place s.targets.now c.rounds.at c.rounds.so_far c.fold_span-value.result c.combine.result
    c.rounds.invariant
    (subst (λ (xs : List ℕ). c.fold_span-value.result ≡ reduction_of_numbers c.args.reduction (found p g (inputs_of c.args.mapped.now) s.source (s.place + c.rounds.at) xs)) c.targets_from.ensures c.fold_span-value.ensures.value)
    (subst (λ (xs : List ℕ). length (found p g (inputs_of c.args.mapped.now) s.source (s.place + c.rounds.at) xs) ≡ length xs) c.targets_from.ensures c.fold_span-value.ensures.count)
    c.combine.ensures).1

pub returns-then-at-span-clause-value : goal.returns-then-at-span-clause-value
returns-then-at-span-clause-value c =
    let s = c.args.span in
    (all_folded c.args.reduction c.args.mapped.now.program.now (graph_of c.args.mapped.now.version.now) (inputs_of c.args.mapped.now) s.source s.place s.targets.now c.rounds.at c.rounds.so_far c.rounds.invariant (omega (arith, c.if-at-span.true))).0

pub returns-then-at-span-clause-count : goal.returns-then-at-span-clause-count
returns-then-at-span-clause-count c =
    let s = c.args.span in
    (all_folded c.args.reduction c.args.mapped.now.program.now (graph_of c.args.mapped.now.version.now) (inputs_of c.args.mapped.now) s.source s.place s.targets.now c.rounds.at c.rounds.so_far c.rounds.invariant (omega (arith, c.if-at-span.true))).1

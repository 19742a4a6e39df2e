use Rattle.std.proofs.Common.{◌≡◌, ◌≤◌, ℕ, [], Option, Some, None, MatchOption, length, refl, sym, ◌∙◌, arith}
use Rattle.graph_model.specs.Graph.{Graph, neighbours, degree}
use Rattle.past_model.specs.Past.{graph_of}
use Rattle.bpf_image.specs.Program.{Program}
use Rattle.map_model.specs.declared.reduction.Reduction.{Reduction}
use Rattle.map_model.specs.EdgeMap.{reduction_of_numbers, exits_with}
use Rattle.verifier.specs.Walks.{longest}
use Rattle.edge_fold.proofs.Numbers.{none_folded, all_folded, none_left, row_behind, few_in_row, row_folded}
use Rattle.edge_fold.proofs.fold.fold_vertex.Goals as goal
use Rattle.edge_fold.specs.Inputs.{inputs_of}
use Rattle.map_model.specs.EdgeMap.{Inputs}

pub slices-init : goal.slices-init
slices-init c = record {
  rest = sym c.requires.targets;
  memory = c.requires.memory;
  kept = c.requires.kept;
  folded = none_folded c.args.reduction c.args.mapped.now.program.now (graph_of c.args.mapped.now.version.now) (inputs_of c.args.mapped.now) c.args.source.vertex 0 (neighbours (graph_of c.args.mapped.now.version.now) c.args.source.vertex) c.nothing-so_far.result c.nothing-so_far.ensures;
}

pub slices-preserved : goal.slices-preserved
slices-preserved c =
    let all = neighbours (graph_of c.args.mapped.now.version.now) c.args.source.vertex in
    let ahead = c.slices.invariant.rest ∙ c.in-Some.ensures.lent.1 in
    record {
      rest = (row_behind all c.in-Some.targets.now c.next_slice.new.self c.slices.place ahead c.slices.invariant.folded.within).1;
      memory = c.fold_slice-value.ensures.memory;
      kept = c.fold_slice-value.ensures.kept;
      folded = row_folded c.args.reduction c.args.mapped.now.program.now (graph_of c.args.mapped.now.version.now) (inputs_of c.args.mapped.now) c.args.source.vertex all c.in-Some.targets.now c.next_slice.new.self c.slices.place c.slices.so_far c.fold_slice-value.result c.combine-so_far.result c.slices.invariant.folded ahead c.fold_slice-value.ensures.value c.fold_slice-value.ensures.count c.combine-so_far.ensures;
    }

-- no neighbour, so no edge
no_edge : (r : Reduction) (p : Program) (g : Graph) (inputs : Inputs) (source value : ℕ) → value ≡ reduction_of_numbers r [] → degree g source ≡ 0
    → (value ≡ reduction_of_numbers r (exits_with p (longest p) g inputs source)) × (length (exits_with p (longest p) g inputs source) ≡ degree g source)
no_edge r p g inputs source value is none = all_folded r p g inputs source 0 (neighbours g source) 0 value (none_folded r p g inputs source 0 (neighbours g source) value is) (omega (arith, none))

pub returns-then-source-eq0-clause-value : goal.returns-then-source-eq0-clause-value
returns-then-source-eq0-clause-value c =
    (no_edge c.args.reduction c.args.mapped.now.program.now (graph_of c.args.mapped.now.version.now) (inputs_of c.args.mapped.now) c.args.source.vertex c.nothing-so_far.result c.nothing-so_far.ensures (omega (arith, c.requires.degree, c.if-source-eq0.true))).0

pub returns-then-source-eq0-clause-count : goal.returns-then-source-eq0-clause-count
returns-then-source-eq0-clause-count c =
    (no_edge c.args.reduction c.args.mapped.now.program.now (graph_of c.args.mapped.now.version.now) (inputs_of c.args.mapped.now) c.args.source.vertex c.nothing-so_far.result c.nothing-so_far.ensures (omega (arith, c.requires.degree, c.if-source-eq0.true))).1

nothing_left : {X : Type 0} (o : Option X) (P : Type 0) (Q : X → Type 0) → MatchOption o P Q → ((x : X) → o ≡ Some x → ⊥) → P
nothing_left None P Q h none = h
nothing_left (Some x) P Q h none = absurd (none x refl)

pub returns-clause-value : goal.returns-clause-value
returns-clause-value c =
    let past : length (neighbours (graph_of c.args.mapped.now.version.now) c.args.source.vertex) ≤ c.slices.place = (let test = c.slices-test.false in omega (arith, test, c.requires.degree)) in
    (all_folded c.args.reduction c.args.mapped.now.program.now (graph_of c.args.mapped.now.version.now) (inputs_of c.args.mapped.now) c.args.source.vertex 0 (neighbours (graph_of c.args.mapped.now.version.now) c.args.source.vertex) c.slices.place c.slices.so_far c.slices.invariant.folded past).0

pub returns-clause-count : goal.returns-clause-count
returns-clause-count c =
    let past : length (neighbours (graph_of c.args.mapped.now.version.now) c.args.source.vertex) ≤ c.slices.place = (let test = c.slices-test.false in omega (arith, test, c.requires.degree)) in
    (all_folded c.args.reduction c.args.mapped.now.program.now (graph_of c.args.mapped.now.version.now) (inputs_of c.args.mapped.now) c.args.source.vertex 0 (neighbours (graph_of c.args.mapped.now.version.now) c.args.source.vertex) c.slices.place c.slices.so_far c.slices.invariant.folded past).1

pub unreachable-requires : goal.unreachable-requires
unreachable-requires c =
    let ended = (nothing_left c.next_slice.result _ _ c.next_slice.ensures.lent c.in_default.not-Some).0 in
    let past : length (neighbours (graph_of c.args.mapped.now.version.now) c.args.source.vertex) ≤ c.slices.place = none_left _ _ (c.slices.invariant.rest ∙ ended) in
    let test = c.slices-test.true in
    omega (arith, past, test, c.requires.degree)

pub fold_slice-value-requires-clause-few : goal.fold_slice-value-requires-clause-few
fold_slice-value-requires-clause-few c =
    omega (arith, few_in_row (neighbours (graph_of c.args.mapped.now.version.now) c.args.source.vertex) c.in-Some.targets.now c.next_slice.new.self c.slices.place c.args.source.degree (c.slices.invariant.rest ∙ c.in-Some.ensures.lent.1) c.slices.invariant.folded.within c.requires.degree c.requires.small)

pub overflow_cast-place : goal.overflow_cast-place
overflow_cast-place c =
    omega (arith, few_in_row (neighbours (graph_of c.args.mapped.now.version.now) c.args.source.vertex) c.in-Some.targets.now c.next_slice.new.self c.slices.place c.args.source.degree (c.slices.invariant.rest ∙ c.in-Some.ensures.lent.1) c.slices.invariant.folded.within c.requires.degree c.requires.small)

pub overflow_add-place : goal.overflow_add-place
overflow_add-place c =
    omega (arith, few_in_row (neighbours (graph_of c.args.mapped.now.version.now) c.args.source.vertex) c.in-Some.targets.now c.next_slice.new.self c.slices.place c.args.source.degree (c.slices.invariant.rest ∙ c.in-Some.ensures.lent.1) c.slices.invariant.folded.within c.requires.degree c.requires.small)

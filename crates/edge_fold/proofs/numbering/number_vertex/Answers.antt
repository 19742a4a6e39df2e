use Rattle.std.proofs.Common.{◌≡◌, ◌+◌, ◌≤◌, [], Option, Some, None, MatchOption, length, take, drop, refl, sym, ap, ◌∙◌, append-nil, zero-add, length-drop, ◌-◌, ◌++◌, arith}
use Rattle.graph_model.specs.Graph.{neighbours, degree}
use Rattle.past_model.specs.Past.{graph_of}
use Rattle.std.proofs.lemmas.List.{length-take-le}
use Rattle.std.proofs.Math.Seq.{take-append_seam}
use Rattle.edge_fold.proofs.Numbers.{found, none_left, row_behind, few_in_row}
use Rattle.edge_fold.proofs.Written.{more_written, all_written}
use Rattle.edge_fold.proofs.numbering.number_vertex.Goals as goal
use Rattle.edge_fold.specs.Inputs.{inputs_of}

pub slices-init : goal.slices-init
slices-init c = record {
  rest = sym c.requires.cursor;
  memory = c.requires.memory;
  written = record { within = omega arith; long = c.requires.long; written = refl };
}

nothing_left : {X : Type 0} (o : Option X) (P : Type 0) (Q : X → Type 0) → MatchOption o P Q → ((x : X) → o ≡ Some x → ⊥) → P
nothing_left None P Q h none = h
nothing_left (Some x) P Q h none = absurd (none x refl)

pub unreachable-requires : goal.unreachable-requires
unreachable-requires c =
    let ended = (nothing_left c.next_slice.result _ _ c.next_slice.ensures.lent c.in_default.not-Some).0 in
    let past : length (neighbours (graph_of c.args.mapped.now.version.now) c.args.source) ≤ c.slices.place = none_left _ _ (c.slices.invariant.rest ∙ ended) in
    omega (arith, past, c.slices-test.true, c.left-degree.ensures.value, ap length c.requires.cursor)

pub overflow_cast-place : goal.overflow_cast-place
overflow_cast-place c =
    omega (arith, few_in_row (neighbours (graph_of c.args.mapped.now.version.now) c.args.source) c.in-Some.targets.now c.next_slice.new.self c.slices.place c.left-degree.result (c.slices.invariant.rest ∙ c.in-Some.ensures.lent.1) c.slices.invariant.written.within (c.left-degree.ensures.value ∙ ap length c.requires.cursor) c.left-degree.ensures.small)

pub overflow_add-place : goal.overflow_add-place
overflow_add-place c =
    omega (arith, few_in_row (neighbours (graph_of c.args.mapped.now.version.now) c.args.source) c.in-Some.targets.now c.next_slice.new.self c.slices.place c.left-degree.result (c.slices.invariant.rest ∙ c.in-Some.ensures.lent.1) c.slices.invariant.written.within (c.left-degree.ensures.value ∙ ap length c.requires.cursor) c.left-degree.ensures.small)

pub slice_bounds-number_span-end : goal.slice_bounds-number_span-end
slice_bounds-number_span-end c =
    let all = neighbours (graph_of c.args.mapped.now.version.now) c.args.source in
    let row = row_behind all c.in-Some.targets.now c.next_slice.new.self c.slices.place (c.slices.invariant.rest ∙ c.in-Some.ensures.lent.1) c.slices.invariant.written.within in
    let inside : c.slices.place + length c.in-Some.targets.now ≤ length c.slices.numbers = omega (arith, row.2, c.slices.invariant.written.long) in
    inside

pub slices-preserved : goal.slices-preserved
slices-preserved c =
    let p = c.args.mapped.now.program.now in
    let g = graph_of c.args.mapped.now.version.now in
    let all = neighbours g c.args.source in
    let slice = c.in-Some.targets.now in
    let place = c.slices.place in
    let ahead = c.slices.invariant.rest ∙ c.in-Some.ensures.lent.1 in
    let done = c.slices.invariant.written in
    let row = row_behind all slice c.next_slice.new.self place ahead done.within in
    let size : place + length slice - place ≡ length slice = omega arith in
    let old = take (place + length slice - place) (drop place c.slices.numbers) in
    let kept : length c.number_span.new.numbers ≡ length old = c.number_span.auto.numbers in
    let long : length c.number_span.new.numbers ≡ place + length slice - place =
    (let whole = length-drop place c.slices.numbers in
    omega (arith, kept, length-take-le (place + length slice - place) (drop place c.slices.numbers) (omega (arith, whole, row.2, done.long, size)))) in
    let same : take (length slice) (drop place all) ≡ slice = ap (take (length slice)) ahead ∙ take-append_seam slice c.next_slice.new.self in
    let part : c.number_span.new.numbers ≡ found p g (inputs_of c.args.mapped.now) c.args.source (0 + place) (take (length slice) (drop place all)) ++ [] =
    c.number_span.ensures.numbers
    ∙ ap (λ xs. found p g (inputs_of c.args.mapped.now) c.args.source place xs) (sym same)
    ∙ ap (λ n. found p g (inputs_of c.args.mapped.now) c.args.source n (take (length slice) (drop place all))) (sym (zero-add place))
    ∙ sym (append-nil (found p g (inputs_of c.args.mapped.now) c.args.source (0 + place) (take (length slice) (drop place all)))) in
    record {
      rest = row.1;
      memory = c.number_span.ensures.memory;
      written = more_written p g (inputs_of c.args.mapped.now) c.args.source 0 all c.slices.numbers place (place + length slice - place) (length slice) c.number_span.new.numbers [] done
          (omega (arith, row.2, done.long)) long (omega arith) (omega arith) part;
    }

pub returns-clause-numbers : goal.returns-clause-numbers
returns-clause-numbers c =
    all_written c.args.mapped.now.program.now (graph_of c.args.mapped.now.version.now) (inputs_of c.args.mapped.now) c.args.source 0 (neighbours (graph_of c.args.mapped.now.version.now) c.args.source) c.slices.numbers c.slices.place c.slices.invariant.written (omega (arith, c.slices-test.false, c.left-degree.ensures.value, ap length c.requires.cursor))

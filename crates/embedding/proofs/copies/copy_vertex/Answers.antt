use Rattle.std.proofs.Common.{◌≡◌, ◌+◌, ◌-◌, ◌≤◌, ◌++◌, Option, Some, None, MatchOption, length, take, refl, sym, ap, ◌∙◌, arith}
use Rattle.std.proofs.lemmas.List.{take_all}
use Rattle.std.proofs.lemmas.Slice.{take-put_mid}
use Rattle.graph_model.specs.Graph.{neighbours}
use Rattle.past_model.specs.Past.{graph_of}
use Rattle.edge_fold.proofs.Numbers.{none_left, row_behind}
use Rattle.edge_fold.proofs.Written.{length_put}
use Rattle.embedding.proofs.copies.copy_vertex.Goals as goal

pub slices-init : goal.slices-init
slices-init c = record { rest = sym c.cursor-cursor.ensures; within = omega arith; long = c.requires; copied = refl }

nothing_left : {X : Type 0} (o : Option X) (P : Type 0) (Q : X → Type 0) → MatchOption o P Q → ((x : X) → o ≡ Some x → ⊥) → P
nothing_left None P Q h none = h
nothing_left (Some x) P Q h none = absurd (none x refl)

pub unreachable-requires : goal.unreachable-requires
unreachable-requires c =
    let ended = (nothing_left c.next_slice.result _ _ c.next_slice.ensures.lent c.in_default.not-Some).0 in
    let past : length (neighbours (graph_of c.args.version.now) c.args.vertex) ≤ c.slices.place = none_left _ _ (c.slices.invariant.rest ∙ ended) in
    omega (arith, past, c.slices-test.true, c.slices.invariant.long)

pub slice_bounds-copy_from_slice-end : goal.slice_bounds-copy_from_slice-end
slice_bounds-copy_from_slice-end c =
    let all = neighbours (graph_of c.args.version.now) c.args.vertex in
    let row = row_behind all c.in-Some.slice.now c.next_slice.new.self c.slices.place (c.slices.invariant.rest ∙ c.in-Some.ensures.lent.1) c.slices.invariant.within in
    let inside : c.slices.place + length c.in-Some.slice.now ≤ length c.slices.targets = omega (arith, row.2, c.slices.invariant.long) in
    inside

pub slices-preserved : goal.slices-preserved
slices-preserved c =
    let all = neighbours (graph_of c.args.version.now) c.args.vertex in
    let slice = c.in-Some.slice.now in
    let place = c.slices.place in
    let done = c.slices.invariant in
    let row = row_behind all slice c.next_slice.new.self place (done.rest ∙ c.in-Some.ensures.lent.1) done.within in
    let size = place + length slice - place in
    let part = c.copy_from_slice.new.self in
    let is : part ≡ slice = c.copy_from_slice.ensures.after in
    let long : length part ≡ size = (let same = ap length is in omega (arith, same)) in
    record {
      rest = row.1;
      within = row.2;
      long = length_put place size c.slices.targets part (omega (arith, row.2, done.long)) long ∙ done.long;
      copied = take-put_mid place size c.slices.targets part (place + length slice) (omega (arith, ap length is)) (omega (arith, row.2, done.long))
          ∙ ap (λ l. take place c.slices.targets ++ l) is ∙ ap (λ l. l ++ slice) done.copied ∙ sym row.0;
    }

pub returns : goal.returns
returns c =
    let all = neighbours (graph_of c.args.version.now) c.args.vertex in
    let done = c.slices.invariant in
    sym (take_all c.slices.place c.slices.targets (omega (arith, c.slices-test.false)))
    ∙ done.copied ∙ take_all c.slices.place all (omega (arith, c.slices-test.false, done.long))

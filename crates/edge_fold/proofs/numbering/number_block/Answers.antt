use Rattle.std.proofs.Common.{◌≡◌, ◌+◌, ◌<◌, ◌≤◌, ◌++◌, ℕ, List, Some, length, take, drop, get_or, refl, sym, ap, subst, zero-add, ◌∙◌, arith}
use Rattle.std.proofs.lemmas.List.{length-take, length-take-le}
use Rattle.past_model.specs.Past.{graph_of}
use Rattle.bpf_model.specs.Run.{number_for}
use Rattle.map_model.specs.EdgeMap.{input_record}
use Rattle.verifier.specs.Walks.{longest}
use Rattle.edge_fold.specs.Inputs.{lane_bytes}
use Rattle.edge_fold.proofs.Numbers.{found}
use Rattle.edge_fold.proofs.Written.{lanes_found}
use Rattle.edge_fold.proofs.numbering.number_block.Goals as goal
use Rattle.edge_fold.specs.Inputs.{inputs_of}

pub returns-clause-numbers : goal.returns-clause-numbers
returns-clause-numbers c =
    let p = c.args.mapped.now.program.now in
    let g = graph_of c.args.mapped.now.version.now in
    let a = (inputs_of c.args.mapped.now) in
    let s = c.args.span in
    let e = c.fill.new.edges in
    let count = c.min-count.result in
    let few : count ≤ length c.args.numbers.now = omega (arith, c.min-count.ensures, c.requires.long) in
    let lanes : count ≤ length c.sweep.new.numbers =
    omega (arith, c.copy_from_slice.ensures.len, length-take count c.sweep.new.numbers, length-take-le count c.args.numbers.now few) in
    let have : (i : ℕ) → i < count → number_for p (longest p) g (input_record g s.source (get_or s.targets.now i 0) (s.place + i) a) ≡ Some (get_or c.sweep.new.numbers i 0) = (λ i below.
    let same : lane_bytes a e i ≡ input_record g s.source (get_or s.targets.now i 0) (s.place + i) a =
    rw (c.fill.ensures.sources i below, c.fill.ensures.targets i below, c.fill.ensures.places i below, c.fill.ensures.degrees i below, zero-add i, c.requires.degree) refl in
    subst (λ (bytes : List ℕ). number_for p (longest p) g bytes ≡ Some (get_or c.sweep.new.numbers i 0)) same (c.sweep.ensures.numbers c.if-not-sweep.false i (omega (arith, below, c.fill.ensures.count)))) in
    let numbers : found p g a s.source s.place (take count s.targets.now) ≡ take count c.sweep.new.numbers =
    lanes_found p g a s.source s.place s.targets.now c.sweep.new.numbers count (omega (arith, c.min-count.ensures)) lanes have in
    ap (λ l. l ++ drop count c.args.numbers.now) (c.copy_from_slice.ensures.after ∙ sym numbers)

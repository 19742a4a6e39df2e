use Rattle.std.proofs.Common.{◌≡◌, ◌+◌, ◌<◌, ◌≤◌, ℕ, List, Some, [], length, take, get_or, refl, sym, ap, subst, zero-add, ◌∙◌, arith}
use Rattle.std.specs.Prelude.{slice_index}
use Rattle.std.proofs.lemmas.List.{length-take-le}
use Rattle.bpf_image.specs.Program.{Program}
use Rattle.bpf_blocks.specs.declared.columns.TheConstants.{LANES}
use Rattle.bpf_blocks.specs.declared.edges.Edges.{Edges}
use Rattle.graph_model.specs.Graph.{Graph, degree}
use Rattle.past_model.specs.Past.{graph_of}
use Rattle.bpf_model.specs.Run.{number_for}
use Rattle.map_model.specs.Pushes.{pushed}
use Rattle.map_model.specs.EdgeMap.{Inputs, input_record, reduction_of_numbers}
use Rattle.verifier.specs.Walks.{longest}
use Rattle.edge_fold.specs.Inputs.{lane_bytes}
use Rattle.edge_fold.specs.declared.span.Span.{Span}
use Rattle.edge_fold.proofs.Numbers.{found}
use Rattle.edge_fold.proofs.Pushed.{nothing_pushed}
use Rattle.edge_fold.proofs.Written.{lanes_found}
use Rattle.edge_fold.proofs.rounds.push_block.Goals as goal
use Rattle.edge_fold.specs.Inputs.{inputs_of}

-- the numbers of the first edges stand in the lanes
numbered : (p : Program) (g : Graph) (a : Inputs) (s : Span) (e : Edges) (lanes : List ℕ) (count : ℕ) → s.degree ≡ degree g s.source → count ≤ length s.targets.now → count ≤ length lanes
    → ((k : ℕ) → k < count → slice_index e.sources k ≡ s.source) → ((k : ℕ) → k < count → slice_index e.targets k ≡ slice_index s.targets.now (0 + k))
    → ((k : ℕ) → k < count → slice_index e.places k ≡ s.place + (0 + k)) → ((k : ℕ) → k < count → slice_index e.degrees k ≡ s.degree)
    → ((k : ℕ) → k < count → number_for p (longest p) g (lane_bytes a e k) ≡ Some (slice_index lanes k))
    → found p g a s.source s.place (take count s.targets.now) ≡ take count lanes
numbered p g a s e lanes count degree_is inside long sources targets places degrees numbers =
    lanes_found p g a s.source s.place s.targets.now lanes count inside long (λ i below.
    let same : lane_bytes a e i ≡ input_record g s.source (get_or s.targets.now i 0) (s.place + i) a =
    rw (sources i below, targets i below, places i below, degrees i below, zero-add i, degree_is) refl in
    subst (λ (bytes : List ℕ). number_for p (longest p) g bytes ≡ Some (get_or lanes i 0)) same (numbers i below))

pub returns-then-sweep-clause-values : goal.returns-then-sweep-clause-values
returns-then-sweep-clause-values c =
    let r = c.args.reduction in
    let s = c.args.span in
    let n = c.min-count.result in
    let lanes = c.sweep.new.numbers in
    let old = c.args.values.now in
    let room : length lanes ≡ LANES = c.push_lanes-value.ensures.lanes in
    let numbers = numbered c.args.mapped.now.program.now (graph_of c.args.mapped.now.version.now) (inputs_of c.args.mapped.now) s c.fill.new.edges lanes n c.requires.degree
    (omega (arith, c.min-count.ensures)) (omega (arith, room, c.min-count.ensures)) c.fill.ensures.sources c.fill.ensures.targets c.fill.ensures.places c.fill.ensures.degrees
    (λ k below. c.sweep.ensures.numbers c.if-sweep.true k (omega (arith, below, c.fill.ensures.count))) in
    c.push_lanes-value.ensures.values
    ∙ ap (λ k. pushed r c.first_targets-targets.result.now (take k lanes) old) c.first_targets-targets.ensures.long
    ∙ ap (λ ts. pushed r ts (take n lanes) old) c.first_targets-targets.ensures.same
    ∙ ap (λ ns. pushed r (take n s.targets.now) ns old) (sym numbers)

pub returns-then-sweep-clause-value : goal.returns-then-sweep-clause-value
returns-then-sweep-clause-value c =
    let r = c.args.reduction in
    let s = c.args.span in
    let n = c.min-count.result in
    let lanes = c.sweep.new.numbers in
    let room : length lanes ≡ LANES = c.push_lanes-value.ensures.lanes in
    let numbers = numbered c.args.mapped.now.program.now (graph_of c.args.mapped.now.version.now) (inputs_of c.args.mapped.now) s c.fill.new.edges lanes n c.requires.degree
    (omega (arith, c.min-count.ensures)) (omega (arith, room, c.min-count.ensures)) c.fill.ensures.sources c.fill.ensures.targets c.fill.ensures.places c.fill.ensures.degrees
    (λ k below. c.sweep.ensures.numbers c.if-sweep.true k (omega (arith, below, c.fill.ensures.count))) in
    c.push_lanes-value.ensures.value
    ∙ ap (λ k. reduction_of_numbers r (take k lanes)) c.first_targets-targets.ensures.long
    ∙ ap (reduction_of_numbers r) (sym numbers)

pub returns-then-sweep-clause-count : goal.returns-then-sweep-clause-count
returns-then-sweep-clause-count c =
    let s = c.args.span in
    let n = c.min-count.result in
    let lanes = c.sweep.new.numbers in
    let room : length lanes ≡ LANES = c.push_lanes-value.ensures.lanes in
    let numbers = numbered c.args.mapped.now.program.now (graph_of c.args.mapped.now.version.now) (inputs_of c.args.mapped.now) s c.fill.new.edges lanes n c.requires.degree
    (omega (arith, c.min-count.ensures)) (omega (arith, room, c.min-count.ensures)) c.fill.ensures.sources c.fill.ensures.targets c.fill.ensures.places c.fill.ensures.degrees
    (λ k below. c.sweep.ensures.numbers c.if-sweep.true k (omega (arith, below, c.fill.ensures.count))) in
    ap length numbers ∙ length-take-le n lanes (omega (arith, room, c.min-count.ensures))

pub returns-clause-values : goal.returns-clause-values
returns-clause-values c = sym (nothing_pushed c.args.reduction [] c.args.values.now)

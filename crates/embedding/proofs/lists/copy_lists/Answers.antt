use Rattle.std.proofs.Common.{◌≡◌, ◌+◌, ◌-◌, length, take, drop, slice_set, ap, subst, ◌∙◌, length-drop, rules, arith}
use Rattle.std.specs.Prelude.{slice_index}
use Rattle.std.proofs.lemmas.List.{length-take-le}
use borrow.Rule.Slice.PartMut.{put_mid}
use Rattle.graph_model.specs.Graph.{degree}
use Rattle.past_model.specs.Past.{graph_of}
use Rattle.embedding.proofs.ListLemmas.{AreListed, none_listed, list_fits, vertex_listed, all_listed}
use Rattle.embedding.proofs.lists.copy_lists.Goals as goal

pub vertices-init : goal.vertices-init
vertices-init c = none_listed (graph_of c.args.version.now) c.args.frontier.now c.args.starts.now c.args.targets.now c.requires.starts

pub overflow_add-end : goal.overflow_add-end
overflow_add-end c =
    let graph = graph_of c.args.version.now in
    let frontier = c.args.frontier.now in
    let many : c.degree.result ≡ degree graph (slice_index frontier c.vertices.place) = c.degree.ensures.value ∙ ap (degree graph) c.from.ensures in
    let left = list_fits graph frontier c.vertices.starts c.args.targets.now c.vertices.targets c.vertices.place c.vertices.at c.degree.result
    c.vertices.invariant c.vertices-test.true c.requires.room many in
    search (rules, left)

pub offset_bounds-targets-at : goal.offset_bounds-targets-at
offset_bounds-targets-at c =
    let graph = graph_of c.args.version.now in
    let frontier = c.args.frontier.now in
    let many : c.degree.result ≡ degree graph (slice_index frontier c.vertices.place) = c.degree.ensures.value ∙ ap (degree graph) c.from.ensures in
    let left = list_fits graph frontier c.vertices.starts c.args.targets.now c.vertices.targets c.vertices.place c.vertices.at c.degree.result
    c.vertices.invariant c.vertices-test.true c.requires.room many in
    search (rules, left)

pub slice_bounds-copy_vertex-end : goal.slice_bounds-copy_vertex-end
slice_bounds-copy_vertex-end c =
    let graph = graph_of c.args.version.now in
    let frontier = c.args.frontier.now in
    let many : c.degree.result ≡ degree graph (slice_index frontier c.vertices.place) = c.degree.ensures.value ∙ ap (degree graph) c.from.ensures in
    let left = list_fits graph frontier c.vertices.starts c.args.targets.now c.vertices.targets c.vertices.place c.vertices.at c.degree.result
    c.vertices.invariant c.vertices-test.true c.requires.room many in
    left

pub vertices-preserved : goal.vertices-preserved
vertices-preserved c =
    let graph = graph_of c.args.version.now in
    let frontier = c.args.frontier.now in
    let many : c.degree.result ≡ degree graph (slice_index frontier c.vertices.place) = c.degree.ensures.value ∙ ap (degree graph) c.from.ensures in
    let left = list_fits graph frontier c.vertices.starts c.args.targets.now c.vertices.targets c.vertices.place c.vertices.at c.degree.result
    c.vertices.invariant c.vertices-test.true c.requires.room many in
    let at = c.vertices.at in
    let size = at + c.degree.result - at in
    let same : size ≡ c.degree.result = omega arith in
    let old = take size (drop at c.vertices.targets) in
    let kept : length c.copy_vertex.new.targets ≡ length old = c.copy_vertex.auto.targets in
    let whole = length-drop at c.vertices.targets in
    let long : length c.copy_vertex.new.targets ≡ size =
    omega (arith, kept, length-take-le size (drop at c.vertices.targets) (omega (arith, whole, left, same))) in
    let next = vertex_listed graph frontier c.vertices.starts c.args.targets.now c.vertices.targets c.vertices.place at size c.copy_vertex.new.targets
    c.vertices.invariant c.vertices-test.true c.requires.room (omega (arith, many, same)) long c.copy_vertex.ensures in
    subst (λ n. AreListed graph frontier (slice_set c.vertices.starts (c.vertices.place + 1) (at + n)) c.args.targets.now
    (put_mid at size c.vertices.targets c.copy_vertex.new.targets) (c.vertices.place + 1) (at + n)) same next

pub returns-clause-starts : goal.returns-clause-starts
returns-clause-starts c =
    (all_listed (graph_of c.args.version.now) c.args.frontier.now c.vertices.starts c.args.targets.now c.vertices.targets c.vertices.place c.vertices.at c.vertices.invariant (omega arith)).0

pub returns-clause-lists : goal.returns-clause-lists
returns-clause-lists c =
    (all_listed (graph_of c.args.version.now) c.args.frontier.now c.vertices.starts c.args.targets.now c.vertices.targets c.vertices.place c.vertices.at c.vertices.invariant (omega arith)).1

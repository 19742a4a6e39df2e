use Rattle.std.proofs.Common.{◌≡◌, ◌+◌, ◌-◌, ◌<◌, ◌≤◌, length, take, drop, slice_set, refl, sym, ap, subst, ◌∙◌, length-drop, rules, arith}
use Rattle.std.proofs.lemmas.List.{length-take-le}
use borrow.Rule.Slice.PartMut.{put_mid}
use Rattle.graph_model.specs.Graph.{degree}
use Rattle.past_model.specs.Past.{graph_of}
use Rattle.past_model.proofs.Pasts.{vertex_count-graph_of}
use Rattle.edge_fold.proofs.Written.{places_left}
use Rattle.embedding.proofs.CopyLemmas.{AreCopied, none_copied, vertex_copied, all_copied, wrong_starts, wrong_targets, right_lengths}
use Rattle.embedding.specs.Arrays.{copy_status}
use Rattle.embedding.specs.declared.statuses.TheConstants.{LENGTHS}
use Rattle.embedding.proofs.copies.copy_all.Goals.{then-starts-vertices-via-then-starts-vertices, then-starts-vertices-via-else-starts-vertices+then-targets-edge_count}
use Rattle.embedding.proofs.copies.copy_all.Goals as goal

pub returns-then-starts-vertices : goal.returns-then-starts-vertices
returns-then-starts-vertices c =
    let g = graph_of c.args.version.now in
    let starts = c.args.starts.now in
    let targets = c.args.targets.now in
    let size : c.vertex_count-vertices.result ≡ g.vertex_count = omega (arith, c.vertex_count-vertices.ensures.value, vertex_count-graph_of c.args.version.now) in
    let status : copy_status g starts targets ≡ LENGTHS = elim c.then-starts-vertices.branch [
      | then-starts-vertices-via-then-starts-vertices w ↦ wrong_starts g starts targets (λ is. w.if-starts-vertices.true (omega (arith, is, size)))
      | then-starts-vertices-via-else-starts-vertices+then-targets-edge_count w ↦
          wrong_targets g starts targets (omega (arith, w.if-starts-vertices.false, size)) (λ is. w.if-targets-edge_count.true (omega (arith, is, w.edge_count.ensures)))
    ] in
    record { status_is = sym status; done = λ wrong. absurd (omega (arith, wrong)); left = λ _. (refl, refl) }

pub vertices-init : goal.vertices-init
vertices-init c =
    none_copied (graph_of c.args.version.now) c.args.starts.now c.args.targets.now
    (omega (arith, c.if-starts-vertices.false, c.vertex_count-vertices.ensures.value, vertex_count-graph_of c.args.version.now))
    (omega (arith, c.if-targets-edge_count.false, c.edge_count.ensures))

pub overflow_add-end : goal.overflow_add-end
overflow_add-end c =
    let g = graph_of c.args.version.now in
    let below : c.vertices.vertex < g.vertex_count = omega (arith, c.vertices-test.true, c.vertex_count-vertices.ensures.value, vertex_count-graph_of c.args.version.now) in
    let many : c.degree.result ≡ degree g c.vertices.vertex = c.degree.ensures.value ∙ ap (degree g) c.from.ensures in
    let left : c.vertices.at + c.degree.result ≤ length c.vertices.targets = omega (arith, places_left g c.vertices.vertex c.vertices.at below c.vertices.invariant.place, many, c.vertices.invariant.long) in
    search (rules, left)

pub offset_bounds-targets-at : goal.offset_bounds-targets-at
offset_bounds-targets-at c =
    let g = graph_of c.args.version.now in
    let below : c.vertices.vertex < g.vertex_count = omega (arith, c.vertices-test.true, c.vertex_count-vertices.ensures.value, vertex_count-graph_of c.args.version.now) in
    let many : c.degree.result ≡ degree g c.vertices.vertex = c.degree.ensures.value ∙ ap (degree g) c.from.ensures in
    let left : c.vertices.at + c.degree.result ≤ length c.vertices.targets = omega (arith, places_left g c.vertices.vertex c.vertices.at below c.vertices.invariant.place, many, c.vertices.invariant.long) in
    search (rules, left)

pub slice_bounds-copy_vertex-end : goal.slice_bounds-copy_vertex-end
slice_bounds-copy_vertex-end c =
    let g = graph_of c.args.version.now in
    let below : c.vertices.vertex < g.vertex_count = omega (arith, c.vertices-test.true, c.vertex_count-vertices.ensures.value, vertex_count-graph_of c.args.version.now) in
    let many : c.degree.result ≡ degree g c.vertices.vertex = c.degree.ensures.value ∙ ap (degree g) c.from.ensures in
    let left : c.vertices.at + c.degree.result ≤ length c.vertices.targets = omega (arith, places_left g c.vertices.vertex c.vertices.at below c.vertices.invariant.place, many, c.vertices.invariant.long) in
    left

pub vertices-preserved : goal.vertices-preserved
vertices-preserved c =
    let g = graph_of c.args.version.now in
    let below : c.vertices.vertex < g.vertex_count = omega (arith, c.vertices-test.true, c.vertex_count-vertices.ensures.value, vertex_count-graph_of c.args.version.now) in
    let many : c.degree.result ≡ degree g c.vertices.vertex = c.degree.ensures.value ∙ ap (degree g) c.from.ensures in
    let left : c.vertices.at + c.degree.result ≤ length c.vertices.targets = omega (arith, places_left g c.vertices.vertex c.vertices.at below c.vertices.invariant.place, many, c.vertices.invariant.long) in
    let at = c.vertices.at in
    let size = at + c.degree.result - at in
    let same : size ≡ c.degree.result = omega arith in
    let old = take size (drop at c.vertices.targets) in
    let kept : length c.copy_vertex.new.targets ≡ length old = c.copy_vertex.auto.targets in
    let long : length c.copy_vertex.new.targets ≡ size =
    (let whole = length-drop at c.vertices.targets in omega (arith, kept, length-take-le size (drop at c.vertices.targets) (omega (arith, whole, left, same)))) in
    let next = vertex_copied g c.vertices.starts c.vertices.targets c.vertices.vertex at size c.copy_vertex.new.targets c.vertices.invariant below (omega (arith, many, same)) long c.copy_vertex.ensures in
    subst (λ n. AreCopied g (slice_set c.vertices.starts (c.vertices.vertex + 1) (at + n)) (put_mid at size c.vertices.targets c.copy_vertex.new.targets) (c.vertices.vertex + 1) (at + n)) same next

pub returns : goal.returns
returns c =
    let g = graph_of c.args.version.now in
    let size : c.vertex_count-vertices.result ≡ g.vertex_count = omega (arith, c.vertex_count-vertices.ensures.value, vertex_count-graph_of c.args.version.now) in
    let right = right_lengths g c.args.starts.now c.args.targets.now (omega (arith, c.if-starts-vertices.false, size)) (omega (arith, c.if-targets-edge_count.false, c.edge_count.ensures)) in
    record {
      status_is = sym right;
      done = λ _. all_copied g c.vertices.starts c.vertices.targets c.vertices.vertex c.vertices.at c.vertices.invariant (omega (arith, c.vertices-test.false, c.vertices.auto.vertex-end, size));
      left = λ wrong. absurd (wrong refl);
    }

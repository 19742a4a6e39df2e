use Rattle.std.proofs.Common.{◌≡◌, ◌+◌, ◌≤◌, ◌<◌, ◌-◌, length, take, drop, ap, subst, length-drop, ◌∙◌, rules, arith}
use Rattle.std.proofs.lemmas.List.{length-take-le}
use borrow.Rule.Slice.PartMut.{put_mid}
use Rattle.graph_model.specs.Graph.{degree}
use Rattle.past_model.proofs.Pasts.{vertex_count-graph_of}
use Rattle.past_model.specs.Past.{graph_of}
use Rattle.edge_fold.proofs.Written.{AreWritten, none_written, vertex_written, places_left, all_are_written}
use Rattle.edge_fold.proofs.numbering.number_edges.Goals as goal
use Rattle.edge_fold.specs.Inputs.{inputs_of}

pub sources-init : goal.sources-init
sources-init c = (none_written c.args.mapped.now.program.now (graph_of c.args.mapped.now.version.now) (inputs_of c.args.mapped.now) c.args.numbers.now c.requires.long, c.requires.memory)

pub overflow_add-end : goal.overflow_add-end
overflow_add-end c =
    let g = graph_of c.args.mapped.now.version.now in
    let below : c.sources.source < g.vertex_count = omega (arith, c.sources-test.true, c.vertex_count-source-end.ensures.value, vertex_count-graph_of c.args.mapped.now.version.now) in
    let many : c.left.result ≡ degree g c.sources.source = c.left.ensures.value ∙ ap length c.cursor-cursor.ensures in
    let left : c.sources.at + c.left.result ≤ length c.sources.numbers = omega (arith, places_left g c.sources.source c.sources.at below c.sources.invariant.0.place, many, c.sources.invariant.0.long) in
    search (rules, left)

pub offset_bounds-numbers-at : goal.offset_bounds-numbers-at
offset_bounds-numbers-at c =
    let g = graph_of c.args.mapped.now.version.now in
    let below : c.sources.source < g.vertex_count = omega (arith, c.sources-test.true, c.vertex_count-source-end.ensures.value, vertex_count-graph_of c.args.mapped.now.version.now) in
    let many : c.left.result ≡ degree g c.sources.source = c.left.ensures.value ∙ ap length c.cursor-cursor.ensures in
    let left : c.sources.at + c.left.result ≤ length c.sources.numbers = omega (arith, places_left g c.sources.source c.sources.at below c.sources.invariant.0.place, many, c.sources.invariant.0.long) in
    search (rules, left)

pub slice_bounds-number_vertex-end : goal.slice_bounds-number_vertex-end
slice_bounds-number_vertex-end c =
    let g = graph_of c.args.mapped.now.version.now in
    let below : c.sources.source < g.vertex_count = omega (arith, c.sources-test.true, c.vertex_count-source-end.ensures.value, vertex_count-graph_of c.args.mapped.now.version.now) in
    let many : c.left.result ≡ degree g c.sources.source = c.left.ensures.value ∙ ap length c.cursor-cursor.ensures in
    let left : c.sources.at + c.left.result ≤ length c.sources.numbers = omega (arith, places_left g c.sources.source c.sources.at below c.sources.invariant.0.place, many, c.sources.invariant.0.long) in
    left

pub sources-preserved : goal.sources-preserved
sources-preserved c =
    let g = graph_of c.args.mapped.now.version.now in
    let below : c.sources.source < g.vertex_count = omega (arith, c.sources-test.true, c.vertex_count-source-end.ensures.value, vertex_count-graph_of c.args.mapped.now.version.now) in
    let many : c.left.result ≡ degree g c.sources.source = c.left.ensures.value ∙ ap length c.cursor-cursor.ensures in
    let left : c.sources.at + c.left.result ≤ length c.sources.numbers = omega (arith, places_left g c.sources.source c.sources.at below c.sources.invariant.0.place, many, c.sources.invariant.0.long) in
    let at = c.sources.at in
    let size = at + c.left.result - at in
    let same : size ≡ c.left.result = omega arith in
    let old = take size (drop at c.sources.numbers) in
    let kept : length c.number_vertex.new.numbers ≡ length old = c.number_vertex.auto.numbers in
    let long : length c.number_vertex.new.numbers ≡ size =
    (let whole = length-drop at c.sources.numbers in omega (arith, kept, length-take-le size (drop at c.sources.numbers) (omega (arith, whole, left, same)))) in
    let next = vertex_written c.args.mapped.now.program.now g (inputs_of c.args.mapped.now) c.sources.numbers c.sources.source at size c.number_vertex.new.numbers c.sources.invariant.0 below (omega (arith, many, same)) long c.number_vertex.ensures.numbers in
    (subst (λ n. AreWritten c.args.mapped.now.program.now g (inputs_of c.args.mapped.now) (put_mid at size c.sources.numbers c.number_vertex.new.numbers) (c.sources.source + 1) (at + n)) same next, c.number_vertex.ensures.memory)

pub returns-clause-numbers : goal.returns-clause-numbers
returns-clause-numbers c = all_are_written c.args.mapped.now.program.now (graph_of c.args.mapped.now.version.now) (inputs_of c.args.mapped.now) c.sources.numbers c.sources.source c.sources.at c.sources.invariant.0 (omega (arith, c.sources-test.false, c.sources.auto.source-end, c.vertex_count-source-end.ensures.value, vertex_count-graph_of c.args.mapped.now.version.now))

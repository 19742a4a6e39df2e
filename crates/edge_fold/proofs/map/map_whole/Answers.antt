use Rattle.std.proofs.Common.{◌≡◌, ◌+◌, ◌<◌, ◌++◌, ◌∷◌, [], length, take, get_or, sym, ap, ◌∙◌, length-append, rules, arith}
use Rattle.std.proofs.lemmas.List.{map_more, take_more_set, length-set}
use Rattle.graph_model.specs.Graph.{degree}
use Rattle.past_model.specs.Past.{graph_of}
use Rattle.map_model.specs.EdgeMap.{exits_with, all_with, reduction_of_numbers}
use Rattle.map_model.specs.Parts.{values_for}
use Rattle.verifier.specs.Walks.{longest}
use Rattle.edge_fold.proofs.Reductions.{total_more}
use Rattle.edge_fold.proofs.RowFacts.{flat_map_more}
use Rattle.edge_fold.proofs.map.map_whole.Goals as goal
use Rattle.edge_fold.specs.Inputs.{inputs_of}

pub vertices-init : goal.vertices-init
vertices-init c = record {
  inside = omega arith;
  edges = search rules;
  total = search rules;
  values = search rules;
  long = c.requires.long;
  memory = search rules;
  kept = c.forget.ensures.numbered c.args.mapped.now.program.now (graph_of c.args.mapped.now.version.now) (inputs_of c.args.mapped.now);
  few = search rules;
}

pub vertices-preserved-then-degree-eq0 : goal.vertices-preserved-then-degree-eq0
vertices-preserved-then-degree-eq0 c =
    let passed = c.pass_edgeless-at.ensures in
    record {
      inside = passed.inside;
      edges = c.vertices.invariant.edges ∙ sym (ap length passed.numbers);
      total = c.vertices.invariant.total ∙ sym (ap (reduction_of_numbers c.args.request.now.reduction) passed.numbers);
      values = passed.values c.vertices.invariant.values;
      long = passed.long ∙ c.vertices.invariant.long;
      memory = c.vertices.invariant.memory;
      kept = c.vertices.invariant.kept;
      few = omega (arith, c.vertices.invariant.few, passed.on);
    }

pub vertices-preserved : goal.vertices-preserved
vertices-preserved c =
    let p = c.args.mapped.now.program.now in
    let k = longest p in
    let g = graph_of c.args.mapped.now.version.now in
    let a = (inputs_of c.args.mapped.now) in
    let r = c.args.request.now.reduction in
    let f = c.args.request.now.frontier.now in
    let i = c.vertices.at in
    let v = get_or f i 0 in
    let early = take i f in
    let numbers : all_with p k g a (take (i + 1) f) ≡ all_with p k g a early ++ exits_with p k g a v = flat_map_more (exits_with p k g a) f i 0 c.vertices-test.true in
    let count = ap length numbers ∙ length-append (all_with p k g a early) (exits_with p k g a v) in
    let degree_is : c.left-degree.result ≡ degree g v = c.left-degree.ensures.value ∙ ap length c.cursor-targets.ensures in
    let inside : i < length c.vertices.values = omega (arith, c.vertices.invariant.long, c.vertices-test.true) in
    record {
      inside = omega (arith, c.vertices-test.true);
      edges = omega (arith, count, c.vertices.invariant.edges, c.from-edges.ensures, degree_is, c.fold_vertex-value.ensures.count);
      total = total_more r c.vertices.total c.fold_vertex-value.result c.combine-total.result (all_with p k g a early) (exits_with p k g a v) _ c.vertices.invariant.total c.fold_vertex-value.ensures.value numbers c.combine-total.ensures;
      values = take_more_set c.vertices.values i c.fold_vertex-value.result inside
          ∙ ap (λ l. l ++ c.fold_vertex-value.result ∷ []) c.vertices.invariant.values
          ∙ ap (λ n. values_for p k g r a early ++ n ∷ []) c.fold_vertex-value.ensures.value
          ∙ sym (map_more (λ u. reduction_of_numbers r (exits_with p k g a u)) f i 0 c.vertices-test.true);
      long = length-set c.vertices.values i c.fold_vertex-value.result ∙ c.vertices.invariant.long;
      memory = c.fold_vertex-value.ensures.memory;
      kept = c.fold_vertex-value.ensures.kept;
      few = omega (arith, c.vertices.invariant.few, c.from-edges.ensures, c.left-degree.ensures.small);
    }

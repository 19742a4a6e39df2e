use Rattle.std.proofs.Common.{◌≡◌, ℕ, ◌+◌, ◌++◌, ◌∷◌, [], List, length, take, get_or, if◌then◌else◌, sym, ap, ◌∙◌, length-append, rules, arith}
use Rattle.graph_model.specs.Graph.{degree}
use Rattle.past_model.specs.Past.{graph_of}
use Rattle.map_model.specs.declared.row.Row.{Row}
use Rattle.map_model.specs.EdgeMap.{exits_with, all_with, row_with, rows_with}
use Rattle.verifier.specs.Walks.{longest}
use Rattle.edge_fold.specs.Rows.{has_row, reported_rows}
use Rattle.edge_fold.proofs.Reductions.{total_more}
use Rattle.edge_fold.proofs.RowFacts.{flat_map_more, told_more, told_one}
use Rattle.edge_fold.proofs.map.map_frontier.Goals as goal
use Rattle.edge_fold.specs.Inputs.{inputs_of}

pub loop-source-init : goal.loop-source-init
loop-source-init c = record {
  edges = search rules;
  total = search rules;
  rows = search rules;
  memory = search rules;
  kept = c.forget.ensures.numbered c.args.mapped.now.program.now (graph_of c.args.mapped.now.version.now) (inputs_of c.args.mapped.now);
  few = search rules;
}

pub loop-source-preserved : goal.loop-source-preserved
loop-source-preserved c =
    let p = c.args.mapped.now.program.now in
    let k = longest c.args.mapped.now.program.now in
    let g = graph_of c.args.mapped.now.version.now in
    let inputs = (inputs_of c.args.mapped.now) in
    let r = c.args.request.now.reduction in
    let i = c.loop-source.source-index in
    let v = get_or c.args.request.now.frontier.now i 0 in
    let early = take i c.args.request.now.frontier.now in
    let numbers : all_with p k g inputs (take (i + 1) c.args.request.now.frontier.now) ≡ all_with p k g inputs early ++ exits_with p k g inputs v =
    flat_map_more (exits_with p k g inputs) c.args.request.now.frontier.now i 0 c.loop-source-test.true in
    let count = ap length numbers ∙ length-append (all_with p k g inputs early) (exits_with p k g inputs v) in
    let value : c.left-degree.result ≡ degree g v = c.left-degree.ensures.value ∙ ap length c.cursor-targets.ensures in
    let row : record { vertex = v; value = c.fold_vertex-value.result } ≡ row_with p k g r inputs v =
    ap (λ (n : ℕ). record { vertex = v; value = n }) c.fold_vertex-value.ensures.value in
    record {
      edges = omega (arith, count, c.loop-source.invariant.edges, c.from.ensures, value, c.fold_vertex-value.ensures.count);
      total = total_more r c.loop-source.out.total c.fold_vertex-value.result c.combine.result (all_with p k g inputs early) (exits_with p k g inputs v) _ c.loop-source.invariant.total c.fold_vertex-value.ensures.value numbers c.combine.ensures;
      rows = c.in_ok-put_row.ensures
          ∙ ap (λ (l : List Row). l ++ (if has_row c.args.rows c.left-degree.result then record { vertex = v; value = c.fold_vertex-value.result } ∷ [] else [])) c.loop-source.invariant.rows
          ∙ ap (λ (w : Row). reported_rows c.args.rows g (rows_with p k g r inputs early) ++ (if has_row c.args.rows c.left-degree.result then w ∷ [] else [])) row
          ∙ ap (λ (n : ℕ). reported_rows c.args.rows g (rows_with p k g r inputs early) ++ (if has_row c.args.rows n then row_with p k g r inputs v ∷ [] else [])) value
          ∙ ap (λ l. reported_rows c.args.rows g (rows_with p k g r inputs early) ++ l) (sym (told_one c.args.rows g (row_with p k g r inputs v)))
          ∙ sym (told_more c.args.rows p k g r inputs c.args.request.now.frontier.now i c.loop-source-test.true);
      memory = c.fold_vertex-value.ensures.memory;
      kept = c.fold_vertex-value.ensures.kept;
      few = omega (arith, c.loop-source.invariant.few, c.from.ensures, c.left-degree.ensures.small);
    }

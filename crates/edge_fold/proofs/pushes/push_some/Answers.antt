use Rattle.std.proofs.Common.{◌≡◌, ◌+◌, ◌<◌, ◌≤◌, ℕ, zero, suc, true, false, length, inl, inr, refl, sym, ap, ◌∙◌, lt-ltb, arith}
use Rattle.std.specs.Prelude.{slice_index, nat_lt}
use Rattle.graph_model.specs.Graph.{degree}
use Rattle.past_model.specs.declared.limits.TheConstants.{MOST_VERTICES}
use Rattle.past_model.specs.Past.{graph_of}
use Rattle.past_model.proofs.Pasts.{vertex_count-graph_of}
use Rattle.map_model.specs.declared.progress.Progress.{Progress}
use Rattle.verifier.specs.Walks.{longest}
use Rattle.edge_fold.specs.declared.budget.TheConstants.{EDGE_COST, VERTEX_COST}
use Rattle.edge_fold.specs.Numbers.{combination}
use Rattle.edge_fold.proofs.Sofar.{same_place, same_cost, few_before, cost_on, cost_past, same_falls, falls_on, falls_past, past_further}
use Rattle.edge_fold.proofs.Pushed.{begun_push, pushed_on, pushed_past}
use Rattle.edge_fold.proofs.pushes.push_some.Goals as goal
use Rattle.edge_fold.specs.Inputs.{inputs_of}

used_up : (b : ℕ) → nat_lt 0 b ≡ false → b ≡ 0
used_up zero is = refl
used_up (suc n) is = absurd (let more : nat_lt 0 (suc n) ≡ true = lt-ltb 0 (suc n) (omega arith) in let no : true ≡ false = sym more ∙ is in cc)

pub vertices-init : goal.vertices-init
vertices-init c =
    let p = c.args.mapped.now.program.now in
    let g = graph_of c.args.mapped.now.version.now in
    let a = (inputs_of c.args.mapped.now) in
    let f = c.args.request.now.frontier.now in
    let b = c.begin in
    record {
      place = same_place p g a f c.args.progress.now b.new.progress b.ensures.vertex b.ensures.place c.requires.place;
      long = refl;
      far = inl (sym b.ensures.vertex, sym b.ensures.place);
      used = λ is. absurd cc;
      so_far = λ first has. begun_push p g c.args.request.now.reduction a f c.args.progress.now b.new.progress first c.args.values.now b.ensures.vertex b.ensures.place b.ensures.first b.ensures.later has;
      cost = same_cost p g a f (longest p + EDGE_COST) VERTEX_COST c.args.progress.now b.new.progress b.ensures.vertex b.ensures.place b.ensures.budget;
      falls = same_falls p g a f EDGE_COST VERTEX_COST c.args.progress.now b.new.progress b.ensures.vertex b.ensures.place b.ensures.budget;
      memory = c.requires.memory;
      kept = c.forget.ensures.numbered p g a;
    }

pub returns-then-progress-degree-clause-so_far : goal.returns-then-progress-degree-clause-so_far
returns-then-progress-degree-clause-so_far c = λ first has.
    let p = c.args.mapped.now.program.now in
    let g = graph_of c.args.mapped.now.version.now in
    let a = (inputs_of c.args.mapped.now) in
    let r = c.args.request.now.reduction in
    let f = c.args.request.now.frontier.now in
    let at = c.vertices.progress in
    let part = c.push_vertex-part in
    let so = c.vertices.invariant.so_far first has in
    let degree_is : c.left-degree.result ≡ degree g (slice_index f at.vertex) = c.left-degree.ensures.value ∙ ap length c.cursor-neighbours.ensures in
    let small : g.vertex_count ≤ MOST_VERTICES = omega (arith, c.vertex_count-count.ensures.range, c.vertex_count-count.ensures.value, vertex_count-graph_of c.args.mapped.now.version.now) in
    let few = few_before p g a f at.vertex at.place small c.vertices.invariant.place.inside c.requires.few c.vertices.invariant.place.within in
    pushed_on p g r a f at _ part.result.count first c.vertices.values part.new.values so (omega (arith, part.ensures.few, degree_is)) part.ensures.values part.ensures.count
    (omega (arith, few, part.ensures.few, c.left-degree.ensures.small))
    (record { vertex = c.add.ensures.vertex; place = c.add.ensures.place; edges_are = c.add.ensures.edges; total_is = c.add.ensures.total ∙ ap (combination r at.total) part.ensures.value })

pub returns-then-progress-degree-clause-cost : goal.returns-then-progress-degree-clause-cost
returns-then-progress-degree-clause-cost c =
    let p = c.args.mapped.now.program.now in
    let g = graph_of c.args.mapped.now.version.now in
    let a = (inputs_of c.args.mapped.now) in
    let f = c.args.request.now.frontier.now in
    let at = c.vertices.progress in
    let part = c.push_vertex-part in
    let middle : Progress = record { budget = part.new.memory.budget; edges = c.add.new.progress.edges; total = c.add.new.progress.total; vertex = c.add.new.progress.vertex; place = c.add.new.progress.place } in
    cost_on p g a f (longest p + EDGE_COST) VERTEX_COST (c.args.progress.now.budget + _) part.result.count at middle c.add.ensures.vertex c.add.ensures.place c.vertices.invariant.place.within part.ensures.count part.ensures.cost c.vertices.invariant.cost

pub returns-then-progress-degree-clause-falls : goal.returns-then-progress-degree-clause-falls
returns-then-progress-degree-clause-falls c =
    let p = c.args.mapped.now.program.now in
    let g = graph_of c.args.mapped.now.version.now in
    let a = (inputs_of c.args.mapped.now) in
    let f = c.args.request.now.frontier.now in
    let at = c.vertices.progress in
    let part = c.push_vertex-part in
    let middle : Progress = record { budget = part.new.memory.budget; edges = c.add.new.progress.edges; total = c.add.new.progress.total; vertex = c.add.new.progress.vertex; place = c.add.new.progress.place } in
    falls_on p g a f EDGE_COST VERTEX_COST (c.args.progress.now.budget + _) part.result.count at middle c.add.ensures.vertex c.add.ensures.place c.vertices.invariant.place.within part.ensures.count part.ensures.falls c.vertices.invariant.falls

pub vertices-preserved : goal.vertices-preserved
vertices-preserved c =
    let p = c.args.mapped.now.program.now in
    let g = graph_of c.args.mapped.now.version.now in
    let a = (inputs_of c.args.mapped.now) in
    let r = c.args.request.now.reduction in
    let f = c.args.request.now.frontier.now in
    let at = c.vertices.progress in
    let part = c.push_vertex-part in
    let v = slice_index f at.vertex in
    let middle : Progress = record { budget = part.new.memory.budget; edges = c.add.new.progress.edges; total = c.add.new.progress.total; vertex = c.add.new.progress.vertex; place = c.add.new.progress.place } in
    let next : Progress = record { budget = c.pay.new.budget; edges = c.add.new.progress.edges; total = c.add.new.progress.total; vertex = c.add.new.progress.vertex + 1; place = 0 } in
    let inside : at.vertex < length f = c.if-progress-frontier.true in
    let degree_is : c.left-degree.result ≡ degree g v = c.left-degree.ensures.value ∙ ap length c.cursor-neighbours.ensures in
    let all : c.add.new.progress.place ≡ degree g v = omega (arith, c.if-progress-degree.false, c.add.ensures.place, part.ensures.few, degree_is) in
    let there : slice_index f c.add.new.progress.vertex ≡ v = ap (slice_index f) c.add.ensures.vertex in
    let beyond : c.add.new.progress.vertex < length f = omega (arith, inside, c.add.ensures.vertex) in
    let ended : c.add.new.progress.place ≡ degree g (slice_index f c.add.new.progress.vertex) = all ∙ ap (degree g) (sym there) in
    let further = past_further c.args.progress.now at next c.vertices.invariant.far (ap (λ n. n + 1) c.add.ensures.vertex) in
    record {
      place = record { inside = omega (arith, beyond); within = omega arith; ended = λ _. refl };
      long = part.ensures.long ∙ c.vertices.invariant.long;
      far = inr further;
      used = λ is. (further, used_up c.pay.new.budget is);
      so_far = λ first has.
          let so = c.vertices.invariant.so_far first has in
          let small : g.vertex_count ≤ MOST_VERTICES = omega (arith, c.vertex_count-count.ensures.range, c.vertex_count-count.ensures.value, vertex_count-graph_of c.args.mapped.now.version.now) in
          let few = few_before p g a f at.vertex at.place small c.vertices.invariant.place.inside c.requires.few c.vertices.invariant.place.within in
          let on = pushed_on p g r a f at middle part.result.count first c.vertices.values part.new.values so (omega (arith, part.ensures.few, degree_is)) part.ensures.values part.ensures.count
          (omega (arith, few, part.ensures.few, c.left-degree.ensures.small))
          (record { vertex = c.add.ensures.vertex; place = c.add.ensures.place; edges_are = c.add.ensures.edges; total_is = c.add.ensures.total ∙ ap (combination r at.total) part.ensures.value }) in
          pushed_past p g r a f middle next first part.new.values on beyond ended (record { vertex = refl; place = refl; edges_are = refl; total_is = refl });
      cost = cost_past p g a f (longest p + EDGE_COST) VERTEX_COST _ middle next refl refl beyond ended c.pay.ensures
          (cost_on p g a f (longest p + EDGE_COST) VERTEX_COST _ part.result.count at middle c.add.ensures.vertex c.add.ensures.place c.vertices.invariant.place.within part.ensures.count part.ensures.cost c.vertices.invariant.cost);
      falls = falls_past p g a f EDGE_COST VERTEX_COST _ middle next refl refl beyond ended c.pay.ensures
          (falls_on p g a f EDGE_COST VERTEX_COST _ part.result.count at middle c.add.ensures.vertex c.add.ensures.place c.vertices.invariant.place.within part.ensures.count part.ensures.falls c.vertices.invariant.falls);
      memory = part.ensures.memory;
      kept = part.ensures.kept;
    }

use Rattle.std.proofs.Common.{◌≡◌, ◌+◌, ◌-◌, ◌<◌, ◌≤◌, ◌++◌, [], ℕ, zero, suc, true, false, length, inl, inr, refl, sym, ap, ◌∙◌, lt-ltb, get_or-set_same, arith}
use Rattle.std.specs.Prelude.{slice_index, slice_set, nat_lt}
use Rattle.std.proofs.lemmas.List.{length-set}
use Rattle.graph_model.specs.Graph.{degree}
use Rattle.past_model.specs.declared.limits.TheConstants.{MOST_VERTICES}
use Rattle.past_model.specs.Past.{graph_of}
use Rattle.past_model.proofs.Pasts.{vertex_count-graph_of}
use Rattle.map_model.specs.declared.progress.Progress.{Progress}
use Rattle.map_model.specs.EdgeMap.{reduction_of_numbers}
use Rattle.map_model.specs.Parts.{first_exits, numbers_before}
use Rattle.verifier.specs.Walks.{longest}
use Rattle.edge_fold.specs.declared.budget.TheConstants.{EDGE_COST, VERTEX_COST}
use Rattle.edge_fold.specs.Numbers.{combination}
use Rattle.edge_fold.proofs.EdgelessLemmas.{cost_past_some, falls_past_some, past_later, rest_behind}
use Rattle.edge_fold.proofs.Sofar.{begun, same_place, same_cost, next_value, gone_on, gone_past, few_before, cost_on, cost_past, same_falls, falls_on, falls_past, past_further, rest_on, rest_later}
use Rattle.edge_fold.proofs.parts.map_some.Goals as goal
use Rattle.edge_fold.specs.Inputs.{inputs_of}

used_up : (b : ℕ) → nat_lt 0 b ≡ false → b ≡ 0
used_up zero is = refl
used_up (suc n) is = absurd (let more : nat_lt 0 (suc n) ≡ true = lt-ltb 0 (suc n) (omega arith) in let no : true ≡ false = sym more ∙ is in cc)

pub vertices-init : goal.vertices-init
vertices-init c =
    let p = c.args.mapped.now.program.now in
    let g = graph_of c.args.mapped.now.version.now in
    let a = (inputs_of c.args.mapped.now) in
    let f = c.args.request.now.frontier.now in
    let b = c.begin in
    record {
      place = same_place p g a f c.args.progress.now b.new.progress b.ensures.vertex b.ensures.place c.requires.place;
      long = c.requires.long;
      far = inl (sym b.ensures.vertex, sym b.ensures.place);
      used = λ is. absurd cc;
      so_far = λ has. begun p g c.args.request.now.reduction a f c.args.progress.now b.new.progress c.args.values.now b.ensures.vertex b.ensures.place b.ensures.first b.ensures.later has;
      rest = refl;
      cost = same_cost p g a f (longest p + EDGE_COST) VERTEX_COST c.args.progress.now b.new.progress b.ensures.vertex b.ensures.place b.ensures.budget;
      falls = same_falls p g a f EDGE_COST VERTEX_COST c.args.progress.now b.new.progress b.ensures.vertex b.ensures.place b.ensures.budget;
      memory = c.requires.memory;
      kept = c.forget.ensures.numbered p g a;
    }

pub returns-then-progress-degree-clause-so_far : goal.returns-then-progress-degree-clause-so_far
returns-then-progress-degree-clause-so_far c = λ has.
    let p = c.args.mapped.now.program.now in
    let g = graph_of c.args.mapped.now.version.now in
    let a = (inputs_of c.args.mapped.now) in
    let r = c.args.request.now.reduction in
    let f = c.args.request.now.frontier.now in
    let at = c.vertices.progress in
    let part = c.fold_some-part in
    let so = c.vertices.invariant.so_far has in
    let value = next_value p g r a f at part.result.count c.value_of.result part.result.value c.vertices.values so c.vertices.invariant.place.within c.value_of.ensures.first c.value_of.ensures.later part.ensures.value in
    let small : g.vertex_count ≤ MOST_VERTICES = omega (arith, c.vertex_count-count.ensures.range, c.vertex_count-count.ensures.value, vertex_count-graph_of c.args.mapped.now.version.now) in
    let few = few_before p g a f at.vertex at.place small c.vertices.invariant.place.inside c.requires.few c.vertices.invariant.place.within in
    gone_on p g r a f at _ part.result.count c.value_of.result c.vertices.values so (omega (arith, c.vertices.invariant.long, c.if-progress-frontier.true)) c.vertices.invariant.place.within value part.ensures.count
    (omega (arith, few, part.ensures.few, c.left-degree.ensures.small))
    (record { vertex = c.add.ensures.vertex; place = c.add.ensures.place; edges_are = c.add.ensures.edges; total_is = c.add.ensures.total ∙ ap (combination r at.total) part.ensures.value })

pub returns-then-progress-degree-clause-cost : goal.returns-then-progress-degree-clause-cost
returns-then-progress-degree-clause-cost c =
    let p = c.args.mapped.now.program.now in
    let g = graph_of c.args.mapped.now.version.now in
    let a = (inputs_of c.args.mapped.now) in
    let f = c.args.request.now.frontier.now in
    let at = c.vertices.progress in
    let part = c.fold_some-part in
    let middle : Progress = record { budget = part.new.memory.budget; edges = c.add.new.progress.edges; total = c.add.new.progress.total; vertex = c.add.new.progress.vertex; place = c.add.new.progress.place } in
    cost_on p g a f (longest p + EDGE_COST) VERTEX_COST (c.args.progress.now.budget + _) part.result.count at middle c.add.ensures.vertex c.add.ensures.place c.vertices.invariant.place.within part.ensures.count part.ensures.cost c.vertices.invariant.cost

pub returns-then-progress-degree-clause-falls : goal.returns-then-progress-degree-clause-falls
returns-then-progress-degree-clause-falls c =
    let p = c.args.mapped.now.program.now in
    let g = graph_of c.args.mapped.now.version.now in
    let a = (inputs_of c.args.mapped.now) in
    let f = c.args.request.now.frontier.now in
    let at = c.vertices.progress in
    let part = c.fold_some-part in
    let middle : Progress = record { budget = part.new.memory.budget; edges = c.add.new.progress.edges; total = c.add.new.progress.total; vertex = c.add.new.progress.vertex; place = c.add.new.progress.place } in
    falls_on p g a f EDGE_COST VERTEX_COST (c.args.progress.now.budget + _) part.result.count at middle c.add.ensures.vertex c.add.ensures.place c.vertices.invariant.place.within part.ensures.count part.ensures.falls c.vertices.invariant.falls

pub vertices-preserved : goal.vertices-preserved
vertices-preserved c =
    let p = c.args.mapped.now.program.now in
    let g = graph_of c.args.mapped.now.version.now in
    let a = (inputs_of c.args.mapped.now) in
    let r = c.args.request.now.reduction in
    let f = c.args.request.now.frontier.now in
    let at = c.vertices.progress in
    let part = c.fold_some-part in
    let v = slice_index f at.vertex in
    let values = slice_set c.vertices.values at.vertex c.value_of.result in
    let middle : Progress = record { budget = part.new.memory.budget; edges = c.add.new.progress.edges; total = c.add.new.progress.total; vertex = c.add.new.progress.vertex; place = c.add.new.progress.place } in
    let next : Progress = record { budget = c.pay.new.budget; edges = c.add.new.progress.edges; total = c.add.new.progress.total; vertex = c.add.new.progress.vertex + 1; place = 0 } in
    let inside : at.vertex < length f = c.if-progress-frontier.true in
    let long : at.vertex < length c.vertices.values = omega (arith, c.vertices.invariant.long, inside) in
    let degree_is : c.left-degree.result ≡ degree g v = c.left-degree.ensures.value ∙ ap length c.cursor-neighbours.ensures in
    let all : c.add.new.progress.place ≡ degree g v = omega (arith, c.if-progress-degree.false, c.add.ensures.place, part.ensures.few, degree_is) in
    let there : slice_index f c.add.new.progress.vertex ≡ v = ap (slice_index f) c.add.ensures.vertex in
    let beyond : c.add.new.progress.vertex < length f = omega (arith, inside, c.add.ensures.vertex) in
    let ended : c.add.new.progress.place ≡ degree g (slice_index f c.add.new.progress.vertex) = all ∙ ap (degree g) (sym there) in
    let further = past_further c.args.progress.now at next c.vertices.invariant.far (ap (λ n. n + 1) c.add.ensures.vertex) in
    record {
      place = record { inside = omega (arith, beyond); within = omega arith; ended = λ _. refl };
      long = length-set c.vertices.values at.vertex c.value_of.result ∙ c.vertices.invariant.long;
      far = inr further;
      used = λ is. (further, used_up c.pay.new.budget is);
      so_far = λ has.
          let so = c.vertices.invariant.so_far has in
          let value = next_value p g r a f at part.result.count c.value_of.result part.result.value c.vertices.values so c.vertices.invariant.place.within c.value_of.ensures.first c.value_of.ensures.later part.ensures.value in
          let small : g.vertex_count ≤ MOST_VERTICES = omega (arith, c.vertex_count-count.ensures.range, c.vertex_count-count.ensures.value, vertex_count-graph_of c.args.mapped.now.version.now) in
          let few = few_before p g a f at.vertex at.place small c.vertices.invariant.place.inside c.requires.few c.vertices.invariant.place.within in
          let on = gone_on p g r a f at middle part.result.count c.value_of.result c.vertices.values so long c.vertices.invariant.place.within value part.ensures.count
          (omega (arith, few, part.ensures.few, c.left-degree.ensures.small))
          (record { vertex = c.add.ensures.vertex; place = c.add.ensures.place; edges_are = c.add.ensures.edges; total_is = c.add.ensures.total ∙ ap (combination r at.total) part.ensures.value }) in
          let here : slice_index values c.add.new.progress.vertex ≡ c.value_of.result = ap (slice_index values) c.add.ensures.vertex ∙ get_or-set_same c.vertices.values at.vertex c.value_of.result 0 long in
          let reduces : slice_index values c.add.new.progress.vertex ≡ reduction_of_numbers r (first_exits p (longest p) g a (slice_index f c.add.new.progress.vertex) c.add.new.progress.place) =
          here ∙ value ∙ ap (λ k. reduction_of_numbers r (first_exits p (longest p) g a v k)) (sym c.add.ensures.place) ∙ ap (λ u. reduction_of_numbers r (first_exits p (longest p) g a u c.add.new.progress.place)) (sym there) in
          gone_past p g r a f middle next values on beyond (omega (arith, length-set c.vertices.values at.vertex c.value_of.result, long, c.add.ensures.vertex)) ended reduces
          (record { vertex = refl; place = refl; edges_are = refl; total_is = refl });
      rest = rest_on c.vertices.values c.args.values.now at.vertex c.add.new.progress.vertex c.value_of.result c.vertices.invariant.rest c.add.ensures.vertex;
      cost = cost_past p g a f (longest p + EDGE_COST) VERTEX_COST _ middle next refl refl beyond ended c.pay.ensures
          (cost_on p g a f (longest p + EDGE_COST) VERTEX_COST _ part.result.count at middle c.add.ensures.vertex c.add.ensures.place c.vertices.invariant.place.within part.ensures.count part.ensures.cost c.vertices.invariant.cost);
      falls = falls_past p g a f EDGE_COST VERTEX_COST _ middle next refl refl beyond ended c.pay.ensures
          (falls_on p g a f EDGE_COST VERTEX_COST _ part.result.count at middle c.add.ensures.vertex c.add.ensures.place c.vertices.invariant.place.within part.ensures.count part.ensures.falls c.vertices.invariant.falls);
      memory = part.ensures.memory;
      kept = part.ensures.kept;
    }

pub returns-then-progress-degree-clause-rest : goal.returns-then-progress-degree-clause-rest
returns-then-progress-degree-clause-rest c =
    rest_on c.vertices.values c.args.values.now c.vertices.progress.vertex c.add.new.progress.vertex c.value_of.result c.vertices.invariant.rest c.add.ensures.vertex

pub returns-after-vertices-clause-rest : goal.returns-after-vertices-clause-rest
returns-after-vertices-clause-rest c = rest_later c.vertices.values c.args.values.now c.vertices.progress.vertex c.vertices.invariant.rest

pub returns-else-progress-frontier-clause-rest : goal.returns-else-progress-frontier-clause-rest
returns-else-progress-frontier-clause-rest c = rest_later c.vertices.values c.args.values.now c.vertices.progress.vertex c.vertices.invariant.rest

pub returns-then-progress-degree-clause-place : goal.returns-then-progress-degree-clause-place
returns-then-progress-degree-clause-place c =
    let g = graph_of c.args.mapped.now.version.now in
    let f = c.args.request.now.frontier.now in
    let at = c.vertices.progress in
    let next = c.add.new.progress in
    let v = slice_index f at.vertex in
    let degree_is : c.left-degree.result ≡ degree g v = c.left-degree.ensures.value ∙ ap length c.cursor-neighbours.ensures in
    let same : degree g (slice_index f next.vertex) ≡ degree g v = ap (λ i. degree g (slice_index f i)) c.add.ensures.vertex in
    let inside : at.vertex < length f = c.if-progress-frontier.true in
    record {
      inside = omega (arith, inside, c.add.ensures.vertex);
      within = omega (arith, c.if-progress-degree.true, degree_is, same);
      ended = λ ended. absurd (omega (arith, inside, c.add.ensures.vertex, ended));
    }

pub vertices-preserved-then-degree-eq0 : goal.vertices-preserved-then-degree-eq0
vertices-preserved-then-degree-eq0 c =
    let p = c.args.mapped.now.program.now in
    let k = longest p in
    let g = graph_of c.args.mapped.now.version.now in
    let a = (inputs_of c.args.mapped.now) in
    let r = c.args.request.now.reduction in
    let f = c.args.request.now.frontier.now in
    let at = c.vertices.progress in
    let passed = c.pass_some-goes_on.ensures in
    let next = c.pass_some-goes_on.new.progress in
    let count = next.vertex - at.vertex in
    let v = slice_index f at.vertex in
    let degree_is : c.left-degree.result ≡ degree g v = c.left-degree.ensures.value ∙ ap length c.cursor-neighbours.ensures in
    let none : degree g v ≡ 0 = sym degree_is ∙ c.if-degree-eq0.true in
    let first : at.place ≡ 0 = omega (arith, c.vertices.invariant.place.within, none) in
    let start : next.place ≡ 0 = passed.place ∙ first in
    let on : next.vertex ≡ at.vertex + count = omega (arith, passed.on) in
    let same : numbers_before p k g a f next ≡ numbers_before p k g a f at = rw (start, first) (ap (λ l. l ++ []) passed.numbers) in
    let further = past_later c.args.progress.now at next c.vertices.invariant.far passed.on in
    record {
      place = record { inside = passed.inside; within = omega (arith, start); ended = λ _. start };
      long = passed.long ∙ c.vertices.invariant.long;
      far = inr further;
      used = λ is. (further, used_up next.budget (sym passed.left ∙ is));
      so_far = λ has.
          let so = c.vertices.invariant.so_far has in
          record {
            values_are = passed.values so.values_are;
            value_is = λ some. absurd (omega (arith, some, start));
            edges_are = passed.edges ∙ so.edges_are ∙ sym (ap length same);
            total_is = passed.total ∙ so.total_is ∙ sym (ap (reduction_of_numbers r) same);
          };
      rest = passed.rest ∙ rest_behind c.vertices.values c.args.values.now at.vertex count next.vertex on c.vertices.invariant.rest;
      cost = cost_past_some p k g a f (k + EDGE_COST) VERTEX_COST _ count at next on same passed.budget c.vertices.invariant.cost;
      falls = falls_past_some p k g a f EDGE_COST VERTEX_COST _ count at next on same passed.budget c.vertices.invariant.falls;
      memory = c.vertices.invariant.memory;
      kept = c.vertices.invariant.kept;
    }

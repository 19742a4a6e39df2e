use Rattle.std.proofs.Common.{◌≡◌, ◌+◌, ◌<◌, ◌^◌, ◌%◌, ℕ, zero, suc, true, false, length, inl, inr, refl, sym, ap, ◌∙◌, lt-ltb, rules, arith}
use Rattle.std.specs.Prelude.{slice_index, nat_lt}
use Rattle.std.proofs.Math.Nat.{mod-add-mod, mod-eq_of_lt}
use Rattle.graph_model.specs.Graph.{degree}
use Rattle.past_model.specs.Past.{graph_of}
use Rattle.map_model.specs.declared.progress.Progress.{Progress}
use Rattle.map_model.specs.Parts.{numbers_before}
use Rattle.verifier.specs.Walks.{longest}
use Rattle.edge_fold.specs.declared.budget.TheConstants.{EDGE_COST, VERTEX_COST}
use Rattle.edge_fold.specs.Numbers.{exits_from}
use Rattle.edge_fold.proofs.Sofar.{before_more, before_next, cost_on, cost_past, falls_on, falls_past, past_further}
use Rattle.edge_fold.proofs.Listed.{none_listed, more_listed, same_listed, listed_numbers, listed_rest}
use Rattle.edge_fold.proofs.numbers_some.number_some.Goals as goal
use Rattle.edge_fold.specs.Inputs.{inputs_of}

used_up : (b : ℕ) → nat_lt 0 b ≡ false → b ≡ 0
used_up zero is = refl
used_up (suc n) is = absurd (let more : nat_lt 0 (suc n) ≡ true = lt-ltb 0 (suc n) (omega arith) in let no : true ≡ false = sym more ∙ is in cc)

pub vertices-init : goal.vertices-init
vertices-init c = record {
  place = c.requires.place;
  far = inl (refl, refl);
  wrote = λ some. absurd (omega (arith, some));
  used = λ is. absurd cc;
  listed = none_listed _ _ c.args.numbers.now refl;
  edges = (let small : c.args.progress.now.edges < 2 ^ 64 = search rules in sym (mod-eq_of_lt small) ∙ ap (λ m. m % 2 ^ 64) (let none : c.args.progress.now.edges ≡ c.args.progress.now.edges + 0 = omega arith in none));
  total = refl;
  cost = omega arith;
  falls = omega arith;
  memory = c.requires.memory;
}

pub returns-then-progress-degree-clause-numbers : goal.returns-then-progress-degree-clause-numbers
returns-then-progress-degree-clause-numbers c =
    let p = c.args.mapped.now.program.now in
    let g = graph_of c.args.mapped.now.version.now in
    let a = (inputs_of c.args.mapped.now) in
    let f = c.args.frontier.now in
    let at = c.vertices.progress in
    let part = c.number_part-count in
    let n = part.result in
    let list = more_listed (numbers_before p (longest p) g a f c.args.progress.now) (numbers_before p (longest p) g a f at) _ c.args.numbers.now c.vertices.numbers part.new.numbers (exits_from p g a (slice_index f at.vertex) at.place n) c.vertices.written n c.vertices.invariant.listed part.ensures.room part.auto.numbers part.ensures.numbers
    (before_more p g a f at.vertex at.place n c.vertices.invariant.place.within) in
    listed_numbers _ _ c.args.numbers.now _ (c.vertices.written + n) list

pub returns-then-progress-degree-clause-rest : goal.returns-then-progress-degree-clause-rest
returns-then-progress-degree-clause-rest c =
    let p = c.args.mapped.now.program.now in
    let g = graph_of c.args.mapped.now.version.now in
    let a = (inputs_of c.args.mapped.now) in
    let f = c.args.frontier.now in
    let at = c.vertices.progress in
    let part = c.number_part-count in
    let n = part.result in
    let list = more_listed (numbers_before p (longest p) g a f c.args.progress.now) (numbers_before p (longest p) g a f at) _ c.args.numbers.now c.vertices.numbers part.new.numbers (exits_from p g a (slice_index f at.vertex) at.place n) c.vertices.written n c.vertices.invariant.listed part.ensures.room part.auto.numbers part.ensures.numbers
    (before_more p g a f at.vertex at.place n c.vertices.invariant.place.within) in
    listed_rest _ _ c.args.numbers.now _ (c.vertices.written + n) list

pub returns-then-progress-degree-clause-cost : goal.returns-then-progress-degree-clause-cost
returns-then-progress-degree-clause-cost c =
    let p = c.args.mapped.now.program.now in
    let at = c.vertices.progress in
    let part = c.number_part-count in
    let middle : Progress = record { budget = part.new.memory.budget; edges = (at.edges + part.result) % 2 ^ 64; total = at.total; vertex = at.vertex; place = at.place + part.result } in
    cost_on p (graph_of c.args.mapped.now.version.now) (inputs_of c.args.mapped.now) c.args.frontier.now (longest p + EDGE_COST) VERTEX_COST _ part.result at middle refl refl c.vertices.invariant.place.within part.ensures.count part.ensures.cost c.vertices.invariant.cost

pub returns-then-progress-degree-clause-falls : goal.returns-then-progress-degree-clause-falls
returns-then-progress-degree-clause-falls c =
    let p = c.args.mapped.now.program.now in
    let at = c.vertices.progress in
    let part = c.number_part-count in
    let middle : Progress = record { budget = part.new.memory.budget; edges = (at.edges + part.result) % 2 ^ 64; total = at.total; vertex = at.vertex; place = at.place + part.result } in
    falls_on p (graph_of c.args.mapped.now.version.now) (inputs_of c.args.mapped.now) c.args.frontier.now EDGE_COST VERTEX_COST _ part.result at middle refl refl c.vertices.invariant.place.within part.ensures.count part.ensures.falls c.vertices.invariant.falls

pub vertices-preserved : goal.vertices-preserved
vertices-preserved c =
    let p = c.args.mapped.now.program.now in
    let g = graph_of c.args.mapped.now.version.now in
    let a = (inputs_of c.args.mapped.now) in
    let f = c.args.frontier.now in
    let at = c.vertices.progress in
    let part = c.number_part-count in
    let n = part.result in
    let inv = c.vertices.invariant in
    let v = slice_index f at.vertex in
    let middle : Progress = record { budget = part.new.memory.budget; edges = (at.edges + n) % 2 ^ 64; total = at.total; vertex = at.vertex; place = at.place + n } in
    let next : Progress = record { budget = c.pay.new.budget; edges = (at.edges + n) % 2 ^ 64; total = at.total; vertex = at.vertex + 1; place = 0 } in
    let inside : at.vertex < length f = c.if-progress-frontier.true in
    let degree_is : c.left-degree.result ≡ degree g v = c.left-degree.ensures.value ∙ ap length c.cursor-neighbours.ensures in
    let ended : at.place + n ≡ degree g v = omega (arith, c.if-progress-degree.false, part.ensures.few, degree_is) in
    let further = past_further c.args.progress.now at next inv.far refl in
    let start = numbers_before p (longest p) g a f c.args.progress.now in
    let list = more_listed start (numbers_before p (longest p) g a f at) (numbers_before p (longest p) g a f middle) c.args.numbers.now c.vertices.numbers part.new.numbers (exits_from p g a v at.place n) c.vertices.written n inv.listed part.ensures.room part.auto.numbers part.ensures.numbers
    (before_more p g a f at.vertex at.place n inv.place.within) in
    record {
      place = record { inside = omega (arith, inside); within = omega arith; ended = λ _. refl };
      far = inr further;
      wrote = λ _. further;
      used = λ is. (further, used_up c.pay.new.budget is);
      listed = same_listed start (numbers_before p (longest p) g a f middle) (numbers_before p (longest p) g a f next) c.args.numbers.now _ (c.vertices.written + n) (before_next p g a f at.vertex (at.place + n) inside ended) list;
      edges = ap (λ m. (m + n) % 2 ^ 64) inv.edges ∙ mod-add-mod (c.args.progress.now.edges + c.vertices.written) (2 ^ 64) n ∙ ap (λ m. m % 2 ^ 64) (omega arith);
      total = inv.total;
      cost = cost_past p g a f (longest p + EDGE_COST) VERTEX_COST _ middle next refl refl inside ended c.pay.ensures
          (cost_on p g a f (longest p + EDGE_COST) VERTEX_COST _ n at middle refl refl inv.place.within part.ensures.count part.ensures.cost inv.cost);
      falls = falls_past p g a f EDGE_COST VERTEX_COST _ middle next refl refl inside ended c.pay.ensures
          (falls_on p g a f EDGE_COST VERTEX_COST _ n at middle refl refl inv.place.within part.ensures.count part.ensures.falls inv.falls);
      memory = part.ensures.memory;
    }

use Rattle.std.proofs.Common.{◌≡◌, ◌+◌, ◌-◌, ◌^◌, ◌%◌, ◌<◌, ℕ, zero, suc, true, false, length, refl, sym, ap, ◌∙◌, lt-ltb, rules, arith}
use Rattle.std.specs.Prelude.{nat_lt}
use Rattle.std.proofs.Math.Nat.{mod-add-mod, mod-eq_of_lt, mul-add}
use Rattle.past_model.specs.Past.{graph_of}
use Rattle.verifier.specs.Walks.{longest}
use Rattle.edge_fold.specs.declared.budget.TheConstants.{EDGE_COST}
use Rattle.edge_fold.proofs.PairNumbers.{none_paired, one_paired}
use Rattle.edge_fold.proofs.pairs.number_pairs.Goals as goal
use Rattle.edge_fold.specs.Inputs.{inputs_of}

used_up : (b : ℕ) → nat_lt 0 b ≡ false → b ≡ 0
used_up zero is = refl
used_up (suc n) is = absurd (let more : nat_lt 0 (suc n) ≡ true = lt-ltb 0 (suc n) (omega arith) in let no : true ≡ false = sym more ∙ is in cc)

pub pairs-init : goal.pairs-init
pairs-init c = record {
  back = omega arith;
  inside = c.requires.place;
  used = λ is. absurd cc;
  paired = none_paired c.args.mapped.now.program.now (graph_of c.args.mapped.now.version.now) (inputs_of c.args.mapped.now) c.args.pairs.now.sources.now c.args.pairs.now.targets.now c.args.numbers.now c.args.progress.now.vertex;
  edges = (let small : c.args.progress.now.edges < 2 ^ 64 = search rules in sym (mod-eq_of_lt small) ∙ ap (λ m. m % 2 ^ 64) (let none : c.args.progress.now.edges ≡ c.args.progress.now.edges + (c.args.progress.now.vertex - c.args.progress.now.vertex) = omega arith in none));
  total = refl;
  place = refl;
  cost = omega arith;
  falls = omega arith;
  memory = c.requires.memory;
}

pub pairs-preserved : goal.pairs-preserved
pairs-preserved c =
    let p = c.args.mapped.now.program.now in
    let g = graph_of c.args.mapped.now.version.now in
    let at = c.pairs.progress in
    let inv = c.pairs.invariant in
    let old = c.args.progress.now in
    let inside : at.vertex < length c.args.pairs.now.sources.now = c.if-progress-pairs.true in
    let product = mul-add (longest p + EDGE_COST) at.vertex 1 in
    record {
      back = omega (arith, inv.back);
      inside = omega (arith, inside);
      used = λ is. (omega (arith, inv.back), used_up c.number_pair.new.memory.budget is);
      paired = one_paired p g (inputs_of c.args.mapped.now) c.args.pairs.now.sources.now c.args.pairs.now.targets.now c.args.numbers.now c.pairs.numbers old.vertex at.vertex c.number_pair.result inv.paired c.args.pairs.now.alike inv.back inside c.requires.long c.number_pair.ensures.number;
      edges = ap (λ m. (m + 1) % 2 ^ 64) inv.edges ∙ mod-add-mod (old.edges + (at.vertex - old.vertex)) (2 ^ 64) 1 ∙ ap (λ m. m % 2 ^ 64) (let next : old.edges + (at.vertex - old.vertex) + 1 ≡ old.edges + (at.vertex + 1 - old.vertex) = omega (arith, inv.back) in next);
      total = inv.total;
      place = inv.place;
      cost = omega (arith, inv.cost, c.number_pair.ensures.cost, product);
      falls = omega (arith, inv.falls, c.number_pair.ensures.falls);
      memory = c.number_pair.ensures.memory;
    }

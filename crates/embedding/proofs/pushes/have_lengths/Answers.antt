use Rattle.std.proofs.Common.{◌≡◌, ◌==◌, Bool, false, nat_eq, length, refl, sym, ap, ◌∙◌, arith}
use Rattle.std.specs.Prelude.{◌&&◌, nat_le}
use Rattle.std.proofs.lemmas.Bool.{eq-eqb, ne_eqb}
use Rattle.past_model.specs.declared.limits.TheConstants.{MOST_VERTICES}
use Rattle.past_model.specs.Past.{graph_of}
use Rattle.past_model.proofs.Pasts.{vertex_count-graph_of}
use Rattle.embedding.proofs.pushes.have_lengths.Goals as goal

pub returns-then-values-vertex_count-clause-tested : goal.returns-then-values-vertex_count-clause-tested
returns-then-values-vertex_count-clause-tested c =
    let g = graph_of c.args.version.now in
    let same : length c.args.values.now ≡ g.vertex_count = omega (arith, c.if-values-vertex_count.true, c.vertex_count.ensures.value, vertex_count-graph_of c.args.version.now) in
    rw (eq-eqb (length c.args.values.now) g.vertex_count same) refl

pub returns-then-values-vertex_count-clause-long : goal.returns-then-values-vertex_count-clause-long
returns-then-values-vertex_count-clause-long c _ =
    omega (arith, c.if-values-vertex_count.true, c.vertex_count.ensures.value, vertex_count-graph_of c.args.version.now)

pub returns-else-values-vertex_count-clause-tested : goal.returns-else-values-vertex_count-clause-tested
returns-else-values-vertex_count-clause-tested c =
    let g = graph_of c.args.version.now in
    let values = length c.args.values.now in
    let other : (values == g.vertex_count) ≡ false =
    ne_eqb values g.vertex_count (λ same. omega (arith, same, c.if-values-vertex_count.false, c.vertex_count.ensures.value, vertex_count-graph_of c.args.version.now)) in
    let here : nat_eq values c.vertex_count.result ≡ false = ne_eqb values c.vertex_count.result (λ same. omega (arith, same, c.if-values-vertex_count.false)) in
    here ∙ sym (ap (λ (b : Bool). b && nat_le (length c.args.frontier.now) MOST_VERTICES) other)

use Rattle.std.proofs.Common.{◌≡◌, length, Some, None, get_or, set, subst, sym, ap, ◌∙◌, refl, arith}
use Rattle.std.specs.Option.{IsNone}
use Rattle.std.proofs.lemmas.List.{length_push, get_or_push}
use Rattle.gapped_array.proofs.Layouts.{set_last}
use Rattle.gapped_array.proofs.array.GappedArray.push.Goals as goal

pub open_with-requires-clause-inside : goal.open_with-requires-clause-inside
open_with-requires-clause-inside c = (let is = c.vertex_count-vertex.ensures.value in omega (arith, is, ap length c.in_ok-push_closed.ensures.ok, length_push c.args.self.now None))

pub open_with-requires-clause-closed : goal.open_with-requires-clause-closed
open_with-requires-clause-closed c =
    let at : length c.args.self.now ≡ c.vertex_count-vertex.result = (let is = c.vertex_count-vertex.ensures.value in omega arith) in
    subst IsNone (sym (ap (λ l. get_or l c.vertex_count-vertex.result None) c.in_ok-push_closed.ensures.ok ∙ get_or_push c.args.self.now None None c.vertex_count-vertex.result at)) refl

pub returns-clause-ok : goal.returns-clause-ok
returns-clause-ok c =
    c.in_ok-open_with.ensures.ok
    ∙ ap (λ l. set l c.vertex_count-vertex.result (Some c.args.words.now)) c.in_ok-push_closed.ensures.ok
    ∙ set_last c.args.self.now c.vertex_count-vertex.result c.args.words.now (let is = c.vertex_count-vertex.ensures.value in omega arith)

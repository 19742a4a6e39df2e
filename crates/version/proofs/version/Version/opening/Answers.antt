use Rattle.std.proofs.Common.{[], List, ℕ, ◌≡◌, sym, ap, ◌∙◌, subst, rules, None}
use Rattle.std.specs.Arc.{arc_value}
use Rattle.past_model.specs.declared.entry.Entry.{Entry}
use Rattle.past_model.specs.Past.{Past, opening}
use Rattle.version.specs.Ground.{Ground, ground, past_on}
use Rattle.version.specs.Version.{IsVersion}
use Rattle.version.proofs.VersionLemmas.{first_version}
use Rattle.version.proofs.version.Version.opening.Goals as goal

pub invariant_of-result : goal.invariant_of-result
invariant_of-result c =
    let n : ℕ = c.args.vertex_count in
    let epoch : arc_value c.in_ok-new.field-0 ≡ ground None [] = search rules in
    let same : past_on n (arc_value c.in_ok-new.field-0) c.empty.result ≡ opening n =
    ap (λ (g : Ground). past_on n g c.empty.result) epoch ∙ ap (λ (l : List Entry). past_on n (ground None []) l) c.empty.ensures in
    subst (λ (p : Past). IsVersion p c.in_ok-empty.field-0 0) (sym same)
    (first_version n c.in_ok-empty.field-0 c.requires c.in_ok-empty.ensures.table c.in_ok-empty.ensures.homes)

pub returns : goal.returns
returns c =
    let n : ℕ = c.args.vertex_count in
    let epoch : arc_value c.in_ok-new.field-0 ≡ ground None [] = search rules in
    ap (λ (g : Ground). past_on n g c.empty.result) epoch ∙ ap (λ (l : List Entry). past_on n (ground None []) l) c.empty.ensures

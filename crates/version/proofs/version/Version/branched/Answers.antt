use Rattle.std.proofs.Common.{◌≡◌, [], List, ℕ, sym, ap, subst, ◌∙◌, rules, Some}
use Rattle.std.specs.Arc.{arc_value}
use Rattle.past_model.specs.declared.entry.Entry.{Entry}
use Rattle.past_model.specs.Past.{Past, Base}
use Rattle.past_model.specs.Epochs.{branched}
use Rattle.shards.specs.Part.{Part}
use Rattle.version.specs.Ground.{Ground, ground, past_on}
use Rattle.version.specs.Version.{IsVersion}
use Rattle.version.proofs.VersionLemmas.{branched_version, base_is}
use Rattle.version.proofs.version.Version.branched.Goals as goal

-- the past of this version
abbrev here : goal.In_ok-share → Past
here c = past_on c.self.inside.vertex_count (arc_value c.self.inside.epoch) c.self.inside.log

-- what is made is the past of a branch
same : (c : goal.In_ok-share) → past_on c.self.inside.vertex_count (arc_value c.in_ok-epoch.epoch) c.empty-log.result ≡ branched (here c)
same c =
    let n : ℕ = c.self.inside.vertex_count in
    let parts : List Part = c.self.inside.shards in
    let base : c.in_ok-own.own ≡ parts = c.in_ok-own.ensures in
    let epoch : arc_value c.in_ok-epoch.epoch ≡ ground (Some c.in_ok-own.own) [] = search rules in
    let is : arc_value c.in_ok-epoch.epoch ≡ ground (Some parts) [] = epoch ∙ ap (λ (l : List Part). ground (Some l) []) base in
    ap (λ (g : Ground). past_on n g c.empty-log.result) is
    ∙ ap (λ (l : List Entry). past_on n (ground (Some parts) []) l) c.empty-log.ensures
    ∙ ap (λ (b : Base). record (branched (here c)) { base = b }) (base_is (here c) parts c.self.inside.edge_count c.self.invariant)

pub invariant_of-result : goal.invariant_of-result
invariant_of-result c =
    let parts : List Part = c.self.inside.shards in
    let shards : c.in_ok-share.field-0 ≡ parts = c.in_ok-share.ensures in
    subst (λ (p : Past). IsVersion p (c.in_ok-share.field-0) c.self.inside.edge_count) (sym (same c))
    (subst (λ (l : List Part). IsVersion (branched (here c)) l c.self.inside.edge_count) (sym shards) (branched_version (here c) parts c.self.inside.edge_count c.self.invariant))

pub returns : goal.returns
returns c = same c ∙ ap branched c.self.view_is

use Rattle.std.proofs.Common.{◌≡◌, ◌++◌, ◌∷◌, [], List, ℕ, ◌<◌, sym, ap, subst, ◌∙◌, rules, Some}
use Rattle.std.specs.Arc.{arc_value}
use Rattle.past_model.specs.declared.limits.TheConstants.{MOST_EPOCHS}
use Rattle.past_model.specs.declared.entry.Entry.{Entry}
use Rattle.past_model.specs.Past.{Past, Base, epoch_of}
use Rattle.past_model.specs.Epochs.{mark_of, rebased}
use Rattle.shards.specs.Part.{Part}
use Rattle.version.specs.Ground.{Ground, ground, past_on}
use Rattle.version.specs.Version.{IsVersion}
use Rattle.version.proofs.VersionLemmas.{rebased_version, base_is}
use Rattle.version.proofs.version.Version.rebased.Goals as goal

-- the past of this version
abbrev here : goal.After-empty → Past
here c = past_on c.self.inside.vertex_count (arc_value c.self.inside.epoch) c.self.inside.log

-- what is made is the past after a rebase
same : (c : goal.After-empty) → past_on c.self.inside.vertex_count (arc_value c.in_ok-epoch.epoch) c.empty.result ≡ rebased (here c)
same c =
    let n : ℕ = c.self.inside.vertex_count in
    let parts : List Part = c.self.inside.shards in
    let marks : List (List ℕ) = (arc_value c.self.inside.epoch).marks in
    let base : c.in_ok-base.base ≡ parts = c.in_ok-base.ensures in
    let epoch : arc_value c.in_ok-epoch.epoch ≡ ground (Some c.in_ok-base.base) (marks ++ c.mark.result ∷ []) = search rules in
    let next : Ground = ground (Some parts) (marks ++ mark_of c.self.inside.log ∷ []) in
    let is : arc_value c.in_ok-epoch.epoch ≡ next =
    epoch ∙ ap (λ (l : List Part). ground (Some l) (marks ++ c.mark.result ∷ [])) base ∙ ap (λ (m : List ℕ). ground (Some parts) (marks ++ m ∷ [])) c.mark.ensures in
    ap (λ (g : Ground). past_on n g c.empty.result) is
    ∙ ap (λ (l : List Entry). past_on n next l) c.empty.ensures
    ∙ ap (λ (b : Base). record (rebased (here c)) { base = b }) (base_is (here c) parts c.self.inside.edge_count c.self.invariant)

pub invariant_of-result : goal.invariant_of-result
invariant_of-result c =
    let parts : List Part = c.self.inside.shards in
    let shards : c.in_ok-shards.shards ≡ parts = c.in_ok-shards.ensures in
    let room : epoch_of (here c) < MOST_EPOCHS = subst (λ (p : Past). epoch_of p < MOST_EPOCHS) (sym c.self.view_is) c.requires in
    subst (λ (p : Past). IsVersion p (c.in_ok-shards.shards) c.self.inside.edge_count) (sym (same c))
    (subst (λ (l : List Part). IsVersion (rebased (here c)) l c.self.inside.edge_count) (sym shards) (rebased_version (here c) parts c.self.inside.edge_count c.self.invariant room))

pub returns : goal.returns
returns c = same c ∙ ap rebased c.self.view_is

use Rattle.std.proofs.Common.{◌≡◌, [], List, ℕ, sym, ap, subst, ◌∙◌, rules, length, Some}
use Rattle.std.specs.Arc.{arc_value}
use Rattle.past_model.specs.Past.{Past, graph_of}
use Rattle.shards.specs.Part.{Part}
use Rattle.shard_table.specs.Table.{IsTable}
use Rattle.version.specs.Ground.{ground, past_on}
use Rattle.version.specs.Version.{IsVersion}
use Rattle.version.specs.Sorted.{past_of}
use Rattle.version.proofs.SortedLemmas.{lists_of, graph_of_lists, past_is, version_of_lists}
use Rattle.version.proofs.version.Version.of_lists.Goals as goal

pub of_lists-requires-clause-lists : goal.of_lists-requires-clause-lists
of_lists-requires-clause-lists c = lists_of c.args.vertex_count c.args.starts.now c.args.targets.now c.requires.count.1 c.requires.sorted

pub invariant_of-result : goal.invariant_of-result
invariant_of-result c =
    let n : ℕ = c.args.vertex_count in
    let starts : List ℕ = c.args.starts.now in
    let targets : List ℕ = c.args.targets.now in
    let parts : List Part = c.in_ok-shards.shards in
    let base : c.in_ok-base.base ≡ parts = c.in_ok-base.ensures in
    let epoch : arc_value c.in_ok-epoch.epoch ≡ ground (Some c.in_ok-base.base) [] = search rules in
    let table : IsTable (graph_of (past_of n starts targets)) parts = c.in_ok-shards.ensures.table (graph_of (past_of n starts targets)) (graph_of_lists n starts targets c.requires.sorted) in
    let same : past_on n (arc_value c.in_ok-epoch.epoch) c.empty.result ≡ past_of n starts targets =
    past_is n starts targets parts (arc_value c.in_ok-epoch.epoch) c.empty.result c.requires.sorted table c.in_ok-shards.ensures.homes (epoch ∙ ap (λ (l : List Part). ground (Some l) []) base) c.empty.ensures in
    subst (λ (p : Past). IsVersion p parts (length targets)) (sym same)
    (version_of_lists n starts targets parts c.requires.count c.requires.sorted table c.in_ok-shards.ensures.homes c.in_ok-shards.ensures.outside)

pub returns : goal.returns
returns c =
    let n : ℕ = c.args.vertex_count in
    let starts : List ℕ = c.args.starts.now in
    let targets : List ℕ = c.args.targets.now in
    let parts : List Part = c.in_ok-shards.shards in
    let base : c.in_ok-base.base ≡ parts = c.in_ok-base.ensures in
    let epoch : arc_value c.in_ok-epoch.epoch ≡ ground (Some c.in_ok-base.base) [] = search rules in
    let table : IsTable (graph_of (past_of n starts targets)) parts = c.in_ok-shards.ensures.table (graph_of (past_of n starts targets)) (graph_of_lists n starts targets c.requires.sorted) in
    past_is n starts targets parts (arc_value c.in_ok-epoch.epoch) c.empty.result c.requires.sorted table c.in_ok-shards.ensures.homes (epoch ∙ ap (λ (l : List Part). ground (Some l) []) base) c.empty.ensures

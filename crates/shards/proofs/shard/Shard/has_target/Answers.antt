use Rattle.std.proofs.Common.{◌≡◌, ◌↔◌, ◌≤◌, [], true, Contains, get_or, sym, ap, subst, subst₂, ◌∙◌, arith}
use Rattle.std.proofs.lemmas.Bool.{false≢true}
use Rattle.past_model.specs.declared.limits.TheConstants.{MOST_VERTICES}
use Rattle.word_sets.proofs.Members.{found_members}
use Rattle.shards.specs.Part.{Part, IsShard, row_at}
use Rattle.shards.specs.Lists.{rows_of}
use Rattle.shards.specs.Pages.{rows_in}
use Rattle.shards.proofs.SearchLemmas.{no_far_target}
use Rattle.shards.proofs.shard.Shard.has_target.Goals as goal

pub returns-then-target-from : goal.returns-then-target-from
returns-then-target-from c =
    let far : MOST_VERTICES ≤ c.args.target = (let from = c.from.ensures in let test = c.if-target-from.true in omega arith) in (
      λ t. absurd (false≢true t),
      λ among. absurd (no_far_target c.args.self.now c.args.vertex c.args.target (subst IsShard c.self.view_is c.self.invariant.2) c.requires far among),
    )

pub returns : goal.returns
returns c =
    let v = c.from-vertex.result in
    let list = get_or (rows_of c.page_of-page.result.now) c.place_of.result [] in
    let row : list ≡ row_at c.args.self.now c.args.vertex =
    ap (λ k. get_or (rows_of c.page_of-page.result.now) k []) c.place_of.ensures
    ∙ c.page_of-page.ensures.row
    ∙ ap (λ l. get_or (rows_in l) v []) c.deref.ensures.value
    ∙ ap (λ k. get_or (rows_in c.self.inside.pages.items) k []) c.from-vertex.ensures
    ∙ ap (λ (p : Part). row_at p c.args.vertex) c.self.view_is in
    subst₂ (λ b l. (b ≡ true) ↔ Contains l c.args.target) (sym c.contains.ensures) row (found_members c.args.target list)

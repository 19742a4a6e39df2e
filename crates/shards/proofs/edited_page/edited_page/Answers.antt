use Rattle.std.proofs.Common.{◌≡◌, ℕ, ◌++◌, List, length, Result, IfOk, subst}
use Rattle.std.specs.declared.alloc.AllocError.{AllocError}
use Rattle.past_model.specs.declared.home.Home.{Home}
use Rattle.shards.specs.declared.counts.Counts.{Counts}
use Rattle.shards.specs.declared.lists.Lists.{Lists}
use Rattle.shards.specs.Begun.{AreBegun, IsPageOf}
use Rattle.shards.specs.Groups.{Grouped}
use Rattle.shards.specs.Lists.{rows_of, homes_of}
use Rattle.shards.specs.Part.{Part}
use Rattle.shards.proofs.edited_page.edited_page.Goals as goal

-- a page is made of the edits of these groups
abbrev IsDone : Result (Lists × Counts) AllocError → ℕ → Lists → Counts → Grouped → Type 0
IsDone result first page counts g = IfOk result (λ next. (p : Part) (rows : List (List ℕ)) (homes : List Home) → IsPageOf g.edits p first page → length rows ≡ first
    → AreBegun g.edits p rows homes counts → AreBegun g.edits p (rows ++ rows_of next.0) (homes ++ homes_of next.0) next.1)

pub returns-in-Some-linked-clause-begun : goal.returns-in-Some-linked-clause-begun
returns-in-Some-linked-clause-begun c = subst (IsDone c.rebuilt_page.result c.args.first c.args.page.now c.args.counts) c.in-Some-linked.ensures c.rebuilt_page.ensures.begun

pub returns-clause-begun : goal.returns-clause-begun
returns-clause-begun c = subst (IsDone c.rebuilt_page-2.result c.args.first c.args.page.now c.args.counts) c.linked_by-linked.ensures c.rebuilt_page-2.ensures.begun

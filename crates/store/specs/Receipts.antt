-- What a publication did: a batch made the next version, or a rebase began the next epoch.
use Rattle.std.specs.Prelude.{◌≡◌, ℕ, Option, Some, None}
use Rattle.past_model.specs.declared.entry.Entry.{Entry}
use Rattle.past_model.specs.Edits.{added, removed}
use Rattle.past_model.specs.Past.{graph_of}
use Rattle.history.specs.Moment.{Moment, after_entry, after_rebase}
use Rattle.store.specs.declared.pending.Change.{Change}

-- the version that was made, the batch, which a rebase does not have, and how many edges it added and removed
pub record Publication : Type 0 where
  pub moment : Moment
  pub entry : Option Entry
  pub added : ℕ
  pub removed : ℕ

-- that of a batch after a version: the log is longer by exactly it, and the counts are its
abbrev pub publication : Moment → Entry → Publication
publication m e =
    record { moment = after_entry m e; entry = Some e; added = added e.batch (graph_of m.past); removed = removed e.batch (graph_of m.past) }

-- that of a rebase after a version
abbrev pub rebase_of : Moment → Publication
rebase_of m = record { moment = after_rebase m; entry = None; added = 0; removed = 0 }

-- what a batch or a rebase makes of a version
abbrev pub publication_after : Moment → Option Entry → Publication
publication_after m (Some e) = publication m e
publication_after m None = rebase_of m

-- a publication after some version
abbrev pub IsPublication : Publication → Type 0
IsPublication p = (before : Moment) × (p ≡ publication_after before p.entry)

-- the publication that a version and a change of edges make; without a change it is a rebase
abbrev pub publication_by : Moment → Option Change → Publication
publication_by m (Some c) = record { moment = m; entry = Some c.entry; added = c.counts.added; removed = c.counts.removed }
publication_by m None = record { moment = m; entry = None; added = 0; removed = 0 }

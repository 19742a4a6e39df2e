-- Epochs. A rebase ends one: the graph and the homes so far are the base of the next, whose log is empty.
use Rattle.std.specs.Prelude.{◌≡◌, ◌⊎◌, ℕ, ◌+◌, ◌<◌, ◌≤◌, List, [], ◌∷◌, ◌++◌, length, map, slice_index_or}
use mathlib.Core.List.{IsPrefix}
use Rattle.past_model.specs.declared.limits.TheConstants.{FEEDS}
use Rattle.past_model.specs.declared.entry.Entry.{Entry}
use Rattle.graph_model.specs.Graph.{numbers_below, neighbours}
use Rattle.past_model.specs.Past.{Past, Base, graph_of, of_feed}
use Rattle.past_model.specs.Homes.{home_of}

-- the mark of a log: of each feed, from A on, how many of the batches came by it
abbrev pub mark_of : List Entry → List ℕ
mark_of log = map (λ feed. length (of_feed feed log)) (numbers_below FEEDS)

-- what a mark says of a feed
abbrev pub marked : List ℕ → ℕ → ℕ
marked mark feed = slice_index_or mark feed 0

-- how many batches of a feed the ended epochs had, by their marks
abbrev pub ended_batches : List (List ℕ) → ℕ → ℕ
ended_batches [] feed = 0
ended_batches (mark ∷ marks) feed = marked mark feed + ended_batches marks feed

-- the graph and the homes of a past, as a base
abbrev pub base_of : Past → Base
base_of p =
    record { rows = map (neighbours (graph_of p)) (numbers_below p.vertex_count); homes = map (home_of p) (numbers_below p.vertex_count) }

-- the past after a rebase
abbrev pub rebased : Past → Past
rebased p = record p {
  base = base_of p;
  marks = p.marks ++ mark_of p.log ∷ [];
  log = [];
}

-- the past of a branch: the graph and the homes are the base of a first epoch, without a batch
abbrev pub branched : Past → Past
branched p = record p { base = base_of p; marks = []; log = [] }

-- two pasts of one epoch, where the log of the second begins with that of the first
pub record IsBeforeInEpoch (a b : Past) : Type 0 where
  pub base : b.base ≡ a.base
  pub marks : b.marks ≡ a.marks
  pub log : IsPrefix a.log b.log

-- the epoch of the first ended before the second: the marks of the second go on after those of the first, and the next of them
-- counts, of each feed, no fewer batches than the first had
pub record IsOfEndedEpoch (a b : Past) : Type 0 where
  pub mark : List ℕ
  pub later : List (List ℕ)
  pub marks : b.marks ≡ a.marks ++ mark ∷ later
  pub log : (feed : ℕ) → feed < FEEDS → length (of_feed feed a.log) ≤ marked mark feed

-- the second past is the first, or was published after it
abbrev pub IsBefore : Past → Past → Type 0
IsBefore a b = (b.vertex_count ≡ a.vertex_count) × (IsBeforeInEpoch a b ⊎ IsOfEndedEpoch a b)

-- of all these batches, those that no ended epoch has: before them came as many of each feed as the marks count
pub record AreSince (marks : List (List ℕ)) (all since : List Entry) : Type 0 where
  pub ended : List Entry
  pub whole : ended ++ since ≡ all
  pub counted : (feed : ℕ) → feed < FEEDS → length (of_feed feed ended) ≡ ended_batches marks feed

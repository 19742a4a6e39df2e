-- A version with the history's word that it was published.
use Rattle.std.specs.Prelude.{◌≡◌, ℕ, ◌+◌, ◌*◌, ◌≤◌}
use Rattle.std.specs.declared.sync.Arc.{Arc}
use Rattle.std.specs.Arc.{arc_value}
use Rattle.std.specs.declared.alloc.Global.{Global}
use Rattle.past_model.specs.declared.limits.TheConstants.{MOST_BATCHES, SERVED_EPOCHS}
use Rattle.past_model.specs.Past.{Past, number_of, epoch_of}
use Rattle.history.specs.Moment.{Moment, Beginning}
use Rattle.store.specs.declared.recorded.Owners.{Owners}

-- the moment of a version in the history that a token is of
abbrev pub moment_in : Past → Beginning → Moment
moment_in past known = record { past = past; book = known.book }

-- no more publications than lead to such a past: of each ended epoch its batches and the rebase, and the log's
pub record AreFew (past : Past) (count : ℕ) : Type 0 where
  pub few : count ≤ (MOST_BATCHES + 1) * epoch_of past + number_of past
  pub short : number_of past ≤ MOST_BATCHES
  pub epochs : epoch_of past ≤ SERVED_EPOCHS

-- each owner is of this version
abbrev pub AreSharesOf : Past → Owners (Arc Past Global) → Type 0
AreSharesOf p owners = (arc_value owners.shown ≡ p) × (arc_value owners.kept ≡ p) × (arc_value owners.told ≡ p)

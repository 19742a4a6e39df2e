-- A batch on a store, and a rebase of it, as a host asks for them.
use Rattle.std.specs.Prelude.{◌≡◌, ◌≢◌, ℕ, ◌+◌, nat_lt, if◌then◌else◌, length}
use Rattle.past_model.specs.declared.limits.TheConstants.{MOST_EDITS, MOST_BATCHES, MOST_EPOCHS, FEEDS}
use Rattle.past_model.specs.declared.entry.Entry.{Entry}
use Rattle.past_model.specs.Edits.{are_edits_below, added, removed}
use Rattle.past_model.specs.Past.{Past, graph_of, number_of, epoch_of, longer}
use Rattle.past_model.specs.Epochs.{rebased}
use Rattle.embedding.specs.declared.statuses.TheConstants.{DONE, NO_MEMORY, TOO_MANY_EDITS, VERTEX_RANGE, LOG_FULL, FEED, EPOCHS_FULL}
use Rattle.embedding.specs.declared.store.Change.{Change}

-- the first test that a batch fails, or that all pass
abbrev pub fault_in : Past → Entry → ℕ
fault_in p e =
    if nat_lt MOST_EDITS (length e.batch) then TOO_MANY_EDITS
    else if are_edits_below p.vertex_count e.batch then (
    if nat_lt (number_of p) MOST_BATCHES then (if nat_lt e.feed FEEDS then DONE else FEED) else LOG_FULL)
    else VERTEX_RANGE

-- what a batch does, and the number of the version that it makes
abbrev pub change_of : Past → Entry → Change
change_of p e = record { added = added e.batch (graph_of p); removed = removed e.batch (graph_of p); number = number_of p + 1 }

-- the batch makes the next version and is reported, or nothing changes and nothing is written. The answer is the first test that
-- fails, unless there is no memory
pub record IsApplied (p : Past) (e : Entry) (status : ℕ) (next : Past) (before after : Change) : Type 0 where
  pub done : status ≡ DONE → (next ≡ longer p e) × (after ≡ change_of p e)
  pub left : status ≢ DONE → (next ≡ p) × (after ≡ before)
  pub fault : status ≢ NO_MEMORY → status ≡ fault_in p e

-- whether there is room for one epoch more
abbrev pub rebase_fault_in : Past → ℕ
rebase_fault_in p = if nat_lt (epoch_of p) MOST_EPOCHS then DONE else EPOCHS_FULL

-- the last version's graph is the base of the next epoch, whose number is reported, or nothing changes and nothing is written. The answer
-- is whether there is room, unless there is and no memory
pub record IsRebased (p : Past) (status : ℕ) (next : Past) (before after : ℕ) : Type 0 where
  pub done : status ≡ DONE → (next ≡ rebased p) × (after ≡ epoch_of p + 1)
  pub left : status ≢ DONE → (next ≡ p) × (after ≡ before)
  pub fault : status ≢ NO_MEMORY → status ≡ rebase_fault_in p
  pub memory : status ≡ NO_MEMORY → rebase_fault_in p ≡ DONE

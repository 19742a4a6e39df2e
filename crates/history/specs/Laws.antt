-- Laws of moments. Each is the contract of a public function.
use Rattle.std.specs.Prelude.{◌≡◌, ◌⊎◌, List}
use Rattle.past_model.specs.declared.entry.Entry.{Entry}
use Rattle.past_model.specs.Past.{Past}
use Rattle.past_model.specs.Epochs.{rebased, IsBefore, IsBeforeInEpoch}
use Rattle.history.specs.declared.published.Published.{Published}
use Rattle.history.specs.Moment.{Moment, after_entry, after_rebase, after_all, Begins}

-- each moment begins itself, what begins a beginning begins the whole, and two moments that begin each other are one
pub record InOrder : Type 0 where
  pub itself : (a : Moment) → Begins a a
  pub onwards : (a b c : Moment) → Begins a b → Begins b c → Begins a c
  pub one : (a b : Moment) → Begins a b → Begins b a → a ≡ b

-- a moment begins the one after it
pub record GoesOn : Type 0 where
  pub batch : (m : Moment) (e : Entry) → Begins m (after_entry m e)
  pub rebase : (m : Moment) → Begins m (after_rebase m)

-- a version is before each that it begins, as pasts are compared
abbrev pub BeginningsAreBefore : Type 0
BeginningsAreBefore = (a b : Moment) → Begins a b → IsBefore a.past b.past

-- the second past is of a later epoch: the first one's epoch ended with a log that begins with the first one's log, and all that came
-- after is on the base that this left
pub record IsOverEpochs (a b : Past) : Type 0 where
  pub last : Past
  pub inside : IsBeforeInEpoch a last
  pub later : List Published
  pub onwards : b ≡ after_all (rebased last) later

-- no epoch begins with another graph than the one before it ended with
abbrev pub BasesGoOn : Type 0
BasesGoOn = (a b : Moment) → Begins a b → IsBeforeInEpoch a.past b.past ⊎ IsOverEpochs a.past b.past

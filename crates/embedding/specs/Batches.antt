-- A batch of arrays on a store that a handle holds, a rebase of it, and what is handed out.
use Rattle.std.specs.Prelude.{◌≡◌, ◌≢◌, ℕ, List, length, Option, Some, None}
use Rattle.past_model.specs.Past.{Past}
use Rattle.embedding.specs.declared.statuses.TheConstants.{DONE, NO_MEMORY, EMPTY, OTHER_KIND, LENGTHS}
use Rattle.embedding.specs.declared.store.Change.{Change}
use Rattle.embedding.specs.declared.held.Held.{Held}
use Rattle.embedding.specs.declared.held.Held.TheVariants as held
use Rattle.embedding.specs.Applying.{IsApplied, IsRebased}
use Rattle.embedding.specs.Spelled.{spelled_entry}

-- the three arrays are as long as each other
abbrev pub AreAlike : List ℕ → List ℕ → List ℕ → Type 0
AreAlike sources targets removes = (length targets ≡ length sources) × (length removes ≡ length sources)

-- arrays of other lengths are answered first, and nothing changes; else it is the batch that they spell
pub record IsAnswered (feed : ℕ) (sources targets removes : List ℕ) (p : Past) (status : ℕ) (next : Past) (before after : Change) : Type 0 where
  pub lengths : status ≡ LENGTHS → AreAlike sources targets removes → ⊥
  pub left : status ≡ LENGTHS → (next ≡ p) × (after ≡ before)
  pub alike : status ≢ LENGTHS → AreAlike sources targets removes
  pub applied : status ≢ LENGTHS → IsApplied p (spelled_entry feed sources targets removes) status next before after

-- a store is held, of whose last version something is true
abbrev pub StoreIs : Option Held → (Past → Type 0) → Type 0
StoreIs None P = ⊥
StoreIs (Some (held.Store p)) P = P p
StoreIs (Some (held.Version v)) P = ⊥
StoreIs (Some (held.Program c)) P = ⊥

-- the same of what a handle holds, before and after: nothing is done where it holds no store
abbrev pub IsAppliedTo : ℕ → List ℕ → List ℕ → List ℕ → Option Held → ℕ → Option Held → Change → Change → Type 0
IsAppliedTo feed sources targets removes None status next before after = (status ≡ EMPTY) × (next ≡ None) × (after ≡ before)
IsAppliedTo feed sources targets removes (Some (held.Store p)) status next before after =
    StoreIs next (λ n. IsAnswered feed sources targets removes p status n before after)
IsAppliedTo feed sources targets removes (Some (held.Version v)) status next before after = (status ≡ OTHER_KIND) × (next ≡ Some (held.Version v)) × (after ≡ before)
IsAppliedTo feed sources targets removes (Some (held.Program c)) status next before after = (status ≡ OTHER_KIND) × (next ≡ Some (held.Program c)) × (after ≡ before)

-- a rebase of what a handle holds, before and after: nothing is done where it holds no store
abbrev pub IsRebasedTo : Option Held → ℕ → Option Held → ℕ → ℕ → Type 0
IsRebasedTo None status next before after = (status ≡ EMPTY) × (next ≡ None) × (after ≡ before)
IsRebasedTo (Some (held.Store p)) status next before after = StoreIs next (λ n. IsRebased p status n before after)
IsRebasedTo (Some (held.Version v)) status next before after = (status ≡ OTHER_KIND) × (next ≡ Some (held.Version v)) × (after ≡ before)
IsRebasedTo (Some (held.Program c)) status next before after = (status ≡ OTHER_KIND) × (next ≡ Some (held.Program c)) × (after ≡ before)

-- it is made, or there is no memory and what was there is there
abbrev pub IsHandedOut : ℕ → Type 0 → Type 0 → Type 0
IsHandedOut status made same = (status ≡ DONE → made) × (status ≢ DONE → (status ≡ NO_MEMORY) × same)

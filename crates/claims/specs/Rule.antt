-- The rule of the counter: what all claimants together have claimed.
use Rattle.std.specs.Prelude.{◌≡◌, ℕ, ◌*◌, ◌≤◌, List, [], ◌∷◌, ◌++◌, length, slice_index}
use Rattle.std.specs.List.{sum_by}
use mathlib.Core.Option.{some}
use lib.ListN.{get_elem?}
use Rattle.claims.specs.declared.hand.Hand.{Hand}
use Rattle.claims.specs.declared.limits.TheConstants.{PARTS, CLAIMS_OF_A_PART}
use Rattle.claims.specs.Claims.{times, once_below, AreAllBelow}

abbrev pub hand : ℕ → List ℕ → Hand
hand parts claimed = record { parts = parts; claimed = claimed }

-- the one word is the counter. The claimants have all parts of it; the numbers below it are what they claimed, each once;
-- and none of them claimed more than its parts allow
pub record AreClaimed (words : List ℕ) (hands : List Hand) : Type 0 where
  pub one : length words ≡ 1
  pub parts : sum_by (λ h. h.parts) hands ≡ PARTS
  pub each : (x : ℕ) → sum_by (λ h. times x h.claimed) hands ≡ once_below (slice_index words 0) x
  pub many : sum_by (λ h. length h.claimed) hands ≡ slice_index words 0
  pub few : (seat : ℕ) (h : Hand) → get_elem? hands seat ≡ some h → length h.claimed ≤ h.parts * CLAIMS_OF_A_PART

-- a number was claimed: the claimant has it after what it claimed before, which is no more than the number
abbrev pub Claims : Hand → ℕ → Hand → Type 0
Claims before number after =
    (after ≡ hand before.parts (before.claimed ++ number ∷ [])) × (length before.claimed ≤ number)

-- the counter was read: who has all parts has claimed what is below it
abbrev pub Counts : Hand → ℕ → Hand → Type 0
Counts before count after = (after ≡ before) × (before.parts ≡ PARTS → AreAllBelow count before.claimed)

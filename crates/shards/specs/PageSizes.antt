-- The lengths of lists that a size of pages suits.
use Rattle.std.specs.Prelude.{◌≡◌, ℕ, ◌<◌, ◌≤◌}

-- pages of two to this power of vertices suit lists of so many words on average
pub record Suits (power each : ℕ) : Type 0 where
  pub most : power ≡ 6 → each < 12
  pub five : power ≡ 5 → (6 ≤ each) × (each < 54)
  pub four : power ≡ 4 → (20 ≤ each) × (each < 128)
  pub three : power ≡ 3 → (48 ≤ each) × (each < 342)
  pub least : power < 3 → 128 ≤ each

-- What a host learns of an answer that it computed.
use Rattle.std.specs.Prelude.{◌≡◌, ℕ, ◌≤◌}

-- 1 if something holds, and 0 if it does not
pub record Tells (answer : ℕ) (P : Type 0) : Type 0 where
  pub few : answer ≤ 1
  pub yes : answer ≡ 1 → P
  pub no : answer ≡ 0 → P → ⊥

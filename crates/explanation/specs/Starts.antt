-- Where instructions start, and which they are.
use Rattle.std.specs.Prelude.{◌≡◌, ℕ, zero, suc, ◌+◌, ◌≤◌, if◌then◌else◌}
use Rattle.bpf_image.specs.Program.{Program}
use Rattle.verifier.specs.Listing.{start_from, is_start}
use Rattle.explanation.specs.declared.cursor.Cursor.{Cursor}

-- how many instructions start below a pc
unfoldable pub starts_below : Program → ℕ → ℕ
starts_below p zero = 0
starts_below p (suc n) = if is_start p n then starts_below p n + 1 else starts_below p n

-- a cursor has come to a pc
pub record IsAt (p : Program) (pc : ℕ) (cursor : Cursor) : Type 0 where
  pub next : cursor.next ≡ start_from p pc
  pub near : cursor.next ≤ 8192
  pub ordinal : cursor.ordinal ≡ starts_below p pc
  pub few : cursor.ordinal ≤ pc

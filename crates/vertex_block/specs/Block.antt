-- The places of a block.
use Rattle.std.specs.Prelude.{◌≡◌, ℕ, ◌-◌, ◌≤◌, List, length, take, drop, replicate}
use Rattle.vertex_block.specs.declared.block.TheConstants.{PLACES}
use Rattle.word_sets.specs.Words.{IsSet}

-- the words of a set at the first places, and 0 at the others
pub record IsBlock (n : ℕ) (places : List ℕ) : Type 0 where
  pub most : n ≤ PLACES
  pub all : length places ≡ PLACES
  pub spare : drop n places ≡ replicate (PLACES - n) 0
  pub set : IsSet (take n places)

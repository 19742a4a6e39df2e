-- What the versions of one epoch have in common, and the past of a version.
use Rattle.std.specs.Prelude.{ℕ, List, Option}
use Rattle.past_model.specs.declared.entry.Entry.{Entry}
use Rattle.past_model.specs.Past.{Past}
use Rattle.shards.specs.Part.{Part}
use Rattle.shard_table.specs.Table.{base_at}

-- the parts of the base, of which the first epoch has none, and the marks of the epochs before
pub record Ground : Type 0 where
  pub parts : Option (List Part)
  pub marks : List (List ℕ)

abbrev pub ground : Option (List Part) → List (List ℕ) → Ground
ground parts marks = record { parts = parts; marks = marks }

-- what a version of so many vertices is the replay of
abbrev pub past_on : ℕ → Ground → List Entry → Past
past_on n g log = record { vertex_count = n; base = base_at n g.parts; marks = g.marks; log = log }

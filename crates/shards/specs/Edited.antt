-- One shard after edits.
use Rattle.std.specs.Prelude.{List}
use Rattle.past_model.specs.declared.edit.Edit.{Edit}
use Rattle.shards.specs.declared.counts.Counts.{Counts}
use Rattle.shards.specs.Part.{Part, IsPartAfter, AreCounts, AreHomesAfter}

-- a part is another one after edits, these are their counts, and each list is at home where it has to be
pub record IsMadeOf (old : Part) (es : List Edit) (new : Part) (counts : Counts) : Type 0 where
  pub after : IsPartAfter es old new
  pub counted : AreCounts es old counts
  pub homes : AreHomesAfter old new

-- it is some part after some edits
pub record IsEdited (new : Part) (counts : Counts) : Type 0 where
  pub old : Part
  pub by : List Edit
  pub made : IsMadeOf old by new counts

-- What is answered for a batch.
use Rattle.std.specs.Prelude.{◌<◌, ◌≤◌, List, length, Result, Ok, Err}
use Rattle.past_model.specs.declared.limits.TheConstants.{MOST_EDITS}
use Rattle.past_model.specs.declared.edit.Edit.{Edit}
use Rattle.graph_model.specs.Graph.{Graph}
use Rattle.past_model.specs.Edits.{AreEditsBelow}
use Rattle.shards.specs.declared.counts.Counts.{Counts}
use Rattle.shards.specs.Part.{Part}
use Rattle.shard_table.specs.Table.{IsTable, AreAfter, AreMoved}
use Rattle.batch_apply.specs.declared.errors.ApplyError.{ApplyError}
use Rattle.batch_apply.specs.declared.errors.ApplyError.TheVariants.{VertexRange, TooManyEdits, OutOfMemory, WorkerRefused}

-- the edits are among the vertices of the graph that these parts are
abbrev pub AreHeld : List Part → List Edit → Type 0
AreHeld parts es = (g : Graph) → IsTable g parts → AreEditsBelow g.vertex_count es

-- the batch passes both tests
abbrev pub IsAllowed : List Part → List Edit → Type 0
IsAllowed parts es = (length es ≤ MOST_EDITS) × AreHeld parts es

-- the table after the batch and its counts, or the first test that fails; for lack of memory or of a worker neither fails
abbrev pub IsApplied : List Part → List Edit → Result (List Part × Counts) ApplyError → Type 0
IsApplied parts es (Ok next) = IsAllowed parts es × AreAfter es parts next.0 next.1 × AreMoved parts next.0
IsApplied parts es (Err TooManyEdits) = MOST_EDITS < length es
IsApplied parts es (Err VertexRange) = (length es ≤ MOST_EDITS) × (AreHeld parts es → ⊥)
IsApplied parts es (Err OutOfMemory) = IsAllowed parts es
IsApplied parts es (Err WorkerRefused) = IsAllowed parts es

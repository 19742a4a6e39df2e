use Rattle.past_model.proofs.Batches.{after_batch-append}
use Rattle.past_model.proofs.laws.edits_in_turn.Goals as goal

pub returns : goal.returns
returns c = after_batch-append

use Rattle.answers.proofs.Walks.{components}
use Rattle.answers.proofs.laws.labels_are_components.Goals as goal

pub returns : goal.returns
returns c = components

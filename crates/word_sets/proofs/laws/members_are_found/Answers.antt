use Rattle.word_sets.proofs.Members.{found_members}
use Rattle.word_sets.proofs.laws.members_are_found.Goals as goal

pub returns : goal.returns
returns c = found_members

use Rattle.std.proofs.Common.{refl}
use Rattle.verifier.proofs.laws.knows_the_record_alone.Goals as goal

pub returns : goal.returns
returns c p none = rw none (refl, refl)

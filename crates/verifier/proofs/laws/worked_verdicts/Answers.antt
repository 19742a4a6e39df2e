use Rattle.std.proofs.Common.{refl}
use Rattle.bpf_isa.specs.Reading.{decoding, read_row, row_at, register_at}
use Rattle.verifier.specs.Rules.{transfer}
use Rattle.verifier.specs.Listing.{start_from}
use Rattle.verifier.specs.Functions.{function_end}
use Rattle.verifier.specs.Walks.{weight_over, weight_from}
use Rattle.verifier.specs.Equations.{called}
use Rattle.verifier.specs.Verdict.{verdict}
use Rattle.verifier.proofs.laws.worked_verdicts.Goals as goal

pub returns : goal.returns
unfolding verdict transfer weight_over weight_from called function_end start_from decoding read_row row_at register_at
returns c = (refl, refl, refl, refl, refl, refl, refl, refl)

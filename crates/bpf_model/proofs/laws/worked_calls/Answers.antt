use Rattle.std.proofs.Common.{refl}
use Rattle.bpf_isa.specs.Reading.{decoding, read_row, row_at, register_at}
use Rattle.bpf_model.proofs.laws.worked_calls.Goals as goal

pub returns : goal.returns
unfolding decoding read_row row_at register_at
returns c g bytes = (refl, refl, refl, refl, refl, refl)

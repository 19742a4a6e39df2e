use Rattle.std.proofs.Common.{refl}
use Rattle.bpf_isa.specs.Reading.{decoding, read_row, row_at, register_at}
use Rattle.graph_model.specs.Graph.{neighbours}
use Rattle.bpf_model.proofs.laws.worked_helpers.Goals as goal

pub returns : goal.returns
unfolding decoding read_row row_at register_at neighbours
returns c bytes = (refl, refl, refl, refl, refl, refl, refl, refl)

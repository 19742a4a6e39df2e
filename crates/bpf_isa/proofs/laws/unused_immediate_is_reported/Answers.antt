use Rattle.bpf_isa.specs.Reading.{decoding, read_row, row_at}
use Rattle.bpf_isa.proofs.laws.unused_immediate_is_reported.Goals as goal

pub returns : goal.returns
unfolding decoding read_row row_at
returns c = c.decode_at.ensures.exact

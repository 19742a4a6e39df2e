use Rattle.std.proofs.Math.Facts.{Fits-lt-pow}
use Rattle.bpf_isa.proofs.EncodedLaws.{long, long_stands}
use Rattle.bpf_isa.proofs.laws.wide_is_decoded_as_itself.Goals as goal

pub returns : goal.returns
returns c =
    c.decode_at.ensures.only (long c.args.value) 2 (long_stands c.args.value c.encode-length.result.0 c.encode-length.result.1 (Fits-lt-pow c.ranges.value) c.encode-length.ensures.size c.encode-length.ensures.bytes)

use Rattle.std.proofs.Common.{ℤ, ◌-◌, ◌++◌, replicate, ap, ◌∙◌}
use Rattle.std.specs.Int.{w16}
use Rattle.std.proofs.lemmas.Int.{to_z-of_z}
use Rattle.bpf_isa.specs.Encoding.{spelling}
use Rattle.bpf_isa.proofs.EncodedLaws.{store_stands, stored}
use Rattle.bpf_isa.proofs.laws.encoded_is_decoded.Goals as goal

pub returns : goal.returns
returns c =
    let same = ap (λ (z : ℤ). spelling (stored z) ++ replicate (16 - c.encode-length.result.1) 0) (to_z-of_z w16 c.args.offset c.ranges.offset) in
    c.decode_at.ensures.only (stored c.args.offset) 1 (store_stands c.args.offset c.encode-length.result.0 c.encode-length.result.1 c.ranges.offset c.encode-length.ensures.size (c.encode-length.ensures.bytes ∙ same))

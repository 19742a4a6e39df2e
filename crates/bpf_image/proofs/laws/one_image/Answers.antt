use Rattle.bpf_image.proofs.FormatLaws.{one_image}
use Rattle.bpf_image.proofs.laws.one_image.Goals as goal

pub returns : goal.returns
returns c = one_image

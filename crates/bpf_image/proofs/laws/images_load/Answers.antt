use Rattle.bpf_image.proofs.FormatLaws.{images_load}
use Rattle.bpf_image.proofs.laws.images_load.Goals as goal

pub returns : goal.returns
returns c = images_load

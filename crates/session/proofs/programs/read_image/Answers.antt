use Rattle.session_model.proofs.ImageLemmas.{loaded_made}
use Rattle.session.proofs.programs.read_image.Goals as goal

pub returns-in-Ok-clause-made : goal.returns-in-Ok-clause-made
returns-in-Ok-clause-made c =
    loaded_made c.args.bytes.now c.in-Ok.image (λ i. (c.type_inv.bytes i).fits) c.lengths-lengths.ensures.image c.in-Ok.ensures.made

use Rattle.script.proofs.ProgramLemmas.{text_more}
use Rattle.script.proofs.block.BegunProgram.add.Goals as goal

pub returns-clause-text : goal.returns-clause-text
returns-clause-text c was =
    rw (c.in_ok-push.ensures.items, c.in_ok-extend_from_slice.ensures.items) (text_more c.args.self.now.text.items c.args.bytes.now was c.requires.plain)

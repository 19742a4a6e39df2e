use Rattle.service.proofs.LineLemmas.{first_line}
use Rattle.service.proofs.lines.line_end.Goals as goal

pub returns : goal.returns
returns c = first_line c.args.bytes.now c.memchr.result c.memchr.ensures

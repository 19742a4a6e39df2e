use Rattle.std.proofs.Common.{◌∙◌, sym}
use Rattle.script.proofs.BlankLemmas.{first_blank}
use Rattle.script.proofs.reading.words.word_length.Goals as goal

pub returns : goal.returns
returns c = c.unwrap_or.ensures ∙ sym (first_blank c.args.line.now c.memchr2.result c.memchr2.ensures)

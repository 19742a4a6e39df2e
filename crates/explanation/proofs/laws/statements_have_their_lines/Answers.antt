use lib.Utf8.{encode}
use Rattle.std.specs.Str.{chars, trim_end, trim_start}
use Rattle.explanation.proofs.laws.statements_have_their_lines.Goals as goal

pub returns : goal.returns
unfolding chars trim_end trim_start encode
returns c = c.source_lines.ensures

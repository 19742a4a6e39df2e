use Rattle.std.proofs.Common.{sym, subst}
use Rattle.std.specs.Str.{IsUtf8}
use Rattle.script.proofs.ProgramLemmas.{text_utf8}
use Rattle.script.proofs.block.BegunProgram.text.Goals as goal

pub unreachable-requires : goal.unreachable-requires
unreachable-requires c =
    c.in_default.ensures.cases.0 (subst IsUtf8 (sym c.deref.ensures.value) (text_utf8 c.args.self.now.text.items c.requires))

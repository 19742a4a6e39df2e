use Rattle.std.proofs.Common.{◌≡◌, take}
use Rattle.std.specs.List.{list_all}
use Rattle.script_model.specs.Lexing.{is_plain}
use Rattle.script.proofs.reading.words.is_plain_line.Given as goal

-- whether all bytes so far are plain
abbrev pub invariant-loop-byte : goal.invariant-loop-byte
invariant-loop-byte l = l.plain ≡ list_all is_plain (take l.byte-index l.line)

use Rattle.std.proofs.Common.{◌≡◌, ◌<◌, ◌^◌, drop}
use Rattle.bpf_asm.specs.Statements.{digits_from}
use Rattle.bpf_asm.proofs.reading.numeral.magnitude.Given as goal

abbrev pub invariant-loop-byte : goal.invariant-loop-byte
invariant-loop-byte l = record {
  same : digits_from l.base l.number (drop l.byte-index l.numeral.digits.now) ≡ digits_from l.base 0 l.numeral.digits.now;
  small : l.number < 2 ^ 64;
}

use Rattle.std.proofs.Common.{◌≡◌, ◌*◌, ◌/◌, length, take, drop}
use Rattle.script_model.specs.Lexing.{hex_pairs}
use Rattle.script.proofs.HexLemmas.{after}
use Rattle.script.proofs.reading.hex.hex_pairs.Given as goal

abbrev pub invariant-loop-place : goal.invariant-loop-place
invariant-loop-place l = record {
  long : length l.bytes.items ≡ length l.digits / 2;
  spelled : after (take l.place l.bytes.items) (hex_pairs (drop (2 * l.place) l.digits)) ≡ hex_pairs l.digits;
}

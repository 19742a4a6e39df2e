use Rattle.std.proofs.Common.{◌≡◌, ◌*◌, ◌/◌, ◌++◌, length, take, drop, replicate, min}
use Rattle.graph_model.specs.Views.{word_bytes, no_word}
use Rattle.cursors.proofs.words.fill.Given as goal

abbrev pub invariant-loop-place : goal.invariant-loop-place
invariant-loop-place l = record {
  written : take (4 * l.place) l.out ≡ word_bytes (take l.place (l.fn.cursor ++ replicate (length l.fn.out / 4) no_word));
  left : l.words ≡ drop l.place l.fn.cursor;
  counted : l.found ≡ min l.place (length l.fn.cursor);
}

use Rattle.std.proofs.Common.{◌≡◌, ◌+◌, ◌/◌, ◌<◌, ◌≤◌, ℕ, [], ◌∷◌, ◌++◌, length, take, drop, replicate, sym, ap, ◌∙◌, arith}
use Rattle.std.proofs.lemmas.List.{drop_all}
use Rattle.graph_model.specs.Views.{word_bytes, no_word}
use Rattle.cursors.proofs.WordLemmas.{next_word, no_next_word, filled_more, filled_none, written_more}
use Rattle.cursors.proofs.words.fill.Goals.{in-Some, in-None}
use Rattle.cursors.proofs.words.fill.Goals as goal

pub loop-place-preserved : goal.loop-place-preserved
loop-place-preserved c =
    let place = c.loop-place.place in
    let n : ℕ = length c.args.out.now / 4 in
    let written = written_more c.loop-place.out c.write_word.new.out (take place (c.args.cursor ++ replicate n no_word)) place c.match-next.word c.write_word.ensures (omega arith) c.loop-place.invariant.written in
    elim c.match-next.branch [
      | in-Some w ↦ (
          let is : drop place c.args.cursor ≡ w.in-Some.word ∷ c.next.new.self = sym c.loop-place.invariant.left ∙ w.in-Some.ensures in
          let next = next_word c.args.cursor c.next.new.self place w.in-Some.word is in
          let inside : place < length c.args.cursor = next.0 in
          record {
            written = written ∙ ap (λ x. word_bytes (take place (c.args.cursor ++ replicate n no_word) ++ x ∷ [])) w.word-is ∙ sym (ap word_bytes (filled_more c.args.cursor c.next.new.self n place w.in-Some.word is));
            left = next.2;
            counted = omega (arith, w.found-is, c.loop-place.invariant.counted, inside);
          }
          )
      | in-None w ↦ (
          let is : drop place c.args.cursor ≡ [] = sym c.loop-place.invariant.left ∙ w.in-None.ensures.0 in
          let past : length c.args.cursor ≤ place = no_next_word c.args.cursor place is in
          record {
            written = written ∙ ap (λ x. word_bytes (take place (c.args.cursor ++ replicate n no_word) ++ x ∷ [])) w.word-is ∙ sym (ap word_bytes (filled_none c.args.cursor n place is (omega arith)));
            left = w.in-None.ensures.1 ∙ sym (drop_all (place + 1) c.args.cursor (omega (arith, past)));
            counted = omega (arith, w.found-is, c.loop-place.invariant.counted, past);
          }
          )
    ]

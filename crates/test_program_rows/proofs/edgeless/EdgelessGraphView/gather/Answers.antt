use Rattle.std.proofs.Common.{◌≡◌, ℕ, zero, suc, ◌+◌, ◌*◌, ◌/◌, ◌%◌, ◌<◌, List, [], ◌∷◌, ◌++◌, length, get_or, take, drop, replicate, refl, sym, ap, ◌∙◌, arith}
use Rattle.std.proofs.lemmas.List.{drop_all, take_all, length-replicate, get_or-replicate, ext_get_or}
use Rattle.graph_model.specs.Graph.{neighbours, empty_graph}
use Rattle.graph_model.specs.Views.{no_word, word_bytes, words_from, neighbour_words, neighbours_among}
use Rattle.graph_model.proofs.Neighbours.{neighbours-empty_graph}
use Rattle.test_program_rows.proofs.edgeless.EdgelessGraphView.gather.Goals as goal

none_from : (first count : ℕ) → words_from [] first count ≡ replicate count no_word
none_from first count =
    ap (λ l. take count (l ++ replicate count no_word)) (drop_all first [] (omega arith))
    ∙ take_all count (replicate count no_word) (omega (arith, length-replicate count no_word))

full_bytes : (count : ℕ) → word_bytes (replicate count no_word) ≡ replicate (4 * count) 255
full_bytes zero = refl
full_bytes (suc count) =
    let more : 4 * suc count ≡ suc (suc (suc (suc (4 * count)))) = omega arith in
    ap (λ l. 255 ∷ 255 ∷ 255 ∷ 255 ∷ l) (full_bytes count) ∙ sym (ap (λ n. replicate n 255) more)

-- where there are no neighbours, all bytes are 255
filled : (n v first : ℕ) (old out : List ℕ) → length old % 4 ≡ 0 → length out ≡ length old → ((k : ℕ) → k < length out → get_or out k 0 ≡ 255)
    → out ≡ word_bytes (neighbour_words (empty_graph n) v first (length old / 4))
filled n v first old out whole same full =
    let long : 4 * (length old / 4) ≡ length out = omega arith in
    let size : length (replicate (4 * (length old / 4)) 255) ≡ length out = length-replicate (4 * (length old / 4)) 255 ∙ long in
    let bytes : out ≡ replicate (4 * (length old / 4)) 255 =
    ext_get_or 0 out (replicate (4 * (length old / 4)) 255) (sym size) (λ k lt. full k lt ∙ sym (get_or-replicate (4 * (length old / 4)) k 255 0 (omega (arith, lt)))) in
    bytes
    ∙ sym (full_bytes (length old / 4))
    ∙ sym (ap word_bytes (ap (λ l. words_from l first (length old / 4)) (neighbours-empty_graph n v) ∙ none_from first (length old / 4)))

none_among : (n v first count : ℕ) → 0 ≡ neighbours_among (empty_graph n) v first count
none_among n v first count =
    let none : drop first (neighbours (empty_graph n) v) ≡ [] = ap (drop first) (neighbours-empty_graph n v) ∙ drop_all first [] (omega arith) in
    omega (arith, ap length none)

pub returns-clause-words : goal.returns-clause-words
returns-clause-words c =
    filled c.args.self.now.vertices c.args._vertex c.args._first c.args.out.now c.loop-byte.out c.requires c.loop-byte.auto.out
    (λ k lt. c.loop-byte.invariant k (omega (arith, lt, c.loop-byte.auto.out, c.loop-byte-test.false)))

pub returns-clause-count : goal.returns-clause-count
returns-clause-count c = none_among c.args.self.now.vertices c.args._vertex c.args._first (length c.args.out.now / 4)

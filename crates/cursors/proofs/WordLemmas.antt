-- Words that are written one after another, as long as there are any, and the word of none after them.
use Rattle.std.proofs.Common.{◌≡◌, ℕ, ◌+◌, ◌-◌, ◌*◌, ◌<◌, ◌≤◌, List, [], ◌∷◌, ◌++◌, length, get_or, take, drop, replicate, refl, sym, ap, ◌∙◌, arith}
use Rattle.std.specs.Int.{w32, to_le_bytes}
use Rattle.std.proofs.lemmas.List.{length-append, length-drop, length-replicate, length-take, drop_more, take_more, take_at, get_or_append_left, get_or-append_right, get_or-replicate, flat_map_more}
use Rattle.graph_model.specs.Views.{no_word, word_bytes}

-- a word that is left is the next one, and the others are left then
pub next_word : (xs left : List ℕ) (place word : ℕ) → drop place xs ≡ word ∷ left → (place < length xs) × (get_or xs place 0 ≡ word) × (left ≡ drop (place + 1) xs)
next_word xs left place word is =
    let inside : place < length xs = omega (arith, ap length is, length-drop place xs) in
    let split : get_or xs place 0 ∷ drop (place + 1) xs ≡ word ∷ left = sym (drop_more xs place 0 inside) ∙ is in
    (inside, cc split, cc split)

pub no_next_word : (xs : List ℕ) (place : ℕ) → drop place xs ≡ [] → length xs ≤ place
no_next_word xs place is = omega (arith, ap length is, length-drop place xs)

-- one place more of words that are filled up
pub filled_more : (xs left : List ℕ) (n place word : ℕ) → drop place xs ≡ word ∷ left → take (place + 1) (xs ++ replicate n no_word) ≡ take place (xs ++ replicate n no_word) ++ word ∷ []
filled_more xs left n place word is =
    let next = next_word xs left place word is in
    take_more (xs ++ replicate n no_word) place 0 (omega (arith, next.0, length-append xs (replicate n no_word)))
    ∙ ap (λ w. take place (xs ++ replicate n no_word) ++ w ∷ []) (get_or_append_left xs (replicate n no_word) 0 place next.0 ∙ next.1)

-- one place more after the last of them
pub filled_none : (xs : List ℕ) (n place : ℕ) → drop place xs ≡ [] → place < n → take (place + 1) (xs ++ replicate n no_word) ≡ take place (xs ++ replicate n no_word) ++ no_word ∷ []
filled_none xs n place is within =
    let past = no_next_word xs place is in
    let here : get_or (xs ++ replicate n no_word) place 0 ≡ no_word =
    get_or-append_right xs (replicate n no_word) (length xs) place 0 refl past ∙ get_or-replicate n (place - length xs) no_word 0 (omega arith) in
    take_more (xs ++ replicate n no_word) place 0 (omega (arith, length-append xs (replicate n no_word), length-replicate n no_word))
    ∙ ap (λ w. take place (xs ++ replicate n no_word) ++ w ∷ []) here

-- one word more is written
pub written_more : (old new ws : List ℕ) (place word : ℕ) → new ≡ (take (4 * place) old ++ to_le_bytes w32 word) ++ drop (4 * place + 4) old → 4 * place + 4 ≤ length old
    → take (4 * place) old ≡ word_bytes ws → take (4 * (place + 1)) new ≡ word_bytes (ws ++ word ∷ [])
written_more old new ws place word is room before =
    let long : length (take (4 * place) old ++ to_le_bytes w32 word) ≡ 4 * (place + 1) = omega (arith, length-append (take (4 * place) old) (to_le_bytes w32 word), length-take (4 * place) old) in
    ap (take (4 * (place + 1))) is
    ∙ take_at (take (4 * place) old ++ to_le_bytes w32 word) (drop (4 * place + 4) old) (4 * (place + 1)) long
    ∙ ap (λ bytes. bytes ++ to_le_bytes w32 word) before
    ∙ flat_map_more (to_le_bytes w32) [] ws word

-- Words of hexadecimal digits.
use Rattle.std.proofs.Common.{◌≡◌, ℕ, ◌+◌, ◌*◌, ◌<◌, ◌≤◌, List, [], ◌∷◌, ◌++◌, refl, sym, ap, ◌∙◌, append_assoc, get_or, set, take, drop, length-drop, arith}
use Rattle.std.proofs.lemmas.List.{take_more_set, drop-drop, get_or-drop}
use Rattle.std.specs.Prelude.{Option, Some, None, option_map, length}
use Rattle.script_model.specs.Lexing.{hex_digit, hex_byte, hex_pairs, onto}

-- bytes, and those after them
abbrev pub after : List ℕ → Option (List ℕ) → Option (List ℕ)
after bytes rest = option_map (λ others. bytes ++ others) rest

after_one : (bytes : List ℕ) (b : ℕ) (rest : Option (List ℕ)) → after bytes (onto (Some b) rest) ≡ after (bytes ++ b ∷ []) rest
after_one bytes b None = refl
after_one bytes b (Some others) = simp append_assoc

-- a byte is spelled
pub pairs_more : (bytes : List ℕ) (byte : ℕ) (digits : List ℕ) → 2 ≤ length digits → Some byte ≡ hex_byte (hex_digit (get_or digits 0 0)) (hex_digit (get_or digits 1 0)) → after bytes (hex_pairs digits) ≡ after (bytes ++ byte ∷ []) (hex_pairs (drop 2 digits))
pairs_more bytes byte [] two spelled = absurd (omega arith)
pairs_more bytes byte (a ∷ []) two spelled = absurd (omega arith)
pairs_more bytes byte (a ∷ b ∷ digits) two spelled = simp (sym spelled) (after_one bytes byte (hex_pairs digits))

-- a byte is put in its place
pub placed_more : (bytes digits : List ℕ) (place byte : ℕ) → place < length bytes → 2 * place + 1 < length digits
    → after (take place bytes) (hex_pairs (drop (2 * place) digits)) ≡ hex_pairs digits
    → Some byte ≡ hex_byte (hex_digit (get_or digits (2 * place) 0)) (hex_digit (get_or digits (2 * place + 1) 0))
    → after (take (place + 1) (set bytes place byte)) (hex_pairs (drop (2 * (place + 1)) digits)) ≡ hex_pairs digits
placed_more bytes digits place byte room inside so_far spelled =
    let left = drop (2 * place) digits in
    let two : 2 ≤ length left = omega (arith, length-drop (2 * place) digits) in
    let here : 2 * place + 0 ≡ 2 * place = omega arith in
    let first : get_or left 0 0 ≡ get_or digits (2 * place) 0 = get_or-drop (2 * place) digits 0 0 ∙ ap (λ k. get_or digits k 0) here in
    let second : get_or left 1 0 ≡ get_or digits (2 * place + 1) 0 = get_or-drop (2 * place) digits 1 0 in
    let said : Some byte ≡ hex_byte (hex_digit (get_or left 0 0)) (hex_digit (get_or left 1 0)) = rw (first, second) spelled in
    let further : 2 * (place + 1) ≡ 2 * place + 2 = omega arith in
    let rest : drop (2 * (place + 1)) digits ≡ drop 2 left = ap (λ n. drop n digits) further ∙ sym (drop-drop 2 (2 * place) digits) in
    ap (λ early. after early (hex_pairs (drop (2 * (place + 1)) digits))) (take_more_set bytes place byte room)
    ∙ ap (λ later. after (take place bytes ++ byte ∷ []) (hex_pairs later)) rest
    ∙ sym (pairs_more (take place bytes) byte left two said)
    ∙ so_far

none_of_one : (digits : List ℕ) → length digits ≡ 1 → hex_pairs digits ≡ None
none_of_one [] one = absurd (omega (arith, one))
none_of_one (a ∷ []) one = refl
none_of_one (a ∷ b ∷ digits) one = absurd (omega (arith, one))

-- a digit is left alone
pub none_at_end : (bytes digits : List ℕ) (place : ℕ) → length digits ≡ 2 * place + 1
    → after bytes (hex_pairs (drop (2 * place) digits)) ≡ hex_pairs digits → None ≡ hex_pairs digits
none_at_end bytes digits place odd so_far =
    let one : length (drop (2 * place) digits) ≡ 1 = omega (arith, odd, length-drop (2 * place) digits) in
    sym (ap (after bytes) (none_of_one (drop (2 * place) digits) one)) ∙ so_far

-- Pieces of lists of cells.
use Rattle.std.proofs.Common.{◌≡◌, ℕ, suc, ◌+◌, ◌-◌, ◌<◌, ◌≤◌, List, [], ◌∷◌, ◌++◌, length, take, drop, get_or, set, insert, remove, refl, sym, ap, ap₂, subst, ◌∙◌, arith, add-one, length-append, length-take, length-drop, append_assoc}
use borrow.Rule.Slice.PartMut.{put_mid, mid_of}
use Rattle.std.proofs.lemmas.List.{drop_all, drop_more, get_or-take, get_or-drop, take_at, drop_at, take-append-le, drop-append-le, length-take-le, take-append-drop, drop-drop, drop-take, take-take}
use Rattle.gapped_array.specs.Cells.{piece}

pub length-piece : (from count : ℕ) (xs : List ℕ) → from + count ≤ length xs → length (piece from count xs) ≡ count
length-piece from count xs le =
    length-take-le count (drop from xs) (omega (arith, length-drop from xs))

-- a piece that lies in front of what is added
pub piece-append : (from count : ℕ) (xs ys : List ℕ) → from + count ≤ length xs → piece from count (xs ++ ys) ≡ piece from count xs
piece-append from count xs ys le =
    let short : from ≤ length xs = omega arith in
    let rest : count ≤ length (drop from xs) = omega (arith, length-drop from xs) in
    ap (take count) (drop-append-le from xs ys short) ∙ take-append-le count (drop from xs) ys rest

-- a list that is put in place of a piece
pub piece_at : (from count : ℕ) (xs ys zs : List ℕ) → length xs ≡ from → length ys ≡ count → piece from count (xs ++ (ys ++ zs)) ≡ ys
piece_at from count xs ys zs e f =
    ap (take count) (drop_at xs (ys ++ zs) from e) ∙ take_at ys zs count f

-- a shorter piece of it
pub piece_front : (from count : ℕ) (xs ys zs : List ℕ) → length xs ≡ from → count ≤ length ys → piece from count (xs ++ (ys ++ zs)) ≡ take count ys
piece_front from count xs ys zs e le =
    ap (take count) (drop_at xs (ys ++ zs) from e) ∙ take-append-le count ys zs le

-- a piece that ends before the place where lists begin to differ
pub piece_before : (from count n : ℕ) (xs ys : List ℕ) → from + count ≤ n → n ≤ length xs → take n xs ≡ take n ys → n ≤ length ys → piece from count ys ≡ piece from count xs
piece_before from count n xs ys le l same l' =
    let front : (zs : List ℕ) → n ≤ length zs → piece from count zs ≡ piece from count (take n zs) = λ zs q. ap (piece from count) (sym (take-append-drop n zs)) ∙ piece-append from count (take n zs) (drop n zs) (omega (arith, length-take-le n zs q)) in
    front ys l' ∙ ap (piece from count) (sym same) ∙ sym (front xs l)

-- and one that begins after the place where they agree again
pub piece_after : (from count n : ℕ) (xs ys : List ℕ) → n ≤ from → drop n xs ≡ drop n ys → piece from count ys ≡ piece from count xs
piece_after from count n xs ys le same =
    let back : (zs : List ℕ) → drop from zs ≡ drop (from - n) (drop n zs) = λ zs. ap (λ k. drop k zs) (let e : from ≡ n + (from - n) = omega arith in e) ∙ sym (drop-drop (from - n) n zs) in
    ap (take count) (back ys ∙ ap (drop (from - n)) (sym same) ∙ sym (back xs))

pub take-add : (n m : ℕ) (xs : List ℕ) → take (n + m) xs ≡ take n xs ++ take m (drop n xs)
take-add n m xs =
    sym (take-append-drop n (take (n + m) xs))
    ∙ ap₂ (λ a b. a ++ b) (take-take n (n + m) xs (omega arith)) (drop-take n m xs)

-- the whole of a slice that was written, put back into the list
pub put_back : (n : ℕ) (ws xs : List ℕ) → length ws ≡ length xs → n ≡ length xs → take n (ws ++ drop (length ws) xs) ≡ ws
put_back n ws xs e f =
    ap (λ l. take n (ws ++ l)) (drop_all (length ws) xs (omega arith)) ∙ take_at ws [] n (omega arith)

-- a word put before what is kept of a piece, after the last cell was turned to its front
first_written : (w : ℕ) (mid ys : List ℕ) (n : ℕ) → length mid ≡ n + 1 → ys ≡ drop n mid ++ take n mid → set ys 0 w ≡ w ∷ take n mid
first_written w mid ys n e f =
    let one : drop n mid ≡ get_or mid n 0 ∷ drop (n + 1) mid = drop_more mid n 0 (omega arith) in
    let none : drop (n + 1) mid ≡ [] = drop_all (n + 1) mid (omega arith) in
    ap (λ l. set l 0 w) (f ∙ ap (λ l. l ++ take n mid) (one ∙ ap (λ l. get_or mid n 0 ∷ l) none))

put_parts : (from at d w : ℕ) (xs : List ℕ) → take (from + at) xs ++ ((w ∷ take d (drop (from + at) xs)) ++ drop (d + 1) (drop (from + at) xs)) ≡ take from xs ++ (insert (piece from (at + d) xs) at w ++ drop (from + ((at + d) + 1)) xs)
put_parts from at d w xs =
    let l = drop from xs in
    let deep : drop (from + at) xs ≡ drop at l = sym (drop-drop at from xs) in
    let front : take at (piece from (at + d) xs) ≡ take at l = take-take at (at + d) l (omega arith) in
    let back : drop at (piece from (at + d) xs) ≡ take d (drop at l) = drop-take at d l in
    let behind : drop (d + 1) (drop at l) ≡ drop (from + ((at + d) + 1)) xs = drop-drop (d + 1) at l ∙ drop-drop (at + (d + 1)) from xs ∙ ap (λ n. drop n xs) (let e : from + (at + (d + 1)) ≡ from + ((at + d) + 1) = omega arith in e) in
    ap₂ (λ a b. a ++ ((w ∷ take d b) ++ drop (d + 1) b)) (take-add from at xs) deep
    ∙ append_assoc (take from xs) (take at l) ((w ∷ take d (drop at l)) ++ drop (d + 1) (drop at l))
    ∙ ap (λ m. take from xs ++ m) (
    sym (append_assoc (take at l) (w ∷ take d (drop at l)) (drop (d + 1) (drop at l)))
    ∙ ap₂ (λ a b. (a ++ w ∷ b) ++ drop (d + 1) (drop at l)) (sym front) (sym back)
    ∙ ap (λ b. insert (piece from (at + d) xs) at w ++ b) behind)

length_put : (a k : ℕ) (xs ys : List ℕ) → a + k ≤ length xs → length ys ≡ k → length (put_mid a k xs ys) ≡ length xs
length_put a k xs ys le e =
    length-append (take a xs) (ys ++ drop k (drop a xs))
    ∙ (omega (arith, length-take-le a xs (omega arith), length-append ys (drop k (drop a xs)), length-drop k (drop a xs), length-drop a xs))

-- what `put_word` leaves
pub word_put : (from count at w k n : ℕ) (xs turned : List ℕ) → at ≤ count → from + count < length xs → k ≡ count + 1 - at → n ≡ length xs → turned ≡ drop (length (mid_of (from + at) k xs) - 1) (mid_of (from + at) k xs) ++ take (length (mid_of (from + at) k xs) - 1) (mid_of (from + at) k xs) → take n (put_mid (from + at) k xs (set turned 0 w) ++ drop (length (put_mid (from + at) k xs (set turned 0 w))) xs) ≡ take from xs ++ (insert (piece from count xs) at w ++ drop (from + (count + 1)) xs)
word_put from count at w k n xs turned le lt is all turn =
    let d = count - at in
    let mid = mid_of (from + at) k xs in
    let long : length mid ≡ d + 1 = length-take-le k (drop (from + at) xs) (omega (arith, length-drop (from + at) xs)) ∙ omega arith in
    let last : length mid - 1 ≡ d = omega arith in
    let first : set turned 0 w ≡ w ∷ take d mid = first_written w mid turned d long (turn ∙ ap (λ m. drop m mid ++ take m mid) last) in
    let kept : take d mid ≡ take d (drop (from + at) xs) = take-take d k (drop (from + at) xs) (omega arith) in
    let new : length (set turned 0 w) ≡ k = ap length first ∙ (let s : length (take d mid) ≡ d = length-take-le d mid (omega arith) in omega arith) in
    put_back n (put_mid (from + at) k xs (set turned 0 w)) xs (length_put (from + at) k xs (set turned 0 w) (omega arith) new) all
    ∙ ap (λ m. take (from + at) xs ++ (m ++ drop k (drop (from + at) xs))) (first ∙ ap (λ m. w ∷ m) kept)
    ∙ ap (λ m. take (from + at) xs ++ ((w ∷ take d (drop (from + at) xs)) ++ drop m (drop (from + at) xs))) (let e : k ≡ d + 1 = omega arith in e)
    ∙ put_parts from at d w xs
    ∙ ap (λ m. take from xs ++ (insert (piece from m xs) at w ++ drop (from + (m + 1)) xs)) (let e : at + d ≡ count = omega arith in e)

-- the first cell of a part, turned after the others
turned_first : (d : ℕ) (l : List ℕ) → 0 < length l → drop 1 (take (d + 1) l) ++ take 1 (take (d + 1) l) ≡ take d (drop 1 l) ++ get_or l 0 0 ∷ []
turned_first d [] h = absurd (omega arith)
turned_first d (x ∷ l) h =
    rw add-one refl

take_parts : (from at d : ℕ) (xs : List ℕ) → from + at < length xs → take (from + at) xs ++ ((drop 1 (take (d + 1) (drop (from + at) xs)) ++ take 1 (take (d + 1) (drop (from + at) xs))) ++ drop (d + 1) (drop (from + at) xs)) ≡ take from xs ++ ((remove (piece from (at + (d + 1)) xs) at ++ get_or (piece from (at + (d + 1)) xs) at 0 ∷ []) ++ drop (from + (at + (d + 1))) xs)
take_parts from at d xs lt =
    let l = drop from xs in
    let deep : drop (from + at) xs ≡ drop at l = sym (drop-drop at from xs) in
    let some : 0 < length (drop (from + at) xs) = omega (arith, length-drop (from + at) xs) in
    let front : take at (piece from (at + (d + 1)) xs) ≡ take at l = take-take at (at + (d + 1)) l (omega arith) in
    let long : at + (d + 1) ≡ suc at + d = omega arith in
    let back : drop (suc at) (piece from (at + (d + 1)) xs) ≡ take d (drop (suc at) l) = ap (λ m. drop (suc at) (take m l)) long ∙ drop-take (suc at) d l in
    let next : drop 1 (drop (from + at) xs) ≡ drop (suc at) l = ap (drop 1) deep ∙ drop-drop 1 at l ∙ ap (λ m. drop m l) (add-one at) in
    let word : get_or (drop (from + at) xs) 0 0 ≡ get_or (piece from (at + (d + 1)) xs) at 0 = ap (λ m. get_or m 0 0) deep ∙ get_or-drop at l 0 0 ∙ ap (λ m. get_or l m 0) (let e : at + 0 ≡ at = omega arith in e) ∙ sym (get_or-take (at + (d + 1)) l at 0 (omega arith)) in
    let behind : drop (d + 1) (drop (from + at) xs) ≡ drop (from + (at + (d + 1))) xs = drop-drop (d + 1) (from + at) xs ∙ ap (λ m. drop m xs) (let e : (from + at) + (d + 1) ≡ from + (at + (d + 1)) = omega arith in e) in
    ap₂ (λ a b. a ++ (b ++ drop (d + 1) (drop (from + at) xs))) (take-add from at xs) (turned_first d (drop (from + at) xs) some)
    ∙ append_assoc (take from xs) (take at l) ((take d (drop 1 (drop (from + at) xs)) ++ get_or (drop (from + at) xs) 0 0 ∷ []) ++ drop (d + 1) (drop (from + at) xs))
    ∙ ap (λ m. take from xs ++ m) (
    sym (append_assoc (take at l) (take d (drop 1 (drop (from + at) xs)) ++ get_or (drop (from + at) xs) 0 0 ∷ []) (drop (d + 1) (drop (from + at) xs)))
    ∙ ap₂ (λ a b. a ++ b) (
    sym (append_assoc (take at l) (take d (drop 1 (drop (from + at) xs))) (get_or (drop (from + at) xs) 0 0 ∷ []))
    ∙ ap₂ (λ a b. (a ++ b) ++ get_or (drop (from + at) xs) 0 0 ∷ []) (sym front) (ap (take d) next ∙ sym back)
    ∙ ap (λ w. remove (piece from (at + (d + 1)) xs) at ++ w ∷ []) word) behind)

-- what `take_word` leaves
pub word_taken : (from count at k n : ℕ) (xs turned : List ℕ) → at < count → from + count ≤ length xs → k ≡ count - at → n ≡ length xs → turned ≡ drop 1 (mid_of (from + at) k xs) ++ take 1 (mid_of (from + at) k xs) → take n (put_mid (from + at) k xs turned ++ drop (length (put_mid (from + at) k xs turned)) xs) ≡ take from xs ++ ((remove (piece from count xs) at ++ get_or (piece from count xs) at 0 ∷ []) ++ drop (from + count) xs)
word_taken from count at k n xs turned lt le is all turn =
    let d = count - at - 1 in
    let step : k ≡ d + 1 = omega arith in
    let whole : at + (d + 1) ≡ count = omega arith in
    let mid = mid_of (from + at) k xs in
    let long : length mid ≡ k = length-take-le k (drop (from + at) xs) (omega (arith, length-drop (from + at) xs)) in
    let new : length turned ≡ k = ap length turn ∙ length-append (drop 1 mid) (take 1 mid) ∙ omega (arith, length-drop 1 mid, length-take 1 mid) in
    put_back n (put_mid (from + at) k xs turned) xs (length_put (from + at) k xs turned (omega arith) new) all
    ∙ ap (λ m. take (from + at) xs ++ (m ++ drop k (drop (from + at) xs))) turn
    ∙ ap (λ m. take (from + at) xs ++ ((drop 1 (take m (drop (from + at) xs)) ++ take 1 (take m (drop (from + at) xs))) ++ drop m (drop (from + at) xs))) step
    ∙ take_parts from at d xs (omega arith)
    ∙ ap (λ m. take from xs ++ ((remove (piece from m xs) at ++ get_or (piece from m xs) at 0 ∷ []) ++ drop (from + m) xs)) whole

-- the same where the slice that was written is known to be the list
pub word_put_slice : (from count at w k n : ℕ) (xs zs turned : List ℕ) → xs ≡ zs → at ≤ count → from + count < length zs → k ≡ count + 1 - at → n ≡ length zs → turned ≡ drop (length (mid_of (from + at) k xs) - 1) (mid_of (from + at) k xs) ++ take (length (mid_of (from + at) k xs) - 1) (mid_of (from + at) k xs) → take n (put_mid (from + at) k xs (set turned 0 w) ++ drop (length (put_mid (from + at) k xs (set turned 0 w))) zs) ≡ take from zs ++ (insert (piece from count zs) at w ++ drop (from + (count + 1)) zs)
word_put_slice from count at w k n xs zs turned e le lt is all turn =
    let P : List ℕ → Type 0 = λ l. take n (put_mid (from + at) k xs (set turned 0 w) ++ drop (length (put_mid (from + at) k xs (set turned 0 w))) l) ≡ take from l ++ (insert (piece from count l) at w ++ drop (from + (count + 1)) l) in
    let same : length xs ≡ length zs = ap length e in
    subst P e (word_put from count at w k n xs turned le (omega arith) is (omega arith) turn)

pub word_taken_slice : (from count at k n : ℕ) (xs zs turned : List ℕ) → xs ≡ zs → at < count → from + count ≤ length zs → k ≡ count - at → n ≡ length zs → turned ≡ drop 1 (mid_of (from + at) k xs) ++ take 1 (mid_of (from + at) k xs) → take n (put_mid (from + at) k xs turned ++ drop (length (put_mid (from + at) k xs turned)) zs) ≡ take from zs ++ ((remove (piece from count zs) at ++ get_or (piece from count zs) at 0 ∷ []) ++ drop (from + count) zs)
word_taken_slice from count at k n xs zs turned e lt le is all turn =
    let P : List ℕ → Type 0 = λ l. take n (put_mid (from + at) k xs turned ++ drop (length (put_mid (from + at) k xs turned)) l) ≡ take from l ++ ((remove (piece from count l) at ++ get_or (piece from count l) at 0 ∷ []) ++ drop (from + count) l) in
    let same : length xs ≡ length zs = ap length e in
    subst P e (word_taken from count at k n xs turned lt (omega arith) is (omega arith) turn)

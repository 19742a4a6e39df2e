-- What becomes of the parts of a list when a word is sought, put in or taken out.
use Rattle.std.proofs.Common.{◌≡◌, ℕ, zero, suc, ◌<◌, ◌≤◌, Bool, true, false, not, ◌||◌, eqb, ltb, List, [], ◌∷◌, ◌++◌, length, get_or, filter, refl, sym, ap, ap₂, ◌∙◌, arith, lt-ltb, le-ltb, append_assoc}
use Rattle.std.specs.List.{list_any}
use Rattle.std.proofs.lemmas.Bool.{ne_eqb, eq-eqb}
use Rattle.std.proofs.lemmas.List.{append-nil}
use Rattle.std.proofs.lemmas.List.Elements.{filter-append}
use Rattle.std.proofs.lemmas.List.Folds.{list_any-append}
use Rattle.word_sets.specs.Words.{has_word, with_word, without_word, IsWithin}
use Rattle.word_sets.specs.Laws.{OnePartDecides}
use Rattle.word_sets.proofs.Within.{IsWithin-length}

kept_first : (p : ℕ → Bool) (x : ℕ) (xs : List ℕ) → p x ≡ true → filter p xs ≡ xs → filter p (x ∷ xs) ≡ x ∷ xs
kept_first p x xs e rest = rw e (ap (λ l. x ∷ l) rest)

lost_first : (p : ℕ → Bool) (x : ℕ) (xs ys : List ℕ) → p x ≡ false → filter p xs ≡ ys → filter p (x ∷ xs) ≡ ys
lost_first p x xs ys e rest = rw e rest

-- a filter that keeps all, or none
pub filter_all : (p : ℕ → Bool) (xs : List ℕ) → ((k : ℕ) → k < length xs → p (get_or xs k 0) ≡ true) → filter p xs ≡ xs
filter_all p [] h = refl
filter_all p (x ∷ xs) h =
    kept_first p x xs (h 0 (omega arith)) (filter_all p xs (λ k l. h (suc k) (omega arith)))

pub filter_no : (p : ℕ → Bool) (xs : List ℕ) → ((k : ℕ) → k < length xs → p (get_or xs k 0) ≡ false) → filter p xs ≡ []
filter_no p [] h = refl
filter_no p (x ∷ xs) h =
    lost_first p x xs [] (h 0 (omega arith)) (filter_no p xs (λ k l. h (suc k) (omega arith)))

any_no : (p : ℕ → Bool) (xs : List ℕ) → ((k : ℕ) → k < length xs → p (get_or xs k 0) ≡ false) → list_any p xs ≡ false
any_no p [] h = refl
any_no p (x ∷ xs) h =
    ap₂ (λ a b. a || b) (h 0 (omega arith)) (any_no p xs (λ k l. h (suc k) (omega arith)))

-- each word of the list is below w
abbrev pub AllBelow : ℕ → List ℕ → Type 0
AllBelow w xs = (k : ℕ) → k < length xs → get_or xs k 0 < w

-- each word of the list is above w
abbrev pub AllAbove : ℕ → List ℕ → Type 0
AllAbove w xs = (k : ℕ) → k < length xs → w < get_or xs k 0

below_below : (w : ℕ) (xs : List ℕ) → AllBelow w xs → filter (λ x. ltb x w) xs ≡ xs
below_below w xs h = filter_all (λ x. ltb x w) xs (λ k l. lt-ltb (get_or xs k 0) w (h k l))

below_above : (w : ℕ) (xs : List ℕ) → AllBelow w xs → filter (λ x. ltb w x) xs ≡ []
below_above w xs h = filter_no (λ x. ltb w x) xs (λ k l. le-ltb w (get_or xs k 0) (omega (arith, h k l)))

above_above : (w : ℕ) (xs : List ℕ) → AllAbove w xs → filter (λ x. ltb w x) xs ≡ xs
above_above w xs h = filter_all (λ x. ltb w x) xs (λ k l. lt-ltb w (get_or xs k 0) (h k l))

above_below : (w : ℕ) (xs : List ℕ) → AllAbove w xs → filter (λ x. ltb x w) xs ≡ []
above_below w xs h = filter_no (λ x. ltb x w) xs (λ k l. le-ltb (get_or xs k 0) w (omega (arith, h k l)))

below_other : (w : ℕ) (xs : List ℕ) → AllBelow w xs → (k : ℕ) → k < length xs → eqb (get_or xs k 0) w ≡ false
below_other w xs h k l = ne_eqb (get_or xs k 0) w (λ e. omega (arith, h k l, e))

above_other : (w : ℕ) (xs : List ℕ) → AllAbove w xs → (k : ℕ) → k < length xs → eqb (get_or xs k 0) w ≡ false
above_other w xs h k l = ne_eqb (get_or xs k 0) w (λ e. omega (arith, h k l, e))

others_stay : (w : ℕ) (xs : List ℕ) → ((k : ℕ) → k < length xs → eqb (get_or xs k 0) w ≡ false) → without_word w xs ≡ xs
others_stay w xs h = filter_all (λ x. not (eqb x w)) xs (λ k l. ap not (h k l))

others_lack : (w : ℕ) (xs : List ℕ) → ((k : ℕ) → k < length xs → eqb (get_or xs k 0) w ≡ false) → has_word w xs ≡ false
others_lack w xs h = any_no (λ x. eqb x w) xs h

with_parts : (w : ℕ) (xs mid ys : List ℕ) → AllBelow w xs → AllAbove w ys → with_word w (xs ++ (mid ++ ys)) ≡ xs ++ (with_word w mid ++ ys)
with_parts w xs mid ys low high =
    let less = λ (x : ℕ). ltb x w in
    let more = λ (x : ℕ). ltb w x in
    let front : filter less (xs ++ (mid ++ ys)) ≡ xs ++ filter less mid = filter-append less xs (mid ++ ys) ∙ ap₂ (λ a b. a ++ b) (below_below w xs low) (filter-append less mid ys ∙ ap (λ l. filter less mid ++ l) (above_below w ys high) ∙ append-nil (filter less mid)) in
    let back : filter more (xs ++ (mid ++ ys)) ≡ filter more mid ++ ys = filter-append more xs (mid ++ ys) ∙ ap₂ (λ a b. a ++ b) (below_above w xs low) (filter-append more mid ys ∙ ap (λ l. filter more mid ++ l) (above_above w ys high)) in
    ap₂ (λ a b. a ++ w ∷ b) front back
    ∙ append_assoc xs (filter less mid) (w ∷ (filter more mid ++ ys))
    ∙ ap (λ l. xs ++ l) (sym (append_assoc (filter less mid) (w ∷ filter more mid) ys))

without_parts : (w : ℕ) (xs mid ys : List ℕ) → AllBelow w xs → AllAbove w ys → without_word w (xs ++ (mid ++ ys)) ≡ xs ++ (without_word w mid ++ ys)
without_parts w xs mid ys low high =
    let other = λ (x : ℕ). not (eqb x w) in
    filter-append other xs (mid ++ ys)
    ∙ ap₂ (λ a b. a ++ b) (others_stay w xs (below_other w xs low)) (filter-append other mid ys ∙ ap (λ l. filter other mid ++ l) (others_stay w ys (above_other w ys high)))

or_false : (b : Bool) → (b || false) ≡ b
or_false true = refl
or_false false = refl

has_parts : (w : ℕ) (xs mid ys : List ℕ) → AllBelow w xs → AllAbove w ys → has_word w (xs ++ (mid ++ ys)) ≡ has_word w mid
has_parts w xs mid ys low high =
    let is = λ (x : ℕ). eqb x w in
    list_any-append is xs (mid ++ ys)
    ∙ ap₂ (λ a b. a || b) (others_lack w xs (below_other w xs low)) (list_any-append is mid ys ∙ ap (λ b. has_word w mid || b) (others_lack w ys (above_other w ys high)) ∙ or_false (has_word w mid))

-- a word at its place
pub with_at : (w : ℕ) (xs ys : List ℕ) → AllBelow w xs → AllAbove w ys → with_word w (xs ++ ys) ≡ xs ++ w ∷ ys
with_at w xs ys low high = with_parts w xs [] ys low high

pub lacks_at : (w : ℕ) (xs ys : List ℕ) → AllBelow w xs → AllAbove w ys → has_word w (xs ++ ys) ≡ false
lacks_at w xs ys low high = has_parts w xs [] ys low high

eqb_same : (w : ℕ) → eqb w w ≡ true
eqb_same w = eq-eqb w w refl

pub without_at : (w : ℕ) (xs ys : List ℕ) → AllBelow w xs → AllAbove w ys → without_word w (xs ++ w ∷ ys) ≡ xs ++ ys
without_at w xs ys low high =
    without_parts w xs (w ∷ []) ys low high
    ∙ ap (λ l. xs ++ (l ++ ys)) (lost_first (λ x. not (eqb x w)) w [] [] (ap not (eqb_same w)) refl)

pub has_at : (w : ℕ) (xs ys : List ℕ) → AllBelow w xs → AllAbove w ys → has_word w (xs ++ w ∷ ys) ≡ true
has_at w xs ys low high =
    has_parts w xs (w ∷ []) ys low high ∙ ap (λ b. b || false) (eqb_same w)

-- the same by the bounds of the parts
pub part_below : (low a w : ℕ) (xs : List ℕ) → a ≤ w → IsWithin low a xs → AllBelow w xs
part_below low a w [] le h k l = absurd (omega arith)
part_below low a w (x ∷ xs) le h zero l = omega (arith, IsWithin-length (suc x) a xs h.1)
part_below low a w (x ∷ xs) le h (suc k) l = part_below (suc x) a w xs le h.1 k (omega arith)

pub part_above : (b high w : ℕ) (xs : List ℕ) → w < b → IsWithin b high xs → AllAbove w xs
part_above b high w [] lt h k l = absurd (omega arith)
part_above b high w (x ∷ xs) lt h zero l = omega (arith, h.0)
part_above b high w (x ∷ xs) lt h (suc k) l =
    part_above (suc x) high w xs (omega (arith, h.0)) h.1 k (omega arith)

pub with_middle : (low a w b high : ℕ) (xs mid ys : List ℕ) → a ≤ w → w < b → IsWithin low a xs → IsWithin b high ys → with_word w (xs ++ (mid ++ ys)) ≡ xs ++ (with_word w mid ++ ys)
with_middle low a w b high xs mid ys p q h k =
    with_parts w xs mid ys (part_below low a w xs p h) (part_above b high w ys q k)

pub without_middle : (low a w b high : ℕ) (xs mid ys : List ℕ) → a ≤ w → w < b → IsWithin low a xs → IsWithin b high ys → without_word w (xs ++ (mid ++ ys)) ≡ xs ++ (without_word w mid ++ ys)
without_middle low a w b high xs mid ys p q h k =
    without_parts w xs mid ys (part_below low a w xs p h) (part_above b high w ys q k)

pub has_middle : (low a w b high : ℕ) (xs mid ys : List ℕ) → a ≤ w → w < b → IsWithin low a xs → IsWithin b high ys → has_word w (xs ++ (mid ++ ys)) ≡ has_word w mid
has_middle low a w b high xs mid ys p q h k =
    has_parts w xs mid ys (part_below low a w xs p h) (part_above b high w ys q k)

pub one_part : OnePartDecides
one_part low a w b high xs mid ys p q h k = (
  with_middle low a w b high xs mid ys p q h k,
  without_middle low a w b high xs mid ys p q h k,
  has_middle low a w b high xs mid ys p q h k,
)

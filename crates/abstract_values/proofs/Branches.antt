-- Two numbers that are described before a branch are described on the side that they take.
use Rattle.std.proofs.Common.{◌≡◌, ◌≢◌, ℕ, ◌+◌, ◌-◌, ◌^◌, ◌<◌, ◌≤◌, Bool, true, false, eqb, cond, Option, Some, None, Result, Ok, refl, sym, subst, ◌∙◌, arith, inl, inr}
use Rattle.std.specs.Prelude.{ℤ, pos, int_lt, int_le, ◌&&◌}
use Rattle.std.specs.Int.{w32, w64}
use Rattle.std.proofs.Math.Dec.{ltb}
use Rattle.std.proofs.Math.Nat.{mod-le}
use Rattle.std.proofs.lemmas.Int.{ints, to_z_pos}
use Rattle.std.proofs.lemmas.Bool.{cases_Bool, and_parts, and_from, eqb-true, ltb-true, leb-true, ltb-false, leb-false, le-leb, lt-ltb, eq-eqb}
use Rattle.bpf_isa.specs.declared.instruction.Width.{Width}
use Rattle.bpf_isa.specs.declared.instruction.Width.TheVariants.{Bits32, Bits64}
use Rattle.bpf_isa.specs.declared.instruction.Comparison.{Comparison}
use Rattle.bpf_isa.specs.declared.instruction.Comparison.TheVariants.{Equal, Greater, GreaterOrEqual, SharesBit, NotEqual, GreaterSigned, GreaterOrEqualSigned, Less, LessOrEqual, LessSigned, LessOrEqualSigned}
use Rattle.bpf_image.specs.declared.lengths.Lengths.{Lengths}
use Rattle.bpf_model.specs.Arithmetic.{width_bits, modulus, low, signed, comparison_holds, holds}
use Rattle.bpf_model.specs.declared.cause.Cause.{Cause}
use Rattle.abstract_values.specs.declared.branch.Sides.{Sides}
use Rattle.abstract_values.specs.declared.range.Range.{Range}
use Rattle.abstract_values.specs.declared.value.AbstractValue.{AbstractValue}
use Rattle.abstract_values.specs.declared.value.AbstractValue.TheVariants.{Unset, Number, Record, Stack, Table}
use Rattle.abstract_values.specs.Ranges.{range}
use Rattle.abstract_values.specs.Narrowing.{opposite, without, without_constant, above, not_below, exchange_of, refinement, order_limit, is_telling, is_inhabited, if_inhabited, side, numbers, both_sides, narrowing}
use Rattle.abstract_values.specs.Described.{Describes, DescribesSide, side_of}
use Rattle.abstract_values.proofs.Below.{either, low_same}
use Rattle.abstract_values.proofs.Within.{Within, constant_is}
use Rattle.abstract_values.proofs.Sound.{number_within, number_described}

abbrev decided : Sides → Result Sides Cause
decided s = Ok s

-- two numbers that a side of a branch says to be in two ranges
abbrev Pair : Option (Range × Range) → ℕ → ℕ → Type 0
Pair None x y = ⊥
Pair (Some p) x y = Within p.0 x × Within p.1 y

inhabited_by : (r : Range) (n : ℕ) → Within r n → is_inhabited r ≡ true
inhabited_by r n h = le-leb r.lo r.hi (omega (arith, h.0, h.1))

pair_inhabited : (p : Range × Range) (x y : ℕ) → Within p.0 x → Within p.1 y → Pair (if_inhabited p) x y
pair_inhabited p x y h k =
    let test : (is_inhabited p.0 && is_inhabited p.1) ≡ true = and_from _ _ (inhabited_by p.0 x h) (inhabited_by p.1 y k) in
    rw test (h, k)

-- a number that is not the one at the end of its range
without_within : (r : Range) (n c : ℕ) → Within r n → n ≢ c → Within (without r c) n
without_within r n c h other =
    either (λ s. Within s n) (eqb r.lo c) (range (r.lo + 1) r.hi) (cond (eqb r.hi c) (range r.lo (r.hi - 1)) r) (λ is. let differs : n ≢ r.lo = (λ e. other (e ∙ eqb-true r.lo c is)) in (omega (arith, h.0, differs), h.1)) (λ not_lo. either (λ s. Within s n) (eqb r.hi c) (range r.lo (r.hi - 1)) r (λ is. let differs : n ≢ r.hi = (λ e. other (e ∙ eqb-true r.hi c is)) in (h.0, omega (arith, h.1, differs))) (λ not_hi. h))

differing_within : (r s : Range) (n m : ℕ) → Within r n → Within s m → n ≢ m → Within (without_constant r s) n
differing_within r s n m h k other =
    either (λ t. Within t n) (eqb s.lo s.hi) (without r s.lo) r (λ is. let same = constant_is s m k is in without_within r n s.lo h (λ e. other (e ∙ same))) (λ not_is. h)

-- below its sign's half, a number is what it is with a sign
signed_small : (w : Width) (x : ℕ) → x < 2 ^ (width_bits w - 1) → signed w x ≡ pos x
signed_small Bits32 x lt =
    let same : low Bits32 x ≡ x = low_same Bits32 x (omega (arith, lt)) in
    rw same (to_z_pos w32 x lt)
signed_small Bits64 x lt =
    let same : low Bits64 x ≡ x = low_same Bits64 x (omega (arith, lt)) in
    rw same (to_z_pos w64 x lt)

less_signed : (w : Width) (x y : ℕ) → x < 2 ^ (width_bits w - 1) → y < 2 ^ (width_bits w - 1) → int_lt (signed w x) (signed w y) ≡ true → x < y
less_signed w x y p q h =
    let test : int_lt (pos x) (pos y) ≡ true = (rw (signed_small w x p, signed_small w y q) at h) in
    grind (arith, ints)

not_above_signed : (w : Width) (x y : ℕ) → x < 2 ^ (width_bits w - 1) → y < 2 ^ (width_bits w - 1) → int_le (signed w x) (signed w y) ≡ true → x ≤ y
not_above_signed w x y p q h =
    let test : int_le (pos x) (pos y) ≡ true = (rw (signed_small w x p, signed_small w y q) at h) in
    grind (arith, ints)

-- both numbers of a refined pair
abbrev Both : Range × Range → ℕ → ℕ → Type 0
Both p x y = Within p.0 x × Within p.1 y

above_within : (a b : Range) (x y : ℕ) → Within a x → Within b y → y < x → Both (above a b) x y
above_within a b x y p q h =
    ((omega (arith, p.0, q.0, h), p.1), (q.0, omega (arith, p.1, q.1, h)))

not_below_within : (a b : Range) (x y : ℕ) → Within a x → Within b y → y ≤ x → Both (not_below a b) x y
not_below_within a b x y p q h =
    ((omega (arith, p.0, q.0, h), p.1), (q.0, omega (arith, p.1, q.1, h)))

exchange : (p : Range × Range) (x y : ℕ) → Both p y x → Both (exchange_of p) x y
exchange p x y h = (h.1, h.0)

-- a comparison is one clause here
refined_within : (w : Width) (c : Comparison) (a b : Range) (x y : ℕ) → Within a x → Within b y → x < order_limit w c → y < order_limit w c → comparison_holds w c x y ≡ true → Both (refinement c a b) x y
refined_within w Equal a b x y p q r s h =
    let same : x ≡ y = eqb-true x y h in
    ((omega (arith, p.0, q.0, same), omega (arith, p.1, q.1, same)), (omega (arith, p.0, q.0, same), omega (arith, p.1, q.1, same)))
refined_within w NotEqual a b x y p q r s h =
    let other : x ≢ y = (λ e. let t : eqb x y ≡ true = eq-eqb x y e in let f : false ≡ true = (rw t at h) in cc) in
    (differing_within a b x y p q other, differing_within b a y x q p (λ e. other (sym e)))
refined_within w Greater a b x y p q r s h = above_within a b x y p q (ltb-true y x h)
refined_within w GreaterSigned a b x y p q r s h = above_within a b x y p q (less_signed w y x s r h)
refined_within w GreaterOrEqual a b x y p q r s h = not_below_within a b x y p q (leb-true y x h)
refined_within w GreaterOrEqualSigned a b x y p q r s h = not_below_within a b x y p q (not_above_signed w y x s r h)
refined_within w Less a b x y p q r s h = exchange (above b a) x y (above_within b a y x q p (ltb-true x y h))
refined_within w LessSigned a b x y p q r s h =
    exchange (above b a) x y (above_within b a y x q p (less_signed w x y r s h))
refined_within w LessOrEqual a b x y p q r s h =
    exchange (not_below b a) x y (not_below_within b a y x q p (leb-true x y h))
refined_within w LessOrEqualSigned a b x y p q r s h =
    exchange (not_below b a) x y (not_below_within b a y x q p (not_above_signed w x y r s h))
refined_within w SharesBit a b x y p q r s h = absurd (omega (arith, r))

limit_fits : (w : Width) (c : Comparison) → order_limit w c ≤ modulus w
limit_fits Bits32 GreaterSigned = omega arith
limit_fits Bits32 GreaterOrEqualSigned = omega arith
limit_fits Bits32 LessSigned = omega arith
limit_fits Bits32 LessOrEqualSigned = omega arith
limit_fits Bits64 GreaterSigned = omega arith
limit_fits Bits64 GreaterOrEqualSigned = omega arith
limit_fits Bits64 LessSigned = omega arith
limit_fits Bits64 LessOrEqualSigned = omega arith
limit_fits w SharesBit = omega arith
limit_fits w comparison = omega arith

not_less : (a b : ℤ) → int_lt a b ≡ false → int_le b a ≡ true
not_less a b h = grind (arith, ints)

not_at_most : (a b : ℤ) → int_le a b ≡ false → int_lt b a ≡ true
not_at_most a b h = grind (arith, ints)

-- where a comparison fails, its opposite holds
opposite_holds : (w : Width) (c : Comparison) (x y : ℕ) → x < order_limit w (opposite c) → comparison_holds w c x y ≡ false → comparison_holds w (opposite c) x y ≡ true
opposite_holds w Equal x y r h = rw h refl
opposite_holds w NotEqual x y r h =
    elim (cases_Bool (eqb x y)) [
      | inl is ↦ is
      | inr not_is ↦ absurd (let f : true ≡ false = (rw not_is at h) in cc)
    ]
opposite_holds w Greater x y r h = le-leb x y (ltb-false y x h)
opposite_holds w GreaterOrEqual x y r h = lt-ltb x y (leb-false y x h)
opposite_holds w Less x y r h = le-leb y x (ltb-false x y h)
opposite_holds w LessOrEqual x y r h = lt-ltb y x (leb-false x y h)
opposite_holds w GreaterSigned x y r h = not_less (signed w y) (signed w x) h
opposite_holds w GreaterOrEqualSigned x y r h = not_at_most (signed w y) (signed w x) h
opposite_holds w LessSigned x y r h = not_less (signed w x) (signed w y) h
opposite_holds w LessOrEqualSigned x y r h = not_at_most (signed w x) (signed w y) h
opposite_holds w SharesBit x y r h = absurd (omega (arith, r))

-- the side where a comparison holds
side_sound : (w : Width) (c : Comparison) (a b : Range) (x y : ℕ) → Within a x → Within b y → (x < order_limit w c → comparison_holds w c (low w x) (low w y) ≡ true) → Pair (side w c a b) x y
side_sound w c a b x y p q h =
    elim (cases_Bool (is_telling w c a b)) [
      | inl is ↦
          let both = and_parts (ltb a.hi (order_limit w c)) (ltb b.hi (order_limit w c)) is in
          let first : x < order_limit w c = omega (arith, p.1, ltb-true a.hi (order_limit w c) both.0) in
          let second : y < order_limit w c = omega (arith, q.1, ltb-true b.hi (order_limit w c) both.1) in
          let x-same = low_same w x (omega (arith, first, limit_fits w c)) in
          let y-same = low_same w y (omega (arith, second, limit_fits w c)) in
          let test = h first in
          let compares : comparison_holds w c x y ≡ true = (rw (x-same, y-same) at test) in
          let refines = refined_within w c a b x y p q first second compares in
          rw is (pair_inhabited (refinement c a b) x y refines.0 refines.1)
      | inr not_is ↦ rw not_is (p, q)
    ]

numbers_described : (l : Lengths) (live : ℕ) (o : Option (Range × Range)) (x y : ℕ) → x < 2 ^ 64 → y < 2 ^ 64 → Pair o x y → DescribesSide l live (numbers o) x y
numbers_described l live None x y p q h = h
numbers_described l live (Some r) x y p q h = (number_described l live r.0 x h.0 p, number_described l live r.1 y h.1 q)

low_in : (w : Width) (m x : ℕ) → x < m → low w x < m
low_in w m x lt = omega (arith, mod-le x (modulus w), lt)

sides_sound : (w : Width) (c : Comparison) (l : Lengths) (live : ℕ) (a b : Range) (x y : ℕ) → Within a x → Within b y → x < 2 ^ 64 → y < 2 ^ 64 → (t : Bool) → holds w c x y ≡ t → DescribesSide l live (side_of (both_sides w c a b) t) x y
sides_sound w c l live a b x y p q r s true h =
    numbers_described l live (side w c a b) x y r s (side_sound w c a b x y p q (λ lt. h))
sides_sound w c l live a b x y p q r s false h =
    numbers_described l live (side w (opposite c) a b) x y r s (side_sound w (opposite c) a b x y p q (λ lt. opposite_holds w c (low w x) (low w y) (low_in w (order_limit w (opposite c)) x lt) h))

pub narrow_describes : (w : Width) (c : Comparison) (l : Lengths) (live : ℕ) (a b : AbstractValue) (sides : Sides) (x y : ℕ) → narrowing w c a b ≡ decided sides → Describes l live a (Some x) → Describes l live b (Some y) → DescribesSide l live (side_of sides (holds w c x y)) x y
narrow_describes w c l live (Number lo hi) (Number lo' hi') sides x y h p q =
    let first = number_within l live lo hi x p in
    let second = number_within l live lo' hi' y q in
    let same : both_sides w c (range lo hi) (range lo' hi') ≡ sides = (let e : decided (both_sides w c (range lo hi) (range lo' hi')) ≡ decided sides = h in cc) in
    subst (λ t. DescribesSide l live (side_of t (holds w c x y)) x y) same (sides_sound w c l live (range lo hi) (range lo' hi') x y first.0 second.0 first.1 second.1 (holds w c x y) refl)
narrow_describes w c l live (Record lo hi) Unset sides x y h p q = absurd cc
narrow_describes w c l live (Stack frame offset) Unset sides x y h p q = absurd cc
narrow_describes w c l live (Table lo hi) Unset sides x y h p q = absurd cc
narrow_describes w c l live _ _ sides x y h p q = absurd cc

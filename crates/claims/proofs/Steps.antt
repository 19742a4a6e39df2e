-- That each step keeps the rule of the counter.
use Rattle.std.proofs.Common.{◌≡◌, ℕ, ◌+◌, ◌-◌, ◌*◌, ◌%◌, ◌^◌, ◌<◌, ◌≤◌, List, [], ◌∷◌, ◌++◌, length, slice_index, slice_set, length-append, refl, sym, ap, ◌∙◌, subst, arith, ⊎_elim}
use Rattle.std.specs.List.{sum_by}
use Rattle.std.proofs.Math.Nat.{mod-eq_of_lt}
use Rattle.std.proofs.lemmas.List.{nil_from_length}
use mathlib.Core.Option.{some}
use lib.ListN.{get_elem?}
use Rattle.atomic_table.proofs.Lists.{at_set, at_snoc, set_again, set_else}
use Rattle.claims.specs.declared.hand.Hand.{Hand}
use Rattle.claims.specs.declared.limits.TheConstants.{PARTS, CLAIMS_OF_A_PART}
use Rattle.claims.specs.Claims.{times, once_below, AreAllBelow}
use Rattle.atomic_table.specs.Table.{Me, Allows, keeps}
use Rattle.claims.specs.Rule.{hand, AreClaimed, Claims, Counts}
use Rattle.claims.proofs.Sums.{sum_more, sum_set, sum_least, sum_bounded, sum_alone, times_both, once_more}

-- the counter is below what it would come round at
pub below : (words : List ℕ) (hands : List Hand) → AreClaimed words hands → slice_index words 0 ≤ 68719476736
below words hands rule =
    let bound = sum_bounded (λ (h : Hand). length h.claimed) (λ (h : Hand). h.parts) hands rule.few in
    let all : sum_by (λ (h : Hand). h.parts) hands ≡ 16 = rule.parts in
    omega (arith, rule.many)

-- no claimant has more claims than its parts allow
abbrev Few : List Hand → Type 0
Few hands = (seat : ℕ) (h : Hand) → get_elem? hands seat ≡ some h → length h.claimed ≤ h.parts * CLAIMS_OF_A_PART

few_set : (hands : List Hand) (id : ℕ) (w : Hand) → Few hands → length w.claimed ≤ w.parts * CLAIMS_OF_A_PART → Few (slice_set hands id w)
few_set hands id w few fits seat h at =
    ⊎_elim (λ this. subst (λ x. length x.claimed ≤ x.parts * CLAIMS_OF_A_PART) this.1 fits) (λ other. few seat h other.1) (at_set hands id seat w h at)

few_more : (hands : List Hand) (w : Hand) → Few hands → length w.claimed ≤ w.parts * CLAIMS_OF_A_PART → Few (hands ++ w ∷ [])
few_more hands w few fits seat h at =
    ⊎_elim (λ before. few seat h before) (λ this. subst (λ x. length x.claimed ≤ x.parts * CLAIMS_OF_A_PART) this fits) (at_snoc hands w h seat at)

-- the next number is claimed
claimed_at : (n : ℕ) (hands : List Hand) (id : ℕ) (h : Hand) → AreClaimed (n ∷ []) hands → get_elem? hands id ≡ some h → length h.claimed < h.parts * CLAIMS_OF_A_PART
    → AreClaimed ((n + 1) ∷ []) (slice_set hands id (hand h.parts (h.claimed ++ n ∷ [])))
claimed_at n hands id h rule at room =
    let w : Hand = hand h.parts (h.claimed ++ n ∷ []) in
    let longer : length (h.claimed ++ n ∷ []) ≡ length h.claimed + 1 = length-append h.claimed (n ∷ []) in
    let parts : sum_by (λ (x : Hand). x.parts) (slice_set hands id w) + h.parts ≡ sum_by (λ (x : Hand). x.parts) hands + h.parts = sum_set (λ (x : Hand). x.parts) hands id h w at in
    let many : sum_by (λ (x : Hand). length x.claimed) (slice_set hands id w) + length h.claimed ≡ sum_by (λ (x : Hand). length x.claimed) hands + length (h.claimed ++ n ∷ []) =
    sum_set (λ (x : Hand). length x.claimed) hands id h w at in
    record {
      one = refl;
      parts = omega (arith, rule.parts);
      each = λ x.
          let each : sum_by (λ (y : Hand). times x y.claimed) (slice_set hands id w) + times x h.claimed ≡ sum_by (λ (y : Hand). times x y.claimed) hands + times x (h.claimed ++ n ∷ []) =
          sum_set (λ (y : Hand). times x y.claimed) hands id h w at in
          let both : times x (h.claimed ++ n ∷ []) ≡ times x h.claimed + times x (n ∷ []) = times_both x h.claimed (n ∷ []) in
          let before : sum_by (λ (y : Hand). times x y.claimed) hands ≡ once_below n x = rule.each x in
          let more : once_below (n + 1) x ≡ once_below n x + times x (n ∷ []) = once_more n x in
          let a : ℕ = times x (n ∷ []) in
          let b : ℕ = once_below n x in
          let c : ℕ = once_below (n + 1) x in
          let d : ℕ = times x h.claimed in
          let e : ℕ = times x (h.claimed ++ n ∷ []) in
          let f : ℕ = sum_by (λ (y : Hand). times x y.claimed) hands in
          let k : ℕ = sum_by (λ (y : Hand). times x y.claimed) (slice_set hands id w) in
          let each' : k + d ≡ f + e = each in
          let both' : e ≡ d + a = both in
          let before' : f ≡ b = before in
          let more' : c ≡ b + a = more in
          let goal : k ≡ c = omega (arith, each', both', before', more') in
          goal;
      many = omega (arith, rule.many);
      few = few_set hands id w rule.few (omega arith);
    }

pub claimed : (words : List ℕ) (hands : List Hand) (id : ℕ) (h : Hand) → AreClaimed words hands → get_elem? hands id ≡ some h → length h.claimed < h.parts * CLAIMS_OF_A_PART
    → AreClaimed (slice_set words 0 ((slice_index words 0 + 1) % 2 ^ 64)) (slice_set hands id (hand h.parts (h.claimed ++ slice_index words 0 ∷ [])))
claimed [] hands id h rule at room = absurd (omega (arith, rule.one))
claimed (n ∷ []) hands id h rule at room =
    let small : n + 1 < 2 ^ 64 = omega (arith, below (n ∷ []) hands rule) in
    subst (λ (k : ℕ). AreClaimed (k ∷ []) (slice_set hands id (hand h.parts (h.claimed ++ n ∷ [])))) (sym (mod-eq_of_lt small)) (claimed_at n hands id h rule at room)
claimed (n ∷ m ∷ rest) hands id h rule at room = absurd (omega (arith, rule.one))

pub claimed_least : (words : List ℕ) (hands : List Hand) (id : ℕ) (h : Hand) → AreClaimed words hands → get_elem? hands id ≡ some h → length h.claimed ≤ slice_index words 0
claimed_least words hands id h rule at = omega (arith, rule.many, sum_least (λ (x : Hand). length x.claimed) hands id h at)

-- who has all parts has all claims
none_without : (x : ℕ) (hands : List Hand) → Few hands → (j : ℕ) (b : Hand) → get_elem? hands j ≡ some b → b.parts ≡ 0 → times x b.claimed ≡ 0
none_without x hands few j b at none =
    let nothing : length b.claimed ≡ 0 = omega (arith, few j b at) in
    ap (times x) (nil_from_length b.claimed nothing)

pub counted : (words : List ℕ) (hands : List Hand) (id : ℕ) (h : Hand) → AreClaimed words hands → get_elem? hands id ≡ some h → h.parts ≡ PARTS → AreAllBelow (slice_index words 0) h.claimed
counted words hands id h rule at all x =
    sym (sum_alone (λ (y : Hand). times x y.claimed) (λ (y : Hand). y.parts) hands id h (none_without x hands rule.few) at (rule.parts ∙ sym all)) ∙ rule.each x

-- nothing changes where the counter is read
pub seen : (words : List ℕ) (hands : List Hand) (id : ℕ) (h : Hand) → AreClaimed words hands → get_elem? hands id ≡ some h → AreClaimed (slice_set words 0 (slice_index words 0)) (slice_set hands id h)
seen [] hands id h rule at = absurd (omega (arith, rule.one))
seen (n ∷ rest) hands id h rule at = subst (AreClaimed (n ∷ rest)) (sym (set_again hands id h at)) rule

-- one part goes to another
pub split : (words : List ℕ) (hands : List Hand) (id : ℕ) (h : Hand) → AreClaimed words hands → get_elem? hands id ≡ some h → 1 < h.parts → h.claimed ≡ []
    → AreClaimed words (slice_set hands id (hand (h.parts - 1) h.claimed) ++ hand 1 [] ∷ [])
split words hands id h rule at parts fresh =
    let w : Hand = hand (h.parts - 1) h.claimed in
    let next : List Hand = slice_set hands id w in
    let none : length h.claimed ≡ 0 = ap length fresh in
    let parts_set : sum_by (λ (x : Hand). x.parts) next + h.parts ≡ sum_by (λ (x : Hand). x.parts) hands + (h.parts - 1) = sum_set (λ (x : Hand). x.parts) hands id h w at in
    let parts_more : sum_by (λ (x : Hand). x.parts) (next ++ hand 1 [] ∷ []) ≡ sum_by (λ (x : Hand). x.parts) next + 1 = sum_more (λ (x : Hand). x.parts) next (hand 1 []) in
    let many_set : sum_by (λ (x : Hand). length x.claimed) next + length h.claimed ≡ sum_by (λ (x : Hand). length x.claimed) hands + length h.claimed =
    sum_set (λ (x : Hand). length x.claimed) hands id h w at in
    let many_more : sum_by (λ (x : Hand). length x.claimed) (next ++ hand 1 [] ∷ []) ≡ sum_by (λ (x : Hand). length x.claimed) next + 0 = sum_more (λ (x : Hand). length x.claimed) next (hand 1 []) in
    record {
      one = rule.one;
      parts = omega (arith, rule.parts);
      each = λ x.
          let each_set : sum_by (λ (y : Hand). times x y.claimed) next + times x h.claimed ≡ sum_by (λ (y : Hand). times x y.claimed) hands + times x h.claimed =
          sum_set (λ (y : Hand). times x y.claimed) hands id h w at in
          let each_more : sum_by (λ (y : Hand). times x y.claimed) (next ++ hand 1 [] ∷ []) ≡ sum_by (λ (y : Hand). times x y.claimed) next + 0 = sum_more (λ (y : Hand). times x y.claimed) next (hand 1 []) in
          let same : sum_by (λ (y : Hand). times x y.claimed) (next ++ hand 1 [] ∷ []) ≡ sum_by (λ (y : Hand). times x y.claimed) hands = omega (arith, each_set, each_more) in
          same ∙ rule.each x;
      many = omega (arith, rule.many);
      few = few_more next (hand 1 []) (few_set hands id w rule.few (omega arith)) (omega arith);
    }

-- one has the parts and the claims of two
pub joined : (words : List ℕ) (hands : List Hand) (id other : ℕ) (h o : Hand) → AreClaimed words hands → get_elem? hands id ≡ some h
    → get_elem? (slice_set hands id (hand (h.parts + o.parts) (h.claimed ++ o.claimed))) other ≡ some o → ¬ (other ≡ id)
    → AreClaimed words (slice_set (slice_set hands id (hand (h.parts + o.parts) (h.claimed ++ o.claimed))) other (hand 0 []))
joined words hands id other h o rule at there apart =
    let at_other : get_elem? hands other ≡ some o = sym (set_else hands id other (hand (h.parts + o.parts) (h.claimed ++ o.claimed)) apart) ∙ there in
    let w : Hand = hand (h.parts + o.parts) (h.claimed ++ o.claimed) in
    let next : List Hand = slice_set hands id w in
    let last : List Hand = slice_set next other (hand 0 []) in
    let longer : length (h.claimed ++ o.claimed) ≡ length h.claimed + length o.claimed = length-append h.claimed o.claimed in
    let parts_set : sum_by (λ (x : Hand). x.parts) next + h.parts ≡ sum_by (λ (x : Hand). x.parts) hands + (h.parts + o.parts) = sum_set (λ (x : Hand). x.parts) hands id h w at in
    let parts_last : sum_by (λ (x : Hand). x.parts) last + o.parts ≡ sum_by (λ (x : Hand). x.parts) next + 0 = sum_set (λ (x : Hand). x.parts) next other o (hand 0 []) there in
    let many_set : sum_by (λ (x : Hand). length x.claimed) next + length h.claimed ≡ sum_by (λ (x : Hand). length x.claimed) hands + length (h.claimed ++ o.claimed) =
    sum_set (λ (x : Hand). length x.claimed) hands id h w at in
    let many_last : sum_by (λ (x : Hand). length x.claimed) last + length o.claimed ≡ sum_by (λ (x : Hand). length x.claimed) next + 0 =
    sum_set (λ (x : Hand). length x.claimed) next other o (hand 0 []) there in
    record {
      one = rule.one;
      parts = omega (arith, rule.parts);
      each = λ x.
          let each_set : sum_by (λ (y : Hand). times x y.claimed) next + times x h.claimed ≡ sum_by (λ (y : Hand). times x y.claimed) hands + times x (h.claimed ++ o.claimed) =
          sum_set (λ (y : Hand). times x y.claimed) hands id h w at in
          let each_last : sum_by (λ (y : Hand). times x y.claimed) last + times x o.claimed ≡ sum_by (λ (y : Hand). times x y.claimed) next + 0 =
          sum_set (λ (y : Hand). times x y.claimed) next other o (hand 0 []) there in
          let both : times x (h.claimed ++ o.claimed) ≡ times x h.claimed + times x o.claimed = times_both x h.claimed o.claimed in
          let same : sum_by (λ (y : Hand). times x y.claimed) last ≡ sum_by (λ (y : Hand). times x y.claimed) hands = omega (arith, each_set, each_last, both) in
          same ∙ rule.each x;
      many = omega (arith, rule.many);
      few = few_set next other (hand 0 []) (few_set hands id w rule.few (omega (arith, rule.few id h at, rule.few other o at_other))) (omega arith);
    }

-- the steps, as a table asks for them
pub claims : (slots id : ℕ) (me : Me ℕ Hand) → length me.0.claimed < me.0.parts * CLAIMS_OF_A_PART
    → Allows (λ s. AreClaimed s.words s.views) slots id me 0 (λ n. (n + 1) % 2 ^ 64) (λ n after. Claims me.0 n after.0 × (after.1 ≡ me.1))
claims slots id me room s rule homes at small = (
  hand me.0.parts (me.0.claimed ++ slice_index s.words 0 ∷ []),
  keeps,
  tt,
  claimed s.words s.views id me.0 rule at room,
  ((refl, claimed_least s.words s.views id me.0 rule at), refl),
)

pub counts : (slots id : ℕ) (me : Me ℕ Hand) → Allows (λ s. AreClaimed s.words s.views) slots id me 0 (λ n. n) (λ n after. Counts me.0 n after.0 × (after.1 ≡ me.1))
counts slots id me s rule homes at small = (
  me.0,
  keeps,
  tt,
  seen s.words s.views id me.0 rule at,
  ((refl, λ all. counted s.words s.views id me.0 rule at all), refl),
)

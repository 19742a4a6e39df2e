-- Lines, one after another.
use Rattle.std.proofs.Common.{◌≡◌, ◌+◌, ℕ, true, false, List, [], ◌∷◌, ◌++◌, refl, sym, ap, subst, ◌∙◌, inl, inr, add-zero, arith}
use Rattle.std.specs.Prelude.{nat_lt, Option, Some, None, Result, Ok, Err, if◌then◌else◌, is_some}
use Rattle.std.specs.Str.{bytes_eq}
use Rattle.std.proofs.lemmas.Bool.{cases_Bool}
use Rattle.std.proofs.lemmas.Slice.Eq.{bytes_eq-Decides}
use Rattle.bpf_isa.specs.declared.limits.TheConstants.{MOST_UNITS}
use Rattle.bpf_asm.specs.declared.errors.TextCause.{TextCause}
use Rattle.bpf_asm.specs.declared.errors.TextCause.TheVariants.{TooLong}
use Rattle.bpf_asm.specs.Lexing.{same_bytes}
use Rattle.bpf_asm.specs.Statements.{Item, Labelled}
use Rattle.bpf_asm.specs.Assembly.{item_units, units, is_label, place_from, place, length_admission, admission}
use Rattle.bpf_asm.specs.Said.{IsRead}
use Rattle.bpf_asm.proofs.Bytes.{same_bytes-pointwise}

-- ---- one line more

pub units_more : (xs : List Item) (i : Item) → units (xs ++ (i ∷ [])) ≡ units xs + item_units i
units_more [] i = omega arith
units_more (x ∷ xs) i = omega (arith, units_more xs i)

pub place_other : (pc : ℕ) (q : List ℕ) (xs : List Item) (i : Item) → is_label q i ≡ false → place_from pc q (xs ++ (i ∷ [])) ≡ place_from pc q xs
place_other pc q [] i other = simp other
place_other pc q (x ∷ xs) i other = elim (cases_Bool (is_label q x)) [
  | inl here ↦ simp here
  | inr further ↦ simp further (place_other (pc + item_units x) q xs i other)
]

none_first : (pc : ℕ) (q : List ℕ) (x : Item) (xs : List Item) → place_from pc q (x ∷ xs) ≡ None → (is_label q x ≡ false) × (place_from (pc + item_units x) q xs ≡ None)
none_first pc q x xs none = elim (cases_Bool (is_label q x)) [
  | inl here ↦ absurd (let some : Some pc ≡ None = (simp here at none) in cc)
  | inr further ↦ (further, (simp further at none))
]

place_new : (pc : ℕ) (q : List ℕ) (xs : List Item) (i : Item) → is_label q i ≡ true → place_from pc q xs ≡ None → place_from pc q (xs ++ (i ∷ [])) ≡ Some (pc + units xs)
place_new pc q [] i here none = simp here (ap (λ (n : ℕ). Some n) (sym (add-zero pc)))
place_new pc q (x ∷ xs) i here none =
    let first = none_first pc q x xs none in
    let rest = place_new (pc + item_units x) q xs i here first.1 in
    let sum : pc + item_units x + units xs ≡ pc + (item_units x + units xs) = omega arith in
    simp first.0 (rest ∙ ap (λ (n : ℕ). Some n) sum)

-- ---- what is known of the lines so far

pub read_plain : (before : List Item) (i : Item) (n m : ℕ) (places : List ℕ → Option ℕ) → ((q : List ℕ) → is_label q i ≡ false) → m ≡ n + item_units i → IsRead before n places → IsRead (before ++ (i ∷ [])) m places
read_plain before i n m places other more read = record {
  total = omega (arith, units_more before i, read.total);
  found = λ q. read.found q ∙ sym (place_other 0 q before i (other q));
}

same_from : (n q : List ℕ) → bytes_eq n q ≡ same_bytes n q
same_from n q = same_bytes-pointwise n q

pub read_label : (before : List Item) (name : List ℕ) (n : ℕ) (places after : List ℕ → Option ℕ) → places name ≡ None → ((q : List ℕ) → after q ≡ (if bytes_eq name q then Some n else places q)) → IsRead before n places → IsRead (before ++ (Labelled name ∷ [])) n after
read_label before name n places after none new read = record {
  total = omega (arith, units_more before (Labelled name), read.total);
  found = λ q. elim (cases_Bool (bytes_eq name q)) [
    | inl same ↦
        let decides = bytes_eq-Decides name q in
        let is : name ≡ q = decides.0 same in
        let before_none : place_from 0 q before ≡ None = subst (λ (x : List ℕ). place_from 0 x before ≡ None) is (sym (read.found name) ∙ none) in
        let here = place_new 0 q before (Labelled name) (sym (same_from name q) ∙ same) before_none in
        let at : n ≡ 0 + units before = omega (arith, read.total) in
        new q ∙ (simp same (ap (λ (m : ℕ). Some m) at ∙ sym here))
    | inr apart ↦
        let further = place_other 0 q before (Labelled name) (sym (same_from name q) ∙ apart) in
        new q ∙ (simp apart (read.found q ∙ sym further))
  ];
}

-- ---- faults

pub label_new : (before : List Item) (name : List ℕ) → place name before ≡ None → admission before (Labelled name) ≡ Ok (Labelled name)
label_new before name none = simp none

pub some_none : (found : Option ℕ) → is_some found ≡ false → found ≡ None
some_none None none = refl
some_none (Some n) none = absurd (cc)

abbrev ok_units : ℕ → Result ℕ TextCause
ok_units n = Ok n

abbrev no_units : TextCause → Result ℕ TextCause
no_units cause = Err cause

pub fits : (before : List Item) (i : Item) (n m : ℕ) → n ≡ units before → (if nat_lt MOST_UNITS (n + item_units i) then Err TooLong else Ok (n + item_units i)) ≡ Ok m → (length_admission before i ≡ Ok i) × (m ≡ n + item_units i)
fits before i n m total is = elim (cases_Bool (nat_lt MOST_UNITS (n + item_units i))) [
  | inl long ↦ absurd (let e : no_units TooLong ≡ ok_units m = (simp long at is) in cc)
  | inr short ↦
      let e : ok_units (n + item_units i) ≡ ok_units m = (simp short at is) in
      let more : m ≡ n + item_units i = cc in
      let same : nat_lt MOST_UNITS (units before + item_units i) ≡ false = ap (λ (k : ℕ). nat_lt MOST_UNITS (k + item_units i)) (sym total) ∙ short in
      (simp same, more)
]

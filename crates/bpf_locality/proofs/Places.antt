-- Bytes of an access, one by one, and bytes that are stored.
use Rattle.std.proofs.Common.{◌≡◌, ◌≢◌, ℕ, zero, suc, ◌+◌, ◌<◌, ◌≤◌, ◌⊎◌, true, false, List, [], ◌∷◌, length, Some, refl, ap, ap₂, subst, ◌∙◌, ◌-◌, arith, inl, inr, eqb, if◌then◌else◌}
use Rattle.std.specs.Prelude.{◌==◌, nat_le}
use Rattle.std.proofs.lemmas.Bool.{cases_Bool, cases_lt, ne_eqb, and_parts, leb-true, or_cases, or_from, or_left, or_right}
use Rattle.std.proofs.lemmas.Bool.Decides.{nat_tests}
use Rattle.bpf_image.specs.declared.limits.TheConstants.{MOST_RECORD_LENGTH}
use Rattle.bpf_image.specs.declared.lengths.Lengths.{Lengths}
use Rattle.bpf_model.specs.State.{Partial, State, with_value, with_values, number_at, joined_bytes, may_read, may_write, in_record, in_frame, in_frames, in_table, live_frames, most_frames, table_base}
use Rattle.bpf_locality.specs.Locality.{is_live, is_readable}

-- a byte of an access in a frame is in that frame
byte_in_frames : (n a size i : ℕ) → i < size → in_frames n a size ≡ true → in_frames n (a + i) 1 ≡ true
byte_in_frames zero a size i lt within = absurd (cc)
byte_in_frames (suc n) a size i lt within =
    elim (cases_Bool (in_frame n a size)) [
      | inl here ↦ (let inside : in_frame n (a + i) 1 ≡ true = grind (arith, nat_tests) in or_left _ _ inside)
      | inr other ↦ or_right _ _ (byte_in_frames n a size i lt (grind (arith, nat_tests)))
    ]

-- each byte that is written is live
byte_is_live : (l : Lengths) (s : State) (a size i : ℕ) → i < size → may_write l s a size ≡ true → is_live l s (a + i) ≡ true
byte_is_live l s a size i lt may =
    elim (cases_Bool (in_record l.record_length a size)) [
      | inl here ↦ (let inside : in_record l.record_length (a + i) 1 ≡ true = grind (arith, nat_tests) in or_left _ _ inside)
      | inr other ↦ or_right _ _ (byte_in_frames (live_frames s) a size i lt (grind (arith, nat_tests)))
    ]

-- each byte that is read may be read
pub byte_is_readable : (l : Lengths) (s : State) (a size i : ℕ) → i < size → may_read l s a size ≡ true → is_readable l s (a + i) ≡ true
byte_is_readable l s a size i lt may =
    elim (or_cases (may_write l s a size) (in_table l.table_length a size) may) [
      | inl live ↦ or_left _ _ (byte_is_live l s a size i lt live)
      | inr within ↦ (let inside : in_table l.table_length (a + i) 1 ≡ true = grind (arith, nat_tests) in or_right (is_live l s (a + i)) _ inside)
    ]

-- a byte that is not live is beside those that are written
pub beside : (l : Lengths) (s : State) (a size x : ℕ) → may_write l s a size ≡ true → is_live l s x ≡ false → (x < a) ⊎ (a + size ≤ x)
beside l s a size x may dead =
    elim (cases_lt x a) [
      | inl below ↦ inl below
      | inr above ↦ elim (cases_lt x (a + size)) [
        | inl within ↦ absurd (let at : a + (x - a) ≡ x = omega (arith, above) in let live : is_live l s x ≡ true = subst (λ y. is_live l s y ≡ true) at (byte_is_live l s a size (x - a) (omega (arith, above, within)) may) in cc)
        | inr past ↦ inr past
      ]
    ]

-- no frame that a run may have reaches up to the table
table_in_no_frame : (n a : ℕ) → n ≤ most_frames → table_base ≤ a → in_frames n a 1 ≡ false
table_in_no_frame zero a few above = refl
table_in_no_frame (suc n) a few above =
    let below : in_frame n a 1 ≡ false = grind (arith, nat_tests) in
    rw below (table_in_no_frame n a (omega arith) above)

-- no byte of the table is live
pub table_not_live : (l : Lengths) (s : State) (a : ℕ) → l.record_length ≤ MOST_RECORD_LENGTH → live_frames s ≤ most_frames → in_table l.table_length a 1 ≡ true → is_live l s a ≡ false
table_not_live l s a short few there =
    let above : table_base ≤ a = leb-true _ _ (and_parts (nat_le table_base a) _ there).0 in
    let past : in_record l.record_length a 1 ≡ false = grind (arith, nat_tests) in
    or_from _ _ past (table_in_no_frame (live_frames s) a few above)

stored_other : (m : Partial) (k v p : ℕ) → p ≢ k → with_value m k v p ≡ m p
stored_other m k v p other = let test : eqb p k ≡ false = ne_eqb p k other in rw test refl

-- bytes beside those that are stored stay
pub stays : (m : Partial) (k : ℕ) (bytes : List ℕ) (p : ℕ) → (p < k) ⊎ (k + length bytes ≤ p) → with_values m k bytes p ≡ m p
stays m k [] p apart = refl
stays m k (b ∷ bs) p (inl lt) =
    stays (with_value m k b) (k + 1) bs p (inl (omega (arith, lt))) ∙ stored_other m k b p (λ e. omega (arith, e, lt))
stays m k (b ∷ bs) p (inr ge) =
    stays (with_value m k b) (k + 1) bs p (inr (omega (arith, ge))) ∙ stored_other m k b p (λ e. omega (arith, e, ge))

-- where two memories agree, they do after the same bytes were stored in both
pub stored_same : (m n : Partial) (k : ℕ) (bytes : List ℕ) (p : ℕ) → m p ≡ n p → with_values m k bytes p ≡ with_values n k bytes p
stored_same m n k [] p same = same
stored_same m n k (b ∷ bs) p same =
    stored_same (with_value m k b) (with_value n k b) (k + 1) bs p (ap (λ o. if p == k then Some b else o) same)

-- where two memories agree in all bytes of a number, they have the same number there
pub number_same : (m n : Partial) (a size : ℕ) → ((i : ℕ) → i < size → m (a + i) ≡ n (a + i)) → number_at m a size ≡ number_at n a size
number_same m n a zero same = refl
number_same m n a (suc size) same =
    let at : a + 0 ≡ a = omega arith in
    let first : m a ≡ n a = subst (λ x. m x ≡ n x) at (same 0 (omega arith)) in
    let rest : number_at m (a + 1) size ≡ number_at n (a + 1) size =
    number_same m n (a + 1) size (λ i lt. let next : a + suc i ≡ (a + 1) + i = omega arith in subst (λ x. m x ≡ n x) next (same (suc i) (omega (arith, lt)))) in
    ap₂ joined_bytes first rest

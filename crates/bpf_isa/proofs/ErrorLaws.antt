-- When each error comes: the one that is given applies, and the one that applies is given.
use Rattle.std.proofs.Common.{◌≡◌, ℕ, ◌+◌, ◌*◌, ◌/◌, ◌≤◌, true, false, eqb, leb, List, length, Option, Some, None, Err, refl, sym, ap, subst, ◌∙◌, arith, inl, inr}
use Rattle.std.specs.Prelude.{◌&&◌}
use Rattle.std.specs.List.{AllByRecursion}
use Rattle.std.proofs.lemmas.Bool.{cases_Bool, eqb-true, eq-eqb, leb-true, leb-false, le-leb, and_parts, and_from, cond-true, cond-false, true≢false, false_from_ne_true}
use Rattle.std.proofs.lemmas.List.{length-drop}
use Rattle.std.proofs.lemmas.Option.{none-some}
use Rattle.bpf_isa.specs.declared.register.Register.{Register}
use Rattle.bpf_isa.specs.declared.register.Register.TheVariants.{R0}
use Rattle.bpf_isa.specs.declared.instruction.Instruction.{Instruction}
use Rattle.bpf_isa.specs.declared.row.Row.{Row}
use Rattle.bpf_isa.specs.declared.decode_error.DecodeError.{DecodeError}
use Rattle.bpf_isa.specs.declared.decode_error.DecodeError.TheVariants.{Truncated, UnknownOpcode, UnusedField, BadRegister, BadWide}
use Rattle.bpf_isa.specs.Encoding.{Fields, units_of}
use Rattle.bpf_isa.specs.DecodeErrors.{Field, value_at, fields_at, HasRow, IsTruncated, UnusedAreZero, HasRegisters, IsSecondUnit, IsDecodeError}
use Rattle.bpf_isa.specs.Reading.{register_at, row_at, row_unused, all_zero, instruction_of, is_second_unit, wide_instruction, with_registers, read_row, no_fields, second_at, is_cut, decoding}
use Rattle.bpf_isa.proofs.Tables.{chosen}
use Rattle.bpf_isa.proofs.RowLaws.{row_for, row_has, row_again}
use Rattle.bpf_isa.proofs.DecodedLaws.{done, failed, same_failed, not_failed, second_there}
use Rattle.bpf_isa.proofs.FieldLaws.{register_has, register_limit, register_some, zero_from_test, test_from_zero, unused-row, unused-instruction}

-- ---- tests and what they mean

truncated_from : (code : List ℕ) (pc : ℕ) → leb (length code / 8) pc ≡ true → IsTruncated code pc
truncated_from code pc h =
    let over = leb-true _ _ h in
    inl (omega (arith, length-drop (8 * pc) code))

truncated_from_cut : (code : List ℕ) (pc : ℕ) → is_cut code pc ≡ true → IsTruncated code pc
truncated_from_cut code pc h =
    let p = and_parts (eqb (fields_at code pc).opcode 0x18) (leb (length code / 8) (pc + 1)) h in
    let over = leb-true _ _ p.1 in
    inr (eqb-true _ _ p.0, omega (arith, length-drop (8 * pc) code))

whole_from : (code : List ℕ) (pc : ℕ) → leb (length code / 8) pc ≡ false → is_cut code pc ≡ false → IsTruncated code pc → ⊥
whole_from code pc h k (inl short) =
    let inside = leb-false _ _ h in
    omega (arith, short, length-drop (8 * pc) code)
whole_from code pc h k (inr short) =
    let test : leb (length code / 8) (pc + 1) ≡ true = le-leb _ _ (omega (arith, short.1, length-drop (8 * pc) code)) in
    true≢false (sym (and_from _ _ (eq-eqb _ _ short.0) test) ∙ k)

-- the code is not cut there
record IsWhole (code : List ℕ) (pc : ℕ) : Type 0 where
  inside : leb (length code / 8) pc ≡ false
  next : is_cut code pc ≡ false

whole_to : (code : List ℕ) (pc : ℕ) → ¬ IsTruncated code pc → IsWhole code pc
whole_to code pc h = record {
  inside = false_from_ne_true _ (λ e. h (truncated_from code pc e));
  next = false_from_ne_true _ (λ e. h (truncated_from_cut code pc e));
}

decoded_cut : (code : List ℕ) (pc : ℕ) → IsTruncated code pc → decoding code pc ≡ Err Truncated
unfolding decoding
decoded_cut code pc h =
    elim (cases_Bool (leb (length code / 8) pc)) [
      | inl over ↦ cond-true _ _ _ over
      | inr inside ↦
          elim (cases_Bool (is_cut code pc)) [
            | inl cut ↦ cond-false _ _ _ inside ∙ cond-true _ _ _ cut
            | inr next ↦ absurd (whole_from code pc inside next h)
          ]
    ]

decoded_whole : (code : List ℕ) (pc : ℕ) → IsWhole code pc → decoding code pc ≡ read_row (row_at (fields_at code pc)) (fields_at code pc) (second_at code pc)
unfolding decoding
decoded_whole code pc h = cond-false _ _ _ h.inside ∙ cond-false _ _ _ h.next

second_unit_from : (f : Fields) → is_second_unit f ≡ true → IsSecondUnit f
second_unit_from f h =
    let p = and_parts (eqb f.opcode 0) (eqb f.destination 0 && (eqb f.source 0 && eqb f.offset 0)) h in
    let q = and_parts (eqb f.destination 0) (eqb f.source 0 && eqb f.offset 0) p.1 in
    let r = and_parts (eqb f.source 0) (eqb f.offset 0) q.1 in
    (eqb-true _ _ p.0, eqb-true _ _ q.0, eqb-true _ _ r.0, eqb-true _ _ r.1)

second_unit_to : (f : Fields) → IsSecondUnit f → is_second_unit f ≡ true
second_unit_to f h =
    and_from _ _ (eq-eqb _ _ h.0) (and_from _ _ (eq-eqb _ _ h.1) (and_from _ _ (eq-eqb _ _ h.2) (eq-eqb _ _ h.3)))

zeros_from : (row : Row) (d s : Register) (f : Fields) (upper : ℕ) → all_zero (row_unused row) f ≡ true → UnusedAreZero (instruction_of row d s f upper) f
zeros_from row d s f upper h =
    subst (λ (fields : List Field). AllByRecursion (λ field. value_at field f ≡ 0) fields) (sym (unused-instruction row d s f upper)) (zero_from_test (row_unused row) f h)

zeros_to : (row : Row) (d s : Register) (f : Fields) (upper : ℕ) → UnusedAreZero (instruction_of row d s f upper) f → all_zero (row_unused row) f ≡ true
zeros_to row d s f upper h =
    test_from_zero (row_unused row) f (subst (λ (fields : List Field). AllByRecursion (λ field. value_at field f ≡ 0) fields) (unused-instruction row d s f upper) h)

own_zeros_to : (i : Instruction) (f : Fields) → UnusedAreZero i f → all_zero (row_unused (row_for i)) f ≡ true
own_zeros_to i f h =
    test_from_zero (row_unused (row_for i)) f (subst (λ (fields : List Field). AllByRecursion (λ field. value_at field f ≡ 0) fields) (unused-row i) h)

own_zeros_from : (i : Instruction) (f : Fields) → all_zero (row_unused (row_for i)) f ≡ true → UnusedAreZero i f
own_zeros_from i f h =
    subst (λ (fields : List Field). AllByRecursion (λ field. value_at field f ≡ 0) fields) (sym (unused-row i)) (zero_from_test (row_unused (row_for i)) f h)

-- a number of no register is above 10
register_above : (n : ℕ) → register_at n ≡ None → n ≤ 10 → ⊥
register_above n e h = let there = register_some n h in let none : None ≡ Some there.0 = sym e ∙ there.1 in none-some there.0 none

register_below : (n : ℕ) (r : Register) → register_at n ≡ Some r → n ≤ 10
register_below n r e = omega (arith, register_has n r e, register_limit r)

-- ---- an error that is given applies

bad_wide_from : (code : List ℕ) (pc : ℕ) (row : Row) (d s : Register) (e : DecodeError) → ¬ IsTruncated code pc → row_at (fields_at code pc) ≡ Some row → all_zero (row_unused row) (fields_at code pc) ≡ true → HasRegisters (fields_at code pc) → wide_instruction row d s (fields_at code pc) (second_at code pc) ≡ Err e → IsDecodeError code pc e
bad_wide_from code pc row d s e whole row_is zeros numbers r =
    let first : Fields = fields_at code pc in
    let second : Fields = second_at code pc in
    let j : Instruction = instruction_of row d s first second.immediate in
    elim (chosen (is_second_unit second) (done (j, units_of j)) (failed BadWide) (failed e) r) [
      | inl h ↦ absurd (not_failed _ _ h.1)
      | inr h ↦
          elim (cases_Bool (eqb first.opcode 0x18)) [
            | inl wide ↦
                let there = second_there code pc (eqb-true _ _ wide) in
                subst (IsDecodeError code pc) (same_failed BadWide e h.1) (whole, (j, row_has first row row_is d s second.immediate, zeros_from row d s first second.immediate zeros, numbers, eqb-true _ _ wide, λ u. true≢false (sym (second_unit_to (fields_at code (pc + 1)) u) ∙ ap is_second_unit (sym there) ∙ h.0)))
            | inr other ↦
                let none : second ≡ no_fields = cond-false _ _ _ other in
                absurd (true≢false (ap is_second_unit (sym none) ∙ h.0))
          ]
    ]

bad_register_from : (code : List ℕ) (pc : ℕ) (row : Row) (od os : Option Register) (e : DecodeError) → ¬ IsTruncated code pc → row_at (fields_at code pc) ≡ Some row → all_zero (row_unused row) (fields_at code pc) ≡ true → register_at (fields_at code pc).destination ≡ od → register_at (fields_at code pc).source ≡ os → with_registers od os row (fields_at code pc) (second_at code pc) ≡ Err e → IsDecodeError code pc e
bad_register_from code pc row None os e whole row_is zeros p q r =
    subst (IsDecodeError code pc) (same_failed BadRegister e r) (whole, (instruction_of row R0 R0 (fields_at code pc) 0, row_has (fields_at code pc) row row_is R0 R0 0, zeros_from row R0 R0 (fields_at code pc) 0 zeros, λ h. register_above _ p h.0))
bad_register_from code pc row (Some d) None e whole row_is zeros p q r =
    subst (IsDecodeError code pc) (same_failed BadRegister e r) (whole, (instruction_of row R0 R0 (fields_at code pc) 0, row_has (fields_at code pc) row row_is R0 R0 0, zeros_from row R0 R0 (fields_at code pc) 0 zeros, λ h. register_above _ q h.1))
bad_register_from code pc row (Some d) (Some s) e whole row_is zeros p q r =
    bad_wide_from code pc row d s e whole row_is zeros (register_below _ d p, register_below _ s q) r

row_from : (code : List ℕ) (pc : ℕ) (o : Option Row) (e : DecodeError) → ¬ IsTruncated code pc → row_at (fields_at code pc) ≡ o → read_row o (fields_at code pc) (second_at code pc) ≡ Err e → IsDecodeError code pc e
unfolding read_row
row_from code pc None e whole row_is r =
    subst (IsDecodeError code pc) (same_failed UnknownOpcode e r) (whole, λ i h. none-some (row_for i) (sym row_is ∙ row_again i (fields_at code pc) h))
row_from code pc (Some row) e whole row_is r =
    let first : Fields = fields_at code pc in
    elim (chosen (all_zero (row_unused row) first) (with_registers (register_at first.destination) (register_at first.source) row first (second_at code pc)) (failed UnusedField) (failed e) r) [
      | inl h ↦ bad_register_from code pc row (register_at first.destination) (register_at first.source) e whole row_is h.0 refl refl h.1
      | inr h ↦ subst (IsDecodeError code pc) (same_failed UnusedField e h.1) (whole, (instruction_of row R0 R0 first 0, row_has first row row_is R0 R0 0, λ z. true≢false (sym (zeros_to row R0 R0 first 0 z) ∙ h.0)))
    ]

pub IsDecodeError-decoded : (code : List ℕ) (pc : ℕ) (e : DecodeError) → decoding code pc ≡ Err e → IsDecodeError code pc e
IsDecodeError-decoded code pc e r =
    elim (cases_Bool (leb (length code / 8) pc)) [
      | inl over ↦
          let cut = truncated_from code pc over in
          subst (IsDecodeError code pc) (same_failed Truncated e (sym (decoded_cut code pc cut) ∙ r)) cut
      | inr inside ↦
          elim (cases_Bool (is_cut code pc)) [
            | inl over ↦
                let cut = truncated_from_cut code pc over in
                subst (IsDecodeError code pc) (same_failed Truncated e (sym (decoded_cut code pc cut) ∙ r)) cut
            | inr next ↦ row_from code pc (row_at (fields_at code pc)) e (whole_from code pc inside next) refl (sym (decoded_whole code pc (record { inside = inside; next = next })) ∙ r)
          ]
    ]

-- ---- an error that applies is given

decoded_row : (code : List ℕ) (pc : ℕ) (o : Option Row) → ¬ IsTruncated code pc → row_at (fields_at code pc) ≡ o → decoding code pc ≡ read_row o (fields_at code pc) (second_at code pc)
decoded_row code pc o whole h =
    decoded_whole code pc (whole_to code pc whole) ∙ ap (λ (r : Option Row). read_row r (fields_at code pc) (second_at code pc)) h

no_row : (f : Fields) (o : Option Row) → row_at f ≡ o → ((i : Instruction) → ¬ HasRow i f) → o ≡ None
no_row f None e h = refl
no_row f (Some row) e h = absurd (h (instruction_of row R0 R0 f 0) (row_has f row e R0 R0 0))

read_unknown : (first second : Fields) → read_row None first second ≡ Err UnknownOpcode
unfolding read_row
read_unknown first second = refl

read_unused : (row : Row) (first second : Fields) → all_zero (row_unused row) first ≡ false → read_row (Some row) first second ≡ Err UnusedField
unfolding read_row
read_unused row first second h = cond-false _ _ _ h

read_registers : (row : Row) (first second : Fields) → all_zero (row_unused row) first ≡ true → read_row (Some row) first second ≡ with_registers (register_at first.destination) (register_at first.source) row first second
unfolding read_row
read_registers row first second h = cond-true _ _ _ h

bad_register : (od os : Option Register) (row : Row) (first second : Fields) → register_at first.destination ≡ od → register_at first.source ≡ os → ¬ HasRegisters first → with_registers od os row first second ≡ Err BadRegister
bad_register None os row first second p q h = refl
bad_register (Some d) None row first second p q h = refl
bad_register (Some d) (Some s) row first second p q h =
    absurd (h (register_below _ d p, register_below _ s q))

bad_wide : (row : Row) (first second : Fields) → HasRegisters first → is_second_unit second ≡ false → with_registers (register_at first.destination) (register_at first.source) row first second ≡ Err BadWide
bad_wide row first second h e =
    let d = register_some first.destination h.0 in
    let s = register_some first.source h.1 in
    let j : Instruction = instruction_of row d.0 s.0 first second.immediate in
    ap (λ (o : Option Register). with_registers o (register_at first.source) row first second) d.1 ∙ ap (λ (o : Option Register). with_registers (Some d.0) o row first second) s.1 ∙ cond-false _ (done (j, units_of j)) (failed BadWide) e

pub decoded-IsDecodeError : (code : List ℕ) (pc : ℕ) (e : DecodeError) → IsDecodeError code pc e → decoding code pc ≡ Err e
decoded-IsDecodeError code pc Truncated h = decoded_cut code pc h
decoded-IsDecodeError code pc UnknownOpcode h =
    decoded_row code pc None h.0 (no_row (fields_at code pc) (row_at (fields_at code pc)) refl h.1) ∙ read_unknown _ _
decoded-IsDecodeError code pc UnusedField h =
    let i = h.1.0 in
    let first : Fields = fields_at code pc in
    decoded_row code pc (Some (row_for i)) h.0 (row_again i first h.1.1) ∙ read_unused (row_for i) first (second_at code pc) (false_from_ne_true _ (λ z. h.1.2 (own_zeros_from i first z)))
decoded-IsDecodeError code pc BadRegister h =
    let i = h.1.0 in
    let first : Fields = fields_at code pc in
    decoded_row code pc (Some (row_for i)) h.0 (row_again i first h.1.1) ∙ read_registers (row_for i) first (second_at code pc) (own_zeros_to i first h.1.2) ∙ bad_register _ _ (row_for i) first (second_at code pc) refl refl h.1.3
decoded-IsDecodeError code pc BadWide h =
    let i = h.1.0 in
    let first : Fields = fields_at code pc in
    let there = second_there code pc h.1.4 in
    let other : is_second_unit (second_at code pc) ≡ false = false_from_ne_true _ (λ z. h.1.5 (second_unit_from (fields_at code (pc + 1)) (ap is_second_unit (sym there) ∙ z))) in
    decoded_row code pc (Some (row_for i)) h.0 (row_again i first h.1.1) ∙ read_registers (row_for i) first (second_at code pc) (own_zeros_to i first h.1.2) ∙ bad_wide (row_for i) first (second_at code pc) h.1.3 other

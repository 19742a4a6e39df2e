-- Each operand's text, read as the argument that it was written for.
use Rattle.std.proofs.Common.{◌≡◌, ◌≤◌, ◌<◌, ◌+◌, ◌-◌, ◌^◌, ℕ, suc, Bool, true, false, List, [], ◌∷◌, ◌++◌, take, drop, refl, sym, ap, ◌∙◌, append_assoc, arith}
use Rattle.std.specs.Prelude.{ℤ, pos, negsuc, ◌==◌, ◌&&◌, length, not, nat_le, Some, None, FitsSigned, slice_index}
use Rattle.std.specs.Int.{w16, w32}
use Rattle.std.specs.List.{list_all, position_or_len}
use Rattle.std.specs.Fmt.{decimal, signed_decimal}
use Rattle.std.proofs.lemmas.Fmt.{length-decimal-le}
use Rattle.std.proofs.lemmas.Bool.{and_parts}
use Rattle.std.proofs.lemmas.Bool.Decides.{nat_tests}
use Rattle.std.proofs.lemmas.List.{length-append}
use Rattle.std.proofs.Math.Seq.{take-append_seam, drop-append_seam}
use Rattle.bpf_isa.specs.declared.register.Register.{Register}
use Rattle.bpf_isa.specs.declared.register.Register.TheVariants.{R0, R1, R2, R3, R4, R5, R6, R7, R8, R9, R10}
use Rattle.bpf_isa.specs.Reading.{register_at}
use Rattle.bpf_asm.specs.Lexing.{Numeral, is_digit, is_empty, is_word_byte, is_name, is_sign, register_named, number, displacement, place, memory, Held, Counted, Addressed, Named}
use Rattle.bpf_asm.specs.Writing.{register_text, offset_text, memory_text, label_text}
use Rattle.bpf_asm.proofs.Decimals.{decimal_spells, numeral_of, decimal_number, signed_number, offset_displacement}
use Rattle.bpf_asm.proofs.Solids.{is_solid, digit_solid, all_weaker, all_both, position_at, last_behind, last_index}
use Rattle.bpf_asm.proofs.Spoken.{Reads}

and_no : (a b : Bool) → b ≡ false → (a && b) ≡ false
and_no true false is = refl
and_no false b is = refl
and_no true true is = absurd (cc)

-- ---- registers

register_is : (r : Register) → register_named (register_text r) ≡ Some r
unfolding register_at
register_is R0 = refl
register_is R1 = refl
register_is R2 = refl
register_is R3 = refl
register_is R4 = refl
register_is R5 = refl
register_is R6 = refl
register_is R7 = refl
register_is R8 = refl
register_is R9 = refl
register_is R10 = refl

-- a register's text has no blank, no separator and no sign
pub record IsUncut (text : List ℕ) : Type 0 where
  pub some : is_empty text ≡ false
  pub solid : list_all is_solid text ≡ true
  pub unsigned : list_all (λ b. not (is_sign b)) text ≡ true

register_uncut : (r : Register) → IsUncut (register_text r)
register_uncut R0 = record { some = refl; solid = refl; unsigned = refl }
register_uncut R1 = record { some = refl; solid = refl; unsigned = refl }
register_uncut R2 = record { some = refl; solid = refl; unsigned = refl }
register_uncut R3 = record { some = refl; solid = refl; unsigned = refl }
register_uncut R4 = record { some = refl; solid = refl; unsigned = refl }
register_uncut R5 = record { some = refl; solid = refl; unsigned = refl }
register_uncut R6 = record { some = refl; solid = refl; unsigned = refl }
register_uncut R7 = record { some = refl; solid = refl; unsigned = refl }
register_uncut R8 = record { some = refl; solid = refl; unsigned = refl }
register_uncut R9 = record { some = refl; solid = refl; unsigned = refl }
register_uncut R10 = record { some = refl; solid = refl; unsigned = refl }

pub register_reads : (r : Register) → Reads (register_text r) (Held r)
register_reads r = record {
  is_a = simp (register_is r);
  some = (register_uncut r).some;
  solid = (register_uncut r).solid;
}

-- only a register begins with `r`, of what is no name
not_register : (b : ℕ) (text : List ℕ) → (b == 114) ≡ false → register_named (b ∷ text) ≡ None
not_register b [] other = refl
not_register b (c ∷ []) other = simp other
not_register b (c ∷ d ∷ []) other = simp other
not_register b (c ∷ d ∷ e ∷ text) other = refl

-- ---- numbers

digit_not_r : (d : ℕ) → is_digit d ≡ true → (d == 114) ≡ false
digit_not_r d is = grind (arith, nat_tests)

solid_digits : (digits : List ℕ) → list_all is_digit digits ≡ true → list_all is_solid digits ≡ true
solid_digits digits all = all_weaker is_digit is_solid digits digit_solid all

digits_read : (digits : List ℕ) (n : Numeral) → list_all is_digit digits ≡ true → is_empty digits ≡ false → number digits ≡ Some n → Reads digits (Counted n)
digits_read [] n all some is = absurd (cc)
digits_read (d ∷ digits) n all some is = record {
  is_a = simp (not_register d digits (digit_not_r d (and_parts (is_digit d) (list_all is_digit digits) all).0), is);
  some = some;
  solid = solid_digits (d ∷ digits) all;
}

pub decimal_reads : (n : ℕ) → n < 2 ^ 64 → Reads (decimal n) (Counted (numeral_of (pos n)))
decimal_reads n small =
    let spells = decimal_spells n small in
    digits_read (decimal n) (numeral_of (pos n)) spells.all spells.some (decimal_number n small)

pub signed_reads : (z : ℤ) → FitsSigned w32 z → Reads (signed_decimal z) (Counted (numeral_of z))
signed_reads (pos n) fits = decimal_reads n (omega (arith, fits))
signed_reads (negsuc n) fits =
    let spells = decimal_spells (suc n) (omega (arith, fits)) in
    let digits = solid_digits (decimal (suc n)) spells.all in
    record {
      is_a = simp (not_register 45 (decimal (suc n)) refl, signed_number (negsuc n) fits);
      some = refl;
      solid = simp digits;
    }

-- what begins with another byte is no number
not_number : (b : ℕ) (text : List ℕ) → is_digit b ≡ false → (b == 45) ≡ false → (b == 48) ≡ false → number (b ∷ text) ≡ None
not_number b [] digit sign zero = simp (sign, digit)
not_number b (c ∷ text) digit sign zero = simp (sign, zero, digit)

-- ---- memory

memory_within : (inside : List ℕ) → memory (91 ∷ (inside ++ (93 ∷ []))) ≡ place inside
memory_within inside =
    let long : length (inside ++ (93 ∷ [])) ≡ length inside + 1 = length-append inside (93 ∷ []) in
    let some : nat_le 2 (length (91 ∷ (inside ++ (93 ∷ [])))) ≡ true = grind (arith, nat_tests) in
    let end : length (91 ∷ (inside ++ (93 ∷ []))) - 1 ≡ length (inside ++ (93 ∷ [])) = omega arith in
    let last : slice_index (91 ∷ (inside ++ (93 ∷ []))) (length (91 ∷ (inside ++ (93 ∷ []))) - 1) ≡ 93 = ap (slice_index (91 ∷ (inside ++ (93 ∷ [])))) end ∙ last_index 0 91 (inside ++ (93 ∷ [])) ∙ last_behind 91 inside 93 [] in
    let most : length (91 ∷ (inside ++ (93 ∷ []))) - 2 ≡ length inside = omega arith in
    let front : take (length (91 ∷ (inside ++ (93 ∷ []))) - 2) (inside ++ (93 ∷ [])) ≡ inside = ap (λ (n : ℕ). take n (inside ++ (93 ∷ []))) most ∙ take-append_seam inside (93 ∷ []) in
    simp (some, last, front)

offset_at : (base : Register) (sign : ℕ) (digits : List ℕ) (n : Numeral) → is_sign sign ≡ true → displacement (sign ∷ digits) ≡ Some n → place (register_text base ++ (sign ∷ digits)) ≡ Some (base, n)
offset_at base sign digits n is read =
    let at = position_at is_sign (register_text base) sign digits (register_uncut base).unsigned is in
    let front : take (position_or_len is_sign (register_text base ++ (sign ∷ digits))) (register_text base ++ (sign ∷ digits)) ≡ register_text base = ap (λ (n : ℕ). take n (register_text base ++ (sign ∷ digits))) at ∙ take-append_seam (register_text base) (sign ∷ digits) in
    let behind : drop (position_or_len is_sign (register_text base ++ (sign ∷ digits))) (register_text base ++ (sign ∷ digits)) ≡ sign ∷ digits = ap (λ (n : ℕ). drop n (register_text base ++ (sign ∷ digits))) at ∙ drop-append_seam (register_text base) (sign ∷ digits) in
    simp (front, behind, register_is base, read)

place_is : (base : Register) (offset : ℤ) → FitsSigned w16 offset → place (register_text base ++ offset_text offset) ≡ Some (base, numeral_of offset)
place_is base (pos n) fits = offset_at base 43 (decimal n) (numeral_of (pos n)) refl (offset_displacement (pos n) fits)
place_is base (negsuc n) fits = offset_at base 45 (decimal (suc n)) (numeral_of (negsuc n)) refl (offset_displacement (negsuc n) fits)

offset_solid : (offset : ℤ) → FitsSigned w16 offset → list_all is_solid (offset_text offset) ≡ true
offset_solid (pos n) fits = solid_digits (decimal n) (decimal_spells n (omega (arith, fits))).all
offset_solid (negsuc n) fits = solid_digits (decimal (suc n)) (decimal_spells (suc n) (omega (arith, fits))).all

memory_is : (base : Register) (offset : ℤ) → FitsSigned w16 offset → memory (memory_text base offset) ≡ Some (base, numeral_of offset)
memory_is base offset fits =
    ap (λ (x : List ℕ). memory (91 ∷ x)) (sym (append_assoc (register_text base) (offset_text offset) (93 ∷ []))) ∙ memory_within (register_text base ++ offset_text offset) ∙ place_is base offset fits

pub memory_reads : (base : Register) (offset : ℤ) → FitsSigned w16 offset → Reads (memory_text base offset) (Addressed base (numeral_of offset))
memory_reads base offset fits =
    let rest = register_text base ++ (offset_text offset ++ (93 ∷ [])) in
    let solid : list_all is_solid rest ≡ true = all_both is_solid (register_text base) (offset_text offset ++ (93 ∷ [])) (register_uncut base).solid (all_both is_solid (offset_text offset) (93 ∷ []) (offset_solid offset fits) refl) in
    record {
      is_a = simp (not_register 91 rest refl, not_number 91 rest refl refl refl, memory_is base offset fits);
      some = refl;
      solid = solid;
    }

-- what begins with another byte is no memory operand
not_memory : (b : ℕ) (text : List ℕ) → (b == 91) ≡ false → memory (b ∷ text) ≡ None
not_memory b text other =
    let no : (nat_le 2 (length (b ∷ text)) && ((b == 91) && (slice_index (b ∷ text) (length (b ∷ text) - 1) == 93))) ≡ false = and_no (nat_le 2 (length (b ∷ text))) ((b == 91) && (slice_index (b ∷ text) (length (b ∷ text) - 1) == 93)) (simp other) in
    simp no

-- ---- labels

digit_in_word : (b : ℕ) → is_digit b ≡ true → is_word_byte b ≡ true
digit_in_word b is = grind (arith, nat_tests)

label_word : (k : ℕ) → k < 2 ^ 64 → list_all is_word_byte (decimal k) ≡ true
label_word k small = all_weaker is_digit is_word_byte (decimal k) digit_in_word (decimal_spells k small).all

label_short : (k : ℕ) → k < 2 ^ 64 → nat_le (suc (length (decimal k))) 32 ≡ true
label_short k small =
    let short : length (decimal k) ≤ 20 = length-decimal-le 20 k (omega arith) (omega arith) small in
    grind (arith, nat_tests)

pub label_is_name : (k : ℕ) → k < 2 ^ 64 → is_name (label_text k) ≡ true
label_is_name k small = simp (label_word k small, label_short k small, not_register 76 (decimal k) refl)

pub label_reads : (k : ℕ) → k < 2 ^ 64 → Reads (label_text k) (Named (label_text k))
label_reads k small =
    let solid = solid_digits (decimal k) (decimal_spells k small).all in
    record {
      is_a = simp (not_register 76 (decimal k) refl, not_number 76 (decimal k) refl refl refl, not_memory 76 (decimal k) refl, label_word k small, label_short k small);
      some = refl;
      solid = simp solid;
    }

-- The fields of a unit and its bytes, each from the other, and the fields that an instruction was made of.
use Rattle.std.proofs.Common.{◌≡◌, ℕ, zero, suc, rules, ◌+◌, ◌*◌, ◌/◌, ◌%◌, ◌^◌, ◌<◌, ◌≤◌, true, eqb, List, [], ◌∷◌, ◌++◌, length, get_or, take, drop, Option, Some, None, refl, sym, ap, ◌∙◌, arith, inl, inr}
use Rattle.std.specs.Prelude.{MatchOption, ⊤, slice_index, FitsSigned}
use Rattle.std.specs.List.{AllByRecursion}
use Rattle.std.specs.Int.{w16, w32, cast_signed, to_le_bytes, from_le_bytes}
use Rattle.std.proofs.lemmas.Bool.{cases_lt, eqb-true, eq-eqb, and_parts, and_from}
use Rattle.std.proofs.lemmas.Int.{of_z-to_z}
use Rattle.std.proofs.lemmas.List.{get_or-drop, get_or-take, get_or_past, length-take}
use Rattle.std.proofs.lemmas.Nat.{le_bytes_2, le_bytes_4, from_le_bytes-to_le_bytes_2, from_le_bytes-to_le_bytes_4}
use Rattle.bpf_isa.specs.declared.register.Register.{Register}
use Rattle.bpf_isa.specs.declared.register.Register.TheVariants.{R0, R1, R2, R3, R4, R5, R6, R7, R8, R9, R10}
use Rattle.bpf_isa.specs.declared.instruction.Operation.{Operation}
use Rattle.bpf_isa.specs.declared.instruction.Operation.TheVariants.{Add, Subtract, Multiply, Divide, DivideSigned, Or, And, ShiftLeft, ShiftRight, Modulo, ModuloSigned, Xor, Move, ShiftRightSigned}
use Rattle.bpf_isa.specs.declared.instruction.Operand.TheVariants.{Immediate, Source}
use Rattle.bpf_isa.specs.declared.instruction.Distance.TheVariants.{Near, Far}
use Rattle.bpf_isa.specs.declared.instruction.Instruction.{Instruction}
use Rattle.bpf_isa.specs.declared.instruction.Instruction.TheVariants.{Alu, MoveSigned, Negate, Swap, Jump, Branch, CallHelper, CallLocal, Exit, Load, LoadSigned, Store, StoreRegister, Wide}
use Rattle.bpf_isa.specs.declared.row.Row.{Row}
use Rattle.bpf_isa.specs.declared.row.Row.TheVariants as rows
use Rattle.bpf_isa.specs.Encoding.{Fields, unit_bytes, fields_of, number_of, operation_offset, InstructionFits}
use Rattle.bpf_isa.specs.DecodeErrors.{Field, SourceField, ImmediateField, value_at, operation_choosing, operation_unused, unused_fields, HasRow}
use Rattle.bpf_isa.specs.Reading.{registers, register_at, row_unused, all_zero, instruction_of}
use Rattle.bpf_isa.proofs.Tables.{entry, looked_has}
use Rattle.bpf_isa.proofs.RowLaws.{row_for}

-- ---- bytes

abbrev pub IsBytes : List ℕ → Type 0
IsBytes bytes = (i : ℕ) → get_or bytes i 0 < 256

pub IsBytes-drop : (n : ℕ) (bytes : List ℕ) → IsBytes bytes → IsBytes (drop n bytes)
IsBytes-drop n bytes h i = rw get_or-drop (h (n + i))

pub IsBytes-take : (n : ℕ) (bytes : List ℕ) → IsBytes bytes → IsBytes (take n bytes)
IsBytes-take n bytes h i =
    elim (cases_lt i n) [
      | inl lt ↦ rw (get_or-take n bytes i 0 lt) (h i)
      | inr le ↦ rw (get_or_past (take n bytes) i 0 (omega (arith, length-take n bytes))) (omega arith)
    ]

-- the fields of a unit's bytes
abbrev pub fields_read : List ℕ → Fields
fields_read unit =
    record { opcode = slice_index unit 0; destination = slice_index unit 1 % 16; source = slice_index unit 1 / 16; offset = from_le_bytes w16 (take 2 (drop 2 unit)); immediate = from_le_bytes w32 (drop 4 unit) }

-- the numbers of fields are those of a unit
pub record FieldsFit (f : Fields) : Type 0 where
  pub destination : f.destination < 16
  pub source : f.source < 16
  pub offset : f.offset < 2 ^ 16
  pub immediate : f.immediate < 2 ^ 32

pub fields_fit : (unit : List ℕ) → IsBytes unit → FieldsFit (fields_read unit)
fields_fit unit h = record {
  destination = omega arith;
  source = omega (arith, h 1);
  offset = omega (arith, IsBytes-take 2 (drop 2 unit) (IsBytes-drop 2 unit h) 0, IsBytes-take 2 (drop 2 unit) (IsBytes-drop 2 unit h) 1);
  immediate = omega (arith, IsBytes-drop 4 unit h 0, IsBytes-drop 4 unit h 1, IsBytes-drop 4 unit h 2, IsBytes-drop 4 unit h 3);
}

abbrev made : ℕ → ℕ → ℕ → ℕ → ℕ → Fields
made a b c d e = record { opcode = a; destination = b; source = c; offset = d; immediate = e }

pub same_fields : (f g : Fields) → f.opcode ≡ g.opcode → f.destination ≡ g.destination → f.source ≡ g.source → f.offset ≡ g.offset → f.immediate ≡ g.immediate → f ≡ g
same_fields f g a b c d e =
    ap (λ (n : ℕ). made n f.destination f.source f.offset f.immediate) a ∙ ap (λ (n : ℕ). made g.opcode n f.source f.offset f.immediate) b ∙ ap (λ (n : ℕ). made g.opcode g.destination n f.offset f.immediate) c ∙ ap (λ (n : ℕ). made g.opcode g.destination g.source n f.immediate) d ∙ ap (λ (n : ℕ). made g.opcode g.destination g.source g.offset n) e

-- the bytes of the fields of a unit are the unit
pub unit_again : (unit : List ℕ) → length unit ≡ 8 → IsBytes unit → unit_bytes (fields_read unit) ≡ unit
unit_again [] len fits = absurd (omega (arith, len))
unit_again (a ∷ []) len fits = absurd (omega (arith, len))
unit_again (a ∷ b ∷ []) len fits = absurd (omega (arith, len))
unit_again (a ∷ b ∷ c ∷ []) len fits = absurd (omega (arith, len))
unit_again (a ∷ b ∷ c ∷ d ∷ []) len fits = absurd (omega (arith, len))
unit_again (a ∷ b ∷ c ∷ d ∷ e ∷ []) len fits = absurd (omega (arith, len))
unit_again (a ∷ b ∷ c ∷ d ∷ e ∷ g ∷ []) len fits = absurd (omega (arith, len))
unit_again (a ∷ b ∷ c ∷ d ∷ e ∷ g ∷ h ∷ []) len fits = absurd (omega (arith, len))
unit_again (a ∷ b ∷ c ∷ d ∷ e ∷ g ∷ h ∷ k ∷ []) len fits =
    let second : 16 * (b / 16) + b % 16 ≡ b = omega arith in
    let offset : to_le_bytes w16 (from_le_bytes w16 (c ∷ d ∷ [])) ≡ c ∷ d ∷ [] = le_bytes_2 (c ∷ d ∷ []) _ refl (IsBytes-take 2 (c ∷ d ∷ e ∷ g ∷ h ∷ k ∷ []) (IsBytes-drop 2 (a ∷ b ∷ c ∷ d ∷ e ∷ g ∷ h ∷ k ∷ []) fits)) refl in
    let immediate : to_le_bytes w32 (from_le_bytes w32 (e ∷ g ∷ h ∷ k ∷ [])) ≡ e ∷ g ∷ h ∷ k ∷ [] = le_bytes_4 (e ∷ g ∷ h ∷ k ∷ []) _ refl (IsBytes-drop 4 (a ∷ b ∷ c ∷ d ∷ e ∷ g ∷ h ∷ k ∷ []) fits) refl in
    ap (λ (n : ℕ). (a ∷ n ∷ []) ++ (to_le_bytes w16 (from_le_bytes w16 (c ∷ d ∷ [])) ++ to_le_bytes w32 (from_le_bytes w32 (e ∷ g ∷ h ∷ k ∷ [])))) second ∙ ap (λ (xs : List ℕ). (a ∷ b ∷ []) ++ (xs ++ to_le_bytes w32 (from_le_bytes w32 (e ∷ g ∷ h ∷ k ∷ [])))) offset ∙ ap (λ (xs : List ℕ). (a ∷ b ∷ []) ++ ((c ∷ d ∷ []) ++ xs)) immediate
unit_again (a ∷ b ∷ c ∷ d ∷ e ∷ g ∷ h ∷ k ∷ l ∷ rest) len fits = absurd (omega (arith, len))

-- the fields of the bytes of fields are the fields
pub fields_again : (f : Fields) → FieldsFit f → fields_read (unit_bytes f) ≡ f
fields_again f fits =
    same_fields (fields_read (unit_bytes f)) f refl (let low : (16 * f.source + f.destination) % 16 ≡ f.destination = omega (arith, fits.destination) in low) (let high : (16 * f.source + f.destination) / 16 ≡ f.source = omega (arith, fits.destination) in high) (from_le_bytes-to_le_bytes_2 f.offset fits.offset) (from_le_bytes-to_le_bytes_4 f.immediate fits.immediate)

-- ---- registers

pub register_again : (r : Register) → register_at (number_of r) ≡ Some r
unfolding register_at
register_again R0 = refl
register_again R1 = refl
register_again R2 = refl
register_again R3 = refl
register_again R4 = refl
register_again R5 = refl
register_again R6 = refl
register_again R7 = refl
register_again R8 = refl
register_again R9 = refl
register_again R10 = refl

pub register_has : (n : ℕ) (r : Register) → register_at n ≡ Some r → number_of r ≡ n
unfolding register_at
register_has n r e =
    looked_has (λ k x. number_of x ≡ k) registers n r (entry (λ x. number_of x ≡ 0) R0 refl, (entry (λ x. number_of x ≡ 1) R1 refl, (entry (λ x. number_of x ≡ 2) R2 refl, (entry (λ x. number_of x ≡ 3) R3 refl, (entry (λ x. number_of x ≡ 4) R4 refl, (entry (λ x. number_of x ≡ 5) R5 refl, (entry (λ x. number_of x ≡ 6) R6 refl, (entry (λ x. number_of x ≡ 7) R7 refl, (entry (λ x. number_of x ≡ 8) R8 refl, (entry (λ x. number_of x ≡ 9) R9 refl, (entry (λ x. number_of x ≡ 10) R10 refl, tt))))))))))) e

pub register_limit : (r : Register) → number_of r ≤ 10
register_limit R0 = omega arith
register_limit R1 = omega arith
register_limit R2 = omega arith
register_limit R3 = omega arith
register_limit R4 = omega arith
register_limit R5 = omega arith
register_limit R6 = omega arith
register_limit R7 = omega arith
register_limit R8 = omega arith
register_limit R9 = omega arith
register_limit R10 = omega arith

pub register_some : (n : ℕ) → n ≤ 10 → (r : Register) × (register_at n ≡ Some r)
unfolding register_at
register_some zero h = (R0, refl)
register_some (suc zero) h = (R1, refl)
register_some (suc (suc zero)) h = (R2, refl)
register_some (suc (suc (suc zero))) h = (R3, refl)
register_some (suc (suc (suc (suc zero)))) h = (R4, refl)
register_some (suc (suc (suc (suc (suc zero))))) h = (R5, refl)
register_some (suc (suc (suc (suc (suc (suc zero)))))) h = (R6, refl)
register_some (suc (suc (suc (suc (suc (suc (suc zero))))))) h = (R7, refl)
register_some (suc (suc (suc (suc (suc (suc (suc (suc zero)))))))) h = (R8, refl)
register_some (suc (suc (suc (suc (suc (suc (suc (suc (suc zero))))))))) h = (R9, refl)
register_some (suc (suc (suc (suc (suc (suc (suc (suc (suc (suc zero)))))))))) h = (R10, refl)
register_some (suc (suc (suc (suc (suc (suc (suc (suc (suc (suc (suc n))))))))))) h = absurd (omega (arith, h))

-- ---- fields that are not used

pub zero_from_test : (fields : List Field) (f : Fields) → all_zero fields f ≡ true → AllByRecursion (λ field. value_at field f ≡ 0) fields
zero_from_test [] f e = tt
zero_from_test (field ∷ fields) f e =
    let p = and_parts (eqb (value_at field f) 0) (all_zero fields f) e in
    (eqb-true _ _ p.0, zero_from_test fields f p.1)

pub test_from_zero : (fields : List Field) (f : Fields) → AllByRecursion (λ field. value_at field f ≡ 0) fields → all_zero fields f ≡ true
test_from_zero [] f h = refl
test_from_zero (field ∷ fields) f h =
    and_from (eqb (value_at field f) 0) (all_zero fields f) (eq-eqb _ _ h.0) (test_from_zero fields f h.1)

pub unused-row : (i : Instruction) → unused_fields i ≡ row_unused (row_for i)
unused-row (Alu width operation d (Immediate n)) = refl
unused-row (Alu width operation d (Source s)) = refl
unused-row (MoveSigned extension d s) = refl
unused-row (Negate width d) = refl
unused-row (Swap order bits d) = refl
unused-row (Jump (Near n)) = refl
unused-row (Jump (Far n)) = refl
unused-row (Branch width comparison d (Immediate n) t) = refl
unused-row (Branch width comparison d (Source s) t) = refl
unused-row (CallHelper n) = refl
unused-row (CallLocal n) = refl
unused-row Exit = refl
unused-row (Load size d b o) = refl
unused-row (LoadSigned size d b o) = refl
unused-row (Store size b o n) = refl
unused-row (StoreRegister size b o s) = refl
unused-row (Wide d v) = refl

pub unused-instruction : (row : Row) (d s : Register) (f : Fields) (upper : ℕ) → unused_fields (instruction_of row d s f upper) ≡ row_unused row
unused-instruction (rows.ImmediateAlu width operation) d s f upper = refl
unused-instruction (rows.RegisterAlu width operation) d s f upper = refl
unused-instruction (rows.MoveSigned extension) d s f upper = refl
unused-instruction (rows.Negate width) d s f upper = refl
unused-instruction (rows.Swap order bits) d s f upper = refl
unused-instruction rows.NearJump d s f upper = refl
unused-instruction rows.FarJump d s f upper = refl
unused-instruction (rows.ImmediateBranch width comparison) d s f upper = refl
unused-instruction (rows.RegisterBranch width comparison) d s f upper = refl
unused-instruction rows.CallHelper d s f upper = refl
unused-instruction rows.CallLocal d s f upper = refl
unused-instruction rows.Exit d s f upper = refl
unused-instruction (rows.Load size) d s f upper = refl
unused-instruction (rows.LoadSigned size) d s f upper = refl
unused-instruction (rows.Store size) d s f upper = refl
unused-instruction (rows.StoreRegister size) d s f upper = refl
unused-instruction rows.Wide d s f upper = refl

-- ---- an instruction's fields are those that it was made of

operation_rest : (o : Option Field) (f : Fields) (field : Field) → AllByRecursion (λ x. value_at x f ≡ 0) (operation_unused o (field ∷ [])) → value_at field f ≡ 0
operation_rest None f field h = h.1.0
operation_rest (Some x) f field h = h.0

operation_offset_is : (operation : Operation) (g f : Fields) (rest : List Field) → g.offset ≡ operation_offset operation → MatchOption (operation_choosing operation) ⊤ (λ field. value_at field g ≡ value_at field f) → AllByRecursion (λ x. value_at x f ≡ 0) (operation_unused (operation_choosing operation) rest) → operation_offset operation ≡ f.offset
operation_offset_is Add g f rest e h z = sym z.0
operation_offset_is Subtract g f rest e h z = sym z.0
operation_offset_is Multiply g f rest e h z = sym z.0
operation_offset_is Divide g f rest e h z = sym e ∙ h
operation_offset_is DivideSigned g f rest e h z = sym e ∙ h
operation_offset_is Or g f rest e h z = sym z.0
operation_offset_is And g f rest e h z = sym z.0
operation_offset_is ShiftLeft g f rest e h z = sym z.0
operation_offset_is ShiftRight g f rest e h z = sym z.0
operation_offset_is Modulo g f rest e h z = sym e ∙ h
operation_offset_is ModuloSigned g f rest e h z = sym e ∙ h
operation_offset_is Xor g f rest e h z = sym z.0
operation_offset_is Move g f rest e h z = sym e ∙ h
operation_offset_is ShiftRightSigned g f rest e h z = sym z.0

-- the numbers of an instruction's registers are what its register fields say
pub record HasNumbers (d s : Register) (f : Fields) : Type 0 where
  pub destination : number_of d ≡ f.destination
  pub source : number_of s ≡ f.source

pub fields_of-instruction : (row : Row) (d s : Register) (f : Fields) (upper : ℕ) → HasRow (instruction_of row d s f upper) f → AllByRecursion (λ x. value_at x f ≡ 0) (row_unused row) → HasNumbers d s f → FieldsFit f → fields_of (instruction_of row d s f upper) ≡ f
fields_of-instruction (rows.ImmediateAlu width operation) d s f upper h z n fits = same_fields (fields_of (instruction_of (rows.ImmediateAlu width operation) d s f upper)) f h.0 n.destination (sym (operation_rest (operation_choosing operation) f SourceField z)) (operation_offset_is operation (fields_of (instruction_of (rows.ImmediateAlu width operation) d s f upper)) f _ refl h.1 z) (of_z-to_z w32 f.immediate fits.immediate)
fields_of-instruction (rows.RegisterAlu width operation) d s f upper h z n fits = same_fields (fields_of (instruction_of (rows.RegisterAlu width operation) d s f upper)) f h.0 n.destination n.source (operation_offset_is operation (fields_of (instruction_of (rows.RegisterAlu width operation) d s f upper)) f _ refl h.1 z) (sym (operation_rest (operation_choosing operation) f ImmediateField z))
fields_of-instruction (rows.MoveSigned extension) d s f upper h z n fits = same_fields (fields_of (instruction_of (rows.MoveSigned extension) d s f upper)) f h.0 n.destination n.source h.1 (sym z.0)
fields_of-instruction (rows.Negate width) d s f upper h z n fits = same_fields (fields_of (instruction_of (rows.Negate width) d s f upper)) f h.0 n.destination (sym z.0) (sym z.1.0) (sym z.1.1.0)
fields_of-instruction (rows.Swap order bits) d s f upper h z n fits = same_fields (fields_of (instruction_of (rows.Swap order bits) d s f upper)) f h.0 n.destination (sym z.0) (sym z.1.0) (h.1)
fields_of-instruction rows.NearJump d s f upper h z n fits = same_fields (fields_of (instruction_of rows.NearJump d s f upper)) f h.0 (sym z.0) (sym z.1.0) (of_z-to_z w16 f.offset fits.offset) (sym z.1.1.0)
fields_of-instruction rows.FarJump d s f upper h z n fits = same_fields (fields_of (instruction_of rows.FarJump d s f upper)) f h.0 (sym z.0) (sym z.1.0) (sym z.1.1.0) (of_z-to_z w32 f.immediate fits.immediate)
fields_of-instruction (rows.ImmediateBranch width comparison) d s f upper h z n fits = same_fields (fields_of (instruction_of (rows.ImmediateBranch width comparison) d s f upper)) f h.0 n.destination (sym z.0) (of_z-to_z w16 f.offset fits.offset) (of_z-to_z w32 f.immediate fits.immediate)
fields_of-instruction (rows.RegisterBranch width comparison) d s f upper h z n fits = same_fields (fields_of (instruction_of (rows.RegisterBranch width comparison) d s f upper)) f h.0 n.destination n.source (of_z-to_z w16 f.offset fits.offset) (sym z.0)
fields_of-instruction rows.CallHelper d s f upper h z n fits = same_fields (fields_of (instruction_of rows.CallHelper d s f upper)) f h.0 (sym z.0) h.1 (sym z.1.0) (of_z-to_z w32 f.immediate fits.immediate)
fields_of-instruction rows.CallLocal d s f upper h z n fits = same_fields (fields_of (instruction_of rows.CallLocal d s f upper)) f h.0 (sym z.0) h.1 (sym z.1.0) (of_z-to_z w32 f.immediate fits.immediate)
fields_of-instruction rows.Exit d s f upper h z n fits = same_fields (fields_of (instruction_of rows.Exit d s f upper)) f h.0 (sym z.0) (sym z.1.0) (sym z.1.1.0) (sym z.1.1.1.0)
fields_of-instruction (rows.Load size) d s f upper h z n fits = same_fields (fields_of (instruction_of (rows.Load size) d s f upper)) f h.0 n.destination n.source (of_z-to_z w16 f.offset fits.offset) (sym z.0)
fields_of-instruction (rows.LoadSigned size) d s f upper h z n fits = same_fields (fields_of (instruction_of (rows.LoadSigned size) d s f upper)) f h.0 n.destination n.source (of_z-to_z w16 f.offset fits.offset) (sym z.0)
fields_of-instruction (rows.Store size) d s f upper h z n fits = same_fields (fields_of (instruction_of (rows.Store size) d s f upper)) f h.0 n.destination (sym z.0) (of_z-to_z w16 f.offset fits.offset) (of_z-to_z w32 f.immediate fits.immediate)
fields_of-instruction (rows.StoreRegister size) d s f upper h z n fits = same_fields (fields_of (instruction_of (rows.StoreRegister size) d s f upper)) f h.0 n.destination n.source (of_z-to_z w16 f.offset fits.offset) (sym z.0)
fields_of-instruction rows.Wide d s f upper h z n fits = same_fields (fields_of (instruction_of rows.Wide d s f upper)) f h.0 n.destination h.1 (sym z.0) (let low : (f.immediate + 2 ^ 32 * upper) % 2 ^ 32 ≡ f.immediate = omega (arith, fits.immediate) in low)

pub fits_signed_16 : (n : ℕ) → n < 2 ^ 16 → FitsSigned w16 (cast_signed w16 n)
fits_signed_16 n h = search rules

pub fits_signed_32 : (n : ℕ) → n < 2 ^ 32 → FitsSigned w32 (cast_signed w32 n)
fits_signed_32 n h = search rules

pub instruction_fits : (row : Row) (d s : Register) (f : Fields) (upper : ℕ) → FieldsFit f → upper < 2 ^ 32 → InstructionFits (instruction_of row d s f upper)
instruction_fits (rows.ImmediateAlu width operation) d s f upper fits h = fits_signed_32 f.immediate fits.immediate
instruction_fits (rows.RegisterAlu width operation) d s f upper fits h = tt
instruction_fits (rows.MoveSigned extension) d s f upper fits h = tt
instruction_fits (rows.Negate width) d s f upper fits h = tt
instruction_fits (rows.Swap order bits) d s f upper fits h = tt
instruction_fits rows.NearJump d s f upper fits h = fits_signed_16 f.offset fits.offset
instruction_fits rows.FarJump d s f upper fits h = fits_signed_32 f.immediate fits.immediate
instruction_fits (rows.ImmediateBranch width comparison) d s f upper fits h = (fits_signed_32 f.immediate fits.immediate, fits_signed_16 f.offset fits.offset)
instruction_fits (rows.RegisterBranch width comparison) d s f upper fits h = (tt, fits_signed_16 f.offset fits.offset)
instruction_fits rows.CallHelper d s f upper fits h = fits_signed_32 f.immediate fits.immediate
instruction_fits rows.CallLocal d s f upper fits h = fits_signed_32 f.immediate fits.immediate
instruction_fits rows.Exit d s f upper fits h = tt
instruction_fits (rows.Load size) d s f upper fits h = fits_signed_16 f.offset fits.offset
instruction_fits (rows.LoadSigned size) d s f upper fits h = fits_signed_16 f.offset fits.offset
instruction_fits (rows.Store size) d s f upper fits h = (fits_signed_16 f.offset fits.offset, fits_signed_32 f.immediate fits.immediate)
instruction_fits (rows.StoreRegister size) d s f upper fits h = fits_signed_16 f.offset fits.offset
instruction_fits rows.Wide d s f upper fits h = omega (arith, fits.immediate)

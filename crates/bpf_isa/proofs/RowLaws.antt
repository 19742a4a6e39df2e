-- The row of the table that fields choose is a row that they have, and the only one.
use Rattle.std.proofs.Common.{◌≡◌, ℕ, lit<, ◌+◌, ◌*◌, ◌/◌, ◌%◌, ◌<◌, cond, eqb, ltb, [], ◌∷◌, Option, Some, None, refl, sym, ap, subst, ◌∙◌, arith, inl, inr}
use Rattle.std.specs.Prelude.{option_map, MatchOption, ⊤}
use Rattle.std.specs.Int.{w32, cast_signed}
use Rattle.std.proofs.lemmas.Bool.{eqb-true, eqb-false, cond-true, cond-false}
use Rattle.std.proofs.lemmas.Option.{same_Some}
use Rattle.bpf_isa.specs.declared.register.Register.{Register}
use Rattle.bpf_isa.specs.declared.instruction.Width.{Width}
use Rattle.bpf_isa.specs.declared.instruction.Width.TheVariants.{Bits32, Bits64}
use Rattle.bpf_isa.specs.declared.instruction.Operation.{Operation}
use Rattle.bpf_isa.specs.declared.instruction.Operation.TheVariants.{Add, Subtract, Multiply, Divide, DivideSigned, Or, And, ShiftLeft, ShiftRight, Modulo, ModuloSigned, Xor, Move, ShiftRightSigned}
use Rattle.bpf_isa.specs.declared.instruction.Comparison.{Comparison}
use Rattle.bpf_isa.specs.declared.instruction.Comparison.TheVariants.{Equal, Greater, GreaterOrEqual, SharesBit, NotEqual, GreaterSigned, GreaterOrEqualSigned, Less, LessOrEqual, LessSigned, LessOrEqualSigned}
use Rattle.bpf_isa.specs.declared.instruction.Operand.TheVariants.{Immediate, Source}
use Rattle.bpf_isa.specs.declared.instruction.Size.{Size}
use Rattle.bpf_isa.specs.declared.instruction.Size.TheVariants.{Byte, Half, Word, Double}
use Rattle.bpf_isa.specs.declared.instruction.SignedSize.{SignedSize}
use Rattle.bpf_isa.specs.declared.instruction.SignedSize.TheVariants.{SignedByte, SignedHalf, SignedWord}
use Rattle.bpf_isa.specs.declared.instruction.Extension.{Extension}
use Rattle.bpf_isa.specs.declared.instruction.Extension.TheVariants.{From8To32, From16To32, From8To64, From16To64, From32To64}
use Rattle.bpf_isa.specs.declared.instruction.ByteOrder.{ByteOrder}
use Rattle.bpf_isa.specs.declared.instruction.ByteOrder.TheVariants.{Little, Big, Reversed}
use Rattle.bpf_isa.specs.declared.instruction.SwapBits.{SwapBits}
use Rattle.bpf_isa.specs.declared.instruction.SwapBits.TheVariants.{Low16, Low32, Low64}
use Rattle.bpf_isa.specs.declared.instruction.Distance.TheVariants.{Near, Far}
use Rattle.bpf_isa.specs.declared.instruction.Instruction.{Instruction}
use Rattle.bpf_isa.specs.declared.instruction.Instruction.TheVariants.{Alu, MoveSigned, Negate, Swap, Jump, Branch, CallHelper, CallLocal, Exit, Load, LoadSigned, Store, StoreRegister, Wide}
use Rattle.bpf_isa.specs.declared.row.Row.{Row}
use Rattle.bpf_isa.specs.declared.row.Row.TheVariants as rows
use Rattle.bpf_isa.specs.Encoding.{Fields, fields_of, alu_class, jump_class, operation_code, operation_offset, comparison_code, size_bits, signed_size_bits, extension_width, extension_bits, swap_opcode, swap_bits}
use Rattle.bpf_isa.specs.DecodeErrors.{value_at, operation_choosing, HasRow}
use Rattle.bpf_isa.specs.Reading.{lookup, divisions, operations, operation_at, comparisons, comparison_at, sizes, size_at, signed_sizes, signed_size_at, extensions, extension_at, swaps, swap_bits_at, swap_row, immediate_swap, register_swap, immediate_alu, move_row, register_alu, alu_row, jump_of, calls, call_row, return_row, immediate_jump, jump_row, load_row, wide_row, classes, class_row, row_at, instruction_of}
use Rattle.bpf_isa.proofs.Tables.{chosen, entry, looked_has, mapped}

-- the row of an instruction
abbrev pub row_for : Instruction → Row
row_for (Alu width operation destination (Immediate n)) = rows.ImmediateAlu width operation
row_for (Alu width operation destination (Source r)) = rows.RegisterAlu width operation
row_for (MoveSigned extension destination source) = rows.MoveSigned extension
row_for (Negate width destination) = rows.Negate width
row_for (Swap order bits destination) = rows.Swap order bits
row_for (Jump (Near n)) = rows.NearJump
row_for (Jump (Far n)) = rows.FarJump
row_for (Branch width comparison left (Immediate n) distance) = rows.ImmediateBranch width comparison
row_for (Branch width comparison left (Source r) distance) = rows.RegisterBranch width comparison
row_for (CallHelper number) = rows.CallHelper
row_for (CallLocal distance) = rows.CallLocal
row_for Exit = rows.Exit
row_for (Load size destination base offset) = rows.Load size
row_for (LoadSigned size destination base offset) = rows.LoadSigned size
row_for (Store size base offset immediate) = rows.Store size
row_for (StoreRegister size base offset source) = rows.StoreRegister size
row_for (Wide destination value) = rows.Wide

-- ---- from fields to the row that they have

-- the offset field is the operation's, where it chooses the row
abbrev pub OffsetIs : Operation → ℕ → Type 0
OffsetIs operation offset = MatchOption (operation_choosing operation) ⊤ (λ field. operation_offset operation ≡ offset)

abbrev HasOperation : ℕ → ℕ → Operation → Type 0
HasOperation offset code operation = (operation_code operation ≡ code) × OffsetIs operation offset

division_has : (code : ℕ) (unsigned signed : Operation) (offset : ℕ) (x : Operation) → HasOperation 0 code unsigned → HasOperation 1 code signed → lookup (divisions unsigned signed) offset ≡ Some x → HasOperation offset code x
division_has code unsigned signed offset x p q e =
    looked_has (λ n y. HasOperation n code y) (divisions unsigned signed) offset x (entry (HasOperation 0 code) unsigned p, (entry (HasOperation 1 code) signed q, tt)) e

move_has : (offset : ℕ) (x : Operation) → lookup ((0, Some Move) ∷ []) offset ≡ Some x → HasOperation offset 11 x
move_has offset x e =
    looked_has (λ n y. HasOperation n 11 y) ((0, Some Move) ∷ []) offset x (entry (HasOperation 0 11) Move (refl, refl), tt) e

operation_has : (code offset : ℕ) (operation : Operation) → operation_at code offset ≡ Some operation → HasOperation offset code operation
operation_has code offset operation e =
    looked_has (HasOperation offset) (operations offset) code operation
    (entry (HasOperation offset 0) Add (refl, tt), (entry (HasOperation offset 1) Subtract (refl, tt), (entry (HasOperation offset 2) Multiply (refl, tt), ((λ x h. division_has 3 Divide DivideSigned offset x (refl, refl) (refl, refl) h), (entry (HasOperation offset 4) Or (refl, tt), (entry (HasOperation offset 5) And (refl, tt), (entry (HasOperation offset 6) ShiftLeft (refl, tt), (entry (HasOperation offset 7) ShiftRight (refl, tt), ((λ x h. division_has 9 Modulo ModuloSigned offset x (refl, refl) (refl, refl) h), (entry (HasOperation offset 10) Xor (refl, tt), (move_has offset, (entry (HasOperation offset 12) ShiftRightSigned (refl, tt), tt)))))))))))) e

comparison_has : (code : ℕ) (comparison : Comparison) → comparison_at code ≡ Some comparison → comparison_code comparison ≡ code
comparison_has code comparison e =
    looked_has (λ n x. comparison_code x ≡ n) comparisons code comparison
    (entry (λ x. comparison_code x ≡ 1) Equal refl, (entry (λ x. comparison_code x ≡ 2) Greater refl, (entry (λ x. comparison_code x ≡ 3) GreaterOrEqual refl, (entry (λ x. comparison_code x ≡ 4) SharesBit refl, (entry (λ x. comparison_code x ≡ 5) NotEqual refl, (entry (λ x. comparison_code x ≡ 6) GreaterSigned refl, (entry (λ x. comparison_code x ≡ 7) GreaterOrEqualSigned refl, (entry (λ x. comparison_code x ≡ 10) Less refl, (entry (λ x. comparison_code x ≡ 11) LessOrEqual refl, (entry (λ x. comparison_code x ≡ 12) LessSigned refl, (entry (λ x. comparison_code x ≡ 13) LessOrEqualSigned refl, tt))))))))))) e

size_has : (high : ℕ) (size : Size) → size_at high ≡ Some size → 96 + size_bits size ≡ 8 * high
size_has high size e =
    looked_has (λ n x. 96 + size_bits x ≡ 8 * n) sizes high size
    (entry (λ x. 96 + size_bits x ≡ 8 * 12) Word refl, (entry (λ x. 96 + size_bits x ≡ 8 * 13) Half refl, (entry (λ x. 96 + size_bits x ≡ 8 * 14) Byte refl, (entry (λ x. 96 + size_bits x ≡ 8 * 15) Double refl, tt)))) e

signed_size_has : (high : ℕ) (size : SignedSize) → signed_size_at high ≡ Some size → 128 + signed_size_bits size ≡ 8 * high
signed_size_has high size e =
    looked_has (λ n x. 128 + signed_size_bits x ≡ 8 * n) signed_sizes high size
    (entry (λ x. 128 + signed_size_bits x ≡ 8 * 16) SignedWord refl, (entry (λ x. 128 + signed_size_bits x ≡ 8 * 17) SignedHalf refl, (entry (λ x. 128 + signed_size_bits x ≡ 8 * 18) SignedByte refl, tt))) e

abbrev HasExtension : Width → ℕ → Extension → Type 0
HasExtension width offset extension = (extension_width extension ≡ width) × (extension_bits extension ≡ offset)

extension_has : (width : Width) (offset : ℕ) (extension : Extension) → extension_at width offset ≡ Some extension → HasExtension width offset extension
extension_has Bits32 offset extension e =
    looked_has (HasExtension Bits32) (extensions Bits32) offset extension (entry (HasExtension Bits32 8) From8To32 (refl, refl), (entry (HasExtension Bits32 16) From16To32 (refl, refl), tt)) e
extension_has Bits64 offset extension e =
    looked_has (HasExtension Bits64) (extensions Bits64) offset extension (entry (HasExtension Bits64 8) From8To64 (refl, refl), (entry (HasExtension Bits64 16) From16To64 (refl, refl), (entry (HasExtension Bits64 32) From32To64 (refl, refl), tt))) e

swap_bits_has : (immediate : ℕ) (bits : SwapBits) → swap_bits_at immediate ≡ Some bits → swap_bits bits ≡ immediate
swap_bits_has immediate bits e =
    looked_has (λ n x. swap_bits x ≡ n) swaps immediate bits
    (entry (λ x. swap_bits x ≡ 16) Low16 refl, (entry (λ x. swap_bits x ≡ 32) Low32 refl, (entry (λ x. swap_bits x ≡ 64) Low64 refl, tt))) e

-- each instruction of the row has its opcode and its choosing field
abbrev pub Has : Fields → Row → Type 0
Has f row = (d s : Register) (upper : ℕ) → HasRow (instruction_of row d s f upper) f

-- an offset field that chooses, as a choosing field
offset_chooses : (operation : Operation) (g f : Fields) → g.offset ≡ operation_offset operation → OffsetIs operation f.offset → MatchOption (operation_choosing operation) ⊤ (λ field. value_at field g ≡ value_at field f)
offset_chooses Add g f e h = tt
offset_chooses Subtract g f e h = tt
offset_chooses Multiply g f e h = tt
offset_chooses Divide g f e h = e ∙ h
offset_chooses DivideSigned g f e h = e ∙ h
offset_chooses Or g f e h = tt
offset_chooses And g f e h = tt
offset_chooses ShiftLeft g f e h = tt
offset_chooses ShiftRight g f e h = tt
offset_chooses Modulo g f e h = e ∙ h
offset_chooses ModuloSigned g f e h = e ∙ h
offset_chooses Xor g f e h = tt
offset_chooses Move g f e h = e ∙ h
offset_chooses ShiftRightSigned g f e h = tt

swap_has : (order : ByteOrder) (f : Fields) (row : Row) → f.opcode ≡ swap_opcode order → swap_row order f.immediate ≡ Some row → Has f row
swap_has order f row o e =
    let m = mapped (rows.Swap order) (swap_bits_at f.immediate) row e in
    subst (Has f) m.2 (λ d s upper. (sym o, swap_bits_has f.immediate m.0 m.1))

immediate_swap_has : (width : Width) (code : ℕ) (f : Fields) (row : Row) → f.opcode ≡ 16 * code + alu_class width → code ≡ 13 → immediate_swap width f.immediate ≡ Some row → Has f row
immediate_swap_has Bits32 code f row o c e = swap_has Little f row (omega arith) e
immediate_swap_has Bits64 code f row o c e = swap_has Reversed f row (omega arith) e

register_swap_has : (width : Width) (code : ℕ) (f : Fields) (row : Row) → f.opcode ≡ 16 * code + 8 + alu_class width → code ≡ 13 → register_swap width f.immediate ≡ Some row → Has f row
register_swap_has Bits32 code f row o c e = swap_has Big f row (omega arith) e
register_swap_has Bits64 code f row o c e = absurd cc

immediate_alu_has : (width : Width) (code : ℕ) (f : Fields) (row : Row) → f.opcode ≡ 16 * code + alu_class width → immediate_alu width code f ≡ Some row → Has f row
immediate_alu_has width code f row o e =
    elim (chosen (eqb code 8) (Some (rows.Negate width)) (cond (eqb code 13) (immediate_swap width f.immediate) (option_map (rows.ImmediateAlu width) (operation_at code f.offset))) (Some row) e) [
      | inl h ↦ let c = eqb-true code 8 h.0 in subst (Has f) (same_Some (rows.Negate width) row h.1) (λ d s upper. (omega arith, tt))
      | inr h ↦
          elim (chosen (eqb code 13) (immediate_swap width f.immediate) (option_map (rows.ImmediateAlu width) (operation_at code f.offset)) (Some row) h.1) [
            | inl k ↦ immediate_swap_has width code f row o (eqb-true code 13 k.0) k.1
            | inr k ↦
                let m = mapped (rows.ImmediateAlu width) (operation_at code f.offset) row k.1 in
                let p = operation_has code f.offset m.0 m.1 in
                subst (Has f) m.2 (λ d s upper. (omega (arith, p.0), offset_chooses m.0 (fields_of (Alu width m.0 d (Immediate (cast_signed w32 f.immediate)))) f refl p.1))
          ]
    ]

move_row_has : (width : Width) (code : ℕ) (f : Fields) (row : Row) → f.opcode ≡ 16 * code + 8 + alu_class width → code ≡ 11 → move_row width f.offset ≡ Some row → Has f row
move_row_has width code f row o c e =
    elim (chosen (eqb f.offset 0) (Some (rows.RegisterAlu width Move)) (option_map rows.MoveSigned (extension_at width f.offset)) (Some row) e) [
      | inl h ↦
          let z = eqb-true f.offset 0 h.0 in
          subst (Has f) (same_Some (rows.RegisterAlu width Move) row h.1) (λ d s upper. (omega arith, sym z))
      | inr h ↦
          let m = mapped rows.MoveSigned (extension_at width f.offset) row h.1 in
          let p = extension_has width f.offset m.0 m.1 in
          let class : alu_class (extension_width m.0) ≡ alu_class width = ap alu_class p.0 in
          subst (Has f) m.2 (λ d s upper. (omega (arith, class), p.1))
    ]

register_alu_has : (width : Width) (code : ℕ) (f : Fields) (row : Row) → f.opcode ≡ 16 * code + 8 + alu_class width → register_alu width code f ≡ Some row → Has f row
register_alu_has width code f row o e =
    elim (chosen (eqb code 11) (move_row width f.offset) (cond (eqb code 13) (register_swap width f.immediate) (option_map (rows.RegisterAlu width) (operation_at code f.offset))) (Some row) e) [
      | inl h ↦ move_row_has width code f row o (eqb-true code 11 h.0) h.1
      | inr h ↦
          elim (chosen (eqb code 13) (register_swap width f.immediate) (option_map (rows.RegisterAlu width) (operation_at code f.offset)) (Some row) h.1) [
            | inl k ↦ register_swap_has width code f row o (eqb-true code 13 k.0) k.1
            | inr k ↦
                let m = mapped (rows.RegisterAlu width) (operation_at code f.offset) row k.1 in
                let p = operation_has code f.offset m.0 m.1 in
                subst (Has f) m.2 (λ d s upper. (omega (arith, p.0), offset_chooses m.0 (fields_of (Alu width m.0 d (Source s))) f refl p.1))
          ]
    ]

alu_has : (width : Width) (high : ℕ) (f : Fields) (row : Row) → f.opcode ≡ 8 * high + alu_class width → alu_row width high f ≡ Some row → Has f row
alu_has width high f row o e =
    elim (chosen (eqb (high % 2) 0) (immediate_alu width (high / 2) f) (register_alu width (high / 2) f) (Some row) e) [
      | inl h ↦ let z = eqb-true (high % 2) 0 h.0 in immediate_alu_has width (high / 2) f row (omega arith) h.1
      | inr h ↦ let z = eqb-false (high % 2) 0 h.0 in register_alu_has width (high / 2) f row (omega arith) h.1
    ]

call_has : (width : Width) (f : Fields) (row : Row) → f.opcode ≡ 128 + jump_class width → call_row width f.source ≡ Some row → Has f row
call_has Bits32 f row o e = absurd cc
call_has Bits64 f row o e =
    looked_has (λ n x. n ≡ f.source → Has f x) calls f.source row (entry (λ x. 0 ≡ f.source → Has f x) rows.CallHelper (λ h d s upper. (sym o, h)), (entry (λ x. 1 ≡ f.source → Has f x) rows.CallLocal (λ h d s upper. (sym o, h)), tt)) e refl

return_has : (width : Width) (f : Fields) (row : Row) → f.opcode ≡ 144 + jump_class width → return_row width ≡ Some row → Has f row
return_has Bits32 f row o e = absurd cc
return_has Bits64 f row o e = subst (Has f) (same_Some rows.Exit row e) (λ d s upper. (sym o, tt))

jump_of_has : (width : Width) (f : Fields) → f.opcode ≡ jump_class width → Has f (jump_of width)
jump_of_has Bits32 f o d s upper = (sym o, tt)
jump_of_has Bits64 f o d s upper = (sym o, tt)

immediate_jump_has : (width : Width) (code : ℕ) (f : Fields) (row : Row) → f.opcode ≡ 16 * code + jump_class width → immediate_jump width code f.source ≡ Some row → Has f row
immediate_jump_has width code f row o e =
    let branch : Option Row = option_map (rows.ImmediateBranch width) (comparison_at code) in
    let ending : Option Row = cond (eqb code 9) (return_row width) branch in
    elim (chosen (eqb code 0) (Some (jump_of width)) (cond (eqb code 8) (call_row width f.source) ending) (Some row) e) [
      | inl h ↦ let c = eqb-true code 0 h.0 in subst (Has f) (same_Some (jump_of width) row h.1) (jump_of_has width f (omega arith))
      | inr h ↦
          elim (chosen (eqb code 8) (call_row width f.source) ending (Some row) h.1) [
            | inl k ↦ let c = eqb-true code 8 k.0 in call_has width f row (omega arith) k.1
            | inr k ↦
                elim (chosen (eqb code 9) (return_row width) branch (Some row) k.1) [
                  | inl l ↦ let c = eqb-true code 9 l.0 in return_has width f row (omega arith) l.1
                  | inr l ↦
                      let m = mapped (rows.ImmediateBranch width) (comparison_at code) row l.1 in
                      let p = comparison_has code m.0 m.1 in
                      subst (Has f) m.2 (λ d s upper. (omega (arith, p), tt))
                ]
          ]
    ]

jump_has : (width : Width) (high : ℕ) (f : Fields) (row : Row) → f.opcode ≡ 8 * high + jump_class width → jump_row width high f ≡ Some row → Has f row
jump_has width high f row o e =
    elim (chosen (eqb (high % 2) 0) (immediate_jump width (high / 2) f.source) (option_map (rows.RegisterBranch width) (comparison_at (high / 2))) (Some row) e) [
      | inl h ↦ let z = eqb-true (high % 2) 0 h.0 in immediate_jump_has width (high / 2) f row (omega arith) h.1
      | inr h ↦
          let z = eqb-false (high % 2) 0 h.0 in
          let m = mapped (rows.RegisterBranch width) (comparison_at (high / 2)) row h.1 in
          let p = comparison_has (high / 2) m.0 m.1 in
          subst (Has f) m.2 (λ d s upper. (omega (arith, p), tt))
    ]

load_has : (high : ℕ) (f : Fields) (row : Row) → f.opcode ≡ 8 * high + 1 → load_row high ≡ Some row → Has f row
load_has high f row o e =
    elim (chosen (ltb high 16) (option_map rows.Load (size_at high)) (option_map rows.LoadSigned (signed_size_at high)) (Some row) e) [
      | inl h ↦
          let m = mapped rows.Load (size_at high) row h.1 in
          let p = size_has high m.0 m.1 in
          subst (Has f) m.2 (λ d s upper. (omega (arith, p), tt))
      | inr h ↦
          let m = mapped rows.LoadSigned (signed_size_at high) row h.1 in
          let p = signed_size_has high m.0 m.1 in
          subst (Has f) m.2 (λ d s upper. (omega (arith, p), tt))
    ]

store_has : (high : ℕ) (f : Fields) (row : Row) → f.opcode ≡ 8 * high + 2 → option_map rows.Store (size_at high) ≡ Some row → Has f row
store_has high f row o e =
    let m = mapped rows.Store (size_at high) row e in
    let p = size_has high m.0 m.1 in
    subst (Has f) m.2 (λ d s upper. (omega (arith, p), tt))

register_store_has : (high : ℕ) (f : Fields) (row : Row) → f.opcode ≡ 8 * high + 3 → option_map rows.StoreRegister (size_at high) ≡ Some row → Has f row
register_store_has high f row o e =
    let m = mapped rows.StoreRegister (size_at high) row e in
    let p = size_has high m.0 m.1 in
    subst (Has f) m.2 (λ d s upper. (omega (arith, p), tt))

wide_has : (high : ℕ) (f : Fields) (row : Row) → f.opcode ≡ 8 * high → wide_row high f.source ≡ Some row → Has f row
wide_has high f row o e =
    elim (chosen (eqb high 3) (lookup ((0, Some rows.Wide) ∷ []) f.source) None (Some row) e) [
      | inl h ↦
          let c = eqb-true high 3 h.0 in
          let is : 24 ≡ f.opcode = omega arith in
          looked_has (λ n x. n ≡ f.source → Has f x) ((0, Some rows.Wide) ∷ []) f.source row (entry (λ x. 0 ≡ f.source → Has f x) rows.Wide (λ z d s upper. (is, z)), tt) h.1 refl
      | inr h ↦ let no : ⊥ = (let q = h.1 in cc) in absurd no
    ]

-- the row that was found is one that the fields have
pub row_has : (f : Fields) (row : Row) → row_at f ≡ Some row → Has f row
unfolding row_at
row_has f row e =
    let high = f.opcode / 8 in
    looked_has (λ n x. n ≡ f.opcode % 8 → Has f x) (classes high f) (f.opcode % 8) row
    ((λ x h z. wide_has high f x (omega arith) h), ((λ x h z. load_has high f x (omega arith) h), ((λ x h z. store_has high f x (omega arith) h), ((λ x h z. register_store_has high f x (omega arith) h), ((λ x h z. alu_has Bits32 high f x (omega arith) h), ((λ x h z. jump_has Bits64 high f x (omega arith) h), ((λ x h z. jump_has Bits32 high f x (omega arith) h), ((λ x h z. alu_has Bits64 high f x (omega arith) h), tt)))))))) e refl

-- ---- from an instruction whose row the fields have to that row

-- an operation's offset field, from a choosing field
offset_from : (operation : Operation) (g f : Fields) → g.offset ≡ operation_offset operation → MatchOption (operation_choosing operation) ⊤ (λ field. value_at field g ≡ value_at field f) → OffsetIs operation f.offset
offset_from Add g f e h = tt
offset_from Subtract g f e h = tt
offset_from Multiply g f e h = tt
offset_from Divide g f e h = sym e ∙ h
offset_from DivideSigned g f e h = sym e ∙ h
offset_from Or g f e h = tt
offset_from And g f e h = tt
offset_from ShiftLeft g f e h = tt
offset_from ShiftRight g f e h = tt
offset_from Modulo g f e h = sym e ∙ h
offset_from ModuloSigned g f e h = sym e ∙ h
offset_from Xor g f e h = tt
offset_from Move g f e h = sym e ∙ h
offset_from ShiftRightSigned g f e h = tt

class_at : (class high : ℕ) (f : Fields) → f.opcode ≡ 8 * high + class → class < 8 → row_at f ≡ class_row class high f
unfolding row_at
class_at class high f o h =
    let c : f.opcode % 8 ≡ class = omega arith in
    let q : f.opcode / 8 ≡ high = omega arith in
    ap (λ n. class_row n (f.opcode / 8) f) c ∙ ap (λ n. class_row class n f) q

alu_even : (width : Width) (code : ℕ) (f : Fields) → alu_row width (2 * code) f ≡ immediate_alu width code f
alu_even width code f =
    let z : (2 * code) % 2 ≡ 0 = omega arith in
    let q : 2 * code / 2 ≡ code = omega arith in
    cond-true (eqb ((2 * code) % 2) 0) _ _ (ap (λ n. eqb n 0) z) ∙ ap (λ n. immediate_alu width n f) q

alu_odd : (width : Width) (code : ℕ) (f : Fields) → alu_row width (2 * code + 1) f ≡ register_alu width code f
alu_odd width code f =
    let z : (2 * code + 1) % 2 ≡ 1 = omega arith in
    let q : (2 * code + 1) / 2 ≡ code = omega arith in
    cond-false (eqb ((2 * code + 1) % 2) 0) _ _ (ap (λ n. eqb n 0) z) ∙ ap (λ n. register_alu width n f) q

jump_even : (width : Width) (code : ℕ) (f : Fields) → jump_row width (2 * code) f ≡ immediate_jump width code f.source
jump_even width code f =
    let z : (2 * code) % 2 ≡ 0 = omega arith in
    let q : 2 * code / 2 ≡ code = omega arith in
    cond-true (eqb ((2 * code) % 2) 0) _ _ (ap (λ n. eqb n 0) z) ∙ ap (λ n. immediate_jump width n f.source) q

jump_odd : (width : Width) (code : ℕ) (f : Fields) → jump_row width (2 * code + 1) f ≡ option_map (rows.RegisterBranch width) (comparison_at code)
jump_odd width code f =
    let z : (2 * code + 1) % 2 ≡ 1 = omega arith in
    let q : (2 * code + 1) / 2 ≡ code = omega arith in
    cond-false (eqb ((2 * code + 1) % 2) 0) _ _ (ap (λ n. eqb n 0) z) ∙ ap (λ n. option_map (rows.RegisterBranch width) (comparison_at n)) q

-- the opcodes of arithmetic, and those of jumps
alu_k : (width : Width) (code : ℕ) (f : Fields) → f.opcode ≡ 16 * code + alu_class width → row_at f ≡ immediate_alu width code f
alu_k Bits32 code f o = class_at 4 (2 * code) f (omega arith) (lit< tt) ∙ alu_even Bits32 code f
alu_k Bits64 code f o = class_at 7 (2 * code) f (omega arith) (lit< tt) ∙ alu_even Bits64 code f

alu_x : (width : Width) (code : ℕ) (f : Fields) → f.opcode ≡ 16 * code + 8 + alu_class width → row_at f ≡ register_alu width code f
alu_x Bits32 code f o = class_at 4 (2 * code + 1) f (omega arith) (lit< tt) ∙ alu_odd Bits32 code f
alu_x Bits64 code f o = class_at 7 (2 * code + 1) f (omega arith) (lit< tt) ∙ alu_odd Bits64 code f

jump_k : (width : Width) (code : ℕ) (f : Fields) → f.opcode ≡ 16 * code + jump_class width → row_at f ≡ immediate_jump width code f.source
jump_k Bits32 code f o = class_at 6 (2 * code) f (omega arith) (lit< tt) ∙ jump_even Bits32 code f
jump_k Bits64 code f o = class_at 5 (2 * code) f (omega arith) (lit< tt) ∙ jump_even Bits64 code f

jump_x : (width : Width) (code : ℕ) (f : Fields) → f.opcode ≡ 16 * code + 8 + jump_class width → row_at f ≡ option_map (rows.RegisterBranch width) (comparison_at code)
jump_x Bits32 code f o = class_at 6 (2 * code + 1) f (omega arith) (lit< tt) ∙ jump_odd Bits32 code f
jump_x Bits64 code f o = class_at 5 (2 * code + 1) f (omega arith) (lit< tt) ∙ jump_odd Bits64 code f

immediate_again : (width : Width) (operation : Operation) (f : Fields) → OffsetIs operation f.offset → immediate_alu width (operation_code operation) f ≡ Some (rows.ImmediateAlu width operation)
immediate_again width Add f h = refl
immediate_again width Subtract f h = refl
immediate_again width Multiply f h = refl
immediate_again width Divide f h = ap (λ n. option_map (rows.ImmediateAlu width) (lookup (divisions Divide DivideSigned) n)) (sym h)
immediate_again width DivideSigned f h = ap (λ n. option_map (rows.ImmediateAlu width) (lookup (divisions Divide DivideSigned) n)) (sym h)
immediate_again width Or f h = refl
immediate_again width And f h = refl
immediate_again width ShiftLeft f h = refl
immediate_again width ShiftRight f h = refl
immediate_again width Modulo f h = ap (λ n. option_map (rows.ImmediateAlu width) (lookup (divisions Modulo ModuloSigned) n)) (sym h)
immediate_again width ModuloSigned f h = ap (λ n. option_map (rows.ImmediateAlu width) (lookup (divisions Modulo ModuloSigned) n)) (sym h)
immediate_again width Xor f h = refl
immediate_again width Move f h = ap (λ n. option_map (rows.ImmediateAlu width) (lookup ((0, Some Move) ∷ []) n)) (sym h)
immediate_again width ShiftRightSigned f h = refl

register_again : (width : Width) (operation : Operation) (f : Fields) → OffsetIs operation f.offset → register_alu width (operation_code operation) f ≡ Some (rows.RegisterAlu width operation)
register_again width Add f h = refl
register_again width Subtract f h = refl
register_again width Multiply f h = refl
register_again width Divide f h = ap (λ n. option_map (rows.RegisterAlu width) (lookup (divisions Divide DivideSigned) n)) (sym h)
register_again width DivideSigned f h = ap (λ n. option_map (rows.RegisterAlu width) (lookup (divisions Divide DivideSigned) n)) (sym h)
register_again width Or f h = refl
register_again width And f h = refl
register_again width ShiftLeft f h = refl
register_again width ShiftRight f h = refl
register_again width Modulo f h = ap (λ n. option_map (rows.RegisterAlu width) (lookup (divisions Modulo ModuloSigned) n)) (sym h)
register_again width ModuloSigned f h = ap (λ n. option_map (rows.RegisterAlu width) (lookup (divisions Modulo ModuloSigned) n)) (sym h)
register_again width Xor f h = refl
register_again width Move f h = ap (λ n. move_row width n) (sym h)
register_again width ShiftRightSigned f h = refl

move_again : (extension : Extension) (f : Fields) → extension_bits extension ≡ f.offset → register_alu (extension_width extension) 11 f ≡ Some (rows.MoveSigned extension)
move_again From8To32 f h = ap (λ n. move_row Bits32 n) (sym h)
move_again From16To32 f h = ap (λ n. move_row Bits32 n) (sym h)
move_again From8To64 f h = ap (λ n. move_row Bits64 n) (sym h)
move_again From16To64 f h = ap (λ n. move_row Bits64 n) (sym h)
move_again From32To64 f h = ap (λ n. move_row Bits64 n) (sym h)

swap_again : (order : ByteOrder) (bits : SwapBits) (immediate : ℕ) → swap_bits bits ≡ immediate → swap_row order immediate ≡ Some (rows.Swap order bits)
swap_again order Low16 immediate h = ap (swap_row order) (sym h)
swap_again order Low32 immediate h = ap (swap_row order) (sym h)
swap_again order Low64 immediate h = ap (swap_row order) (sym h)

immediate_branch_again : (width : Width) (comparison : Comparison) (source : ℕ) → immediate_jump width (comparison_code comparison) source ≡ Some (rows.ImmediateBranch width comparison)
immediate_branch_again width Equal source = refl
immediate_branch_again width Greater source = refl
immediate_branch_again width GreaterOrEqual source = refl
immediate_branch_again width SharesBit source = refl
immediate_branch_again width NotEqual source = refl
immediate_branch_again width GreaterSigned source = refl
immediate_branch_again width GreaterOrEqualSigned source = refl
immediate_branch_again width Less source = refl
immediate_branch_again width LessOrEqual source = refl
immediate_branch_again width LessSigned source = refl
immediate_branch_again width LessOrEqualSigned source = refl

register_branch_again : (width : Width) (comparison : Comparison) → option_map (rows.RegisterBranch width) (comparison_at (comparison_code comparison)) ≡ Some (rows.RegisterBranch width comparison)
register_branch_again width Equal = refl
register_branch_again width Greater = refl
register_branch_again width GreaterOrEqual = refl
register_branch_again width SharesBit = refl
register_branch_again width NotEqual = refl
register_branch_again width GreaterSigned = refl
register_branch_again width GreaterOrEqualSigned = refl
register_branch_again width Less = refl
register_branch_again width LessOrEqual = refl
register_branch_again width LessSigned = refl
register_branch_again width LessOrEqualSigned = refl

load_again : (size : Size) (f : Fields) → 0x61 + size_bits size ≡ f.opcode → row_at f ≡ Some (rows.Load size)
load_again Word f o = class_at 1 12 f (sym o) (lit< tt)
load_again Half f o = class_at 1 13 f (sym o) (lit< tt)
load_again Byte f o = class_at 1 14 f (sym o) (lit< tt)
load_again Double f o = class_at 1 15 f (sym o) (lit< tt)

signed_load_again : (size : SignedSize) (f : Fields) → 0x81 + signed_size_bits size ≡ f.opcode → row_at f ≡ Some (rows.LoadSigned size)
signed_load_again SignedWord f o = class_at 1 16 f (sym o) (lit< tt)
signed_load_again SignedHalf f o = class_at 1 17 f (sym o) (lit< tt)
signed_load_again SignedByte f o = class_at 1 18 f (sym o) (lit< tt)

store_again : (size : Size) (f : Fields) → 0x62 + size_bits size ≡ f.opcode → row_at f ≡ Some (rows.Store size)
store_again Word f o = class_at 2 12 f (sym o) (lit< tt)
store_again Half f o = class_at 2 13 f (sym o) (lit< tt)
store_again Byte f o = class_at 2 14 f (sym o) (lit< tt)
store_again Double f o = class_at 2 15 f (sym o) (lit< tt)

register_store_again : (size : Size) (f : Fields) → 0x63 + size_bits size ≡ f.opcode → row_at f ≡ Some (rows.StoreRegister size)
register_store_again Word f o = class_at 3 12 f (sym o) (lit< tt)
register_store_again Half f o = class_at 3 13 f (sym o) (lit< tt)
register_store_again Byte f o = class_at 3 14 f (sym o) (lit< tt)
register_store_again Double f o = class_at 3 15 f (sym o) (lit< tt)

-- fields that have an instruction's row choose that row
pub row_again : (i : Instruction) (f : Fields) → HasRow i f → row_at f ≡ Some (row_for i)
row_again (Alu width operation d (Immediate n)) f h =
    alu_k width (operation_code operation) f (omega (arith, h.0)) ∙ immediate_again width operation f (offset_from operation (fields_of (Alu width operation d (Immediate n))) f refl h.1)
row_again (Alu width operation d (Source s)) f h =
    alu_x width (operation_code operation) f (omega (arith, h.0)) ∙ register_again width operation f (offset_from operation (fields_of (Alu width operation d (Source s))) f refl h.1)
row_again (MoveSigned extension d s) f h =
    alu_x (extension_width extension) 11 f (omega (arith, h.0)) ∙ move_again extension f h.1
row_again (Negate width d) f h = alu_k width 8 f (omega (arith, h.0))
row_again (Swap Little bits d) f h = alu_k Bits32 13 f (sym h.0) ∙ swap_again Little bits f.immediate h.1
row_again (Swap Big bits d) f h = alu_x Bits32 13 f (sym h.0) ∙ swap_again Big bits f.immediate h.1
row_again (Swap Reversed bits d) f h = alu_k Bits64 13 f (sym h.0) ∙ swap_again Reversed bits f.immediate h.1
row_again (Jump (Near n)) f h = jump_k Bits64 0 f (sym h.0)
row_again (Jump (Far n)) f h = jump_k Bits32 0 f (sym h.0)
row_again (Branch width comparison d (Immediate n) t) f h =
    jump_k width (comparison_code comparison) f (omega (arith, h.0)) ∙ immediate_branch_again width comparison f.source
row_again (Branch width comparison d (Source s) t) f h =
    jump_x width (comparison_code comparison) f (omega (arith, h.0)) ∙ register_branch_again width comparison
row_again (CallHelper n) f h = jump_k Bits64 8 f (sym h.0) ∙ ap (call_row Bits64) (sym h.1)
row_again (CallLocal n) f h = jump_k Bits64 8 f (sym h.0) ∙ ap (call_row Bits64) (sym h.1)
row_again Exit f h = jump_k Bits64 9 f (sym h.0)
row_again (Load size d b o) f h = load_again size f h.0
row_again (LoadSigned size d b o) f h = signed_load_again size f h.0
row_again (Store size b o n) f h = store_again size f h.0
row_again (StoreRegister size b o s) f h = register_store_again size f h.0
row_again (Wide d v) f h = class_at 0 3 f (sym h.0) (lit< tt) ∙ ap (wide_row 3) (sym h.1)

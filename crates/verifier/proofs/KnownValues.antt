-- What is known of a value that is read describes the number that is there.
use Rattle.std.proofs.Common.{◌≡◌, ℕ, ◌+◌, ◌^◌, ◌<◌, ◌≤◌, Option, Some, refl, sym, subst, arith}
use Rattle.std.specs.Prelude.{ℤ, pos, negsuc, FitsSigned}
use Rattle.std.specs.Int.{w32}
use Rattle.std.proofs.lemmas.Int.{ints}
use Rattle.bpf_isa.specs.declared.register.Register.{Register}
use Rattle.bpf_isa.specs.declared.instruction.Width.{Width}
use Rattle.bpf_isa.specs.declared.instruction.Operation.{Operation}
use Rattle.bpf_isa.specs.declared.instruction.Operation.TheVariants.{Move}
use Rattle.bpf_isa.specs.declared.instruction.Operand.{Operand}
use Rattle.bpf_isa.specs.declared.instruction.Operand.TheVariants.{Immediate, Source}
use Rattle.bpf_isa.specs.Encoding.{number_of}
use Rattle.bpf_image.specs.declared.lengths.Lengths.{Lengths}
use Rattle.bpf_model.specs.Arithmetic.{low, alu_number}
use Rattle.bpf_model.specs.State.{State, record_base, table_base, frame_top, live_frames, most_frames}
use Rattle.bpf_model.specs.Step.{immediate_value, operand_of, left_of}
use Rattle.abstract_values.specs.declared.value.AbstractValue.{AbstractValue}
use Rattle.abstract_values.specs.declared.value.AbstractValue.TheVariants.{Unset, Number, Record, Stack, Table}
use Rattle.abstract_values.specs.Values.{alu_result}
use Rattle.abstract_values.specs.Described.{Describes}
use Rattle.abstract_values.proofs.Below.{modulus_most, low_below, low_same}
use Rattle.abstract_values.proofs.Pointers.{alu_describes}
use Rattle.abstract_state.specs.States.{AbstractState, register}
use Rattle.verifier.specs.RuleLaws.{AreOfImage}
use Rattle.verifier.specs.Rules.{known_value, known_register, known_operand, known_left, constant}
use Rattle.verifier.specs.Described.{DescribesState}
use Rattle.verifier.proofs.RuleParts.{ok}

-- how many frames are live
abbrev pub live : State → ℕ
live s = live_frames s

pub few_live : (l : Lengths) (a : AbstractState) (s : State) → DescribesState l a s → live s ≤ most_frames
few_live l a s d = let few = d.few_callers in omega (arith, few)

pub record Reads (l : Lengths) (t : ℕ) (x : Option ℕ) (v : AbstractValue) : Type 0 where
  pub number : ℕ
  pub there : x ≡ Some number
  pub described : Describes l t v (Some number)

held : (l : Lengths) (t : ℕ) (v w : AbstractValue) (x : Option ℕ) → known_value v ≡ ok w → Describes l t v x → Reads l t x w
held l t Unset w x h d = absurd cc
held l t (Number lo hi) w x h d =
    let same : Number lo hi ≡ w = cc in
    let e : x ≡ Some d.0 = d.1 in
    record { number = d.0; there = e; described = subst (λ v. Describes l t v (Some d.0)) same (d.0, refl, d.2, d.3, d.4) }
held l t (Record lo hi) w x h d =
    let same : Record lo hi ≡ w = cc in
    let e : x ≡ Some (record_base + d.0) = d.1 in
    record { number = record_base + d.0; there = e; described = subst (λ v. Describes l t v (Some (record_base + d.0))) same (d.0, refl, d.2, d.3, d.4) }
held l t (Table lo hi) w x h d =
    let same : Table lo hi ≡ w = cc in
    let e : x ≡ Some (table_base + d.0) = d.1 in
    record { number = table_base + d.0; there = e; described = subst (λ v. Describes l t v (Some (table_base + d.0))) same (d.0, refl, d.2, d.3, d.4) }
held l t (Stack frame offset) w x h d =
    let same : Stack frame offset ≡ w = cc in
    let e : x ≡ Some d.0 = d.1 in
    record { number = d.0; there = e; described = subst (λ v. Describes l t v (Some d.0)) same (d.0, refl, d.2, d.3, d.4, d.5) }

-- a register that is read
pub register_read : (l : Lengths) (a : AbstractState) (s : State) (r : Register) (v : AbstractValue) → DescribesState l a s → known_register a r ≡ ok v → Reads l (live s) (s.registers (number_of r)) v
register_read l a s r v d h =
    held l (live s) (register a r) v (s.registers (number_of r)) h (d.parts.values (number_of r))

-- a described number has 64 bits
pub described_below : (l : Lengths) (t : ℕ) (v : AbstractValue) (n : ℕ) → AreOfImage l → t ≤ most_frames → known_value v ≡ ok v → Describes l t v (Some n) → n < 2 ^ 64
described_below l t Unset n short low h d = absurd cc
described_below l t (Number lo hi) n short low h d =
    let number : n ≡ d.0 = (let e : Some n ≡ Some d.0 = d.1 in cc) in
    omega (arith, number, d.4)
described_below l t (Record lo hi) n short low h d =
    let number : n ≡ record_base + d.0 = (let e : Some n ≡ Some (record_base + d.0) = d.1 in cc) in
    omega (arith, number, d.4, short.0)
described_below l t (Table lo hi) n short low h d =
    let number : n ≡ table_base + d.0 = (let e : Some n ≡ Some (table_base + d.0) = d.1 in cc) in
    omega (arith, number, d.4, short.1)
described_below l t (Stack frame offset) n short low h d =
    let number : n ≡ d.0 = (let e : Some n ≡ Some d.0 = d.1 in cc) in
    let below : d.0 ≤ frame_top frame = omega (arith, ints, d.2, d.4) in
    omega (arith, number, below, low, d.5)

-- what is known is what is known of a value that is set
pub known_twice : (v w : AbstractValue) → known_value v ≡ ok w → known_value w ≡ ok w
known_twice Unset w h = absurd cc
known_twice (Number lo hi) w h = let same : Number lo hi ≡ w = cc in subst (λ u. known_value u ≡ ok u) same refl
known_twice (Record lo hi) w h = let same : Record lo hi ≡ w = cc in subst (λ u. known_value u ≡ ok u) same refl
known_twice (Table lo hi) w h = let same : Table lo hi ≡ w = cc in subst (λ u. known_value u ≡ ok u) same refl
known_twice (Stack frame offset) w h = let same : Stack frame offset ≡ w = cc in subst (λ u. known_value u ≡ ok u) same refl

-- a number of 64 bits is what its constant describes
pub constant_described : (l : Lengths) (t n : ℕ) → n < 2 ^ 64 → Describes l t (constant n) (Some n)
constant_described l t n lt = (n, refl, omega arith, omega arith, lt)

pub extended_below : (z : ℤ) → FitsSigned w32 z → immediate_value z < 2 ^ 64
extended_below (pos n) fits = omega (arith, ints, fits.sfits)
extended_below (negsuc n) fits = omega arith

-- what is told of an operand's number: of an immediate, nothing
abbrev pub IsNumber : State → Operand → ℕ → Type 0
IsNumber s (Immediate z) n = Unit {0}
IsNumber s (Source r) n = s.registers (number_of r) ≡ Some n

-- an operand that is read. Its number may have more bits than the instruction's width, of which the
-- described number has only the low ones.
pub record ReadsOperand (l : Lengths) (w : Width) (s : State) (o : Operand) (v : AbstractValue) : Type 0 where
  pub number : ℕ
  pub there : operand_of s o ≡ Some number
  pub seen : ℕ
  pub same : low w number ≡ low w seen
  pub is_seen : IsNumber s o seen
  pub described : Describes l (live s) v (Some seen)

pub operand_read : (l : Lengths) (w : Width) (a : AbstractState) (s : State) (o : Operand) (v : AbstractValue) → DescribesState l a s → known_operand w a o ≡ ok v → ReadsOperand l w s o v
operand_read l w a s (Immediate z) v d h =
    let n = low w (immediate_value z) in
    let value : constant n ≡ v = (let e : ok (constant n) ≡ ok v = h in cc) in
    let below : n < 2 ^ 64 = omega (arith, low_below w (immediate_value z), modulus_most w) in
    record { number = immediate_value z; there = refl; seen = n; same = sym (low_same w n (low_below w (immediate_value z))); is_seen = tt; described = subst (λ u. Describes l (live s) u (Some n)) value (constant_described l (live s) n below) }
operand_read l w a s (Source r) v d h =
    let x = register_read l a s r v d h in
    record { number = x.number; there = x.there; seen = x.number; same = refl; is_seen = x.there; described = x.described }

-- the first number of an operation, by which its result is described
pub record ReadsLeft (l : Lengths) (t : ℕ) (operation : Operation) (x : Option ℕ) (u : AbstractValue) : Type 0 where
  pub number : ℕ
  pub there : left_of operation x ≡ Some number
  pub gives : (w : Width) (b v : AbstractValue) (y : ℕ) → alu_result w operation l u b ≡ ok v → Describes l t b (Some y) → Describes l t v (Some (alu_number w operation number y))

move_read : (l : Lengths) (t : ℕ) (x : Option ℕ) (u : AbstractValue) → AreOfImage l → t ≤ most_frames → ReadsLeft l t Move x u
move_read l t x u short few =
    record { number = 0; there = refl; gives = λ w b v y h q. alu_describes w Move l t (constant 0) b v 0 y (omega (arith, short.0), omega (arith, short.1)) few h (constant_described l t 0 (omega arith)) q }

other_read : (l : Lengths) (t : ℕ) (operation : Operation) (x : Option ℕ) (u : AbstractValue) → AreOfImage l → t ≤ most_frames → left_of operation x ≡ x → Reads l t x u → ReadsLeft l t operation x u
other_read l t operation x u short few same r =
    record { number = r.number; there = rw same r.there; gives = λ w b v y h q. alu_describes w operation l t u b v r.number y (omega (arith, short.0), omega (arith, short.1)) few h r.described q }

pub left_read : (l : Lengths) (operation : Operation) (a : AbstractState) (s : State) (d : Register) (u : AbstractValue) → AreOfImage l → DescribesState l a s → known_left operation a d ≡ ok u → ReadsLeft l (live s) operation (s.registers (number_of d)) u
left_read l Move a s d u short described h = move_read l (live s) (s.registers (number_of d)) u short (few_live l a s described)
left_read l operation a s d u short described h =
    other_read l (live s) operation (s.registers (number_of d)) u short (few_live l a s described) refl (register_read l a s d u described h)

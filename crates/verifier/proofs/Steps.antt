-- A step from a described state does not trap: it exits, or goes on by a way of the rules.
use Rattle.std.proofs.Common.{◌≡◌, ℕ, ◌+◌, ◌^◌, ◌<◌, [], ◌∷◌, Some, get_or, refl, ap, subst, inl}
use Rattle.std.specs.Prelude.{pos, ◌+ℤ◌}
use Rattle.bpf_isa.specs.declared.instruction.Instruction.{Instruction}
use Rattle.bpf_isa.specs.declared.instruction.Instruction.TheVariants.{Alu, MoveSigned, Negate, Swap, Jump, Branch, CallHelper, CallLocal, Exit, Load, LoadSigned, Store, StoreRegister, Wide}
use Rattle.bpf_isa.specs.Encoding.{InstructionFits}
use Rattle.graph_model.specs.Graph.{Graph}
use Rattle.bpf_model.specs.Helpers.{IsView, helper_of}
use Rattle.bpf_model.specs.Arithmetic.{low, operation_number, alu_number, negate_number, move_signed_number, swap_number}
use Rattle.bpf_model.specs.State.{State}
use Rattle.bpf_model.specs.Step.{immediate_value, units_over, jump, effect}
use Rattle.bpf_isa.specs.Sizes.{size_bytes}
use Rattle.bpf_image.specs.declared.lengths.Lengths.{Lengths}
use Rattle.abstract_values.specs.declared.value.AbstractValue.{AbstractValue}
use Rattle.abstract_values.specs.declared.value.AbstractValue.TheVariants.{Unset}
use Rattle.abstract_values.specs.Values.{alu_result, negate_result, move_signed_result, swap_result}
use Rattle.abstract_values.specs.Described.{Describes}
use Rattle.abstract_values.proofs.Sound.{negate_describes, move_signed_describes, swap_describes}
use Rattle.abstract_state.specs.States.{AbstractState, register}
use Rattle.abstract_state.specs.Memory.{load_result, load_signed_result, store_result}
use Rattle.verifier.specs.Rules.{Ways, bind, known_register, known_operand, known_left, constant, write_ways, behind_store, target, branch_sides, branch_ways, transfer}
use Rattle.verifier.specs.Described.{DescribesState, Follows, stays}
use Rattle.verifier.specs.RuleLaws.{MayCall, AreOfImage}
use Rattle.verifier.proofs.RuleParts.{ok, bind_ok}
use Rattle.verifier.proofs.KnownValues.{live, few_live, register_read, operand_read, left_read, described_below, known_twice, constant_described, extended_below}
use Rattle.verifier.proofs.RegisterWrites.{put_follows}
use Rattle.verifier.proofs.Accesses.{load_follows, load_extended_follows, store_follows}
use Rattle.verifier.proofs.Splits.{branch_follows}
use Rattle.verifier.proofs.Frames.{call_follows, exit_follows}
use Rattle.verifier.proofs.HelperCalls.{helper_call_follows}

constant_is : (l : Lengths) (t n : ℕ) (v : AbstractValue) → n < 2 ^ 64 → ok (constant n) ≡ ok v → Describes l t v (Some n)
constant_is l t n v lt e =
    let same : constant n ≡ v = cc in
    subst (λ u. Describes l t u (Some n)) same (constant_described l t n lt)

-- one clause an instruction
pub step_describes : (g : Graph) (l : Lengths) (pc : ℕ) (i : Instruction) (a : AbstractState) (s : State) (ws : Ways) → IsView g → AreOfImage l → InstructionFits i → s.pc ≡ pos pc → DescribesState l a s → MayCall i s → transfer l pc i a ≡ ok ws → Follows l i a s ws (effect l g i s)
unfolding transfer
step_describes g l pc (Alu w operation d o) a s ws few short fits at described may h =
    let u = bind_ok (known_left operation a d) (λ u. bind (known_operand w a o) (λ b. write_ways (pc + 1) a d (alu_result w operation l u b))) ws h in
    let b = bind_ok (known_operand w a o) (λ b. write_ways (pc + 1) a d (alu_result w operation l u.0 b)) ws u.2 in
    let x = left_read l operation a s d u.0 short described u.1 in
    let y = operand_read l w a s o b.0 described b.1 in
    let same : alu_number w operation x.number y.number ≡ alu_number w operation x.number y.seen = ap (λ n. operation_number w operation (low w x.number) n) y.same in
    rw (x.there, y.there, same) (put_follows l pc 1 (Alu w operation d o) a s d (alu_result w operation l u.0 b.0) (alu_number w operation x.number y.seen) ws at described b.2 (λ v e. x.gives w b.0 v y.seen e y.described))
step_describes g l pc (MoveSigned extension d source) a s ws few short fits at described may h =
    let b = bind_ok (known_register a source) (λ b. write_ways (pc + 1) a d (move_signed_result extension b)) ws h in
    let x = register_read l a s source b.0 described b.1 in
    rw x.there (put_follows l pc 1 (MoveSigned extension d source) a s d (move_signed_result extension b.0) (move_signed_number extension x.number) ws at described b.2 (λ v e. move_signed_describes extension l (live s) b.0 v x.number e x.described))
step_describes g l pc (Negate w d) a s ws few short fits at described may h =
    let b = bind_ok (known_register a d) (λ b. write_ways (pc + 1) a d (negate_result w b)) ws h in
    let x = register_read l a s d b.0 described b.1 in
    rw x.there (put_follows l pc 1 (Negate w d) a s d (negate_result w b.0) (negate_number w x.number) ws at described b.2 (λ v e. negate_describes w l (live s) b.0 v x.number e x.described))
step_describes g l pc (Swap order bits d) a s ws few short fits at described may h =
    let b = bind_ok (known_register a d) (λ b. write_ways (pc + 1) a d (swap_result order bits b)) ws h in
    let x = register_read l a s d b.0 described b.1 in
    rw x.there (put_follows l pc 1 (Swap order bits d) a s d (swap_result order bits b.0) (swap_number order bits x.number) ws at described b.2 (λ v e. swap_describes order bits l (live s) b.0 v x.number e x.described))
step_describes g l pc (Jump distance) a s ws few short fits at described may h =
    let ways : (target pc (units_over distance), a) ∷ [] ≡ ws = (let e : ok ((target pc (units_over distance), a) ∷ []) ≡ ok ws = h in cc) in
    let moved : (s.pc +ℤ pos 1) +ℤ units_over distance ≡ target pc (units_over distance) = ap (λ n. (n +ℤ pos 1) +ℤ units_over distance) at in
    subst (λ t. Follows l (Jump distance) a s t (jump s (units_over distance))) ways (stays (target pc (units_over distance), a) (inl refl) moved (record { parts = described.parts; frame_register = described.frame_register; few_callers = described.few_callers; kept = described.kept }) refl)
step_describes g l pc (Branch w c left right distance) a s ws few short fits at described may h =
    let u = bind_ok (known_register a left) (λ u. bind (known_operand w a right) (λ b. bind (branch_sides w c left right u b) (λ sides. ok (branch_ways pc distance a left right sides)))) ws h in
    let b = bind_ok (known_operand w a right) (λ b. bind (branch_sides w c left right u.0 b) (λ sides. ok (branch_ways pc distance a left right sides))) ws u.2 in
    let sides = bind_ok (branch_sides w c left right u.0 b.0) (λ sides. ok (branch_ways pc distance a left right sides)) ws b.2 in
    let ways : branch_ways pc distance a left right sides.0 ≡ ws = (let e : ok (branch_ways pc distance a left right sides.0) ≡ ok ws = sides.2 in cc) in
    let x = register_read l a s left u.0 described u.1 in
    let y = operand_read l w a s right b.0 described b.1 in
    rw (x.there, y.there) (branch_follows l pc (Branch w c left right distance) w c left right distance a s u.0 b.0 sides.0 ws at described x y sides.1 ways)
step_describes g l pc (CallHelper number) a s ws few short fits at described may h =
    helper_call_follows l pc (CallHelper number) g (helper_of number) a s ws few short.0 at described h
step_describes g l pc (CallLocal distance) a s ws few short fits at described may h =
    call_follows l distance a s ws short.0 described may
step_describes g l pc Exit a s ws few short fits at described may h =
    exit_follows l a s ws (get_or a.registers 0 Unset) (s.registers 0) refl described (described.parts.values 0) h
step_describes g l pc (Load size d base offset) a s ws few short fits at described may h =
    let b = bind_ok (known_register a base) (λ b. write_ways (pc + 1) a d (load_result l a b offset (size_bytes size))) ws h in
    let x = register_read l a s base b.0 described b.1 in
    rw x.there (load_follows l pc (Load size d base offset) b.0 offset a s d size x.number ws short fits at described x.described b.2)
step_describes g l pc (LoadSigned size d base offset) a s ws few short fits at described may h =
    let b = bind_ok (known_register a base) (λ b. write_ways (pc + 1) a d (load_signed_result l a b offset size)) ws h in
    let x = register_read l a s base b.0 described b.1 in
    rw x.there (load_extended_follows l pc (LoadSigned size d base offset) b.0 offset a s d size x.number ws short fits at described x.described b.2)
step_describes g l pc (Store size base offset immediate) a s ws few short fits at described may h =
    let n = immediate_value immediate in
    let b = bind_ok (known_register a base) (λ b. behind_store (pc + 1) (store_result l a b offset (size_bytes size) (constant n))) ws h in
    let x = register_read l a s base b.0 described b.1 in
    let below = extended_below immediate fits.1 in
    rw x.there (store_follows l pc (Store size base offset immediate) b.0 (constant n) offset a s size x.number n ws short.0 fits.0 below at described x.described (constant_described l (live s) n below) b.2)
step_describes g l pc (StoreRegister size base offset source) a s ws few short fits at described may h =
    let b = bind_ok (known_register a base) (λ b. bind (known_register a source) (λ v. behind_store (pc + 1) (store_result l a b offset (size_bytes size) v))) ws h in
    let v = bind_ok (known_register a source) (λ v. behind_store (pc + 1) (store_result l a b.0 offset (size_bytes size) v)) ws b.2 in
    let x = register_read l a s base b.0 described b.1 in
    let y = register_read l a s source v.0 described v.1 in
    let below = described_below l (live s) v.0 y.number short (few_live l a s described) (known_twice (register a source) v.0 v.1) y.described in
    rw (x.there, y.there) (store_follows l pc (StoreRegister size base offset source) b.0 v.0 offset a s size x.number y.number ws short.0 fits below at described x.described y.described v.2)
step_describes g l pc (Wide d value) a s ws few short fits at described may h =
    put_follows l pc 2 (Wide d value) a s d (ok (constant value)) value ws at described h (λ v e. constant_is l (live s) value v fits e)

-- The ways that the rules give lead to the pcs where a run may go on.
use Rattle.std.proofs.Common.{◌≡◌, ℕ, ◌+◌, List, [], ◌∷◌, ◌++◌, Option, Some, None, Result, get_or, sym, ap, subst, inl, inr, ◌⊎◌}
use Rattle.std.specs.Prelude.{ℤ, pos}
use Rattle.bpf_isa.specs.declared.register.Register.{Register}
use Rattle.bpf_isa.specs.declared.instruction.Operand.{Operand}
use Rattle.bpf_isa.specs.declared.instruction.Instruction.{Instruction}
use Rattle.bpf_isa.specs.declared.instruction.Instruction.TheVariants.{Alu, MoveSigned, Negate, Swap, Jump, Branch, CallHelper, CallLocal, Exit, Load, LoadSigned, Store, StoreRegister, Wide}
use Rattle.bpf_model.specs.Helpers.{helper_of}
use Rattle.bpf_model.specs.Step.{immediate_value, units_over}
use Rattle.bpf_isa.specs.Sizes.{size_bytes}
use Rattle.bpf_image.specs.declared.lengths.Lengths.{Lengths}
use Rattle.bpf_model.specs.declared.cause.Cause.{Cause}
use Rattle.abstract_values.specs.declared.branch.Sides.{Sides}
use Rattle.abstract_values.specs.declared.value.AbstractValue.{AbstractValue}
use Rattle.abstract_values.specs.declared.value.AbstractValue.TheVariants.{Unset, Number, Record, Stack, Table}
use Rattle.abstract_values.specs.Values.{alu_result, negate_result, move_signed_result, swap_result}
use Rattle.abstract_state.specs.States.{AbstractState, with_register}
use Rattle.abstract_state.specs.Memory.{load_result, load_signed_result, store_result}
use Rattle.verifier.specs.Rules.{Ways, bind, constant, known_register, known_operand, known_left, onward, write_ways, behind_store, target, branch_sides, side_way, branch_ways, exit_ways, transfer}
use Rattle.verifier.specs.Described.{IsWay}
use Rattle.verifier.proofs.HelperCalls.{helper_call_way}
use Rattle.verifier.proofs.RuleParts.{ok, bind_ok, writes_from}
use Rattle.verifier.specs.Walks.{next_pcs, IsOneOf}

-- each way leads to one of some pcs
abbrev pub AllLead : Ways → List ℤ → Type 0
AllLead ws zs = (w : ℤ × AbstractState) → IsWay w ws → IsOneOf w.0 zs

one_leads : (z : ℤ) (s : AbstractState) (ws : Ways) → (z, s) ∷ [] ≡ ws → AllLead ws (z ∷ [])
one_leads z s ws same w m =
    let one : IsWay w ((z, s) ∷ []) = subst (λ (x : Ways). IsWay w x) (sym same) m in
    elim one [ inl is ↦ inl (ap (λ (x : ℤ × AbstractState). x.0) is) | inr none ↦ absurd none ]

written_leads : (pc : ℕ) (s : AbstractState) (d : Register) (r : Result AbstractValue Cause) (ws : Ways) → write_ways pc s d r ≡ ok ws → AllLead ws (pos pc ∷ [])
written_leads pc s d r ws h =
    let w = writes_from pc s d r ws h in
    one_leads (pos pc) (with_register s d w.value) ws w.to

stored_leads : (pc : ℕ) (r : Result AbstractState Cause) (ws : Ways) → behind_store pc r ≡ ok ws → AllLead ws (pos pc ∷ [])
stored_leads pc r ws h =
    let t = bind_ok r (λ t. ok (onward pc t)) ws h in
    let same : (pos pc, t.0) ∷ [] ≡ ws = (let e : ok (onward pc t.0) ≡ ok ws = t.2 in cc) in
    one_leads (pos pc) t.0 ws same

returned_leads : (v : AbstractValue) (ws : Ways) → exit_ways v ≡ ok ws → AllLead ws []
returned_leads Unset ws h w m = absurd cc
returned_leads (Number lo hi) ws h w m =
    let same : [] ≡ ws = (let e : ok [] ≡ ok ws = h in cc) in
    subst (λ (x : Ways). IsWay w x) (sym same) m
returned_leads (Record lo hi) ws h w m = absurd cc
returned_leads (Stack frame offset) ws h w m = absurd cc
returned_leads (Table lo hi) ws h w m = absurd cc

side_leads : (s : AbstractState) (left : Register) (right : Operand) (z : ℤ) (values : Option (AbstractValue × AbstractValue)) (w : ℤ × AbstractState) → IsWay w (side_way s left right z values) → w.0 ≡ z
side_leads s left right z None w m = absurd m
side_leads s left right z (Some values) w m =
    elim m [ inl is ↦ ap (λ (x : ℤ × AbstractState). x.0) is | inr none ↦ absurd none ]

either_way : (w : ℤ × AbstractState) (xs ys : Ways) → IsWay w (xs ++ ys) → IsWay w xs ⊎ IsWay w ys
either_way w [] ys m = inr m
either_way w (x ∷ xs) ys m =
    elim m [
      | inl is ↦ inl (inl is)
      | inr rest ↦ elim (either_way w xs ys rest) [ inl left ↦ inl (inr left) | inr right ↦ inr right ]
    ]

branch_leads : (pc : ℕ) (z : ℤ) (s : AbstractState) (left : Register) (right : Operand) (sides : Sides) (ws : Ways) → branch_ways pc z s left right sides ≡ ws → AllLead ws (target pc z ∷ pos (pc + 1) ∷ [])
branch_leads pc z s left right sides ws same w m =
    let taken = side_way s left right (target pc z) sides.taken in
    let passed = side_way s left right (pos (pc + 1)) sides.passed in
    let all : IsWay w (taken ++ passed) = subst (λ (x : Ways). IsWay w x) (sym same) m in
    elim (either_way w taken passed all) [
      | inl by ↦ inl (side_leads s left right (target pc z) sides.taken w by)
      | inr by ↦ inr (inl (side_leads s left right (pos (pc + 1)) sides.passed w by))
    ]

-- one clause an instruction
pub ways_lead : (l : Lengths) (pc : ℕ) (i : Instruction) (a : AbstractState) (ws : Ways) → transfer l pc i a ≡ ok ws → AllLead ws (next_pcs i pc)
unfolding transfer
ways_lead l pc (Alu w operation d o) a ws h =
    let u = bind_ok (known_left operation a d) (λ u. bind (known_operand w a o) (λ b. write_ways (pc + 1) a d (alu_result w operation l u b))) ws h in
    let b = bind_ok (known_operand w a o) (λ b. write_ways (pc + 1) a d (alu_result w operation l u.0 b)) ws u.2 in
    written_leads (pc + 1) a d (alu_result w operation l u.0 b.0) ws b.2
ways_lead l pc (MoveSigned extension d source) a ws h =
    let b = bind_ok (known_register a source) (λ b. write_ways (pc + 1) a d (move_signed_result extension b)) ws h in
    written_leads (pc + 1) a d (move_signed_result extension b.0) ws b.2
ways_lead l pc (Negate w d) a ws h =
    let b = bind_ok (known_register a d) (λ b. write_ways (pc + 1) a d (negate_result w b)) ws h in
    written_leads (pc + 1) a d (negate_result w b.0) ws b.2
ways_lead l pc (Swap order bits d) a ws h =
    let b = bind_ok (known_register a d) (λ b. write_ways (pc + 1) a d (swap_result order bits b)) ws h in
    written_leads (pc + 1) a d (swap_result order bits b.0) ws b.2
ways_lead l pc (Jump distance) a ws h =
    let same : (target pc (units_over distance), a) ∷ [] ≡ ws = (let e : ok ((target pc (units_over distance), a) ∷ []) ≡ ok ws = h in cc) in
    one_leads (target pc (units_over distance)) a ws same
ways_lead l pc (Branch w c left right distance) a ws h =
    let u = bind_ok (known_register a left) (λ u. bind (known_operand w a right) (λ b. bind (branch_sides w c left right u b) (λ sides. ok (branch_ways pc distance a left right sides)))) ws h in
    let b = bind_ok (known_operand w a right) (λ b. bind (branch_sides w c left right u.0 b) (λ sides. ok (branch_ways pc distance a left right sides))) ws u.2 in
    let sides = bind_ok (branch_sides w c left right u.0 b.0) (λ sides. ok (branch_ways pc distance a left right sides)) ws b.2 in
    let same : branch_ways pc distance a left right sides.0 ≡ ws = (let e : ok (branch_ways pc distance a left right sides.0) ≡ ok ws = sides.2 in cc) in
    branch_leads pc distance a left right sides.0 ws same
ways_lead l pc (CallHelper number) a ws h =
    let way = helper_call_way l pc (helper_of number) a ws h in
    one_leads (pos (pc + 1)) way.0 ws way.1
ways_lead l pc (CallLocal distance) a ws h = λ w m. (let same : [] ≡ ws = (let e : ok [] ≡ ok ws = h in cc) in absurd (subst (λ (x : Ways). IsWay w x) (sym same) m))
ways_lead l pc Exit a ws h = returned_leads (get_or a.registers 0 Unset) ws h
ways_lead l pc (Load size d base offset) a ws h =
    let b = bind_ok (known_register a base) (λ b. write_ways (pc + 1) a d (load_result l a b offset (size_bytes size))) ws h in
    written_leads (pc + 1) a d (load_result l a b.0 offset (size_bytes size)) ws b.2
ways_lead l pc (LoadSigned size d base offset) a ws h =
    let b = bind_ok (known_register a base) (λ b. write_ways (pc + 1) a d (load_signed_result l a b offset size)) ws h in
    written_leads (pc + 1) a d (load_signed_result l a b.0 offset size) ws b.2
ways_lead l pc (Store size base offset immediate) a ws h =
    let b = bind_ok (known_register a base) (λ b. behind_store (pc + 1) (store_result l a b offset (size_bytes size) (constant (immediate_value immediate)))) ws h in
    stored_leads (pc + 1) (store_result l a b.0 offset (size_bytes size) (constant (immediate_value immediate))) ws b.2
ways_lead l pc (StoreRegister size base offset source) a ws h =
    let b = bind_ok (known_register a base) (λ b. bind (known_register a source) (λ v. behind_store (pc + 1) (store_result l a b offset (size_bytes size) v))) ws h in
    let v = bind_ok (known_register a source) (λ v. behind_store (pc + 1) (store_result l a b.0 offset (size_bytes size) v)) ws b.2 in
    stored_leads (pc + 1) (store_result l a b.0 offset (size_bytes size) v.0) ws v.2
ways_lead l pc (Wide d value) a ws h =
    written_leads (pc + 2) a d (ok (constant value)) ws h

-- No step depends on a byte that may not be read.
use Rattle.std.proofs.Common.{◌≡◌, ℕ, suc, ◌+◌, ◌-◌, ◌/◌, true, false, List, [], ◌∷◌, length, Option, Some, None, Result, Ok, Err, refl, sym, subst, ◌∙◌, arith, inl, inr, if◌then◌else◌}
use Rattle.std.specs.Prelude.{nat_le, nat_lt, ◌&&◌, ◌||◌, ◌==◌, Bool, ℤ, pos, negsuc, unwrap_or}
use Rattle.std.proofs.lemmas.Bool.{cases_Bool, cond-true, cond-false, or_cases, or_left, or_right}
use Rattle.std.proofs.lemmas.Bool.Decides.{nat_tests}
use Rattle.bpf_isa.specs.declared.register.Register.{Register}
use Rattle.bpf_isa.specs.declared.instruction.Size.{Size}
use Rattle.bpf_isa.specs.declared.instruction.Operand.{Operand}
use Rattle.bpf_isa.specs.declared.instruction.Operand.TheVariants.{Immediate, Source}
use Rattle.bpf_isa.specs.declared.instruction.Instruction.{Instruction}
use Rattle.bpf_isa.specs.declared.instruction.Instruction.TheVariants as instructions
use Rattle.bpf_isa.specs.declared.decode_error.DecodeError.{DecodeError}
use Rattle.bpf_isa.specs.Encoding.{number_of}
use Rattle.bpf_isa.specs.Reading.{decoding}
use Rattle.bpf_isa.specs.Sizes.{size_bytes, plain_size}
use Rattle.bpf_image.specs.Program.{Program, units, lengths_of}
use Rattle.bpf_image.specs.declared.lengths.Lengths.{Lengths}
use Rattle.graph_model.specs.Graph.{Graph, degree}
use Rattle.graph_model.specs.Views.{word_bytes, neighbour_words, is_edge, neighbour_at}
use Rattle.bpf_model.specs.declared.helper.Helper.{Helper}
use Rattle.bpf_model.specs.declared.helper.Helper.TheVariants as helpers
use Rattle.bpf_model.specs.declared.trap.TrapKind.{TrapKind}
use Rattle.bpf_model.specs.declared.trap.TrapKind.TheVariants.{UnsetRegister}
use Rattle.bpf_model.specs.State.{Partial, Saved, State, without_values, number_at, register_of, address_at, may_read, may_write, live_frames, most_frames, frame_top, frame_bytes, in_record, in_frame, in_frames, in_table}
use Rattle.bpf_model.specs.Arithmetic.{move_signed_number}
use Rattle.bpf_model.specs.Calls.{enter}
use Rattle.bpf_model.specs.Helpers.{helper_of, helper_effect, argument, gather, is_room, with_answer, no_neighbour}
use Rattle.bpf_model.specs.Step.{Next, Goes, number_or_trap, next_with_result, jump, load, low_bytes, store, call, leave, call_helper, effect, effect_of_reading, step_at, step, operand_of, load_extension, immediate_value}
use Rattle.bpf_locality.specs.Locality.{is_readable, AreAlike, LeadAlike}
use Rattle.bpf_locality.proofs.Asking.{degree_told, edge_told, edge_from, neighbour_told, neighbour_of, gather_to, gather_first, gather_of}
use Rattle.bpf_locality.proofs.Places.{byte_is_readable, stored_same, number_same}

-- the state with another memory
abbrev with_memory : State → Partial → State
with_memory s m = record s { memory = m }

-- a memory that has those bytes of a state that may be read
abbrev Agrees : Lengths → State → Partial → Type 0
Agrees l s m = (a : ℕ) → is_readable l s a ≡ true → m a ≡ s.memory a

reading_alike : (l : Lengths) (known : Option ℕ) (kind : TrapKind) (at : ℤ) (go other : ℕ → Next) → ((v : ℕ) → LeadAlike l (go v) (other v))
    → LeadAlike l (number_or_trap known kind at go) (number_or_trap known kind at other)
reading_alike l None kind at go other alike = refl
reading_alike l (Some v) kind at go other alike = alike v

put_alike : (l : Lengths) (s : State) (m : Partial) (n : ℕ) (d : Register) (v : ℕ) → Agrees l s m → LeadAlike l (next_with_result s n d v) (next_with_result (with_memory s m) n d v)
put_alike l s m n d v same =
    elim (cases_Bool (number_of d == 10)) [
      | inl frame ↦ rw frame refl
      | inr other ↦ rw other (_, refl, record { pc = refl; registers = refl; callers = refl; bytes = same })
    ]

jump_alike : (l : Lengths) (s : State) (m : Partial) (z : ℤ) → Agrees l s m → LeadAlike l (jump s z) (jump (with_memory s m) z)
jump_alike l s m z same = (_, refl, record { pc = refl; registers = refl; callers = refl; bytes = same })

load_alike : (l : Lengths) (s : State) (m : Partial) (a : ℕ) (size : Size) (go other : ℕ → Next) → Agrees l s m → ((v : ℕ) → LeadAlike l (go v) (other v))
    → LeadAlike l (load l s a size go) (load l (with_memory s m) a size other)
load_alike l s m a size go other same alike =
    elim (cases_Bool (may_read l s a (size_bytes size))) [
      | inl may ↦ (let number : number_at m a (size_bytes size) ≡ number_at s.memory a (size_bytes size) =
          number_same m s.memory a (size_bytes size) (λ i lt. same (a + i) (byte_is_readable l s a (size_bytes size) i lt may)) in
          rw (may, number) (reading_alike l _ _ _ go other alike))
      | inr forbidden ↦ rw forbidden refl
    ]

store_alike : (l : Lengths) (s : State) (m : Partial) (a : ℕ) (size : Size) (v : ℕ) → Agrees l s m → LeadAlike l (store l s a size v) (store l (with_memory s m) a size v)
store_alike l s m a size v same =
    elim (cases_Bool (may_write l s a (size_bytes size))) [
      | inl may ↦ rw may (_, refl, record { pc = refl; registers = refl; callers = refl; bytes = λ x live. stored_same m s.memory a (low_bytes size v) x (same x live) })
      | inr forbidden ↦ rw forbidden refl
    ]

-- a byte that may be read after a call might be before it, or is in the frame that was laid out
readable_before : (l : Lengths) (s : State) (distance : ℤ) (a : ℕ) → is_readable l (enter s distance) a ≡ true
    → (nat_le (frame_top (live_frames s) - frame_bytes) a && nat_lt a (frame_top (live_frames s) - frame_bytes + frame_bytes)) ≡ false → is_readable l s a ≡ true
readable_before l s distance a may outside = grind (arith, nat_tests)

laid_out_alike : (l : Lengths) (s : State) (m : Partial) (distance : ℤ) (a : ℕ) → Agrees l s m → is_readable l (enter s distance) a ≡ true
    → without_values m (frame_top (live_frames s) - frame_bytes) frame_bytes a ≡ without_values s.memory (frame_top (live_frames s) - frame_bytes) frame_bytes a
laid_out_alike l s m distance a same live =
    elim (cases_Bool (nat_le (frame_top (live_frames s) - frame_bytes) a && nat_lt a (frame_top (live_frames s) - frame_bytes + frame_bytes))) [
      | inl inside ↦ cond-true _ _ _ inside ∙ sym (cond-true _ _ _ inside)
      | inr outside ↦ cond-false _ _ _ outside ∙ same a (readable_before l s distance a live outside) ∙ sym (cond-false _ _ _ outside)
    ]

call_alike : (l : Lengths) (s : State) (m : Partial) (distance : ℤ) → Agrees l s m → LeadAlike l (call s distance) (call (with_memory s m) distance)
call_alike l s m distance same =
    elim (cases_Bool (nat_lt (live_frames s) most_frames)) [
      | inl room ↦ rw room (_, refl, record { pc = refl; registers = refl; callers = refl; bytes = λ a live. laid_out_alike l s m distance a same live })
      | inr full ↦ rw full refl
    ]

-- whether a byte may be read while so many frames are live
abbrev read_with : Lengths → ℕ → ℕ → Bool
read_with l frames a = (in_record l.record_length a 1 || in_frames frames a 1) || in_table l.table_length a 1

-- a byte that may be read with fewer callers may be with one more
read_with_one_more : (l : Lengths) (n a : ℕ) → read_with l n a ≡ true → read_with l (suc n) a ≡ true
read_with_one_more l n a may =
    elim (or_cases (in_record l.record_length a 1 || in_frames n a 1) (in_table l.table_length a 1) may) [
      | inl live ↦ (let still : (in_record l.record_length a 1 || in_frames (suc n) a 1) ≡ true = (elim (or_cases (in_record l.record_length a 1) (in_frames n a 1) live) [
        | inl here ↦ or_left _ _ here
        | inr below ↦ or_right (in_record l.record_length a 1) _ (or_right (in_frame n a 1) _ below)
      ]) in
          or_left _ (in_table l.table_length a 1) still)
      | inr within ↦ or_right (in_record l.record_length a 1 || in_frames (suc n) a 1) _ within
    ]

leave_alike : (l : Lengths) (s : State) (m : Partial) (callers : List Saved) (result : ℕ) → s.callers ≡ callers → Agrees l s m
    → LeadAlike l (leave s callers result) (leave (with_memory s m) callers result)
leave_alike l s m [] result is same = refl
leave_alike l s m (caller ∷ callers) result is same = (
  _,
  refl,
  record {
    pc = refl;
    registers = refl;
    callers = refl;
    bytes = λ a may. same a (subst (λ (cs : List Saved). read_with l (suc (length cs)) a ≡ true) (sym is) (read_with_one_more l (suc (length callers)) a may));
  },
)

gather_alike : (l : Lengths) (g : Graph) (s : State) (m : Partial) (v first a room : ℕ) → Agrees l s m
    → LeadAlike l (gather l g s v first a room) (gather l g (with_memory s m) v first a room)
gather_alike l g s m v first a room same =
    elim (cases_Bool (is_room room)) [
      | inl allowed ↦ rw allowed (elim (cases_Bool (may_write l s a room)) [
        | inl may ↦ rw may (
          _,
          refl,
          record {
            pc = refl;
            registers = refl;
            callers = refl;
            bytes = λ x live. stored_same m s.memory a (word_bytes (neighbour_words g v first (room / 4))) x (same x live);
          },
        )
        | inr forbidden ↦ rw forbidden refl
      ])
      | inr wrong ↦ rw wrong refl
    ]

-- a helper's answer goes to registers alone
answer_alike : (l : Lengths) (s : State) (m : Partial) → Agrees l s m → (answer : ℕ) → LeadAlike l (Goes (with_answer s answer)) (Goes (with_answer (with_memory s m) answer))
answer_alike l s m same answer = (_, refl, record { pc = refl; registers = refl; callers = refl; bytes = same })

argument_alike : (l : Lengths) (s : State) (m : Partial) (r : ℕ) (go other : ℕ → Next) → ((v : ℕ) → LeadAlike l (go v) (other v))
    → LeadAlike l (argument s r go) (argument (with_memory s m) r other)
argument_alike l s m r go other alike = reading_alike l (s.registers r) UnsetRegister s.pc go other alike

helper_alike : (l : Lengths) (g : Graph) (h : Helper) (s : State) (m : Partial) → Agrees l s m → LeadAlike l (helper_effect l g h s) (helper_effect l g h (with_memory s m))
helper_alike l g helpers.Degree s m same =
    argument_alike l s m 1 (degree_told g s) (degree_told g (with_memory s m)) (λ v. answer_alike l s m same (degree g v))
helper_alike l g helpers.HasEdge s m same =
    argument_alike l s m 1 (edge_from g s) (edge_from g (with_memory s m))
    (λ u. argument_alike l s m 2 (edge_told g s u) (edge_told g (with_memory s m) u) (λ v. answer_alike l s m same (if is_edge g u v then 1 else 0)))
helper_alike l g helpers.Neighbour s m same =
    argument_alike l s m 1 (neighbour_of g s) (neighbour_of g (with_memory s m))
    (λ u. argument_alike l s m 2 (neighbour_told g s u) (neighbour_told g (with_memory s m) u)
    (λ v. answer_alike l s m same (unwrap_or (neighbour_at g u v) no_neighbour)))
helper_alike l g helpers.VertexCount s m same = answer_alike l s m same g.vertex_count
helper_alike l g helpers.Gather s m same =
    let t = with_memory s m in
    argument_alike l s m 1 (gather_of l g s) (gather_of l g t)
    (λ v. argument_alike l s m 2 (gather_first l g s v) (gather_first l g t v)
    (λ first. argument_alike l s m 3 (gather_to l g s v first) (gather_to l g t v first)
    (λ a. argument_alike l s m 4 (gather l g s v first a) (gather l g t v first a) (λ room. gather_alike l g s m v first a room same))))

helper_call_alike : (l : Lengths) (g : Graph) (h : Option Helper) (s : State) (m : Partial) → Agrees l s m → LeadAlike l (call_helper l g h s) (call_helper l g h (with_memory s m))
helper_call_alike l g None s m same = refl
helper_call_alike l g (Some h) s m same = helper_alike l g h s m same

-- the number of a register
register_alike : (l : Lengths) (s : State) (m : Partial) (r : Register) (go other : ℕ → Next) → ((v : ℕ) → LeadAlike l (go v) (other v))
    → LeadAlike l (number_or_trap (register_of s r) UnsetRegister s.pc go) (number_or_trap (register_of (with_memory s m) r) UnsetRegister s.pc other)
register_alike l s m r go other alike = reading_alike l (register_of s r) UnsetRegister s.pc go other alike

-- the second number of an operation
second_alike : (l : Lengths) (s : State) (m : Partial) (y : Operand) (kind : TrapKind) (go other : ℕ → Next) → ((v : ℕ) → LeadAlike l (go v) (other v))
    → LeadAlike l (number_or_trap (operand_of s y) kind s.pc go) (number_or_trap (operand_of (with_memory s m) y) kind s.pc other)
second_alike l s m (Immediate n) kind go other alike = alike _
second_alike l s m (Source r) kind go other alike = reading_alike l _ kind s.pc go other alike

effect_alike : (l : Lengths) (g : Graph) (i : Instruction) (s : State) (m : Partial) → Agrees l s m → LeadAlike l (effect l g i s) (effect l g i (with_memory s m))
effect_alike l g (instructions.Alu w o d y) s m same = reading_alike l _ _ _ _ _ (λ x. second_alike l s m y _ _ _ (λ z. put_alike l s m 1 d _ same))
effect_alike l g (instructions.MoveSigned e d r) s m same = reading_alike l _ _ _ _ _ (λ x. put_alike l s m 1 d _ same)
effect_alike l g (instructions.Negate w d) s m same = reading_alike l _ _ _ _ _ (λ x. put_alike l s m 1 d _ same)
effect_alike l g (instructions.Swap o b d) s m same = reading_alike l _ _ _ _ _ (λ x. put_alike l s m 1 d _ same)
effect_alike l g (instructions.Jump z) s m same = jump_alike l s m _ same
effect_alike l g (instructions.Branch w c x y z) s m same = reading_alike l _ _ _ _ _ (λ x. second_alike l s m y _ _ _ (λ n. jump_alike l s m _ same))
effect_alike l g (instructions.CallHelper n) s m same = helper_call_alike l g (helper_of n) s m same
effect_alike l g (instructions.CallLocal z) s m same = call_alike l s m z same
effect_alike l g instructions.Exit s m same = reading_alike l _ _ _ _ _ (λ v. leave_alike l s m s.callers v refl same)
effect_alike l g (instructions.Load size d b z) s m same =
    let t = with_memory s m in
    register_alike l s m b (λ x. load l s (address_at x z) size (next_with_result s 1 d)) (λ x. load l t (address_at x z) size (next_with_result t 1 d))
    (λ x. load_alike l s m (address_at x z) size (next_with_result s 1 d) (next_with_result t 1 d) same (λ v. put_alike l s m 1 d v same))
effect_alike l g (instructions.LoadSigned size d b z) s m same =
    let t = with_memory s m in
    let extended = load_extension size in
    register_alike l s m b
    (λ x. load l s (address_at x z) (plain_size size) (λ n. next_with_result s 1 d (move_signed_number extended n)))
    (λ x. load l t (address_at x z) (plain_size size) (λ n. next_with_result t 1 d (move_signed_number extended n)))
    (λ x. load_alike l s m (address_at x z) (plain_size size) (λ n. next_with_result s 1 d (move_signed_number extended n)) (λ n. next_with_result t 1 d (move_signed_number extended n))
    same (λ v. put_alike l s m 1 d (move_signed_number extended v) same))
effect_alike l g (instructions.Store size b z n) s m same =
    let t = with_memory s m in
    register_alike l s m b (λ x. store l s (address_at x z) size (immediate_value n)) (λ x. store l t (address_at x z) size (immediate_value n))
    (λ x. store_alike l s m (address_at x z) size (immediate_value n) same)
effect_alike l g (instructions.StoreRegister size b z r) s m same =
    let t = with_memory s m in
    register_alike l s m b
    (λ x. number_or_trap (register_of s r) UnsetRegister s.pc (store l s (address_at x z) size))
    (λ x. number_or_trap (register_of t r) UnsetRegister s.pc (store l t (address_at x z) size))
    (λ x. register_alike l s m r (store l s (address_at x z) size) (store l t (address_at x z) size) (λ v. store_alike l s m (address_at x z) size v same))
effect_alike l g (instructions.Wide d v) s m same = put_alike l s m 2 d v same

found_alike : (l : Lengths) (g : Graph) (found : Result (Instruction × ℕ) DecodeError) (s : State) (m : Partial) → Agrees l s m
    → LeadAlike l (effect_of_reading l g found s) (effect_of_reading l g found (with_memory s m))
found_alike l g (Ok found) s m same = effect_alike l g found.0 s m same
found_alike l g (Err e) s m same = refl

at_alike : (p : Program) (g : Graph) (at : ℤ) (s : State) (m : Partial) → Agrees (lengths_of p) s m
    → LeadAlike (lengths_of p) (step_at p g at s) (step_at p g at (with_memory s m))
at_alike p g (pos pc) s m same =
    elim (cases_Bool (nat_lt pc (units p))) [
      | inl inside ↦ rw inside (found_alike (lengths_of p) g (decoding p.code pc) s m same)
      | inr outside ↦ rw outside refl
    ]
at_alike p g (negsuc n) s m same = refl

-- a state with the pc, registers and callers of another is that one with its own memory
rebuilt : (s t : State) → t.pc ≡ s.pc → t.registers ≡ s.registers → t.callers ≡ s.callers → with_memory s t.memory ≡ t
rebuilt s t pc registers callers =
    subst (λ (cs : List Saved). record { pc = s.pc; registers = s.registers; memory = t.memory; callers = cs } ≡ t) callers
    (subst (λ (rs : Partial). record { pc = s.pc; registers = rs; memory = t.memory; callers = t.callers } ≡ t) registers
    (subst (λ (at : ℤ). record { pc = at; registers = t.registers; memory = t.memory; callers = t.callers } ≡ t) pc refl))

pub step_reads : (p : Program) (g : Graph) (s t : State) → AreAlike (lengths_of p) s t → LeadAlike (lengths_of p) (step p g s) (step p g t)
step_reads p g s t alike =
    subst (λ (u : State). LeadAlike (lengths_of p) (step p g s) (step p g u)) (rebuilt s t alike.pc alike.registers alike.callers)
    (at_alike p g s.pc s t.memory alike.bytes)

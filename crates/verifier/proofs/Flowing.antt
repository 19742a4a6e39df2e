-- Where the second pass has no fault, every way leads after its pc, to an instruction inside the code.
use Rattle.std.proofs.Common.{◌≡◌, ◌≢◌, ℕ, zero, suc, ◌+◌, ◌-◌, ◌<◌, ◌≤◌, [], ◌∷◌, true, leb, ltb, Option, Some, None, refl, arith, inl, inr}
use Rattle.std.specs.Option.{option_or}
use Rattle.std.specs.Prelude.{ℤ, pos, negsuc, ◌&&◌, is_some}
use Rattle.std.proofs.lemmas.Bool.{cases_Bool, and_parts, leb-false, ltb-true}
use Rattle.bpf_isa.specs.declared.instruction.Instruction.{Instruction}
use Rattle.bpf_isa.specs.declared.instruction.Instruction.TheVariants.{Alu, MoveSigned, Negate, Swap, Jump, Branch, CallHelper, CallLocal, Exit, Load, LoadSigned, Store, StoreRegister, Wide}
use Rattle.bpf_isa.specs.Encoding.{units_of}
use Rattle.bpf_model.specs.Step.{units_over}
use Rattle.bpf_image.specs.Program.{Program, units}
use Rattle.bpf_model.specs.declared.cause.Cause.{Cause}
use Rattle.bpf_model.specs.declared.cause.Cause.TheVariants.{JumpOut, JumpBack, CallTarget, FallsOff}
use Rattle.verifier.specs.Rules.{target}
use Rattle.verifier.specs.Listing.{instruction_at, start_from}
use Rattle.verifier.specs.Functions.{start_above, is_entry, entry_from, function_end}
use Rattle.verifier.specs.Walks.{next_pcs, called_pcs, IsOneOf}
use Rattle.verifier.specs.Verdict.{first_fault, decoding_fault, flow_fault, flow_cause, landing_cause, calling_cause, falling_cause}
use Rattle.verifier.proofs.Faults.{NoFault-first}
use Rattle.verifier.proofs.Listed.{inside, next_starts, stands_at}

abbrev some_cause : Cause → Option Cause
some_cause cause = Some cause

-- a place to which a run may go on from a pc
pub record Ahead (p : Program) (pc end : ℕ) (z : ℤ) : Type 0 where
  pub place : ℕ
  pub is : z ≡ pos place
  pub behind : pc < place
  pub under : place < end
  pub instruction : Instruction
  pub found : instruction_at p place ≡ Some instruction

there : (o : Option Instruction) → is_some o ≡ true → (i : Instruction) × (o ≡ Some i)
there None h = absurd cc
there (Some i) h = (i, refl)

landing_ahead : (p : Program) (pc : ℕ) (z : ℤ) → landing_cause p pc z ≡ None → Ahead p pc (function_end p pc) z
landing_ahead p pc (pos q) h =
    elim (cases_Bool (is_some (instruction_at p q) && ltb q (function_end p pc))) [
      | inl is ↦
          let both = and_parts (is_some (instruction_at p q)) (ltb q (function_end p pc)) is in
          let found = there (instruction_at p q) both.0 in
          elim (cases_Bool (leb q pc)) [
            | inl back ↦ absurd (let e : some_cause JumpBack ≡ None = (rw (is, back) at h) in cc)
            | inr behind ↦ record { place = q; is = refl; behind = omega (arith, leb-false q pc behind); under = ltb-true q (function_end p pc) both.1; instruction = found.0; found = found.1 }
          ]
      | inr not_is ↦ absurd (let e : some_cause JumpOut ≡ None = (rw not_is at h) in cc)
    ]
landing_ahead p pc (negsuc n) h = absurd cc

calling_ahead : (p : Program) (pc : ℕ) (z : ℤ) → calling_cause (start_above p pc z) ≡ None → Ahead p pc (units p) z
calling_ahead p pc (pos q) h =
    elim (cases_Bool (is_some (instruction_at p q) && ltb pc q)) [
      | inl is ↦
          let both = and_parts (is_some (instruction_at p q)) (ltb pc q) is in
          let found = there (instruction_at p q) both.0 in
          record { place = q; is = refl; behind = ltb-true pc q both.1; under = inside p q found.0 found.1; instruction = found.0; found = found.1 }
      | inr not_is ↦ absurd (let e : some_cause CallTarget ≡ None = (rw not_is at h) in cc)
    ]
calling_ahead p pc (negsuc n) h = absurd cc

-- a function ends inside the code
entry_most : (p : Program) (n pc : ℕ) → entry_from p n pc ≤ pc + n
entry_most p zero pc = omega arith
entry_most p (suc n) pc =
    elim (cases_Bool (is_entry p pc)) [
      | inl is ↦ rw is (omega arith)
      | inr not_is ↦ rw not_is (let rest = entry_most p n (pc + 1) in omega (arith, rest))
    ]

pub end_inside : (p : Program) (pc : ℕ) → pc < units p → function_end p pc ≤ units p
unfolding function_end
end_inside p pc lt = (let most = entry_most p (units p - (pc + 1)) (pc + 1) in omega (arith, most, lt))

falling_ahead : (p : Program) (pc : ℕ) (i : Instruction) (u : ℕ) → first_fault (decoding_fault p) (units p) ≡ None → instruction_at p pc ≡ Some i → u ≡ units_of i → 1 ≤ u → falling_cause p pc (pc + u) ≡ None → Ahead p pc (function_end p pc) (pos (pc + u))
falling_ahead p pc i u fine found size some h =
    elim (cases_Bool (leb (function_end p pc) (pc + u))) [
      | inl end ↦ absurd (let e : some_cause FallsOff ≡ None = (rw end at h) in cc)
      | inr more ↦
          let before = leb-false (function_end p pc) (pc + u) more in
          let end = end_inside p pc (inside p pc i found) in
          let at : start_from p (pc + u) ≡ pc + u = (rw size (next_starts p pc i found)) in
          let found = stands_at p (pc + u) fine at (omega (arith, before, end)) in
          record { place = pc + u; is = refl; behind = omega (arith, some); under = before; instruction = found.0; found = found.1 }
    ]

both_none : (a b : Option Cause) → option_or a b ≡ None → (a ≡ None) × (b ≡ None)
both_none None b h = (refl, h)
both_none (Some c) b h = absurd cc

pub one_ahead : (p : Program) (pc end : ℕ) (z x : ℤ) → Ahead p pc end x → IsOneOf z (x ∷ []) → Ahead p pc end z
one_ahead p pc end z x h m = elim m [ inl same ↦ rw same h | inr none ↦ absurd none ]

two_ahead : (p : Program) (pc : ℕ) (z x y : ℤ) → Ahead p pc (function_end p pc) x → Ahead p pc (function_end p pc) y → IsOneOf z (x ∷ y ∷ []) → Ahead p pc (function_end p pc) z
two_ahead p pc z x y h k m = elim m [ inl same ↦ rw same h | inr rest ↦ one_ahead p pc (function_end p pc) z y k rest ]

-- an instruction is one clause here
cause_ahead : (p : Program) (pc : ℕ) (i : Instruction) (z : ℤ) → first_fault (decoding_fault p) (units p) ≡ None → instruction_at p pc ≡ Some i → flow_cause p pc i ≡ None → IsOneOf z (next_pcs i pc) → Ahead p pc (function_end p pc) z
cause_ahead p pc Exit z fine found h m = absurd m
cause_ahead p pc (Jump d) z fine found h m =
    one_ahead p pc (function_end p pc) z (target pc (units_over d)) (landing_ahead p pc (target pc (units_over d)) h) m
cause_ahead p pc (Branch w c l r d) z fine found h m =
    let parts = both_none (landing_cause p pc (target pc d)) (falling_cause p pc (pc + 1)) h in
    two_ahead p pc z (target pc d) (pos (pc + 1)) (landing_ahead p pc (target pc d) parts.0) (falling_ahead p pc (Branch w c l r d) 1 fine found refl (omega arith) parts.1) m
cause_ahead p pc (Wide d v) z fine found h m =
    one_ahead p pc (function_end p pc) z (pos (pc + 2)) (falling_ahead p pc (Wide d v) 2 fine found refl (omega arith) h) m
cause_ahead p pc (Alu w o d x) z fine found h m =
    one_ahead p pc (function_end p pc) z (pos (pc + 1)) (falling_ahead p pc (Alu w o d x) 1 fine found refl (omega arith) h) m
cause_ahead p pc (MoveSigned e d s) z fine found h m =
    one_ahead p pc (function_end p pc) z (pos (pc + 1)) (falling_ahead p pc (MoveSigned e d s) 1 fine found refl (omega arith) h) m
cause_ahead p pc (Negate w d) z fine found h m =
    one_ahead p pc (function_end p pc) z (pos (pc + 1)) (falling_ahead p pc (Negate w d) 1 fine found refl (omega arith) h) m
cause_ahead p pc (Swap o b d) z fine found h m =
    one_ahead p pc (function_end p pc) z (pos (pc + 1)) (falling_ahead p pc (Swap o b d) 1 fine found refl (omega arith) h) m
cause_ahead p pc (CallHelper n) z fine found h m =
    one_ahead p pc (function_end p pc) z (pos (pc + 1)) (falling_ahead p pc (CallHelper n) 1 fine found refl (omega arith) h) m
cause_ahead p pc (CallLocal d) z fine found h m =
    let parts = both_none (calling_cause (start_above p pc (target pc d))) (falling_cause p pc (pc + 1)) h in
    one_ahead p pc (function_end p pc) z (pos (pc + 1)) (falling_ahead p pc (CallLocal d) 1 fine found refl (omega arith) parts.1) m
cause_ahead p pc (Load s d b o) z fine found h m =
    one_ahead p pc (function_end p pc) z (pos (pc + 1)) (falling_ahead p pc (Load s d b o) 1 fine found refl (omega arith) h) m
cause_ahead p pc (LoadSigned s d b o) z fine found h m =
    one_ahead p pc (function_end p pc) z (pos (pc + 1)) (falling_ahead p pc (LoadSigned s d b o) 1 fine found refl (omega arith) h) m
cause_ahead p pc (Store s b o n) z fine found h m =
    one_ahead p pc (function_end p pc) z (pos (pc + 1)) (falling_ahead p pc (Store s b o n) 1 fine found refl (omega arith) h) m
cause_ahead p pc (StoreRegister s b o r) z fine found h m =
    one_ahead p pc (function_end p pc) z (pos (pc + 1)) (falling_ahead p pc (StoreRegister s b o r) 1 fine found refl (omega arith) h) m

-- what is called lies ahead too
called_ahead : (p : Program) (pc : ℕ) (i : Instruction) (z : ℤ) → flow_cause p pc i ≡ None → IsOneOf z (called_pcs i pc) → Ahead p pc (units p) z
called_ahead p pc (CallLocal d) z h m =
    let parts = both_none (calling_cause (start_above p pc (target pc d))) (falling_cause p pc (pc + 1)) h in
    one_ahead p pc (units p) z (target pc d) (calling_ahead p pc (target pc d) parts.0) m
called_ahead p pc _ z h m = absurd m

-- what the first two passes found of a program
pub record Flows (p : Program) : Type 0 where
  pub decodes : first_fault (decoding_fault p) (units p) ≡ None
  pub flow : first_fault (flow_fault p) (units p) ≡ None

flow_fine : (p : Program) (pc : ℕ) (i : Instruction) → Flows p → instruction_at p pc ≡ Some i → flow_cause p pc i ≡ None
flow_fine p pc i passed found =
    let none : flow_fault p pc ≡ None = NoFault-first (flow_fault p) (units p) passed.flow pc (inside p pc i found) in
    (rw found at none)

pub ahead : (p : Program) (pc : ℕ) (i : Instruction) (z : ℤ) → Flows p → instruction_at p pc ≡ Some i → IsOneOf z (next_pcs i pc) → Ahead p pc (function_end p pc) z
ahead p pc i z passed found m =
    cause_ahead p pc i z passed.decodes found (flow_fine p pc i passed found) m

pub call_ahead : (p : Program) (pc : ℕ) (i : Instruction) (z : ℤ) → Flows p → instruction_at p pc ≡ Some i → IsOneOf z (called_pcs i pc) → Ahead p pc (units p) z
call_ahead p pc i z passed found m = called_ahead p pc i z (flow_fine p pc i passed found) m

-- where a function is called one begins
pub call_begins : (p : Program) (pc : ℕ) (z : ℤ) → Flows p → instruction_at p pc ≡ Some (CallLocal z) → start_above p pc (target pc z) ≢ None
call_begins p pc z passed found none =
    let parts = both_none (calling_cause (start_above p pc (target pc z))) (falling_cause p pc (pc + 1)) (flow_fine p pc (CallLocal z) passed found) in
    (let e : some_cause CallTarget ≡ None = (rw none at parts.0) in cc)

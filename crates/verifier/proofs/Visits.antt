-- Where a walked pc leads.
use Rattle.std.proofs.Common.{◌≡◌, ◌≢◌, ℕ, ◌-◌, ◌≤◌, Some, None, Ok, refl, inl, inr, arith}
use Rattle.std.specs.Prelude.{ℤ, pos, negsuc, is_some, ◌&&◌, nat_lt, unsigned_abs}
use Rattle.std.proofs.lemmas.Bool.{cases_Bool}
use Rattle.bpf_isa.specs.declared.instruction.Instruction.TheVariants.{CallLocal}
use Rattle.abstract_state.specs.States.{most_callers}
use Rattle.verifier.specs.Functions.{start_above, entry_called}
use Rattle.verifier.specs.Equations.{Passage, called, calls_of}
use Rattle.bpf_isa.specs.declared.instruction.Instruction.{Instruction}
use Rattle.bpf_image.specs.Program.{Program, units, lengths_of}
use Rattle.abstract_state.specs.States.{AbstractState}
use Rattle.verifier.specs.Rules.{Ways, target, transfer}
use Rattle.verifier.specs.Listing.{instruction_at}
use Rattle.verifier.specs.Tables.{LeadInside}
use Rattle.verifier.proofs.RuleParts.{ok}
use Rattle.verifier.proofs.Listed.{inside}
use Rattle.verifier.proofs.Flowing.{Flows, ahead, call_begins}
use Rattle.verifier.proofs.WaysAhead.{ways_lead}

pub lead_inside : (p : Program) (pc : ℕ) (i : Instruction) (s : AbstractState) (ws : Ways) → Flows p → instruction_at p pc ≡ Some i → transfer (lengths_of p) pc i s ≡ ok ws → LeadInside (units p) ws
lead_inside p pc i s ws passed found goes w m =
    let to = ahead p pc i w.0 passed found (ways_lead (lengths_of p) pc i s ws goes w m) in
    (to.place, to.is, inside p to.place to.instruction to.found)

pub start_is : (p : Program) (pc entry : ℕ) (z : ℤ) → Some entry ≡ start_above p pc z → entry ≡ unsigned_abs z
start_is p pc entry (negsuc n) h = absurd cc
start_is p pc entry (pos q) h =
    elim (cases_Bool (is_some (instruction_at p q) && nat_lt pc q)) [
      | inl is ↦ (let e : Some entry ≡ Some q = (rw is at h) in cc)
      | inr not_is ↦ absurd (let e : Some entry ≡ None = (rw not_is at h) in cc)
    ]

-- where the function begins that is called
pub begins : (p : Program) (pc entry : ℕ) (z : ℤ) → instruction_at p pc ≡ Some (CallLocal z) → Some entry ≡ entry_called p pc (instruction_at p pc) → entry ≡ unsigned_abs (target pc z)
begins p pc entry z found h = start_is p pc entry (target pc z) (rw found at h)

-- and it begins somewhere
pub has_beginning : (p : Program) (pc : ℕ) (z : ℤ) → Flows p → instruction_at p pc ≡ Some (CallLocal z) → entry_called p pc (instruction_at p pc) ≢ None
has_beginning p pc z passed found none = call_begins p pc z passed found (rw found at none)

-- there is no call from the deepest frame
pub deepest : (p : Program) (v w : Passage) → most_callers ≤ v.frame → calls_of p v w ≡ Ok None
unfolding called
deepest p v w deep = (let none : most_callers - v.frame ≡ 0 = omega (arith, deep) in rw none refl)

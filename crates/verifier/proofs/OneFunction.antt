-- Code of one function: it has one frame, and ends where the code ends.
use Rattle.std.proofs.Common.{◌≡◌, ℕ, zero, suc, ◌+◌, ◌-◌, ◌<◌, ◌≤◌, false, eqb, List, [], ◌∷◌, length, get_or, replicate, Option, Some, None, refl, sym, ap, ◌∙◌, arith, inl, inr}
use Rattle.std.specs.Prelude.{ℤ, unsigned_abs}
use Rattle.std.proofs.lemmas.Bool.{cases_lt, ne_eqb}
use Rattle.bpf_isa.specs.declared.instruction.Instruction.{Instruction}
use Rattle.bpf_isa.specs.declared.instruction.Instruction.TheVariants.{CallLocal}
use Rattle.bpf_image.specs.Program.{Program, units}
use Rattle.verifier.specs.Listing.{instruction_at, start_from}
use Rattle.verifier.specs.Verdict.{first_fault, decoding_fault}
use Rattle.verifier.specs.Functions.{entry_called, is_called, is_entry, entry_from, function_end}
use Rattle.verifier.specs.Walks.{is_call, called_pcs, next_pcs, greatest, weight_over, weight_from, frame_rule, deepest}
use Rattle.verifier.specs.Tables.{calls_one, HasOneFunction, HasEnds}
use Rattle.verifier.proofs.Listed.{none_past, stands_at}
use Rattle.verifier.proofs.Weighing.{standing, none_over, weighs_at}

-- no call stands below the end, and none past it
pub no_calls : (p : Program) (n : ℕ) → units p ≤ n → ((q : ℕ) → q < n → calls_one (instruction_at p q) ≡ false) → HasOneFunction p
no_calls p n all below q =
    elim (cases_lt q n) [
      | inl lt ↦ below q lt
      | inr ge ↦ rw (none_past p q (omega (arith, all, ge))) refl
    ]

-- ---- no function begins after the start

none_called : (p : Program) (pc : ℕ) (o : Option Instruction) → calls_one o ≡ false → entry_called p pc o ≡ None
none_called p pc None h = refl
none_called p pc (Some (CallLocal distance)) h = absurd cc
none_called p pc (Some _) h = refl

not_called : (p : Program) (n q : ℕ) → HasOneFunction p → is_called p n q ≡ false
not_called p zero q one = refl
not_called p (suc n) q one = rw (none_called p n (instruction_at p n) (one n), not_called p n q one) refl

not_entry : (p : Program) (pc : ℕ) → HasOneFunction p → 0 < pc → is_entry p pc ≡ false
not_entry p pc one some =
    let apart : eqb pc 0 ≡ false = ne_eqb pc 0 (λ e. absurd (omega (arith, e, some))) in
    rw (apart, not_called p (units p) pc one) refl

entry_past : (p : Program) (n pc : ℕ) → HasOneFunction p → 0 < pc → entry_from p n pc ≡ pc + n
entry_past p zero pc one some = omega arith
entry_past p (suc n) pc one some =
    let rest : entry_from p n (pc + 1) ≡ pc + 1 + n = entry_past p n (pc + 1) one (omega arith) in
    rw (not_entry p pc one some) (rest ∙ omega arith)

end_of_one : (p : Program) (pc : ℕ) → HasOneFunction p → pc < units p → units p ≡ function_end p pc
unfolding function_end
end_of_one p pc one lt =
    let past = entry_past p (units p - (pc + 1)) (pc + 1) one (omega arith) in
    sym (past ∙ omega (arith, lt))

repeated : (n v k : ℕ) → k < n → get_or (replicate n v) k 0 ≡ v
repeated zero v k lt = absurd (omega arith)
repeated (suc n) v zero lt = refl
repeated (suc n) v (suc k) lt = repeated n v k (omega arith)

as_long : (n v : ℕ) → length (replicate n v) ≡ n
as_long zero v = refl
as_long (suc n) v = ap suc (as_long n v)

pub ends_of : (p : Program) (ends : List ℕ) → HasOneFunction p → ends ≡ replicate (units p) (units p) → HasEnds p ends
ends_of p ends one is =
    rw is (as_long (units p) (units p), λ q lt. repeated (units p) (units p) q lt ∙ end_of_one p q one lt)

-- ---- one frame is enough

pub no_pcs : (pc : ℕ) (i : Instruction) → is_call i ≡ false → called_pcs i pc ≡ []
no_pcs pc (CallLocal distance) h = absurd cc
no_pcs pc _ h = refl

greatest_few : (f : ℕ → ℕ) (zs : List ℤ) → ((q : ℕ) → f q ≤ 1) → greatest f zs ≤ 1
greatest_few f [] few = omega arith
greatest_few f (z ∷ zs) few =
    let here = few (unsigned_abs z) in
    let rest = greatest_few f zs few in
    omega (arith, here, rest)

frames_at : (p : Program) (n pc : ℕ) (i : Instruction) → HasOneFunction p → instruction_at p pc ≡ Some i → weight_over frame_rule next_pcs p (suc n) pc ≡ frame_rule 0 (greatest (weight_over frame_rule next_pcs p n) (next_pcs i pc))
frames_at p n pc i one found =
    let plain : is_call i ≡ false = (let h = one pc in rw found at h) in
    weighs_at frame_rule next_pcs p n pc i found ∙ ap (λ zs. frame_rule (greatest (weight_over frame_rule next_pcs p n) zs) (greatest (weight_over frame_rule next_pcs p n) (next_pcs i pc))) (no_pcs pc i plain)

frames_few : (p : Program) (n pc : ℕ) → HasOneFunction p → weight_over frame_rule next_pcs p n pc ≤ 1
unfolding weight_over
frames_few p zero pc one = omega arith
frames_few p (suc n) pc one =
    elim (standing p pc) [
      | inl none ↦ (let zero_weight = none_over frame_rule next_pcs p (suc n) pc none in omega (arith, zero_weight))
      | inr found ↦
          let is = frames_at p n pc found.0 one found.1 in
          let rest = greatest_few (weight_over frame_rule next_pcs p n) (next_pcs found.0 pc) (λ q. frames_few p n q one) in
          omega (arith, is, rest)
    ]

pub one_frame : (p : Program) → HasOneFunction p → first_fault (decoding_fault p) (units p) ≡ None → 0 < units p → deepest p ≡ 1
unfolding weight_from start_from
one_frame p one fine some =
    let first = stands_at p 0 fine refl some in
    let left : units p - 0 ≡ suc (units p - 1) = omega (arith, some) in
    let is = frames_at p (units p - 1) 0 first.0 one first.1 in
    let few = greatest_few (weight_over frame_rule next_pcs p (units p - 1)) (next_pcs first.0 0) (λ q. frames_few p (units p - 1) q one) in
    rw left (omega (arith, is, few))

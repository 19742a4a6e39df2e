use Rattle.std.proofs.Common.{◌≡◌, ℕ, zero, suc, ◌-◌, ◌<◌, [], ◌∷◌, length, sym, ap, ◌∙◌, Some, None, Ok, Err, Option, get_or, set, get_or-set_same, inr, arith, refl}
use Rattle.std.proofs.lemmas.List.{length-set, get_or_read_under}
use Rattle.bpf_isa.specs.declared.instruction.Instruction.{Instruction}
use Rattle.bpf_isa.specs.declared.instruction.Instruction.TheVariants.{CallLocal, Exit}
use Rattle.abstract_state.specs.States.{AbstractState, left_state}
use Rattle.bpf_image.specs.Program.{units, lengths_of}
use Rattle.verifier.specs.Rules.{transfer}
use Rattle.verifier.specs.RuleAnswers.{ways_onward, answer_ways}
use Rattle.verifier.proofs.RuleParts.{ok}
use Rattle.verifier.specs.Listing.{instruction_at}
use Rattle.verifier.specs.Equations.{calls_of, states, joined_with, left_by}
use Rattle.verifier.specs.Tables.{Table, state_at}
use Rattle.verifier.proofs.Flowing.{Flows}
use Rattle.verifier.proofs.Visits.{lead_inside, has_beginning, deepest}
use Rattle.verifier.proofs.Passing.{has_come, plain_step, exit_step, call_step, rule_broken}
use Rattle.verifier.proofs.walking.visit.Goals as goal

abbrev some_instruction : Instruction → Option Instruction
some_instruction i = Some i

pub returns-in-Err : goal.returns-in-Err
returns-in-Err c = record {
  gone = λ v old last frame entry h.
      let passed : Flows c.args.layout.now.image.now = record { decodes = c.args.layout.now.decodes; flow = c.args.layout.now.flows } in
      let some : Some c.in-Some-take.state ≡ get_or c.args.states.now.items c.args.here.pc (Some c.in-Some-take.state) = rw (← c.in-Some-take.ensures.value) at c.index_mut-in-Exit.ensures.value in
      let here : Some c.in-Some-take.state ≡ get_or c.args.states.now.items c.args.here.pc None = get_or_read_under c.args.states.now.items c.args.here.pc (units c.args.layout.now.image.now) (Some c.in-Some-take.state) None some c.requires.inside (sym c.requires.long) in
      let found : instruction_at c.args.layout.now.image.now c.args.here.pc ≡ Some c.in-Some.instruction = sym c.in-Some.ensures.exact in
      let known : states c.args.layout.now.image.now (calls_of c.args.layout.now.image.now v) v c.args.here.pc ≡ Some c.in-Some-take.state = has_come c.args.layout.now.image.now (calls_of c.args.layout.now.image.now v) v old c.args.states.now.items c.args.here.pc last c.args.exits.now c.in-Some-take.state c.requires.inside h (sym here) in
      let exits_here : instruction_at c.args.layout.now.image.now c.args.here.pc ≡ Some Exit = found ∙ ap (λ i. some_instruction i) c.in-Exit.is in
      let step = c.in-Err.ensures.ways (lengths_of c.args.layout.now.image.now) c.args.here.pc in
      let fails : transfer (lengths_of c.args.layout.now.image.now) c.args.here.pc Exit c.in-Some-take.state ≡ Err c.in-Err.cause = step in
      inr (rule_broken c.args.layout.now.image.now v old c.args.states.now.items c.args.here.pc last c.args.exits.now Exit c.in-Some-take.state c.in-Err.cause h exits_here known fails);
}

pub returns-in_default-entry_called_at : goal.returns-in_default-entry_called_at
returns-in_default-entry_called_at c = record {
  gone = λ v old last frame entry h further far reaches.
      let passed : Flows c.args.layout.now.image.now = record { decodes = c.args.layout.now.decodes; flow = c.args.layout.now.flows } in
      let some : Some c.in-Some-take-2.state ≡ get_or c.args.states.now.items c.args.here.pc (Some c.in-Some-take-2.state) = rw (← c.in-Some-take-2.ensures.value) at c.index_mut-in-CallLocal.ensures.value in
      let here : Some c.in-Some-take-2.state ≡ get_or c.args.states.now.items c.args.here.pc None = get_or_read_under c.args.states.now.items c.args.here.pc (units c.args.layout.now.image.now) (Some c.in-Some-take-2.state) None some c.requires.inside (sym c.requires.long) in
      let found : instruction_at c.args.layout.now.image.now c.args.here.pc ≡ Some c.in-Some.instruction = sym c.in-Some.ensures.exact in
      let known : states c.args.layout.now.image.now (calls_of c.args.layout.now.image.now v) v c.args.here.pc ≡ Some c.in-Some-take-2.state = has_come c.args.layout.now.image.now (calls_of c.args.layout.now.image.now v) v old c.args.states.now.items c.args.here.pc last c.args.exits.now c.in-Some-take-2.state c.requires.inside h (sym here) in
      let called_here : instruction_at c.args.layout.now.image.now c.args.here.pc ≡ Some (CallLocal c.in-CallLocal.distance) = found ∙ ap (λ i. some_instruction i) c.in-CallLocal.is in
      absurd (has_beginning c.args.layout.now.image.now c.args.here.pc c.in-CallLocal.distance passed called_here (sym c.in_default-entry_called_at.ensures.exact));
}

pub returns-then-from-ge-MOST_CALLERS : goal.returns-then-from-ge-MOST_CALLERS
returns-then-from-ge-MOST_CALLERS c = record {
  gone = λ v old last frame entry h further far reaches.
      let passed : Flows c.args.layout.now.image.now = record { decodes = c.args.layout.now.decodes; flow = c.args.layout.now.flows } in
      let some : Some c.in-Some-take-2.state ≡ get_or c.args.states.now.items c.args.here.pc (Some c.in-Some-take-2.state) = rw (← c.in-Some-take-2.ensures.value) at c.index_mut-in-CallLocal.ensures.value in
      let here : Some c.in-Some-take-2.state ≡ get_or c.args.states.now.items c.args.here.pc None = get_or_read_under c.args.states.now.items c.args.here.pc (units c.args.layout.now.image.now) (Some c.in-Some-take-2.state) None some c.requires.inside (sym c.requires.long) in
      let found : instruction_at c.args.layout.now.image.now c.args.here.pc ≡ Some c.in-Some.instruction = sym c.in-Some.ensures.exact in
      let known : states c.args.layout.now.image.now (calls_of c.args.layout.now.image.now v) v c.args.here.pc ≡ Some c.in-Some-take-2.state = has_come c.args.layout.now.image.now (calls_of c.args.layout.now.image.now v) v old c.args.states.now.items c.args.here.pc last c.args.exits.now c.in-Some-take-2.state c.requires.inside h (sym here) in
      let after : c.take-in-CallLocal.new.self ≡ None = c.in-Some-take-2.ensures.after in
      let long : length (set c.args.states.now.items c.args.here.pc c.take-in-CallLocal.new.self) ≡ length c.args.states.now.items = length-set c.args.states.now.items c.args.here.pc c.take-in-CallLocal.new.self in
      let taken : (q : ℕ) → state_at (set c.args.states.now.items c.args.here.pc c.take-in-CallLocal.new.self) q ≡ state_at (set c.args.states.now.items c.args.here.pc None) q = λ q. ap (λ o. state_at (set c.args.states.now.items c.args.here.pc o) q) after in
      let called_here : instruction_at c.args.layout.now.image.now c.args.here.pc ≡ Some (CallLocal c.in-CallLocal.distance) = found ∙ ap (λ i. some_instruction i) c.in-CallLocal.is in
      call_step c.args.layout.now.image.now (calls_of c.args.layout.now.image.now v) v old c.args.states.now.items (set c.args.states.now.items c.args.here.pc c.take-in-CallLocal.new.self) c.args.here.pc last further c.args.exits.now c.in-CallLocal.distance c.in-Some-take-2.state None passed entry c.requires.inside h called_here known (deepest c.args.layout.now.image.now v _ (omega (arith, frame, c.from.ensures, c.if-from-ge-MOST_CALLERS.true))) far reaches long taken;
}

pub returns-then-frame-eq0 : goal.returns-then-frame-eq0
returns-then-frame-eq0 c = record {
  gone = λ v old last frame entry h further far reaches.
      let passed : Flows c.args.layout.now.image.now = record { decodes = c.args.layout.now.decodes; flow = c.args.layout.now.flows } in
      let some : Some c.in-Some-take.state ≡ get_or c.args.states.now.items c.args.here.pc (Some c.in-Some-take.state) = rw (← c.in-Some-take.ensures.value) at c.index_mut-in-Exit.ensures.value in
      let here : Some c.in-Some-take.state ≡ get_or c.args.states.now.items c.args.here.pc None = get_or_read_under c.args.states.now.items c.args.here.pc (units c.args.layout.now.image.now) (Some c.in-Some-take.state) None some c.requires.inside (sym c.requires.long) in
      let found : instruction_at c.args.layout.now.image.now c.args.here.pc ≡ Some c.in-Some.instruction = sym c.in-Some.ensures.exact in
      let known : states c.args.layout.now.image.now (calls_of c.args.layout.now.image.now v) v c.args.here.pc ≡ Some c.in-Some-take.state = has_come c.args.layout.now.image.now (calls_of c.args.layout.now.image.now v) v old c.args.states.now.items c.args.here.pc last c.args.exits.now c.in-Some-take.state c.requires.inside h (sym here) in
      let after : c.take.new.self ≡ None = c.in-Some-take.ensures.after in
      let long : length (set c.args.states.now.items c.args.here.pc c.take.new.self) ≡ length c.args.states.now.items = length-set c.args.states.now.items c.args.here.pc c.take.new.self in
      let taken : (q : ℕ) → state_at (set c.args.states.now.items c.args.here.pc c.take.new.self) q ≡ state_at (set c.args.states.now.items c.args.here.pc None) q = λ q. ap (λ o. state_at (set c.args.states.now.items c.args.here.pc o) q) after in
      let exits_here : instruction_at c.args.layout.now.image.now c.args.here.pc ≡ Some Exit = found ∙ ap (λ i. some_instruction i) c.in-Exit.is in
      let step = c.in_default-exit.ensures.ways (lengths_of c.args.layout.now.image.now) c.args.here.pc in
      let goes : transfer (lengths_of c.args.layout.now.image.now) c.args.here.pc Exit c.in-Some-take.state ≡ ok (ways_onward c.args.here.pc Exit c.in_default-exit.field-0 c.in-Some-take.state) = step in
      let none : v.frame ≡ 0 = frame ∙ c.if-frame-eq0.true in
      let left : c.args.exits.now ≡ left_by v.frame c.args.exits.now c.in-Some-take.state = rw none refl in
      exit_step c.args.layout.now.image.now (calls_of c.args.layout.now.image.now v) v old c.args.states.now.items (set c.args.states.now.items c.args.here.pc c.take.new.self) c.args.here.pc last further c.args.exits.now c.args.exits.now c.in-Some-take.state (ways_onward c.args.here.pc Exit c.in_default-exit.field-0 c.in-Some-take.state) passed entry c.requires.inside h exits_here known goes left far reaches long taken;
}

pub returns-else-frame-eq0 : goal.returns-else-frame-eq0
returns-else-frame-eq0 c = record {
  gone = λ v old last frame entry h further far reaches.
      let passed : Flows c.args.layout.now.image.now = record { decodes = c.args.layout.now.decodes; flow = c.args.layout.now.flows } in
      let some : Some c.in-Some-take.state ≡ get_or c.args.states.now.items c.args.here.pc (Some c.in-Some-take.state) = rw (← c.in-Some-take.ensures.value) at c.index_mut-in-Exit.ensures.value in
      let here : Some c.in-Some-take.state ≡ get_or c.args.states.now.items c.args.here.pc None = get_or_read_under c.args.states.now.items c.args.here.pc (units c.args.layout.now.image.now) (Some c.in-Some-take.state) None some c.requires.inside (sym c.requires.long) in
      let found : instruction_at c.args.layout.now.image.now c.args.here.pc ≡ Some c.in-Some.instruction = sym c.in-Some.ensures.exact in
      let known : states c.args.layout.now.image.now (calls_of c.args.layout.now.image.now v) v c.args.here.pc ≡ Some c.in-Some-take.state = has_come c.args.layout.now.image.now (calls_of c.args.layout.now.image.now v) v old c.args.states.now.items c.args.here.pc last c.args.exits.now c.in-Some-take.state c.requires.inside h (sym here) in
      let after : c.take.new.self ≡ None = c.in-Some-take.ensures.after in
      let long : length (set c.args.states.now.items c.args.here.pc c.take.new.self) ≡ length c.args.states.now.items = length-set c.args.states.now.items c.args.here.pc c.take.new.self in
      let taken : (q : ℕ) → state_at (set c.args.states.now.items c.args.here.pc c.take.new.self) q ≡ state_at (set c.args.states.now.items c.args.here.pc None) q = λ q. ap (λ o. state_at (set c.args.states.now.items c.args.here.pc o) q) after in
      let exits_here : instruction_at c.args.layout.now.image.now c.args.here.pc ≡ Some Exit = found ∙ ap (λ i. some_instruction i) c.in-Exit.is in
      let step = c.in_default-exit.ensures.ways (lengths_of c.args.layout.now.image.now) c.args.here.pc in
      let goes : transfer (lengths_of c.args.layout.now.image.now) c.args.here.pc Exit c.in-Some-take.state ≡ ok (ways_onward c.args.here.pc Exit c.in_default-exit.field-0 c.in-Some-take.state) = step in
      let caller : v.frame ≡ suc (c.args.here.frame - 1) = (let some = c.if-frame-eq0.false in omega (arith, frame, some)) in
      let leaves : c.leave_call.new.state ≡ left_state (c.args.here.frame - 1) c.in-Some-take.state = c.leave_call.ensures in
      let joined : c.join_exit.new.exits ≡ joined_with c.args.exits.now (left_state (c.args.here.frame - 1) c.in-Some-take.state) = rw leaves at c.join_exit.ensures in
      let left : c.join_exit.new.exits ≡ left_by v.frame c.args.exits.now c.in-Some-take.state = rw caller joined in
      exit_step c.args.layout.now.image.now (calls_of c.args.layout.now.image.now v) v old c.args.states.now.items (set c.args.states.now.items c.args.here.pc c.take.new.self) c.args.here.pc last further c.args.exits.now c.join_exit.new.exits c.in-Some-take.state (ways_onward c.args.here.pc Exit c.in_default-exit.field-0 c.in-Some-take.state) passed entry c.requires.inside h exits_here known goes left far reaches long taken;
}

pub go_on_from-requires : goal.go_on_from-requires
go_on_from-requires c =
    let passed : Flows c.args.layout.now.image.now = record { decodes = c.args.layout.now.decodes; flow = c.args.layout.now.flows } in
    let found : instruction_at c.args.layout.now.image.now c.args.here.pc ≡ Some c.in-Some.instruction = sym c.in-Some.ensures.exact in
    let told : (before : AbstractState) × (after : AbstractState) × (state_at c.args.states.now.items c.args.here.pc ≡ Some before) × (c.step_at.new.states.items ≡ set c.args.states.now.items c.args.here.pc (Some after)) × ((at : ℕ) → transfer c.lengths.result at c.in-Some.instruction before ≡ answer_ways at c.in-Some.instruction (Ok c.in-Some-Ok.onward) after) = rw c.in-Some-Ok.field-0-is at c.in-Some-Ok.ensures in
    let step = told.4 c.args.here.pc in
    let goes : transfer (lengths_of c.args.layout.now.image.now) c.args.here.pc c.in-Some.instruction told.0 ≡ ok (ways_onward c.args.here.pc c.in-Some.instruction c.in-Some-Ok.onward told.1) = rw (← c.lengths.ensures.exact) step in
    let size : length c.step_at.new.states.items ≡ units c.args.layout.now.image.now = ap length told.3 ∙ length-set c.args.states.now.items c.args.here.pc (Some told.1) ∙ c.requires.long in
    let lt : c.args.here.pc < length c.args.states.now.items = omega (arith, c.requires.inside, c.requires.long) in
    let there : state_at c.step_at.new.states.items c.args.here.pc ≡ Some told.1 = ap (λ (l : Table). state_at l c.args.here.pc) told.3 ∙ get_or-set_same c.args.states.now.items c.args.here.pc (Some told.1) None lt in
    record {
      near = omega (arith, c.requires.inside, c.starting_at.ensures.few);
      here = omega (arith, c.requires.inside, size);
      inside = (told.1, there, rw size (lead_inside c.args.layout.now.image.now c.args.here.pc c.in-Some.instruction told.0 (ways_onward c.args.here.pc c.in-Some.instruction c.in-Some-Ok.onward told.1) passed found goes));
    }

pub returns-in-Some-Err : goal.returns-in-Some-Err
returns-in-Some-Err c = record {
  gone = λ v old last frame entry h.
      let found : instruction_at c.args.layout.now.image.now c.args.here.pc ≡ Some c.in-Some.instruction = sym c.in-Some.ensures.exact in
      let told : (before : AbstractState) × (after : AbstractState) × (state_at c.args.states.now.items c.args.here.pc ≡ Some before) × (c.step_at.new.states.items ≡ set c.args.states.now.items c.args.here.pc (Some after)) × ((at : ℕ) → transfer c.lengths.result at c.in-Some.instruction before ≡ answer_ways at c.in-Some.instruction (Err c.in-Some-Err.cause) after) = rw c.in-Some-Err.field-0-is at c.in-Some-Err.ensures in
      let known : states c.args.layout.now.image.now (calls_of c.args.layout.now.image.now v) v c.args.here.pc ≡ Some told.0 = has_come c.args.layout.now.image.now (calls_of c.args.layout.now.image.now v) v old c.args.states.now.items c.args.here.pc last c.args.exits.now told.0 c.requires.inside h told.2 in
      let step = told.4 c.args.here.pc in
      let fails : transfer (lengths_of c.args.layout.now.image.now) c.args.here.pc c.in-Some.instruction told.0 ≡ Err c.in-Some-Err.cause = rw (← c.lengths.ensures.exact) step in
      inr (rule_broken c.args.layout.now.image.now v old c.args.states.now.items c.args.here.pc last c.args.exits.now c.in-Some.instruction told.0 c.in-Some-Err.cause h found known fails);
}

set_again : (xs : Table) (k : ℕ) (a b : Option AbstractState) → set (set xs k a) k b ≡ set xs k b
set_again [] k a b = refl
set_again (x ∷ xs) zero a b = refl
set_again (x ∷ xs) (suc k) a b = ap (λ rest. x ∷ rest) (set_again xs k a b)

pub returns-in_ok-go_on_from-in-Some-Ok : goal.returns-in_ok-go_on_from-in-Some-Ok
returns-in_ok-go_on_from-in-Some-Ok c = record {
  gone = λ v old last frame entry h further far reaches.
      let passed : Flows c.args.layout.now.image.now = record { decodes = c.args.layout.now.decodes; flow = c.args.layout.now.flows } in
      let found : instruction_at c.args.layout.now.image.now c.args.here.pc ≡ Some c.in-Some.instruction = sym c.in-Some.ensures.exact in
      let told : (before : AbstractState) × (after : AbstractState) × (state_at c.args.states.now.items c.args.here.pc ≡ Some before) × (c.step_at.new.states.items ≡ set c.args.states.now.items c.args.here.pc (Some after)) × ((at : ℕ) → transfer c.lengths.result at c.in-Some.instruction before ≡ answer_ways at c.in-Some.instruction (Ok c.in-Some-Ok.onward) after) = rw c.in-Some-Ok.field-0-is at c.in-Some-Ok.ensures in
      let known : states c.args.layout.now.image.now (calls_of c.args.layout.now.image.now v) v c.args.here.pc ≡ Some told.0 = has_come c.args.layout.now.image.now (calls_of c.args.layout.now.image.now v) v old c.args.states.now.items c.args.here.pc last c.args.exits.now told.0 c.requires.inside h told.2 in
      let step = told.4 c.args.here.pc in
      let goes : transfer (lengths_of c.args.layout.now.image.now) c.args.here.pc c.in-Some.instruction told.0 ≡ ok (ways_onward c.args.here.pc c.in-Some.instruction c.in-Some-Ok.onward told.1) = rw (← c.lengths.ensures.exact) step in
      let lt : c.args.here.pc < length c.args.states.now.items = omega (arith, c.requires.inside, c.requires.long) in
      let there : state_at c.step_at.new.states.items c.args.here.pc ≡ Some told.1 = ap (λ (l : Table). state_at l c.args.here.pc) told.3 ∙ get_or-set_same c.args.states.now.items c.args.here.pc (Some told.1) None lt in
      let cleared : set c.step_at.new.states.items c.args.here.pc None ≡ set c.args.states.now.items c.args.here.pc None = ap (λ (l : Table). set l c.args.here.pc None) told.3 ∙ set_again c.args.states.now.items c.args.here.pc (Some told.1) None in
      let size : length c.go_on_from.new.states.items ≡ length c.args.states.now.items = c.in_ok-go_on_from-in-Some-Ok.ensures.same_length ∙ ap length told.3 ∙ length-set c.args.states.now.items c.args.here.pc (Some told.1) in
      plain_step c.args.layout.now.image.now (calls_of c.args.layout.now.image.now v) v old c.args.states.now.items c.go_on_from.new.states.items c.args.here.pc last further c.args.exits.now c.in-Some.instruction told.0 (ways_onward c.args.here.pc c.in-Some.instruction c.in-Some-Ok.onward told.1) passed entry c.requires.inside h found known goes c.in_default-instruction.not-Exit (λ z e. c.in_default-instruction.not-CallLocal z e) far reaches size (λ q. (let gone = c.in_ok-go_on_from-in-Some-Ok.ensures.gone told.1 there q in rw cleared at gone));
}

-- A state stays described where a register gets a value or more is known of one.
use Rattle.std.proofs.Common.{◌≡◌, ℕ, ◌+◌, true, false, eqb, List, Some, Result, get_or, set, refl, sym, ap, subst, ◌∙◌, inl, inr, eq-eqb}
use Rattle.std.specs.Prelude.{pos, ◌+ℤ◌}
use Rattle.std.proofs.lemmas.Bool.{cases_eq, ne_eqb}
use Rattle.bpf_isa.specs.declared.register.Register.{Register}
use Rattle.bpf_isa.specs.declared.instruction.Instruction.{Instruction}
use Rattle.bpf_isa.specs.Encoding.{number_of}
use Rattle.bpf_image.specs.declared.lengths.Lengths.{Lengths}
use Rattle.bpf_model.specs.State.{Partial, State, with_value}
use Rattle.bpf_model.specs.Step.{Goes, next_with_result}
use Rattle.bpf_model.specs.declared.cause.Cause.{Cause}
use Rattle.abstract_values.specs.declared.value.AbstractValue.{AbstractValue}
use Rattle.abstract_values.specs.declared.value.AbstractValue.TheVariants.{Unset}
use Rattle.abstract_values.specs.Described.{Describes}
use Rattle.abstract_state.specs.States.{AbstractState, with_register}
use Rattle.abstract_state.specs.Described.{DescribesParts}
use Rattle.abstract_state.proofs.Stores.{set_other, set_described}
use Rattle.verifier.specs.Rules.{Ways, write_ways}
use Rattle.verifier.specs.Described.{DescribesState, Follows, stays}
use Rattle.verifier.proofs.RuleParts.{ok, writes_from}
use Rattle.verifier.proofs.KnownValues.{live}

-- more is known of a register
narrowed_values : (l : Lengths) (t : ℕ) (xs : List AbstractValue) (registers : Partial) (d : ℕ) (v : AbstractValue) (r : ℕ) → ((k : ℕ) → Describes l t (get_or xs k Unset) (registers k)) → Describes l t v (registers d) → Describes l t (get_or (set xs d v) r Unset) (registers r)
narrowed_values l t xs registers d v r all new =
    elim (cases_eq r d) [
      | inl same ↦ subst (λ k. Describes l t (get_or (set xs d v) k Unset) (registers k)) (sym same) (set_described l t xs d v (registers d) new)
      | inr other ↦ subst (λ u. Describes l t u (registers r)) (sym (set_other xs d r v Unset other)) (all r)
    ]

pub narrowed_described : (l : Lengths) (t : ℕ) (a : AbstractState) (registers memory : Partial) (r : Register) (v : AbstractValue) → DescribesParts l t a registers memory → Describes l t v (registers (number_of r)) → DescribesParts l t (with_register a r v) registers memory
narrowed_described l t a registers memory r v d new =
    record { values = λ k. narrowed_values l t a.registers registers (number_of r) v k d.values new; record_set = d.record_set; table_set = d.table_set; frames = d.frames }

-- a register gets a number
put_values : (l : Lengths) (t : ℕ) (xs : List AbstractValue) (registers : Partial) (d : ℕ) (v : AbstractValue) (n r : ℕ) → ((k : ℕ) → Describes l t (get_or xs k Unset) (registers k)) → Describes l t v (Some n) → Describes l t (get_or (set xs d v) r Unset) (with_value registers d n r)
put_values l t xs registers d v n r all new =
    elim (cases_eq r d) [
      | inl same ↦
          let test : eqb r d ≡ true = eq-eqb r d same in
          rw test (subst (λ k. Describes l t (get_or (set xs d v) k Unset) (Some n)) (sym same) (set_described l t xs d v (Some n) new))
      | inr other ↦
          let test : eqb r d ≡ false = ne_eqb r d other in
          rw test (subst (λ u. Describes l t u (registers r)) (sym (set_other xs d r v Unset other)) (all r))
    ]

pub put_described : (l : Lengths) (t : ℕ) (a : AbstractState) (registers memory : Partial) (r : Register) (v : AbstractValue) (n : ℕ) → DescribesParts l t a registers memory → Describes l t v (Some n) → DescribesParts l t (with_register a r v) (with_value registers (number_of r) n) memory
put_described l t a registers memory r v n d new =
    record { values = λ k. put_values l t a.registers registers (number_of r) v n k d.values new; record_set = d.record_set; table_set = d.table_set; frames = d.frames }

-- R10 is not the register that is written
frame_register_stays : (registers : Partial) (d n : ℕ) → eqb d 10 ≡ false → with_value registers d n 10 ≡ registers 10
frame_register_stays registers d n other =
    let test : eqb 10 d ≡ false = ne_eqb 10 d (λ same. let is : eqb d 10 ≡ true = eq-eqb d 10 (sym same) in absurd (let e : true ≡ false = sym is ∙ other in cc)) in
    rw test refl

-- a step that puts a described number into the destination
pub put_follows : (l : Lengths) (pc units : ℕ) (i : Instruction) (a : AbstractState) (s : State) (d : Register) (r : Result AbstractValue Cause) (n : ℕ) (ws : Ways) → s.pc ≡ pos pc → DescribesState l a s → write_ways (pc + units) a d r ≡ ok ws → ((v : AbstractValue) → r ≡ ok v → Describes l (live s) v (Some n)) → Follows l i a s ws (next_with_result s units d n)
put_follows l pc units i a s d r n ws at described h new =
    let w = writes_from (pc + units) a d r ws h in
    let moved : s.pc +ℤ pos units ≡ pos (pc + units) = ap (λ z. z +ℤ pos units) at in
    let after : State = record s { pc = s.pc +ℤ pos units; registers = with_value s.registers (number_of d) n } in
    let known : DescribesState l (with_register a d w.value) after = record {
      parts = put_described l (live s) a s.registers s.memory d w.value n described.parts (new w.value w.from);
      frame_register = frame_register_stays s.registers (number_of d) n w.may ∙ described.frame_register;
      few_callers = described.few_callers;
      kept = described.kept;
    } in
    rw w.may (subst (λ v. Follows l i a s v (Goes after)) w.to (stays (pos (pc + units), with_register a d w.value) (inl refl) moved known refl))

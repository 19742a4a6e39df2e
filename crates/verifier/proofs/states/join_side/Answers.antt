use Rattle.std.proofs.Common.{rules, ◌≡◌, refl, ◌∙◌, ap, arith, inl, w64, to_z, of_z}
use Rattle.std.specs.Prelude.{pos, slice_set}
use Rattle.std.proofs.lemmas.Int.{to_z-of_z}
use Rattle.std.proofs.lemmas.List.{set-set, set-get_or}
use Rattle.bpf_isa.specs.Encoding.{number_of}
use Rattle.abstract_values.specs.declared.value.AbstractValue.TheVariants.{Unset}
use Rattle.abstract_state.specs.States.{with_register}
use Rattle.verifier.specs.Rules.{with_operand}
use Rattle.verifier.proofs.states.join_side.Goals as goal

pub overflow_cast-place : goal.overflow_cast-place
overflow_cast-place c =
    let to = c.requires (c.args.place, with_operand (with_register c.args.state.now c.args.compared.0 c.args.values.0) c.args.compared.1 c.args.values.1) (inl refl) in
    let z : to_z w64 (of_z w64 c.args.place) ≡ pos to.0 = to_z-of_z w64 c.args.place (search rules) ∙ to.1 in
    rw z (tt, omega (arith, to.2, c.args.states.now.small))

pub join_narrowed-requires : goal.join_narrowed-requires
join_narrowed-requires c =
    let to = c.requires (c.args.place, with_operand (with_register c.args.state.now c.args.compared.0 c.args.values.0) c.args.compared.1 c.args.values.1) (inl refl) in
    let z : to_z w64 (of_z w64 c.args.place) ≡ pos to.0 = to_z-of_z w64 c.args.place (search rules) ∙ to.1 in
    rw z to.2

pub returns-in-Immediate-clause-arrived : goal.returns-in-Immediate-clause-arrived
returns-in-Immediate-clause-arrived c some q =
    let to = c.requires (c.args.place, with_operand (with_register c.args.state.now c.args.compared.0 c.args.values.0) c.args.compared.1 c.args.values.1) (inl refl) in
    let z : to_z w64 (of_z w64 c.args.place) ≡ pos to.0 = to_z-of_z w64 c.args.place (search rules) ∙ to.1 in
    let came = c.join_narrowed.ensures.arrived some q in
    rw (c.in-Immediate.is, to.1) (rw z at came)

pub overflow_cast-place-in-Source : goal.overflow_cast-place-in-Source
overflow_cast-place-in-Source c =
    let to = c.requires (c.args.place, with_operand (with_register c.args.state.now c.args.compared.0 c.args.values.0) c.args.compared.1 c.args.values.1) (inl refl) in
    let z : to_z w64 (of_z w64 c.args.place) ≡ pos to.0 = to_z-of_z w64 c.args.place (search rules) ∙ to.1 in
    rw z (tt, omega (arith, to.2, c.args.states.now.small))

pub join_narrowed-has_come-requires : goal.join_narrowed-has_come-requires
join_narrowed-has_come-requires c =
    let to = c.requires (c.args.place, with_operand (with_register c.args.state.now c.args.compared.0 c.args.values.0) c.args.compared.1 c.args.values.1) (inl refl) in
    let z : to_z w64 (of_z w64 c.args.place) ≡ pos to.0 = to_z-of_z w64 c.args.place (search rules) ∙ to.1 in
    rw z to.2

pub returns-in-Source-clause-arrived : goal.returns-in-Source-clause-arrived
returns-in-Source-clause-arrived c some q =
    let to = c.requires (c.args.place, with_operand (with_register c.args.state.now c.args.compared.0 c.args.values.0) c.args.compared.1 c.args.values.1) (inl refl) in
    let z : to_z w64 (of_z w64 c.args.place) ≡ pos to.0 = to_z-of_z w64 c.args.place (search rules) ∙ to.1 in
    let came = c.join_narrowed-has_come.ensures.arrived some q in
    rw (c.in-Source.is, to.1) (rw (z, c.set_register.ensures) at came)

pub returns-in-Source-clause-unchanged : goal.returns-in-Source-clause-unchanged
returns-in-Source-clause-unchanged c =
    let s = c.args.state.now in
    let k = number_of c.args.compared.0 in
    let kept : c.join_narrowed-has_come.new.state ≡ with_register s c.args.compared.0 c.args.values.0 = c.join_narrowed-has_come.ensures.unchanged ∙ c.set_register.ensures in
    let back : slice_set (slice_set s.registers k c.args.values.0) k c.register-before.result ≡ s.registers =
    set-set s.registers k c.args.values.0 c.register-before.result ∙ ap (slice_set s.registers k) c.register-before.ensures ∙ set-get_or s.registers k Unset in
    c.set_register-in-Source.ensures
    ∙ ap (λ before. with_register before c.args.compared.0 c.register-before.result) kept
    ∙ ap (λ registers. record s { registers = registers }) back

use Rattle.std.proofs.Common.{◌≡◌, ◌+◌, length, get_or, Some, None, ◌∙◌, inl, refl, arith}
use Rattle.std.specs.Prelude.{pos}
use Rattle.std.proofs.lemmas.List.{length-set, get_or_read_under}
use Rattle.bpf_isa.specs.Encoding.{units_of}
use Rattle.abstract_state.specs.States.{AbstractState}
use Rattle.verifier.specs.RuleAnswers.{ways_onward}
use Rattle.verifier.specs.declared.rules.onward.Onward.TheVariants.{Next}
use Rattle.verifier.specs.Tables.{LeadInside}
use Rattle.verifier.proofs.walking.go_on_from.Goals as goal

pub move_on-requires-clause-to : goal.move_on-requires-clause-to
move_on-requires-clause-to c =
    let state : AbstractState = c.requires.inside.0 in
    let ways : LeadInside (length c.args.states.now.items) (ways_onward c.args.pc c.args.instruction Next state) = rw c.in-Next.is at c.requires.inside.2 in
    let to = ways (pos (c.args.pc + units_of c.args.instruction), state) (inl refl) in
    let same : c.args.pc + units_of c.args.instruction ≡ to.0 = (let e = to.1 in cc) in
    omega (arith, same, to.2, c.units.ensures)

pub go_on-requires-clause-inside : goal.go_on-requires-clause-inside
go_on-requires-clause-inside c =
    let state : AbstractState = c.requires.inside.0 in
    let some : Some c.in-Some.state ≡ get_or c.args.states.now.items c.args.pc (Some c.in-Some.state) = rw (← c.in-Some.ensures.value) at c.index_mut.ensures.value in
    let here : Some c.in-Some.state ≡ get_or c.args.states.now.items c.args.pc None = get_or_read_under c.args.states.now.items c.args.pc (length c.args.states.now.items) (Some c.in-Some.state) None some c.requires.here refl in
    let same : c.in-Some.state ≡ state = (let e : Some c.in-Some.state ≡ Some state = here ∙ c.requires.inside.1 in cc) in
    let size = length-set c.args.states.now.items c.args.pc c.take.new.self in
    rw (same, size) c.requires.inside.2

use Rattle.std.proofs.Common.{◌≡◌, ◌≤◌, ◌∙◌, ℕ, List, sym, ap, subst, refl, add-one, FitsSigned, w64, to_z, of_z, length, arith, rules}
use Rattle.std.proofs.lemmas.Int.{to_z-of_z}
use Rattle.bpf_image.specs.declared.limits.TheConstants.{MOST_RECORD_LENGTH}
use Rattle.bpf_image.specs.declared.lengths.Lengths.{Lengths}
use Rattle.bpf_model.specs.State.{start}
use Rattle.bpf_model.specs.Step.{Goes, Exits, Traps, step}
use Rattle.bpf_model.specs.Run.{after, Stops}
use Rattle.bpf_machine.specs.Seen.{state_of}
use Rattle.bpf_machine.proofs.RunFacts.{stops_at, after_more}
use Rattle.bpf_machine.proofs.run.run_checked.Goals as goal

-- lengths of a record and a table
abbrev lengths_with : ℕ → ℕ → Lengths
lengths_with n m = record { record_length = n; table_length = m }

pub loop-steps-init : goal.loop-steps-init
loop-steps-init g c = ap (λ s. Goes s) (c.new-machine.ensures.start c.args.image.now c.args.bytes.now (ap (λ n. lengths_with n (length c.args.image.now.table)) c.requires ∙ sym c.lengths.ensures.exact))

pub returns-in-Exited : goal.returns-in-Exited
returns-in-Exited g c =
    let graph = g.G.GraphView.graph c.args.graph.now in
    let short : length c.loop-steps.bytes ≤ MOST_RECORD_LENGTH = omega (arith, c.loop-steps.auto.bytes, c.lengths.ensures.image.record_length.1) in
    let kept : c.take_turn.new.bytes ≡ c.loop-steps.bytes = (rw c.in-Exited.is at c.take_turn.ensures.kept) in
    let exits = (rw c.in-Exited.is at c.take_turn.ensures.step) in (
      c.loop-steps.steps,
      refl,
      c.loop-steps-test.true,
      subst (λ (new : List ℕ). Stops c.args.image.now graph c.args.bytes.now c.loop-steps.steps (Exits c.in-Exited.value) new) (sym kept)
          (stops_at c.args.image.now graph c.args.bytes.now c.loop-steps.steps c.loop-steps.machine c.loop-steps.bytes (Exits c.in-Exited.value)
          c.loop-steps.invariant exits c.loop-steps.auto.bytes short),
    )

pub returns-in-Trapped : goal.returns-in-Trapped
returns-in-Trapped g c =
    let graph = g.G.GraphView.graph c.args.graph.now in
    let short : length c.loop-steps.bytes ≤ MOST_RECORD_LENGTH = omega (arith, c.loop-steps.auto.bytes, c.lengths.ensures.image.record_length.1) in
    let kept : c.take_turn.new.bytes ≡ c.loop-steps.bytes = (rw c.in-Trapped.is at c.take_turn.ensures.kept) in
    let traps = (rw c.in-Trapped.is at c.take_turn.ensures.step) in
    let fits : FitsSigned w64 c.take_turn.new.machine.pc = search rules in
    let pc = sym (to_z-of_z w64 c.take_turn.new.machine.pc fits) in (
      c.loop-steps.steps,
      c.loop-steps-test.true,
      subst (λ (new : List ℕ). Stops c.args.image.now graph c.args.bytes.now c.loop-steps.steps (Traps c.in-Trapped.kind (to_z w64 (of_z w64 c.take_turn.new.machine.pc))) new) (sym kept)
          (stops_at c.args.image.now graph c.args.bytes.now c.loop-steps.steps c.loop-steps.machine c.loop-steps.bytes _ c.loop-steps.invariant
          (traps ∙ ap (λ z. Traps c.in-Trapped.kind z) pc) c.loop-steps.auto.bytes short),
    )

pub loop-steps-preserved : goal.loop-steps-preserved
loop-steps-preserved g c =
    let graph = g.G.GraphView.graph c.args.graph.now in
    let goes = (rw c.in-Went.is at c.take_turn.ensures.step) in
    rw add-one (after_more c.args.image.now graph c.loop-steps.steps (start c.args.image.now c.args.bytes.now) (state_of c.loop-steps.machine c.loop-steps.bytes c.args.image.now.table) _ c.loop-steps.invariant goes)

pub returns : goal.returns
returns g c =
    let graph = g.G.GraphView.graph c.args.graph.now in
    let short : length c.loop-steps.bytes ≤ MOST_RECORD_LENGTH = omega (arith, c.loop-steps.auto.bytes, c.lengths.ensures.image.record_length.1) in
    let all : c.args.fuel ≡ c.loop-steps.steps = omega arith in
    let reached = ap (λ k. after c.args.image.now graph k (start c.args.image.now c.args.bytes.now)) all ∙ c.loop-steps.invariant in (
      step c.args.image.now graph (state_of c.loop-steps.machine c.loop-steps.bytes c.args.image.now.table),
      stops_at c.args.image.now graph c.args.bytes.now c.args.fuel c.loop-steps.machine c.loop-steps.bytes _ reached refl c.loop-steps.auto.bytes short,
    )

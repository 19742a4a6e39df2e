use Rattle.std.proofs.Common.{◌<◌, length, refl, ◌∙◌, inl, inr, arith}
use Rattle.std.specs.Prelude.{None}
use Rattle.std.proofs.lemmas.Bool.{cases_eq}
use Rattle.std.proofs.lemmas.List.{length-set, get_or-set_same, get_or-set_other}
use Rattle.bpf_machine.proofs.MemoryFacts.{held-replicate}
use Rattle.bpf_machine.proofs.stack.all_of.Goals as goal
use Rattle.bpf_machine.specs.declared.stack.TheConstants.{STACK_BYTES}

pub loop-k-init : goal.loop-k-init
loop-k-init c = record { long = refl; copied = λ i lt. absurd (omega (arith, lt)); rest = λ i le. held-replicate STACK_BYTES i }

pub loop-k-preserved : goal.loop-k-preserved
loop-k-preserved c =
    let inside : c.loop-k.k < length c.loop-k.cells = omega (arith, c.loop-k.invariant.long, c.loop-k-test.true) in
    record {
      long = length-set c.loop-k.cells c.loop-k.k _ ∙ c.loop-k.invariant.long;
      copied = λ i lt. elim (cases_eq i c.loop-k.k) [
        | inl same ↦ rw same (get_or-set_same c.loop-k.cells c.loop-k.k _ None inside)
        | inr other ↦ get_or-set_other c.loop-k.cells c.loop-k.k i _ None other ∙ c.loop-k.invariant.copied i (omega (arith, lt, other))
      ];
      rest = λ i le. get_or-set_other c.loop-k.cells c.loop-k.k i _ None (λ e. omega (arith, le, e)) ∙ c.loop-k.invariant.rest i (omega (arith, le));
    }

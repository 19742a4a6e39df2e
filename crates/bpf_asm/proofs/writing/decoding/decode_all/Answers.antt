use Rattle.std.proofs.Common.{◌≡◌, ◌≤◌, ◌+◌, ◌-◌, Bool, length, sym, ap, ◌∙◌, arith}
use Rattle.std.specs.Prelude.{Ok, ◌||◌, ◌==◌}
use Rattle.std.proofs.lemmas.Grind.{common_steps}
use Rattle.bpf_isa.specs.Reading.{decoding}
use Rattle.bpf_asm.specs.declared.writing.placed.Placed.{Placed}
use Rattle.bpf_asm.specs.Listing.{is_start}
use Rattle.bpf_asm.proofs.Placing.{after_one, start_more, units_some}
use Rattle.bpf_asm.proofs.writing.decoding.decode_all.Goals as goal

pub loop-pc-preserved : goal.loop-pc-preserved
loop-pc-preserved c =
    let count : length c.push.new.self.items ≡ length c.loop-pc.placed.items + 1 = grind (arith, common_steps) in
    let is : decoding c.args.code.now c.loop-pc.pc ≡ Ok (c.in-Ok.instruction, c.in-Ok.units) = sym c.decode_at.ensures.exact ∙ c.in-Ok.is in
    let one = after_one c.loop-pc.placed.items (length c.args.code.now - length c.loop-pc.placed.items) c.args.code.now c.loop-pc.pc c.in-Ok.instruction c.in-Ok.units (omega arith) (omega arith) is in
    let fewer : length c.args.code.now - length c.loop-pc.placed.items - 1 ≡ length c.args.code.now - length c.push.new.self.items = omega arith in
    let some : 1 ≤ c.in-Ok.units = omega (arith, units_some c.in-Ok.instruction, c.in-Ok.ensures.found.units_are) in
    let p : Placed = record { pc = c.loop-pc.pc; instruction = c.in-Ok.instruction } in
    record {
      found = (rw (← fewer, c.in_ok-push-in-Ok.ensures.items) (sym one ∙ c.loop-pc.invariant.found));
      count = omega arith;
      inside = grind (arith, common_steps);
      units = grind (arith, common_steps);
      starts = λ k. c.mark.ensures.marked k ∙ ap (λ (b : Bool). b || (c.loop-pc.pc == k)) (c.loop-pc.invariant.starts k) ∙ sym (start_more k c.loop-pc.placed.items p) ∙ sym (ap (is_start k) c.in_ok-push-in-Ok.ensures.items);
    }

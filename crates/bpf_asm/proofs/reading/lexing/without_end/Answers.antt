use Rattle.std.proofs.Common.{◌≡◌, ◌+◌, ◌-◌, ℕ, take, refl, subst, sym, ◌∙◌, ap, arith}
use Rattle.bpf_asm.specs.Lexing.{without_end}
use Rattle.bpf_asm.proofs.Blanks.{end_less, end_stays}
use Rattle.bpf_asm.proofs.reading.lexing.without_end.Goals as goal
use Rattle.bpf_asm.proofs.reading.lexing.without_end.Goals.{then-loop-end-test+else-is_blank, else-loop-end-test}

pub loop-end-preserved : goal.loop-end-preserved
loop-end-preserved c =
    let last : (c.loop-end.end - 1) + 1 ≡ c.loop-end.end = omega arith in
    let less = end_less c.args.text.now (c.loop-end.end - 1) (omega arith) (sym c.is_blank.ensures ∙ c.if-is_blank.true) in
    record { within = omega arith; same = sym less ∙ ap (λ (n : ℕ). without_end (take n c.args.text.now)) last ∙ c.loop-end.invariant.same }

pub returns : goal.returns
returns c = elim c.loop-end-test.branch [
  | then-loop-end-test+else-is_blank w ↦
      let last : (c.loop-end.end - 1) + 1 ≡ c.loop-end.end = omega arith in
      let stays = end_stays c.args.text.now (c.loop-end.end - 1) (omega arith) (sym w.is_blank.ensures ∙ w.if-is_blank.false) in
      sym (subst (λ (n : ℕ). without_end (take n c.args.text.now) ≡ take n c.args.text.now) last stays) ∙ c.loop-end.invariant.same
  | else-loop-end-test w ↦
      let none : c.loop-end.end ≡ 0 = omega arith in
      sym (subst (λ (n : ℕ). without_end (take n c.args.text.now) ≡ take n c.args.text.now) (sym none) refl) ∙ c.loop-end.invariant.same
]

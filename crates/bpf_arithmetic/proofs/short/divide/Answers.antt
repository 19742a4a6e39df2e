use Rattle.std.proofs.Common.{◌≡◌, false, sym, ◌∙◌, rules, FitsSigned, w32}
use Rattle.std.specs.Prelude.{◌==◌}
use Rattle.std.specs.Int.{cast_unsigned}
use Rattle.std.proofs.lemmas.Bool.{ne_eqb}
use Rattle.std.proofs.lemmas.Int.{to_z-of_z, of_z-to_z}
use Rattle.bpf_isa.specs.declared.instruction.Width.TheVariants.{Bits32}
use Rattle.bpf_arithmetic.proofs.ArithmeticFacts.{quotient_kept, quotient_fits}
use Rattle.bpf_arithmetic.proofs.short.divide.Goals as goal

pub returns : goal.returns
returns c =
    let some : (c.args.y == 0) ≡ false = ne_eqb _ _ c.if-y-eq0.false in
    let left : FitsSigned w32 c.cast_signed.result = search rules in
    let right : FitsSigned w32 c.cast_signed-2.result = search rules in
    let fits : FitsSigned w32 c.wrapping_div-quotient.result = search rules in
    let pattern : c.cast_unsigned.result ≡ cast_unsigned w32 c.wrapping_div-quotient.result = (simp to_z-of_z at c.cast_unsigned.ensures) in
    let quotient = (simp to_z-of_z at c.wrapping_div-quotient.ensures) in
    rw some (rw (pattern, quotient, c.cast_signed.ensures, c.cast_signed-2.ensures) (of_z-to_z w32 _ (quotient_fits Bits32 c.args.x c.args.y c.ranges.x.fits) ∙ sym (quotient_kept Bits32 c.args.x c.args.y c.ranges.x.fits c.ranges.y.fits)))

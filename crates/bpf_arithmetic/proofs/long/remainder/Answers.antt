use Rattle.std.proofs.Common.{◌≡◌, false, sym, rules, FitsSigned, w64}
use Rattle.std.specs.Prelude.{◌==◌}
use Rattle.std.specs.Int.{cast_unsigned}
use Rattle.std.proofs.lemmas.Bool.{ne_eqb}
use Rattle.std.proofs.lemmas.Int.{to_z-of_z}
use Rattle.bpf_isa.specs.declared.instruction.Width.TheVariants.{Bits64}
use Rattle.bpf_arithmetic.proofs.ArithmeticFacts.{remainder_kept}
use Rattle.bpf_arithmetic.proofs.long.remainder.Goals as goal

pub returns : goal.returns
returns c =
    let some : (c.args.y == 0) ≡ false = ne_eqb _ _ c.if-y-eq0.false in
    let left : FitsSigned w64 c.cast_signed.result = search rules in
    let right : FitsSigned w64 c.cast_signed-2.result = search rules in
    let fits : FitsSigned w64 c.wrapping_rem-remainder.result = search rules in
    let pattern : c.cast_unsigned.result ≡ cast_unsigned w64 c.wrapping_rem-remainder.result = (simp to_z-of_z at c.cast_unsigned.ensures) in
    let remainder = (simp to_z-of_z at c.wrapping_rem-remainder.ensures) in
    rw some (rw (pattern, remainder, c.cast_signed.ensures, c.cast_signed-2.ensures) (sym (remainder_kept Bits64 c.args.x c.args.y c.ranges.x.fits c.ranges.y.fits)))

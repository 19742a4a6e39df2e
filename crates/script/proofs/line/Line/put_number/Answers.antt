use Rattle.std.proofs.Common.{◌≡◌, ◌≤◌, length, drop, ap, arith}
use Rattle.std.specs.Fmt.{decimal}
use Rattle.std.proofs.lemmas.Fmt.{length-decimal-le}
use Rattle.std.proofs.lemmas.List.{length-drop}
use Rattle.script.proofs.line.Line.put_number.Goals as goal

pub write_digits-self-inside-requires : goal.write_digits-self-inside-requires
write_digits-self-inside-requires c =
    let few : length (decimal c.args.number) ≤ 20 = length-decimal-le 20 c.args.number (omega arith) (omega (arith, c.ranges.number.fits)) c.ranges.number.fits in
    let long = length-drop c.self.inside.start c.self.inside.bytes in
    let seen : length (drop c.self.inside.start c.self.inside.bytes) ≡ length c.args.self.now = ap length c.self.view_is in
    (omega (arith, few, long, seen, c.requires, c.self.told), omega (arith, c.self.invariant, c.self.told))

pub returns-clause-few : goal.returns-clause-few
returns-clause-few c = length-decimal-le 20 c.args.number (omega arith) (omega (arith, c.ranges.number.fits)) c.ranges.number.fits

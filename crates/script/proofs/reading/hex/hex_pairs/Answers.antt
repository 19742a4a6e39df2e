use Rattle.std.proofs.Common.{rules, arith, length, take, ◌∙◌, length-set}
use Rattle.script.proofs.HexLemmas.{placed_more, none_at_end}
use Rattle.script.proofs.reading.hex.hex_pairs.Goals as goal

pub loop-place-preserved : goal.loop-place-preserved
loop-place-preserved c = record {
  long = length-set c.loop-place.bytes.items c.loop-place.place c.in-Some.byte ∙ c.loop-place.invariant.long;
  spelled = placed_more c.loop-place.bytes.items c.args.digits.now c.loop-place.place c.in-Some.byte (omega (arith, c.loop-place.invariant.long)) (omega arith) c.loop-place.invariant.spelled c.in-Some.ensures;
}

pub returns-then-digits-ne0 : goal.returns-then-digits-ne0
returns-then-digits-ne0 c =
    none_at_end (take c.loop-place.place c.loop-place.bytes.items) c.args.digits.now c.loop-place.place (search rules) c.loop-place.invariant.spelled

use Rattle.std.proofs.Common.{◌≡◌, drop}
use Rattle.script.proofs.NumberLemmas.{spelled}
use Rattle.script.proofs.reading.numbers.next_number.Given as goal

abbrev pub invariant-loop-at : goal.invariant-loop-at
invariant-loop-at l = spelled l.number (drop l.at l.text) ≡ spelled 0 l.text

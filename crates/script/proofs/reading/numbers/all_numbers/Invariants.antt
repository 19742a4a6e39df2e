use Rattle.std.proofs.Common.{◌≡◌, [], length}
use Rattle.script_model.specs.Lexing.{words}
use Rattle.script_model.specs.Parsing.{numbers}
use Rattle.script.proofs.NumberLemmas.{after}
use Rattle.script.proofs.reading.numbers.all_numbers.Given as goal

abbrev pub invariant-loop-number : goal.invariant-loop-number
invariant-loop-number l = after l.found.items (numbers (words l.left)) ≡ after [] (numbers (words l.line))

abbrev pub decreases-loop-number : goal.decreases-loop-number
decreases-loop-number l = length l.left

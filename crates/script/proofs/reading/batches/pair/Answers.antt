use Rattle.std.proofs.Common.{sym, ap}
use Rattle.std.specs.Prelude.{option_map}
use Rattle.std.proofs.lemmas.Bool.{both_ways}
use Rattle.script_model.specs.Lexing.{words}
use Rattle.script.specs.Reading.{cut_pair}
use Rattle.script.proofs.BatchLemmas.{pair_long}
use Rattle.script.proofs.reading.batches.pair.Goals as goal

pub returns-then-not-has_no_word : goal.returns-then-not-has_no_word
returns-then-not-has_no_word c =
    sym (ap (option_map cut_pair) (pair_long c.in_ok-source.source c.in_ok-target.target (words c.args.line.now) (words c.in_ok-source.rest.now) (words c.in_ok-target.rest.now) c.in_ok-source.ensures.first c.in_ok-target.ensures.first (λ none. both_ways c.has_no_word.result c.if-not-has_no_word.true (c.has_no_word.ensures.1 none))))

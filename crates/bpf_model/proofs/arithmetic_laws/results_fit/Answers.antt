use Rattle.bpf_model.proofs.ArithmeticFacts.{calculated_fits, negated_fits, extended_fits, swapped_fits}
use Rattle.bpf_model.proofs.arithmetic_laws.results_fit.Goals as goal

pub returns : goal.returns
returns c = (calculated_fits, negated_fits, extended_fits, swapped_fits)

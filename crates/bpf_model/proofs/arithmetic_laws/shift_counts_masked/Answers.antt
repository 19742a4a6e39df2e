use Rattle.std.proofs.Common.{ℕ, ◌*◌, ◌/◌, ◌^◌, ap}
use Rattle.bpf_model.specs.Arithmetic.{low, signed_shift}
use Rattle.bpf_model.proofs.ArithmeticFacts.{same_count}
use Rattle.bpf_model.proofs.arithmetic_laws.shift_counts_masked.Goals as goal

pub returns : goal.returns
returns c w x y = (
  ap (λ (k : ℕ). low w (low w x * 2 ^ k)) (same_count w y),
  ap (λ (k : ℕ). low w x / 2 ^ k) (same_count w y),
  ap (λ (k : ℕ). signed_shift w (low w x) k) (same_count w y),
)

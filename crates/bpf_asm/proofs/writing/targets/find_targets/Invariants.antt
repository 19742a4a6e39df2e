use Rattle.std.proofs.Common.{◌≡◌, ℕ, false, length, take, drop, get_or}
use Rattle.bpf_asm.specs.Listing.{first_out, is_target}
use Rattle.bpf_asm.proofs.writing.targets.find_targets.Given as goal

abbrev pub invariant-loop-one : goal.invariant-loop-one
invariant-loop-one l = record {
  none : first_out l.placed (drop l.one-index l.placed) ≡ first_out l.placed l.placed;
  same_length : length l.targets.items ≡ length l.starts;
  marked : (k : ℕ) → get_or l.targets.items k false ≡ is_target k (take l.one-index l.placed);
}

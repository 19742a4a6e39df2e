use Rattle.std.proofs.Common.{◌≡◌, ◌≤◌, ◌-◌, ◌*◌, ◌/◌, ℕ, false, length, get_or}
use Rattle.bpf_asm.specs.Listing.{placed_from, instructions, is_start}
use Rattle.bpf_asm.proofs.Placing.{after}
use Rattle.bpf_asm.proofs.writing.decoding.decode_all.Given as goal

abbrev pub invariant-loop-pc : goal.invariant-loop-pc
invariant-loop-pc l = record {
  found : after l.placed.items (placed_from (length l.code - length l.placed.items) l.code l.pc) ≡ instructions l.code;
  count : length l.placed.items ≤ l.pc;
  inside : 8 * l.pc ≤ length l.code;
  units : length l.starts.items ≡ length l.code / 8;
  starts : (k : ℕ) → get_or l.starts.items k false ≡ is_start k l.placed.items;
}

abbrev pub decreases-loop-pc : goal.decreases-loop-pc
decreases-loop-pc l = length l.code - l.pc

use Rattle.std.proofs.Common.{◌≡◌, length}
use Rattle.bpf_image.specs.Program.{units}
use Rattle.verifier.proofs.EntryTable.{IsMarkedTo}
use Rattle.verifier.proofs.functions.find_entries.Given as goal

abbrev pub invariant-loop-pc : goal.invariant-loop-pc
invariant-loop-pc l = (length l.entries.items ≡ units l.image) × IsMarkedTo l.image l.pc l.entries.items

use Rattle.std.proofs.Common.{◌≡◌, ◌-◌, length}
use Rattle.bpf_image.specs.Program.{units}
use Rattle.verifier.specs.Functions.{entry_from}
use Rattle.verifier.proofs.EntryTable.{HasEndsFrom}
use Rattle.verifier.proofs.functions.find_ends.Given as goal

abbrev pub invariant-loop-behind : goal.invariant-loop-behind
invariant-loop-behind l =
    (length l.ends.items ≡ units l.image) × (l.next ≡ entry_from l.image l.behind (units l.image - l.behind)) × HasEndsFrom l.image l.behind l.ends.items

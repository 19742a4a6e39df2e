use Rattle.std.proofs.Common.{◌≡◌, ◌++◌, drop}
use Rattle.std.specs.Prelude.{string_bytes}
use Rattle.std.specs.List.{flat_map}
use Rattle.bpf_asm.specs.Listing.{lines_of, listing}
use Rattle.bpf_asm.proofs.writing.disassembler.write_listing.Given as goal

-- the lines so far, and those of what is left
abbrev pub invariant-loop-one : goal.invariant-loop-one
invariant-loop-one l = string_bytes l.text ++ flat_map (lines_of l.placed) (drop l.one-index l.placed) ≡ listing l.placed

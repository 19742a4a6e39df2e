use Rattle.std.proofs.Common.{◌≡◌, ◌++◌}
use Rattle.std.specs.Prelude.{string_bytes}
use Rattle.explanation.specs.Pieces.{pieces_to}
use Rattle.explanation.specs.Explanation.{pc_text}
use Rattle.explanation.specs.Starts.{IsAt}
use Rattle.explanation.proofs.listing.put_listing.Given as goal

abbrev pub invariant-loop-pc : goal.invariant-loop-pc
invariant-loop-pc l =
    IsAt l.listing.image.now l.pc l.cursor × (string_bytes l.text ≡ string_bytes l.fn.text ++ pieces_to (pc_text l.listing.image.now l.listing.source.now l.listing.judgement l.listing.passages.now) l.pc)

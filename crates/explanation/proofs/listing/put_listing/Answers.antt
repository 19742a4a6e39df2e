use Rattle.std.specs.Prelude.{string_bytes}
use Rattle.explanation.specs.Explanation.{pc_text}
use Rattle.explanation.proofs.Starts.{at_first}
use Rattle.explanation.proofs.Written.{written_none}
use Rattle.explanation.proofs.listing.put_listing.Goals as goal

pub loop-pc-init : goal.loop-pc-init
loop-pc-init c =
    (at_first c.args.listing.now.image.now c.first-cursor.result c.first-cursor.ensures.next c.first-cursor.ensures.ordinal, written_none (pc_text c.args.listing.now.image.now c.args.listing.now.source.now c.args.listing.now.judgement c.args.listing.now.passages.now) (string_bytes c.args.text.now))

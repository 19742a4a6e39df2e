use Rattle.std.proofs.Common.{◌+◌}
use Rattle.verifier.specs.Equations.{passage_at}
use Rattle.verifier.specs.Tables.{passage_of}
use Rattle.verifier.specs.Known.{IsBrokenBy}
use Rattle.verifier.proofs.Knowing.{told_all}
use Rattle.verifier.proofs.known.+list_passages.Goals as goal

pub returns-in-Some : goal.returns-in-Some
returns-in-Some t c =
    let v = passage_of c.args.passage in
    let w = passage_at c.in-Some.begins (c.args.passage.frame + 1) c.in-Some.known in
    let broken : IsBrokenBy c.args.layout.now.image.now (passage_of c.args.passage) c.in_ok-over.over.last (passage_at c.in-Some.begins (c.args.passage.frame + 1) c.in-Some.known) = rw c.in-Some.is at c.in_ok-over.ensures.stopped in
    told_all c.args.layout.now.image.now v w c.in_ok-over.over c.args.passages.now.items c.push.new.self.items c.list_passages.new.passages.items c.list_passages.result c.in_ok-over.ensures.known broken c.in_ok-push.ensures.items c.list_passages.ensures

use Rattle.edge_map.specs.Plans.{task_of}
use Rattle.edge_map.proofs.Works.{both}
use Rattle.edge_map.proofs.work.together.Goals as goal

pub returns : goal.returns
returns c =
    both (task_of c.args.plan.now) c.args.here.claimant.parts c.args.there.claimant.parts c.args.here.claimant c.args.there.claimant c.join.new.claimant c.args.here.pieces.items c.args.there.pieces.items c.append.new.self.items
    c.requires.here c.requires.there c.join.ensures c.in_ok-append.ensures.items

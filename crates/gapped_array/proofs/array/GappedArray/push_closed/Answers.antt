use Rattle.std.proofs.Common.{◌<◌, length, arith}
use Rattle.gapped_array.proofs.Layouts.{vertex_added, lists_length}
use Rattle.gapped_array.proofs.array.GappedArray.push_closed.Goals as goal

pub invariant_of-self-2 : goal.invariant_of-self-2
invariant_of-self-2 c =
    let room : length c.self.inside.runs.items < 256 = omega (arith, c.requires, lists_length c.self.inside.cells.items c.self.inside.runs.items c.args.self.now c.self.view_is) in
    vertex_added c.self.inside.cells.items c.self.inside.segments c.self.inside.runs.items c.push.new.self.items c.self.invariant c.in_ok-push.ensures.items room

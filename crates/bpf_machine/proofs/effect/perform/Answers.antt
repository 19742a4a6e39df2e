use Rattle.std.proofs.Common.{rules, FitsSigned, w16, w32}
use Rattle.std.proofs.lemmas.Int.{to_z-of_z}
use Rattle.bpf_model.specs.State.{lent}
use Rattle.bpf_machine.proofs.effect.perform.Goals as goal

pub returns-in-Alu-clause-step : goal.returns-in-Alu-clause-step
returns-in-Alu-clause-step g c = rw c.in-Alu.is (c.operate.ensures (lent c.args.bytes.now c.args.table.now) (g.G.GraphView.graph c.args.graph.now) c.args.bytes.now c.args.table.now)

pub returns-in-MoveSigned-clause-step : goal.returns-in-MoveSigned-clause-step
returns-in-MoveSigned-clause-step g c = rw c.in-MoveSigned.is (c.move_signed.ensures (lent c.args.bytes.now c.args.table.now) (g.G.GraphView.graph c.args.graph.now) c.args.bytes.now c.args.table.now)

pub returns-in-Negate-clause-step : goal.returns-in-Negate-clause-step
returns-in-Negate-clause-step g c = rw c.in-Negate.is (c.negate_register.ensures (lent c.args.bytes.now c.args.table.now) (g.G.GraphView.graph c.args.graph.now) c.args.bytes.now c.args.table.now)

pub returns-in-Swap-clause-step : goal.returns-in-Swap-clause-step
returns-in-Swap-clause-step g c = rw c.in-Swap.is (c.swap_register.ensures (lent c.args.bytes.now c.args.table.now) (g.G.GraphView.graph c.args.graph.now) c.args.bytes.now c.args.table.now)

pub returns-in-Jump-clause-step : goal.returns-in-Jump-clause-step
returns-in-Jump-clause-step g c = rw c.in-Jump.is (c.jump_over.ensures (lent c.args.bytes.now c.args.table.now) (g.G.GraphView.graph c.args.graph.now) c.args.bytes.now c.args.table.now)

pub returns-in-Branch-clause-step : goal.returns-in-Branch-clause-step
returns-in-Branch-clause-step g c =
    let fits : FitsSigned w16 c.in-Branch.distance = search rules in
    rw c.in-Branch.is (simp to_z-of_z at (c.branch-machine.ensures (lent c.args.bytes.now c.args.table.now) (g.G.GraphView.graph c.args.graph.now) c.args.bytes.now c.args.table.now))

pub returns-in-Exit-clause-step : goal.returns-in-Exit-clause-step
returns-in-Exit-clause-step g c = rw c.in-Exit.is (c.exit.ensures (lent c.args.bytes.now c.args.table.now) (g.G.GraphView.graph c.args.graph.now) c.args.bytes.now c.args.table.now)

pub returns-in-CallLocal-clause-step : goal.returns-in-CallLocal-clause-step
returns-in-CallLocal-clause-step g c =
    let fits : FitsSigned w32 c.in-CallLocal.distance = search rules in
    rw c.in-CallLocal.is (simp to_z-of_z at (c.call.ensures (lent c.args.bytes.now c.args.table.now) (g.G.GraphView.graph c.args.graph.now) c.args.bytes.now c.args.table.now))

pub returns-in-Load-clause-step : goal.returns-in-Load-clause-step
returns-in-Load-clause-step g c =
    let fits : FitsSigned w16 c.in-Load.offset = search rules in
    rw c.in-Load.is (simp to_z-of_z at (c.load_plain.ensures (g.G.GraphView.graph c.args.graph.now)))

pub returns-in-LoadSigned-clause-step : goal.returns-in-LoadSigned-clause-step
returns-in-LoadSigned-clause-step g c =
    let fits : FitsSigned w16 c.in-LoadSigned.offset = search rules in
    rw c.in-LoadSigned.is (simp to_z-of_z at (c.load_signed.ensures (g.G.GraphView.graph c.args.graph.now)))

pub returns-in-Store-clause-step : goal.returns-in-Store-clause-step
returns-in-Store-clause-step g c =
    let fits : FitsSigned w16 c.in-Store.offset = search rules in
    let number : FitsSigned w32 c.in-Store.immediate = search rules in
    rw c.in-Store.is (simp to_z-of_z at (c.store_immediate.ensures.step (g.G.GraphView.graph c.args.graph.now)))

pub returns-in-StoreRegister-clause-step : goal.returns-in-StoreRegister-clause-step
returns-in-StoreRegister-clause-step g c =
    let fits : FitsSigned w16 c.in-StoreRegister.offset = search rules in
    rw c.in-StoreRegister.is (simp to_z-of_z at (c.store_register.ensures.step (g.G.GraphView.graph c.args.graph.now)))

use Rattle.std.proofs.Common.{◌≡◌, ◌+◌, ◌-◌, length, refl, subst, arith}
use borrow.Rule.Slice.PartMut.{put_mid}
use Rattle.past_model.specs.Past.{graph_of}
use Rattle.edge_fold.proofs.Written.{IsWritten, part_written, rest_written, all_written}
use Rattle.edge_fold.proofs.numbering.number_span.Goals as goal
use Rattle.edge_fold.specs.Inputs.{inputs_of}

pub rounds-init : goal.rounds-init
rounds-init c = (record { within = omega arith; long = c.requires.long; written = refl }, c.requires.memory)

pub rounds-preserved : goal.rounds-preserved
rounds-preserved c =
    let s = c.args.span in (
      part_written c.args.mapped.now.program.now (graph_of c.args.mapped.now.version.now) (inputs_of c.args.mapped.now) s.source s.place s.targets.now c.rounds.numbers c.targets_from.result.now c.number_block-count.new.numbers c.rounds.at c.number_block-count.result
          c.rounds.invariant.0 c.targets_from.ensures c.number_block-count.ensures.count c.number_block-count.auto.numbers c.number_block-count.ensures.numbers,
      c.rounds.invariant.1,
    )

pub returns-then-count-eq0-clause-numbers : goal.returns-then-count-eq0-clause-numbers
returns-then-count-eq0-clause-numbers c =
    let p = c.args.mapped.now.program.now in
    let g = graph_of c.args.mapped.now.version.now in
    let a = (inputs_of c.args.mapped.now) in
    let s = c.args.span in
    let at = c.rounds.at in
    let rest = c.targets_from.result.now in
    let block = put_mid at (length c.rounds.numbers - at) c.rounds.numbers c.number_block-count.new.numbers in
    let tried : IsWritten p g a s.source s.place s.targets.now block (at + c.number_block-count.result) =
    part_written p g a s.source s.place s.targets.now c.rounds.numbers rest c.number_block-count.new.numbers at c.number_block-count.result
    c.rounds.invariant.0 c.targets_from.ensures c.number_block-count.ensures.count c.number_block-count.auto.numbers c.number_block-count.ensures.numbers in
    let same : at + c.number_block-count.result ≡ at = omega (arith, c.if-count-eq0.true) in
    rest_written p g a s.source s.place s.targets.now block rest c.number_singly.new.numbers at
    (subst (λ n. IsWritten p g a s.source s.place s.targets.now block n) same tried) c.targets_from.ensures c.number_singly.auto.numbers c.number_singly.ensures.numbers

pub returns-clause-numbers : goal.returns-clause-numbers
returns-clause-numbers c =
    let s = c.args.span in
    all_written c.args.mapped.now.program.now (graph_of c.args.mapped.now.version.now) (inputs_of c.args.mapped.now) s.source s.place s.targets.now c.rounds.numbers c.rounds.at c.rounds.invariant.0 (omega (arith, c.rounds-test.false))

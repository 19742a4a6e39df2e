use Rattle.std.proofs.Common.{◌≡◌, ◌+◌, ◌*◌, ◌<◌, ◌≤◌, List, ℕ, length, take, drop, refl, ap, sym, ◌∙◌, length-drop, arith}
use Rattle.std.specs.Prelude.{slice_index}
use Rattle.std.proofs.lemmas.List.{get_or-drop}
use Rattle.past_model.specs.Past.{graph_of}
use Rattle.map_model.specs.EdgeMap.{reduction_of_numbers}
use Rattle.map_model.specs.Pushes.{pushed}
use Rattle.verifier.specs.Walks.{longest}
use Rattle.edge_fold.specs.declared.budget.TheConstants.{EDGE_COST}
use Rattle.edge_fold.specs.Inputs.{inputs_of}
use Rattle.edge_fold.proofs.Numbers.{found, none_folded}
use Rattle.edge_fold.proofs.Pieces.{more_paid, more_spent}
use Rattle.edge_fold.proofs.Pushed.{none_carried, some_carried}
use Rattle.edge_fold.proofs.pushes.push_slice.Goals as goal

pub rounds-init : goal.rounds-init
rounds-init c =
    let p = c.args.mapped.now.program.now in
    let g = graph_of c.args.mapped.now.version.now in
    let a = inputs_of c.args.mapped.now in
    let s = c.args.span in
    record {
      carried = none_carried c.args.reduction p g a s.source s.place s.targets.now c.nothing-so_far.result c.args.values.now
          (none_folded c.args.reduction p g a s.source s.place s.targets.now c.nothing-so_far.result c.nothing-so_far.ensures);
      long = refl;
      paid = omega arith;
      spent = omega arith;
      memory = c.requires.memory;
      kept = c.requires.kept;
    }

pub rounds-preserved : goal.rounds-preserved
rounds-preserved c =
    let p = c.args.mapped.now.program.now in
    let g = graph_of c.args.mapped.now.version.now in
    let a = inputs_of c.args.mapped.now in
    let s = c.args.span in
    let at = c.rounds.at in
    let part = c.push_round-part in
    let n = part.result.count in
    let inv = c.rounds.invariant in
    let rest : c.targets_from.result.now ≡ drop at s.targets.now = c.targets_from.ensures in
    let row = take n (drop at s.targets.now) in
    let late = found p g a s.source (s.place + at) row in
    let fits : at + n ≤ length s.targets.now = omega (arith, part.ensures.few, ap length rest, length-drop at s.targets.now, inv.carried.folded.within) in
    let same : found p g a s.source (s.place + at) (take n c.targets_from.result.now) ≡ late = ap (λ xs. found p g a s.source (s.place + at) (take n xs)) rest in
    let values : part.new.values ≡ pushed c.args.reduction row late c.rounds.values =
    part.ensures.values ∙ ap (λ ts. pushed c.args.reduction (take n ts) (found p g a s.source (s.place + at) (take n ts)) c.rounds.values) rest in
    record {
      carried = some_carried c.args.reduction p g a s.source s.place s.targets.now at n c.rounds.so_far part.result.value c.combine-so_far.result c.args.values.now c.rounds.values part.new.values
          inv.carried fits (part.ensures.value ∙ ap (reduction_of_numbers c.args.reduction) same) (sym (ap length same) ∙ part.ensures.count) c.combine-so_far.ensures values;
      long = part.ensures.long ∙ inv.long;
      paid = more_paid (longest p + EDGE_COST) at n c.args.memory.now.budget c.rounds.memory.budget ((longest p + EDGE_COST) * n) part.new.memory.budget inv.paid (omega arith) part.ensures.cost;
      spent = more_spent at n c.args.memory.now.budget c.rounds.memory.budget (EDGE_COST * n) part.new.memory.budget inv.spent (omega arith) part.ensures.falls;
      memory = part.ensures.memory;
      kept = part.ensures.kept;
    }

pub push_round-part-requires-clause-inside : goal.push_round-part-requires-clause-inside
push_round-part-requires-clause-inside c i within =
    let s = c.args.span in
    let at = c.rounds.at in
    let rest : c.targets_from.result.now ≡ drop at s.targets.now = c.targets_from.ensures in
    let long : at + i < length s.targets.now = omega (arith, within, ap length rest, length-drop at s.targets.now) in
    let here : slice_index c.targets_from.result.now i ≡ slice_index s.targets.now (at + i) = ap (λ (l : List ℕ). slice_index l i) rest ∙ get_or-drop at s.targets.now i 0 in
    omega (arith, here, c.requires.inside (at + i) long, c.rounds.invariant.long)

use Rattle.std.proofs.Common.{subst, refl, IfSome, arith}
use Rattle.std.proofs.lemmas.List.Elements.{All-pop}
use Rattle.edge_map.specs.Pieces.{IsPiece}
use Rattle.edge_map.specs.Plans.{task_of}
use Rattle.edge_map.proofs.Places.{none_placed, one_placed, all_placed}
use Rattle.edge_map.proofs.joined.placed.Goals as goal

pub left-init : goal.left-init
left-init c = none_placed (task_of c.args.plan.now) c.args.pieces.items c.empty.places.items c.requires.all (omega (arith, c.empty.invariant, c.requires.count))

pub left-preserved : goal.left-preserved
left-preserved c =
    let t = task_of c.args.plan.now in
    let right = All-pop (IsPiece t) c.left.pieces.items c.pop.new.self.items c.pop.result c.pop.ensures.items c.left.invariant.right in
    one_placed t c.left.pieces.items c.pop.new.self.items c.in-Some.piece c.left.places.items _ c.left.invariant c.in-Some.ensures.items right.0 (subst (λ r. IfSome r (IsPiece t)) c.in-Some.is right.1) refl

pub left-preserved-in-Some : goal.left-preserved-in-Some
left-preserved-in-Some c =
    let t = task_of c.args.plan.now in
    let right = All-pop (IsPiece t) c.left.pieces.items c.pop.new.self.items c.pop.result c.pop.ensures.items c.left.invariant.right in
    one_placed t c.left.pieces.items c.pop.new.self.items c.in-Some.piece c.left.places.items _ c.left.invariant c.in-Some.ensures.items right.0 (subst (λ r. IfSome r (IsPiece t)) c.in-Some.is right.1) refl

pub returns : goal.returns
returns c = all_placed (task_of c.args.plan.now) c.left.pieces.items c.left.places.items c.left.invariant (omega (arith, c.in_default.ensures.cases))

use Rattle.std.proofs.Common.{◌≡◌, ◌+◌, ◌*◌, ◌<◌, [], length, sym, ap, subst, subst₂, ◌∙◌, get_or, ◌≤◌, inl, inr, mul-le-mul, le_refl, arith}
use Rattle.std.proofs.lemmas.Bool.{cases_lt}
use Rattle.std.proofs.lemmas.List.{length_push}
use Rattle.shards.specs.Part.{AreEditsOf}
use Rattle.shard_table.specs.Table.{part_at}
use Rattle.shard_table.specs.Made.{IsMade}
use Rattle.batch_apply.specs.Dealt.{Piece, IsMadeOf}
use Rattle.batch_apply.proofs.Dealing.{AreMadeOf, piece_more}
use Rattle.batch_apply.proofs.hands.work.Goals as goal

pub edit-edited-requires-clause-range : goal.edit-edited-requires-clause-range
edit-edited-requires-clause-range g c =
    let d : Piece = (0, []) in
    let here : c.pieces.next < length c.args.deal.pieces.now = (let test = c.pieces-test.true in let all = c.len.ensures in omega arith) in
    let range = c.range-range.ensures d in
    let inside = (c.args.deal.ready c.pieces.next d here).0 in
    omega arith

pub edit-edited-requires-clause-edits : goal.edit-edited-requires-clause-edits
edit-edited-requires-clause-edits g c =
    let d : Piece = (0, []) in
    let here : c.pieces.next < length c.args.deal.pieces.now = (let test = c.pieces-test.true in let all = c.len.ensures in omega arith) in
    subst₂ (λ r es. AreEditsOf (part_at c.args.deal.table.now r) es) (sym (c.range-range.ensures d)) (sym (c.edits.ensures d)) (c.args.deal.ready c.pieces.next d here).1

pub pieces-preserved : goal.pieces-preserved
pieces-preserved g c =
    let parts = c.args.deal.table.now in
    let pieces = c.args.deal.pieces.now in
    let first = c.args.first in
    let step = c.args.deal.step in
    let made = c.pieces.made.items in
    let e = c.in_ok-edited.field-0 in
    let last : (p : Piece) → IsMadeOf parts (get_or pieces (first + length made * step) p) e =
    λ p. subst (λ n. IsMadeOf parts (get_or pieces n p) e) c.pieces.invariant.place
    (subst₂ (λ r es. IsMade (part_at parts r) es e) (c.range-range.ensures p) (c.edits.ensures p) c.in_ok-edited.ensures) in
    let long = ap length c.in_ok-push.ensures.items ∙ length_push made e in
    record {
      place = (
          let place = c.pieces.invariant.place in
          let more : (length made + 1) * step ≡ length made * step + step = omega arith in
          omega (arith, ap (λ n. n * step) long, more));
      each = subst (AreMadeOf parts pieces first step) (sym c.in_ok-push.ensures.items) (piece_more parts pieces first step made e last c.pieces.invariant.each);
    }

pub returns : goal.returns
returns g c =
    λ i h.
    let made = c.pieces.made.items in
    let past = c.pieces-test.false in
    let place = c.pieces.invariant.place in
    let inside : i < length made = elim (cases_lt i (length made)) [
      | inl lt ↦ lt
      | inr ge ↦ (let far : length made * c.args.deal.step ≤ i * c.args.deal.step = mul-le-mul ge (le_refl c.args.deal.step) in absurd (omega arith))
    ] in (
      inside,
      λ p d. c.pieces.invariant.each i p d inside,
    )

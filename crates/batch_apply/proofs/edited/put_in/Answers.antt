use Rattle.std.proofs.Common.{◌≡◌, ℕ, ◌+◌, ◌<◌, List, length, get_or, Bor, sym, ap, subst, ◌∙◌, arith}
use Rattle.std.proofs.lemmas.List.{length_push}
use Rattle.shards.specs.declared.edited_shard.EditedShard.{EditedShard}
use Rattle.shard_table.specs.Made.{AreMade}
use Rattle.batch_apply.specs.Dealt.{Piece, IsMadeOf}
use Rattle.batch_apply.proofs.Dealing.{all_made, in_turn, made_more}
use Rattle.batch_apply.proofs.edited.put_in.Goals as goal

pub loop-place-preserved : goal.loop-place-preserved
loop-place-preserved c =
    let parts = c.args.table.now in
    let pieces = c.args.pieces.now in
    let lists = c.args.lists.now in
    let place = c.loop-place.place in
    let made = c.loop-place.made.items in
    let own = c.index-lists-place.result in
    let e : Bor EditedShard = c.index.result in
    let here_is : place < length pieces = (let test = c.loop-place-test.true in let end = c.len-place-end.ensures in omega arith) in
    let turn = in_turn parts pieces lists place own c.requires.some c.requires.dealt here_is c.index-lists-place.is in
    let here : (p : Piece) → IsMadeOf parts (get_or pieces place p) e.now = λ p. subst (IsMadeOf parts (get_or pieces place p)) (sym c.index.ensures) (turn.1 p e.now) in
    let last : (p : Piece) → IsMadeOf parts (get_or pieces (length made) p) e.now = λ p. subst (λ n. IsMadeOf parts (get_or pieces n p) e.now) (sym c.loop-place.invariant.count) (here p) in
    record {
      count = ap length c.in_ok-push.ensures.items ∙ length_push made e ∙ ap (λ n. n + 1) c.loop-place.invariant.count;
      each = subst (λ (l : List (Bor EditedShard)). (j : ℕ) (p : Piece) (d : Bor EditedShard) → j < length l → IsMadeOf parts (get_or pieces j p) (get_or l j d).now) (sym c.in_ok-push.ensures.items)
          (made_more parts pieces made e last c.loop-place.invariant.each);
    }

pub with-requires-clause-made : goal.with-requires-clause-made
with-requires-clause-made c =
    let long : length c.loop-place.made.items ≡ length c.args.pieces.now = (let ended = c.loop-place.auto.place-end in let past = c.loop-place-test.false in let count = c.loop-place.invariant.count in omega arith) in
    subst (AreMade c.args.groups.now 0 c.args.table.now) (sym c.deref.ensures.value)
    (all_made c.args.groups.now c.args.table.now c.args.pieces.now c.loop-place.made.items c.requires.batch.count c.requires.pieces long c.loop-place.invariant.each)

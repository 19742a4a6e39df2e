use Rattle.std.proofs.Common.{◌≡◌, ◌+◌, ◌-◌, ◌*◌, ◌<◌, ◌≤◌, min, [], ◌∷◌, ◌++◌, length, get_or, take, drop, sym, ap, ◌∙◌, inl, inr, arith}
use Rattle.std.specs.Arc.{arc_value}
use Rattle.std.proofs.Math.Seq.{take-add, take-length}
use Rattle.std.proofs.lemmas.Bool.{cases_lt}
use Rattle.std.proofs.lemmas.List.{length_push, length-map, length-take-le, length-drop, get_or_append_left, get_or_push}
use Rattle.shard_table.specs.Table.{parts_of}
use Rattle.shard_table.specs.Blocks.{parts_in, sizes_of}
use Rattle.shards.proofs.SizeLemmas.{before_end, past_end, next_times}
use Rattle.shard_table.proofs.BlockLemmas.{blocks_push, sizes_push}
use Rattle.shard_table.proofs.TableLemmas.{parts_append}
use Rattle.shard_table.proofs.table.blocks_of.Goals as goal

pub loop-number-preserved : goal.loop-number-preserved
loop-number-preserved c =
    let shards = c.args.shards.now in
    let w = c.args.width in
    let n = c.loop-number.number in
    let blocks = c.loop-number.blocks.items in
    let block = c.in_ok-new.field-0 in
    let inside : w * n < length shards = before_end w n (length shards) c.div_ceil-number-end.result c.requires.some c.div_ceil-number-end.ensures c.loop-number-test.true in
    let behind = c.min-behind.result in
    let behind_is : behind ≡ min (length shards) (w * n + w) = (let is = c.min-behind.ensures in omega arith) in
    let made : arc_value block ≡ parts_of (take (behind - w * n) (drop (w * n) shards)) = c.in_ok-new.ensures.ok ∙ c.of.ensures ∙ c.in_ok-own.ensures in
    let size : length (arc_value block) ≡ behind - w * n =
    ap length made
    ∙ length-map (take (behind - w * n) (drop (w * n) shards)) arc_value
    ∙ length-take-le (behind - w * n) (drop (w * n) shards) (omega (arith, length-drop (w * n) shards, behind_is)) in
    let sizes : sizes_of c.push.new.self.items ≡ sizes_of blocks ++ length (arc_value block) ∷ [] = ap sizes_of c.in_ok-push.ensures.items ∙ sizes_push blocks block in
    let before : min (length shards) (w * n) ≡ w * n = omega (arith, inside) in
    let all : w * n + (behind - w * n) ≡ min (length shards) (w * (n + 1)) = omega (arith, inside, behind_is, next_times w n) in
    record {
      count = ap length sizes ∙ length_push (sizes_of blocks) (length (arc_value block)) ∙ ap (λ k. k + 1) c.loop-number.invariant.count;
      parts =
          ap parts_in c.in_ok-push.ensures.items
          ∙ blocks_push blocks block
          ∙ ap (λ l. l ++ arc_value block) (c.loop-number.invariant.parts ∙ ap (λ k. parts_of (take k shards)) before)
          ∙ ap (λ l. parts_of (take (w * n) shards) ++ l) made
          ∙ sym (parts_append (take (w * n) shards) (take (behind - w * n) (drop (w * n) shards)))
          ∙ ap parts_of (sym (take-add (w * n) (behind - w * n) shards))
          ∙ ap (λ k. parts_of (take k shards)) all;
      sizes = λ i h. elim (cases_lt i n) [
        | inl lt ↦ ap (λ l. get_or l i 0) sizes ∙ get_or_append_left (sizes_of blocks) (length (arc_value block) ∷ []) 0 i (omega (arith, c.loop-number.invariant.count)) ∙ c.loop-number.invariant.sizes i lt
        | inr ge ↦ (
            let same : n ≡ i = omega arith in
            ap (λ l. get_or l i 0) sizes ∙ get_or_push (sizes_of blocks) (length (arc_value block)) 0 i (c.loop-number.invariant.count ∙ same) ∙ size ∙ omega (arith, behind_is, ap (λ k. w * k) same))
      ];
    }

pub returns-clause-parts : goal.returns-clause-parts
returns-clause-parts c =
    let shards = c.args.shards.now in
    let w = c.args.width in
    let n = c.loop-number.number in
    let past : length shards ≤ w * n = past_end w n (length shards) c.div_ceil-number-end.result c.requires.some c.div_ceil-number-end.ensures c.loop-number-test.false in
    let all : min (length shards) (w * n) ≡ length shards = omega (arith, past) in
    c.loop-number.invariant.parts ∙ ap (λ k. parts_of (take k shards)) all ∙ ap parts_of (take-length shards)

pub returns-clause-full : goal.returns-clause-full
returns-clause-full c =
    let shards = c.args.shards.now in
    let w = c.args.width in
    let ended = c.loop-number.auto.number-end in
    let count = c.loop-number.invariant.count in
    record {
      full = λ i h. (
          let is = c.loop-number.invariant.sizes i (omega arith) in
          let more : w * (i + 1) < length shards = before_end w (i + 1) (length shards) c.div_ceil-number-end.result c.requires.some c.div_ceil-number-end.ensures (omega (arith, ended, count)) in
          omega (arith, is, more, next_times w i));
      few = λ i h. (let is = c.loop-number.invariant.sizes i (omega arith) in omega (arith, is));
    }

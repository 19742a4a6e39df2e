use Rattle.std.proofs.Common.{◌≡◌, ◌+◌, ◌<◌, ◌++◌, ◌∷◌, [], length, map, All, sym, ap, subst, ◌∙◌, length-append, arith}
use Rattle.std.proofs.lemmas.List.{get_or_read}
use Rattle.std.proofs.lemmas.List.Elements.{All-push}
use Rattle.shards.specs.Groups.{edits_of}
use Rattle.batch_apply.specs.declared.pieces.Run.{Run}
use Rattle.batch_apply.specs.Pieces.{piece_in, IsWithin}
use Rattle.batch_apply.proofs.Dealing.{filled_one}
use Rattle.batch_apply.proofs.Running.{one_piece_more, still_within, next_piece}
use Rattle.batch_apply.proofs.pieces.Pieces.of.Goals as goal

pub push-requires : goal.push-requires
push-requires c =
    let ranges = c.in_ok-ranges.ranges.items in
    let place = c.loop-place.place in
    let inside : place < length ranges = (let test = c.loop-place-test.true in let end = c.len-place-end.ensures in omega arith) in
    filled_one c.args.groups.now ranges place c.index-range.result.now c.in_ok-ranges.ensures inside (sym (get_or_read ranges place c.index-range.result.now inside c.index-range.ensures 0))

pub loop-place-preserved : goal.loop-place-preserved
loop-place-preserved c =
    let ranges = c.in_ok-ranges.ranges.items in
    let place = c.loop-place.place in
    let range = c.index-range.result.now in
    let inside : place < length ranges = (let test = c.loop-place-test.true in let end = c.len-place-end.ensures in omega arith) in
    let own = get_or_read ranges place range inside c.index-range.ensures 0 in
    let es = c.loop-place.all.items in
    let fs = edits_of c.args.groups.now range in
    let runs = c.loop-place.runs.items in
    let all = c.in_ok-push.ensures in
    let run : Run = record { range = range; start = c.len-start.result; end = c.len-end.result } in
    let start : c.len-start.result ≡ length es = omega (arith, c.len-start.ensures) in
    let end : c.len-end.result ≡ length es + length fs = omega (arith, c.len-end.ensures, ap length all, length-append es fs) in
    let known = c.loop-place.invariant in
    record {
      within = subst (All (IsWithin (length c.push.new.edits.items))) (sym c.in_ok-push-2.ensures.items)
          (All-push (IsWithin (length c.push.new.edits.items)) runs run
          (still_within (length es) (length c.push.new.edits.items) runs (omega (arith, ap length all, length-append es fs)) known.within)
          (omega (arith, start, end), omega (arith, end, ap length all, length-append es fs)));
      so_far =
          ap (λ l. map (piece_in c.push.new.edits.items) l) c.in_ok-push-2.ensures.items
          ∙ ap (λ l. map (piece_in l) (runs ++ run ∷ [])) all
          ∙ one_piece_more es fs runs run known.within start end
          ∙ ap (λ l. l ++ (range, fs) ∷ []) known.so_far
          ∙ next_piece (λ range. (range, edits_of c.args.groups.now range)) ranges place range inside own;
    }

use Rattle.std.proofs.Common.{◌≡◌, ℕ, ◌<◌, ◌≤◌, ◌+◌, ◌^◌, List, [], ◌++◌, ◌∷◌, length, take, sym, ap, subst, subst₂, ◌∙◌, arith}
use Rattle.std.specs.declared.sync.Arc.{Arc}
use Rattle.std.specs.declared.alloc.Global.{Global}
use Rattle.std.specs.Arc.{arc_value}
use Rattle.std.proofs.lemmas.List.{length-map, length_push, take_all}
use Rattle.shards.specs.Groups.{edits_of, filled_below, IsNextFilled}
use Rattle.shards.specs.Part.{Part, IsPartAfter, AreCounts, AreHomesAfter}
use Rattle.shard_table.specs.Table.{parts_of, part_at}
use Rattle.shard_table.specs.Blocks.{AreEdited, IsRehoused, AreRehoused}
use Rattle.shard_table.proofs.RangeLemmas.{range_edits}
use Rattle.shards.proofs.FilledLemmas.{empty_is, filled_is, filled_same, filled_count}
use Rattle.shard_table.specs.Made.{IsMade}
use Rattle.shard_table.proofs.MadeLemmas.{edits_in, next_made, done_to}
use Rattle.shard_table.proofs.EditedLemmas.{none, none_edited, more_edited, range_edited, range_kept, few_edited, few_counted, few_together, same_counts}
use Rattle.shard_table.proofs.TableLemmas.{parts_push, shown_part}
use Rattle.shard_table.proofs.HousedLemmas.{housed_at, part_stays, rehoused_next}
use Rattle.shard_table.proofs.block.Block.with.Goals as goal
use Rattle.shard_table.proofs.block.Block.with.Goals.{After-plus-arg-1}

-- a place among shards is one among the parts that they show
inside : (items : List (Arc Part Global)) (parts : List Part) (k : ℕ) → parts_of items ≡ parts → k < length items → k < length parts
inside items parts k shown h = subst (λ n. k < n) (sym (length-map items arc_value) ∙ ap length shown) h

pub loop-place-init : goal.loop-place-init
loop-place-init c = record {
  count = ap (λ l. length (parts_of l)) c.in_ok-shards.ensures.items;
  done = λ g below parts. subst (λ l. AreEdited c.args.batch.groups.now.edits g c.args.first (parts_of l) none) (sym c.in_ok-shards.ensures.items) (none_edited c.args.batch.groups.now.edits g c.args.first);
  next = c.requires.next ∙ ap (λ n. length (filled_below c.args.batch.groups.now n)) (let same : c.args.first ≡ c.args.first + 0 = omega arith in same);
  found = subst (λ n. IsNextFilled c.args.batch.groups.now n (c.args.first + c.len-2.result) c.next_filled-filled.result) (omega arith) c.next_filled-filled.ensures;
  homes = λ housed. subst (λ l. AreRehoused [] (parts_of l)) (sym c.in_ok-shards.ensures.items) tt;
}

pub overflow_add-first : goal.overflow_add-first
overflow_add-first c =
    let shown = ap parts_of c.deref-shard-items.ensures.value ∙ c.self.view_is in
    let at = inside c.deref-shard-items.result.now c.args.self.now c.loop-place.place shown c.loop-place-test.true in
    let within = c.requires.within in
    let fits = c.requires.fits in
    omega arith

pub loop-place-preserved-then-first-place : goal.loop-place-preserved-then-first-place
loop-place-preserved-then-first-place c =
    let groups = c.args.batch.groups.now in
    let range = c.args.first + c.loop-place.place in
    let shown = ap parts_of c.deref-shard-items.ensures.value ∙ c.self.view_is in
    let at = inside c.deref-shard-items.result.now c.args.self.now c.loop-place.place shown c.loop-place-test.true in
    let unedited : range_edits groups.count groups.edits range ≡ [] = sym (edits_in groups c.requires.ranges range) ∙ c.loop-place.invariant.found.none range (omega arith) c.if-first-place.true in
    let same : part_at c.args.self.now c.loop-place.place ≡ arc_value c.in_ok-try_clone.field-0 =
    sym (c.in_ok-try_clone.ensures ∙ ap arc_value c.shard-item.is ∙ shown_part c.deref-shard-items.result.now c.loop-place.place c.shard-item.result c.loop-place-test.true ∙ ap (λ l. part_at l c.loop-place.place) shown) in
    let pushed = ap parts_of c.in_ok-push.ensures.items ∙ parts_push c.loop-place.shards.items c.in_ok-try_clone.field-0 in
    let before = parts_of c.loop-place.shards.items in
    record {
      count = ap length pushed ∙ length_push before (arc_value c.in_ok-try_clone.field-0) ∙ ap (λ n. n + 1) c.loop-place.invariant.count;
      done = λ g below parts. (
          let kept = range_kept groups.edits g (part_at c.args.self.now c.loop-place.place) groups.count range (parts.each c.loop-place.place at) (parts.inside c.loop-place.place at) unedited in
          subst (λ l. AreEdited groups.edits g c.args.first l c.loop-place.counts) (sym pushed)
          (same_counts groups.edits g c.args.first (before ++ arc_value c.in_ok-try_clone.field-0 ∷ []) c.loop-place.counts
          (more_edited groups.edits g c.args.first before (arc_value c.in_ok-try_clone.field-0 ∷ []) c.loop-place.counts none (c.loop-place.invariant.done g below parts)
          (subst₂ (λ r q. AreEdited groups.edits g r (q ∷ []) none) (ap (λ n. c.args.first + n) (sym c.loop-place.invariant.count)) same kept))));
      next = (
          let same : c.args.first + c.loop-place.place + 1 ≡ c.args.first + (c.loop-place.place + 1) = omega arith in
          c.loop-place.invariant.next ∙ sym (ap length (filled_same groups range (empty_is groups range (c.loop-place.invariant.found.none range (omega arith) c.if-first-place.true)))) ∙ ap (λ n. length (filled_below groups n)) same);
      found = (
          let found = c.loop-place.invariant.found in
          let test = c.if-first-place.true in
          record {
            after = omega arith;
            within = found.within;
            none = λ k low high. found.none k (omega arith) high;
            some = found.some;
          });
      homes = λ housed.
          subst (AreRehoused (take (c.loop-place.place + 1) c.args.self.now)) (sym pushed)
          (rehoused_next c.args.self.now before c.loop-place.place (arc_value c.in_ok-try_clone.field-0) at (c.loop-place.invariant.homes housed)
          (subst (IsRehoused (part_at c.args.self.now c.loop-place.place)) same (part_stays (part_at c.args.self.now c.loop-place.place) (housed_at c.args.self.now c.loop-place.place housed at))));
    }

-- the edited shards begin with the one at hand
pub bounds-made-next : goal.bounds-made-next
bounds-made-next c =
    let groups = c.args.batch.groups.now in
    let shown = ap parts_of c.deref-shard-items.ensures.value ∙ c.self.view_is in
    let at = inside c.deref-shard-items.result.now c.args.self.now c.loop-place.place shown c.loop-place-test.true in
    let long : c.len-2.result ≡ length c.args.self.now = (let len = c.len-2.ensures in omega (arith, len, length-map c.self.inside.shards.items arc_value, ap length c.self.view_is)) in
    let found = c.loop-place.invariant.found in
    let after = found.after in
    let past = c.if-first-place.false in
    let here : c.args.first + c.loop-place.place ≡ c.loop-place.filled = omega arith in
    let some : edits_of groups (c.args.first + c.loop-place.place) ≡ [] → ⊥ = λ none. found.some (omega (arith, at, long)) (subst (λ n. edits_of groups n ≡ []) here none) in
    (next_made groups c.args.self.now c.args.batch.made.now c.args.first c.loop-place.place c.loop-place.next c.requires.made at some c.loop-place.invariant.next).0

pub offset_bounds-made-next : goal.offset_bounds-made-next
offset_bounds-made-next c =
    let groups = c.args.batch.groups.now in
    let shown = ap parts_of c.deref-shard-items.ensures.value ∙ c.self.view_is in
    let at = inside c.deref-shard-items.result.now c.args.self.now c.loop-place.place shown c.loop-place-test.true in
    let long : c.len-2.result ≡ length c.args.self.now = (let len = c.len-2.ensures in omega (arith, len, length-map c.self.inside.shards.items arc_value, ap length c.self.view_is)) in
    let found = c.loop-place.invariant.found in
    let after = found.after in
    let past = c.if-first-place.false in
    let here : c.args.first + c.loop-place.place ≡ c.loop-place.filled = omega arith in
    let some : edits_of groups (c.args.first + c.loop-place.place) ≡ [] → ⊥ = λ none. found.some (omega (arith, at, long)) (subst (λ n. edits_of groups n ≡ []) here none) in
    let few = c.requires.few in
    let small = (next_made groups c.args.self.now c.args.batch.made.now c.args.first c.loop-place.place c.loop-place.next c.requires.made at some c.loop-place.invariant.next).0 in
    omega arith

-- what was done to the shard at hand
applied : (c : After-plus-arg-1) → let e = c.index-made-next.result.now in let es = range_edits c.args.batch.groups.now.count c.args.batch.groups.now.edits (c.args.first + c.loop-place.place) in let p = part_at c.args.self.now c.loop-place.place in
    IsPartAfter es p (arc_value e.shard) × AreCounts es p e.counts × AreHomesAfter p (arc_value e.shard)
applied c =
    let groups = c.args.batch.groups.now in
    let range = c.args.first + c.loop-place.place in
    let shown = ap parts_of c.deref-shard-items.ensures.value ∙ c.self.view_is in
    let at = inside c.deref-shard-items.result.now c.args.self.now c.loop-place.place shown c.loop-place-test.true in
    let long : c.len-2.result ≡ length c.args.self.now = (let len = c.len-2.ensures in omega (arith, len, length-map c.self.inside.shards.items arc_value, ap length c.self.view_is)) in
    let found = c.loop-place.invariant.found in
    let after = found.after in
    let past = c.if-first-place.false in
    let here : c.args.first + c.loop-place.place ≡ c.loop-place.filled = omega arith in
    let some : edits_of groups (c.args.first + c.loop-place.place) ≡ [] → ⊥ = λ none. found.some (omega (arith, at, long)) (subst (λ n. edits_of groups n ≡ []) here none) in
    let all = (next_made groups c.args.self.now c.args.batch.made.now c.args.first c.loop-place.place c.loop-place.next c.requires.made at some c.loop-place.invariant.next).1 in
    done_to groups range (part_at c.args.self.now c.loop-place.place) c.index-made-next.result.now c.requires.ranges
    (subst (λ e. IsMade (part_at c.args.self.now c.loop-place.place) (edits_of groups range) e.now) (sym c.index-made-next.is) (all c.index-made-next.result))

few : (c : After-plus-arg-1) → (c.loop-place.counts.added + c.index-made-next.result.now.counts.added < 2 ^ 64) × (c.loop-place.counts.removed + c.index-made-next.result.now.counts.removed < 2 ^ 64)
few c =
    let groups = c.args.batch.groups.now in
    let range = c.args.first + c.loop-place.place in
    let editable = c.requires.editable in
    let shown = ap parts_of c.deref-shard-items.ensures.value ∙ c.self.view_is in
    let at = inside c.deref-shard-items.result.now c.args.self.now c.loop-place.place shown c.loop-place-test.true in
    few_together c.loop-place.counts c.index-made-next.result.now.counts
    (few_edited groups.edits editable.graph c.args.first (parts_of c.loop-place.shards.items) c.loop-place.counts editable.small (c.loop-place.invariant.done editable.graph editable.below editable.own))
    (few_counted groups.edits editable.graph (part_at c.args.self.now c.loop-place.place) c.index-made-next.result.now.counts groups.count range editable.small (editable.own.each c.loop-place.place at) (editable.own.inside c.loop-place.place at) editable.below (arc_value c.index-made-next.result.now.shard) (applied c).0 (applied c).1)

pub plus-counts-requires-clause-added : goal.plus-counts-requires-clause-added
plus-counts-requires-clause-added c = (few c).0

pub plus-counts-requires-clause-removed : goal.plus-counts-requires-clause-removed
plus-counts-requires-clause-removed c = (few c).1

pub loop-place-preserved : goal.loop-place-preserved
loop-place-preserved c =
    let groups = c.args.batch.groups.now in
    let range = c.args.first + c.loop-place.place in
    let before = parts_of c.loop-place.shards.items in
    let shown = ap parts_of c.deref-shard-items.ensures.value ∙ c.self.view_is in
    let at = inside c.deref-shard-items.result.now c.args.self.now c.loop-place.place shown c.loop-place-test.true in
    let pushed = ap parts_of c.in_ok-push-2.ensures.items ∙ parts_push c.loop-place.shards.items c.in_ok-try_clone-2.field-0 ∙ ap (λ q. before ++ q ∷ []) c.in_ok-try_clone-2.ensures in
    record {
      count = ap length pushed ∙ length_push before (arc_value c.index-made-next.result.now.shard) ∙ ap (λ n. n + 1) c.loop-place.invariant.count;
      done = λ g below parts. (
          let one = range_edited groups.edits g (part_at c.args.self.now c.loop-place.place) (arc_value c.index-made-next.result.now.shard) c.index-made-next.result.now.counts groups.count range (parts.each c.loop-place.place at) (parts.inside c.loop-place.place at) below (applied c.before.before).0 (applied c.before.before).1 in
          subst₂ (λ l counts. AreEdited groups.edits g c.args.first l counts) (sym pushed) (sym c.plus-counts.ensures)
          (more_edited groups.edits g c.args.first before ((arc_value c.index-made-next.result.now.shard) ∷ []) c.loop-place.counts c.index-made-next.result.now.counts (c.loop-place.invariant.done g below parts)
          (subst (λ r. AreEdited groups.edits g r ((arc_value c.index-made-next.result.now.shard) ∷ []) c.index-made-next.result.now.counts) (ap (λ n. c.args.first + n) (sym c.loop-place.invariant.count)) one)));
      next = (
          let same : c.args.first + c.loop-place.place + 1 ≡ c.args.first + (c.loop-place.place + 1) = omega arith in
          let long : c.len-2.result ≡ length c.args.self.now = (let len = c.len-2.ensures in omega (arith, len, length-map c.self.inside.shards.items arc_value, ap length c.self.view_is)) in
          let found = c.loop-place.invariant.found in
          let after = found.after in
          let past = c.if-first-place.false in
          let here : c.args.first + c.loop-place.place ≡ c.loop-place.filled = omega arith in
          let edited = filled_is groups range (λ none. found.some (omega (arith, at, long)) (subst (λ n. edits_of groups n ≡ []) here none)) in
          ap (λ n. n + 1) c.loop-place.invariant.next ∙ sym (filled_count groups range edited) ∙ ap (λ n. length (filled_below groups n)) same);
      found = (
          let after = c.loop-place.invariant.found.after in
          let past = c.if-first-place.false in
          let next : c.loop-place.filled + 1 ≡ c.args.first + (c.loop-place.place + 1) = omega arith in
          subst (λ n. IsNextFilled groups n (c.args.first + c.len-2.result) c.next_filled-filled-in-loop-place.result) next c.next_filled-filled-in-loop-place.ensures);
      homes = λ housed.
          subst (AreRehoused (take (c.loop-place.place + 1) c.args.self.now)) (sym pushed)
          (rehoused_next c.args.self.now before c.loop-place.place (arc_value c.index-made-next.result.now.shard) at (c.loop-place.invariant.homes housed)
          (record { count = (applied c.before.before).0.count; homes = (applied c.before.before).2 }));
    }

pub returns-clause-edited : goal.returns-clause-edited
returns-clause-edited c = c.loop-place.invariant.done

pub returns-clause-same : goal.returns-clause-same
returns-clause-same c =
    let shown = ap parts_of c.deref-shard-items.ensures.value ∙ c.self.view_is in
    let long : length c.deref-shard-items.result.now ≡ length c.args.self.now = sym (length-map c.deref-shard-items.result.now arc_value) ∙ ap length shown in
    let ended = c.loop-place.auto.place-end in
    let past = c.loop-place-test.false in
    let count = c.loop-place.invariant.count in
    omega (arith, long, count, ended, past)

pub returns-clause-homes : goal.returns-clause-homes
returns-clause-homes c =
    λ housed.
    let shown = ap parts_of c.deref-shard-items.ensures.value ∙ c.self.view_is in
    let long : length c.deref-shard-items.result.now ≡ length c.args.self.now = sym (length-map c.deref-shard-items.result.now arc_value) ∙ ap length shown in
    let past : length c.args.self.now ≤ c.loop-place.place = (let test = c.loop-place-test.false in omega (arith, long, test)) in
    subst (λ l. AreRehoused l (parts_of c.loop-place.shards.items)) (take_all c.loop-place.place c.args.self.now past) (c.loop-place.invariant.homes housed)

pub returns-clause-next : goal.returns-clause-next
returns-clause-next c =
    let shown = ap parts_of c.deref-shard-items.ensures.value ∙ c.self.view_is in
    let long : length c.deref-shard-items.result.now ≡ length c.args.self.now = sym (length-map c.deref-shard-items.result.now arc_value) ∙ ap length shown in
    let ended = c.loop-place.auto.place-end in
    let past = c.loop-place-test.false in
    let all : c.loop-place.place ≡ length c.args.self.now = omega (arith, long, ended, past) in
    c.loop-place.invariant.next ∙ ap (λ n. length (filled_below c.args.batch.groups.now (c.args.first + n))) all

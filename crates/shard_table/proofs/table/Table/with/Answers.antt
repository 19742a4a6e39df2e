use Rattle.std.proofs.Common.{◌≡◌, ℕ, ◌+◌, ◌*◌, ◌^◌, ◌<◌, ◌≤◌, List, [], ◌++◌, length, get_or, take, sym, ap, subst, subst₂, ◌∙◌, arith}
use Rattle.std.specs.declared.sync.Arc.{Arc}
use Rattle.std.specs.declared.alloc.Global.{Global}
use Rattle.std.specs.Arc.{arc_value}
use Rattle.std.proofs.lemmas.List.{length-map, take_all}
use Rattle.graph_model.specs.Graph.{Graph}
use Rattle.past_model.specs.declared.limits.TheConstants.{MOST_VERTICES, MOST_RANGES}
use Rattle.past_model.specs.Edits.{AreEditsBelow}
use Rattle.shards.specs.Groups.{filled_below}
use Rattle.shard_table.specs.Made.{AreMade}
use Rattle.shards.specs.Part.{Part}
use Rattle.shard_table.specs.Table.{IsTable, AreMoved, parts_of}
use Rattle.shards.specs.Pages.{AreFull}
use Rattle.shard_table.specs.Blocks.{ArePartsFrom, AreEdited, AreHoused, AreRehoused, parts_in, sizes_of}
use Rattle.shard_table.proofs.RangeLemmas.{range_edits}
use Rattle.shards.proofs.FilledLemmas.{none_between}
use Rattle.shard_table.proofs.MadeLemmas.{edits_in, none_made, full_block, block_made}
use Rattle.shard_table.proofs.EditedLemmas.{none, more_edited, same_counts, block_kept, few_edited, few_together, all_edited}
use Rattle.shard_table.proofs.TableLemmas.{few_parts}
use Rattle.shards.proofs.SizeLemmas.{next_times}
use Rattle.shard_table.proofs.BlockLemmas.{blocks_push, sizes_next, parts_made, all_made, same_length, block_parts, block_inside}
use Rattle.shard_table.proofs.HousedLemmas.{block_housed, parts_stay, rehoused_block, housed_after, all_rehoused}
use Rattle.shard_table.proofs.table.Table.with.Goals as goal
use Rattle.shard_table.proofs.table.Table.with.Goals.{In_ok-push-2}

abbrev Blocks : Type 0
Blocks = List (Arc (List Part) Global)

-- the block at hand is one of the table's
at : (items old : Blocks) (n : ℕ) → items ≡ old → n < length items → n < length old
at items old n same h = subst (λ l. n < length l) same h

block_of : (items old : Blocks) (n : ℕ) (b : Arc (List Part) Global) → items ≡ old → b ≡ get_or items n b → b ≡ get_or old n b
block_of items old n b same is = is ∙ ap (λ l. get_or l n b) same

inside : (w : ℕ) (old : Blocks) (n count : ℕ) (b : Arc (List Part) Global) → AreFull w (sizes_of old) → count ≡ length (parts_in old) → n < length old → b ≡ get_or old n b → w * n + length (arc_value b) ≤ count
inside w old n count b full all h is = omega (arith, block_inside w old n b full h, all, ap (λ b. length (arc_value b)) is)

few : (g : Graph) (parts : List Part) (old : Blocks) (count : ℕ) → count ≡ length (parts_in old) → parts_in old ≡ parts → IsTable g parts → g.vertex_count ≤ MOST_VERTICES → count ≤ MOST_RANGES
few g parts old count all is table small = omega (arith, few_parts g parts table small, all, ap length is)

-- the shards that are looked at show the block
long : (shards : List (Arc Part Global)) (block : Arc (List Part) Global) → parts_of shards ≡ arc_value block → length shards ≡ length (arc_value block)
long shards block is = sym (length-map shards arc_value) ∙ ap length is

pub with-requires-clause-fits : goal.with-requires-clause-fits
with-requires-clause-fits c =
    let all : c.self.inside.count ≡ length c.args.self.now = c.self.invariant.1 ∙ ap length c.self.view_is in
    omega (arith, c.requires.batch.count, all, few c.requires.batch.editable.graph c.args.self.now c.self.inside.blocks.items c.self.inside.count c.self.invariant.1 c.self.view_is c.requires.batch.editable.table c.requires.batch.editable.small)

pub overflow_mul-first : goal.overflow_mul-first
overflow_mul-first c =
    let old = c.self.inside.blocks.items in
    let h = at c.deref-block-items.result.now old c.loop-number.number c.deref-block-items.ensures.value c.loop-number-test.true in
    let is = block_of c.deref-block-items.result.now old c.loop-number.number c.block-item.result c.deref-block-items.ensures.value c.block-item.is in
    omega (arith, inside c.self.inside.width.shards old c.loop-number.number c.self.inside.count c.block-item.result c.self.invariant.0 c.self.invariant.1 h is, few c.requires.batch.editable.graph c.args.self.now old c.self.inside.count c.self.invariant.1 c.self.view_is c.requires.batch.editable.table c.requires.batch.editable.small)

pub overflow_add-behind : goal.overflow_add-behind
overflow_add-behind c =
    let old = c.self.inside.blocks.items in
    let h = at c.deref-block-items.result.now old c.loop-number.number c.deref-block-items.ensures.value c.loop-number-test.true in
    let is = block_of c.deref-block-items.result.now old c.loop-number.number c.block-item.result c.deref-block-items.ensures.value c.block-item.is in
    let size = long c.shards.result.now c.block-item.result (c.shards.ensures ∙ c.deref.ensures) in
    omega (arith, size, inside c.self.inside.width.shards old c.loop-number.number c.self.inside.count c.block-item.result c.self.invariant.0 c.self.invariant.1 h is, few c.requires.batch.editable.graph c.args.self.now old c.self.inside.count c.self.invariant.1 c.self.view_is c.requires.batch.editable.table c.requires.batch.editable.small)

pub loop-number-preserved-then-is_past : goal.loop-number-preserved-then-is_past
loop-number-preserved-then-is_past c =
    let es = c.args.groups.now.edits in
    let number = c.loop-number.number in
    let old = c.self.inside.blocks.items in
    let new = c.loop-number.blocks.items in
    let block = c.block-item.result in
    let full = c.self.invariant.0 in
    let h = at c.deref-block-items.result.now old number c.deref-block-items.ensures.value c.loop-number-test.true in
    let is = block_of c.deref-block-items.result.now old number block c.deref-block-items.ensures.value c.block-item.is in
    let size = long c.shards.result.now block (c.shards.ensures ∙ c.deref.ensures) in
    let same : arc_value c.in_ok-try_clone.field-0 ≡ arc_value (get_or old number block) = c.in_ok-try_clone.ensures ∙ ap arc_value is in
    let within : c.self.inside.width.shards * number + length c.shards.result.now ≤ length c.args.self.now =
    (let all : c.self.inside.count ≡ length c.args.self.now = c.self.invariant.1 ∙ ap length c.self.view_is in omega (arith, size, all, inside c.self.inside.width.shards old number c.self.inside.count block full c.self.invariant.1 h is)) in
    let untouched = none_made (length c.shards.result.now) c.args.groups.now c.requires.batch.editable.graph c.args.self.now c.args.made.now (c.self.inside.width.shards * number) c.loop-number.next c.requires.batch.editable.table c.requires.made (c.loop-number.invariant.next h) within (c.is_past.ensures.past c.if-is_past.true) in
    let unedited : (range : ℕ) → c.self.inside.width.shards * number ≤ range → range < c.self.inside.width.shards * number + length (arc_value c.in_ok-try_clone.field-0) → range_edits c.args.groups.now.count es range ≡ [] =
    (λ range low high. sym (edits_in c.args.groups.now c.requires.batch.by_range range) ∙ untouched range low (omega (arith, high, size, ap length c.in_ok-try_clone.ensures))) in
    record {
      sizes = ap sizes_of c.in_ok-push.ensures.items ∙ sizes_next new old number c.in_ok-try_clone.field-0 block h c.loop-number.invariant.sizes (ap length same);
      done = λ g below table. (
          let parts = subst (ArePartsFrom g (c.self.inside.width.shards * number)) (sym same) (block_parts c.self.inside.width.shards g old number block full h table) in
          let kept = block_kept es g c.args.groups.now.count (c.self.inside.width.shards * number) (arc_value c.in_ok-try_clone.field-0) parts unedited in
          subst (λ l. AreEdited es g 0 l c.loop-number.counts) (sym (ap parts_in c.in_ok-push.ensures.items ∙ blocks_push new c.in_ok-try_clone.field-0))
          (same_counts es g 0 (parts_in new ++ arc_value c.in_ok-try_clone.field-0) c.loop-number.counts
          (more_edited es g 0 (parts_in new) (arc_value c.in_ok-try_clone.field-0) c.loop-number.counts none (c.loop-number.invariant.done g below table)
          (subst (λ r. AreEdited es g r (arc_value c.in_ok-try_clone.field-0) none) (sym (parts_made c.self.inside.width.shards new old number full h c.loop-number.invariant.sizes)) kept))));
      next = λ more. (
          let groups = c.args.groups.now in
          let own : length c.shards.result.now ≡ c.self.inside.width.shards = size ∙ ap (λ b. length (arc_value b)) is ∙ full_block c.self.inside.width.shards old number block full more in
          let end : c.self.inside.width.shards * number + c.self.inside.width.shards ≡ c.self.inside.width.shards * (number + 1) = sym (next_times c.self.inside.width.shards number) in
          c.loop-number.invariant.next h
          ∙ ap length (sym (none_between c.self.inside.width.shards groups (c.self.inside.width.shards * number) (λ range low high. untouched range low (omega (arith, high, own)))))
          ∙ ap (λ n. length (filled_below groups n)) end);
      homes =
          subst (λ l. AreRehoused (parts_in (take (number + 1) old)) (parts_in l)) (sym c.in_ok-push.ensures.items)
          (rehoused_block old new number c.in_ok-try_clone.field-0 block h c.loop-number.invariant.homes
          (subst (AreRehoused (arc_value (get_or old number block))) (sym same) (parts_stay (arc_value (get_or old number block)) (block_housed old number block c.self.invariant.2 h))));
    }

pub with-requires-clause-within : goal.with-requires-clause-within
with-requires-clause-within c =
    let old = c.self.inside.blocks.items in
    let h = at c.deref-block-items.result.now old c.loop-number.number c.deref-block-items.ensures.value c.loop-number-test.true in
    let is = block_of c.deref-block-items.result.now old c.loop-number.number c.block-item.result c.deref-block-items.ensures.value c.block-item.is in
    let count : c.args.groups.now.count ≡ c.self.inside.count = c.requires.batch.count ∙ ap length (sym c.self.view_is) ∙ sym c.self.invariant.1 in
    omega (arith, ap length c.deref-in-loop-number.ensures, count, inside c.self.inside.width.shards old c.loop-number.number c.self.inside.count c.block-item.result c.self.invariant.0 c.self.invariant.1 h is)

-- the parts of the block at hand
own_parts : (w : ℕ) (g : Graph) (old : Blocks) (n : ℕ) (b : Arc (List Part) Global) (parts : List Part) → AreFull w (sizes_of old) → n < length old → b ≡ get_or old n b → parts ≡ arc_value b → IsTable g (parts_in old) → ArePartsFrom g (w * n) parts
own_parts w g old n b parts full h is same table = subst (ArePartsFrom g (w * n)) (sym (same ∙ ap arc_value is)) (block_parts w g old n b full h table)

pub with-requires-clause-editable : goal.with-requires-clause-editable
with-requires-clause-editable c =
    let old = c.self.inside.blocks.items in
    let h = at c.deref-block-items.result.now old c.loop-number.number c.deref-block-items.ensures.value c.loop-number-test.true in
    let is = block_of c.deref-block-items.result.now old c.loop-number.number c.block-item.result c.deref-block-items.ensures.value c.block-item.is in
    record {
      graph = c.requires.batch.editable.graph;
      small = c.requires.batch.editable.small;
      own = own_parts c.self.inside.width.shards c.requires.batch.editable.graph old c.loop-number.number c.block-item.result c.deref-in-loop-number.result.now c.self.invariant.0 h is c.deref-in-loop-number.ensures (subst (IsTable c.requires.batch.editable.graph) (sym c.self.view_is) c.requires.batch.editable.table);
      below = c.requires.batch.editable.below;
    }

pub with-requires-clause-made : goal.with-requires-clause-made
with-requires-clause-made c =
    let old = c.self.inside.blocks.items in
    let h = at c.deref-block-items.result.now old c.loop-number.number c.deref-block-items.ensures.value c.loop-number-test.true in
    let is = block_of c.deref-block-items.result.now old c.loop-number.number c.block-item.result c.deref-block-items.ensures.value c.block-item.is in
    block_made c.self.inside.width.shards c.args.groups.now c.args.made.now old c.loop-number.number c.block-item.result c.deref-in-loop-number.result.now c.self.invariant.0 h (c.deref-in-loop-number.ensures ∙ ap arc_value is)
    (subst (λ parts. AreMade c.args.groups.now 0 parts c.args.made.now) (sym c.self.view_is) c.requires.made)

-- what was done to the block at hand
edited : (c : In_ok-push-2) → (g : Graph) → AreEditsBelow g.vertex_count c.args.groups.now.edits → IsTable g (parts_in c.self.inside.blocks.items) → AreEdited c.args.groups.now.edits g (c.self.inside.width.shards * c.loop-number.number) c.in_ok-edited.edited c.in_ok-edited.more
edited c =
    λ g below table.
    let old = c.self.inside.blocks.items in
    let h = at c.deref-block-items.result.now old c.loop-number.number c.deref-block-items.ensures.value c.loop-number-test.true in
    let is = block_of c.deref-block-items.result.now old c.loop-number.number c.block-item.result c.deref-block-items.ensures.value c.block-item.is in
    let parts = own_parts c.self.inside.width.shards g old c.loop-number.number c.block-item.result c.deref-in-loop-number.result.now c.self.invariant.0 h is c.deref-in-loop-number.ensures table in
    c.in_ok-edited.ensures.edited g below parts

few_counts : (c : In_ok-push-2) → (c.loop-number.counts.added + c.in_ok-edited.more.added < 2 ^ 64) × (c.loop-number.counts.removed + c.in_ok-edited.more.removed < 2 ^ 64)
few_counts c =
    let g = c.requires.batch.editable.graph in
    let es = c.args.groups.now.edits in
    let table = subst (IsTable g) (sym c.self.view_is) c.requires.batch.editable.table in
    few_together c.loop-number.counts c.in_ok-edited.more
    (few_edited es g 0 (parts_in c.loop-number.blocks.items) c.loop-number.counts c.requires.batch.editable.small (c.loop-number.invariant.done g c.requires.batch.editable.below table))
    (few_edited es g (c.self.inside.width.shards * c.loop-number.number) c.in_ok-edited.edited c.in_ok-edited.more c.requires.batch.editable.small (edited c g c.requires.batch.editable.below table))

pub plus-counts-requires-clause-added : goal.plus-counts-requires-clause-added
plus-counts-requires-clause-added c = (few_counts c).0

pub plus-counts-requires-clause-removed : goal.plus-counts-requires-clause-removed
plus-counts-requires-clause-removed c = (few_counts c).1

pub loop-number-preserved : goal.loop-number-preserved
loop-number-preserved c =
    let es = c.args.groups.now.edits in
    let number = c.loop-number.number in
    let old = c.self.inside.blocks.items in
    let new = c.loop-number.blocks.items in
    let block = c.block-item.result in
    let h = at c.deref-block-items.result.now old number c.deref-block-items.ensures.value c.loop-number-test.true in
    let is = block_of c.deref-block-items.result.now old number block c.deref-block-items.ensures.value c.block-item.is in
    let made : arc_value c.in_ok-new.field-0 ≡ c.in_ok-edited.edited = c.in_ok-new.ensures.ok in
    let size : length (arc_value c.in_ok-new.field-0) ≡ length (arc_value (get_or old number block)) = ap length made ∙ c.in_ok-edited.ensures.same ∙ ap length c.deref-in-loop-number.ensures ∙ ap (λ b. length (arc_value b)) is in
    record {
      sizes = ap sizes_of c.in_ok-push-2.ensures.items ∙ sizes_next new old number c.in_ok-new.field-0 block h c.loop-number.invariant.sizes size;
      done = λ g below table.
          subst₂ (λ l counts. AreEdited es g 0 l counts) (sym (ap parts_in c.in_ok-push-2.ensures.items ∙ blocks_push new c.in_ok-new.field-0 ∙ ap (λ l. parts_in new ++ l) made)) (sym c.plus-counts.ensures)
          (more_edited es g 0 (parts_in new) c.in_ok-edited.edited c.loop-number.counts c.in_ok-edited.more (c.loop-number.invariant.done g below table)
          (subst (λ r. AreEdited es g r c.in_ok-edited.edited c.in_ok-edited.more) (sym (parts_made c.self.inside.width.shards new old number c.self.invariant.0 h c.loop-number.invariant.sizes)) (edited c.before g below table)));
      next = λ more. (
          let groups = c.args.groups.now in
          let own : length c.deref-in-loop-number.result.now ≡ c.self.inside.width.shards = ap length (c.deref-in-loop-number.ensures ∙ ap arc_value is) ∙ full_block c.self.inside.width.shards old number block c.self.invariant.0 more in
          let end : c.self.inside.width.shards * number + length c.deref-in-loop-number.result.now ≡ c.self.inside.width.shards * (number + 1) = omega (arith, own, next_times c.self.inside.width.shards number) in
          c.in_ok-edited.ensures.next ∙ ap (λ n. length (filled_below groups n)) end);
      homes = (
          let own : c.deref-in-loop-number.result.now ≡ arc_value (get_or old number block) = c.deref-in-loop-number.ensures ∙ ap arc_value is in
          let housed : AreHoused c.deref-in-loop-number.result.now = subst AreHoused (sym own) (block_housed old number block c.self.invariant.2 h) in
          subst (λ l. AreRehoused (parts_in (take (number + 1) old)) (parts_in l)) (sym c.in_ok-push-2.ensures.items)
          (rehoused_block old new number c.in_ok-new.field-0 block h c.loop-number.invariant.homes
          (subst₂ AreRehoused own (sym made) (c.in_ok-edited.ensures.homes housed))));
    }

pub invariant_of-result : goal.invariant_of-result
invariant_of-result c =
    let old = c.self.inside.blocks.items in
    let new = c.loop-number.blocks.items in
    let past : length old ≤ c.loop-number.number = (let test = c.loop-number-test.false in let items = ap length c.deref-block-items.ensures.value in omega arith) in
    let same = all_made new old c.loop-number.number past c.loop-number.invariant.sizes in
    let homes : AreRehoused (parts_in old) (parts_in new) = subst (λ (l : Blocks). AreRehoused (parts_in l) (parts_in new)) (take_all c.loop-number.number old past) c.loop-number.invariant.homes in
    (subst (AreFull c.self.inside.width.shards) (sym same) c.self.invariant.0, c.self.invariant.1 ∙ sym (same_length new old same), housed_after (parts_in old) (parts_in new) c.self.invariant.2 homes)

pub returns-clause-after : goal.returns-clause-after
returns-clause-after c =
    let old = c.self.inside.blocks.items in
    let new = c.loop-number.blocks.items in
    let past : length old ≤ c.loop-number.number = (let test = c.loop-number-test.false in let items = ap length c.deref-block-items.ensures.value in omega arith) in
    let same = all_made new old c.loop-number.number past c.loop-number.invariant.sizes in
    all_edited c.args.groups.now.edits c.args.self.now (parts_in new) c.loop-number.counts (same_length new old same ∙ ap length c.self.view_is) (λ g below table. c.loop-number.invariant.done g below (subst (IsTable g) (sym c.self.view_is) table))

pub returns-clause-homes : goal.returns-clause-homes
returns-clause-homes c =
    let old = c.self.inside.blocks.items in
    let new = c.loop-number.blocks.items in
    let past : length old ≤ c.loop-number.number = (let test = c.loop-number-test.false in let items = ap length c.deref-block-items.ensures.value in omega arith) in
    let homes : AreRehoused (parts_in old) (parts_in new) = subst (λ (l : Blocks). AreRehoused (parts_in l) (parts_in new)) (take_all c.loop-number.number old past) c.loop-number.invariant.homes in
    subst (λ (l : List Part). AreMoved l (parts_in new)) c.self.view_is (all_rehoused (parts_in old) (parts_in new) c.self.invariant.2 homes)

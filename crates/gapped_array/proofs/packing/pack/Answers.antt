use Rattle.std.proofs.Common.{◌≡◌, List, Option, Some, None, length, get_or, refl, ap, sym, subst, ◌∙◌, arith}
use Rattle.gapped_array.specs.declared.run.Run.{Run}
use Rattle.gapped_array.specs.Runs.{IsFirstBelow}
use Rattle.gapped_array.proofs.Layouts.{words_inside}
use Rattle.gapped_array.proofs.Packs.{packed_none, packed_more, packed_all}
use Rattle.gapped_array.proofs.packing.pack.Goals as goal

pub loop-vertex-init : goal.loop-vertex-init
loop-vertex-init c = record {
  layout = c.requires;
  lists = refl;
  packed = packed_none c.args.segments c.args.runs.now.items;
}

pub move_words-requires-clause-within : goal.move_words-requires-clause-within
move_words-requires-clause-within c =
    let a = c.loop-vertex.invariant.layout in
    let e : get_or c.loop-vertex.runs.items c.in-Some.vertex None ≡ Some c.in-Some.run' = ap (λ l. get_or l c.in-Some.vertex None) (sym c.deref.ensures.value) ∙ c.in-Some.ensures.1 in
    omega (arith, words_inside c.loop-vertex.cells.items c.args.segments c.in-Some.run' a.cells (a.fits c.in-Some.vertex c.in-Some.run' e), c.loop-vertex.cells.ok)

pub overflow_add-end : goal.overflow_add-end
overflow_add-end c =
    let a = c.loop-vertex.invariant.layout in
    let e : get_or c.loop-vertex.runs.items c.in-Some.vertex None ≡ Some c.in-Some.run' = ap (λ l. get_or l c.in-Some.vertex None) (sym c.deref.ensures.value) ∙ c.in-Some.ensures.1 in
    omega (arith, (a.fits c.in-Some.vertex c.in-Some.run' e).inside, c.in-Some.ensures.2.0, c.ranges.segments.fits)

pub loop-vertex-smaller : goal.loop-vertex-smaller
loop-vertex-smaller c =
    let a = c.loop-vertex.invariant.layout in
    let e : get_or c.loop-vertex.runs.items c.in-Some.vertex None ≡ Some c.in-Some.run' = ap (λ l. get_or l c.in-Some.vertex None) (sym c.deref.ensures.value) ∙ c.in-Some.ensures.1 in
    omega (arith, (a.fits c.in-Some.vertex c.in-Some.run' e).inside, c.in-Some.ensures.2.0, c.in-Some.ensures.2.1)

pub loop-vertex-preserved : goal.loop-vertex-preserved
loop-vertex-preserved c =
    let i = c.loop-vertex.invariant in
    let P : List (Option Run) → Type 0 = λ l. IsFirstBelow (length l) c.loop-vertex.end l (Some (c.in-Some.vertex, c.in-Some.run')) in
    let h = subst P c.deref.ensures.value c.in-Some.ensures in
    let m = packed_more c.loop-vertex.cells.items c.move_words.new.cells.items c.args.segments c.loop-vertex.end c.loop-vertex.runs.items c.in-Some.vertex c.in-Some.run' i.layout i.packed h.0 h.1 h.2 h.3 c.move_words.ensures in
    record { layout = m.0; lists = m.1 ∙ i.lists; packed = m.2 }

pub returns-clause-layout : goal.returns-clause-layout
returns-clause-layout c =
    let i = c.loop-vertex.invariant in
    let P : List (Option Run) → Type 0 = λ l. IsFirstBelow (length l) c.loop-vertex.end l None in
    (packed_all c.loop-vertex.cells.items c.truncate.new.self.items c.args.segments c.loop-vertex.end c.loop-vertex.runs.items i.layout i.packed (subst P c.deref.ensures.value c.in_default.ensures) c.truncate.ensures.items).0

pub returns-clause-lists : goal.returns-clause-lists
returns-clause-lists c =
    let i = c.loop-vertex.invariant in
    let P : List (Option Run) → Type 0 = λ l. IsFirstBelow (length l) c.loop-vertex.end l None in
    (packed_all c.loop-vertex.cells.items c.truncate.new.self.items c.args.segments c.loop-vertex.end c.loop-vertex.runs.items i.layout i.packed (subst P c.deref.ensures.value c.in_default.ensures) c.truncate.ensures.items).1 ∙ i.lists

pub returns-clause-space : goal.returns-clause-space
returns-clause-space c =
    let i = c.loop-vertex.invariant in
    let P : List (Option Run) → Type 0 = λ l. IsFirstBelow (length l) c.loop-vertex.end l None in
    (packed_all c.loop-vertex.cells.items c.truncate.new.self.items c.args.segments c.loop-vertex.end c.loop-vertex.runs.items i.layout i.packed (subst P c.deref.ensures.value c.in_default.ensures) c.truncate.ensures.items).2

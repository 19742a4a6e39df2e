use Rattle.std.proofs.Common.{◌≡◌, ◌<◌, ◌-◌, ◌*◌, ℕ, List, length, replicate, get_or, set, Some, None, refl, ap, sym, ◌∙◌, arith, inl, inr}
use Rattle.std.proofs.lemmas.Bool.{cases_lt, eqb-false}
use Rattle.std.proofs.lemmas.List.{length-replicate}
use Rattle.gapped_array.specs.declared.run.Run.{Run}
use Rattle.gapped_array.specs.Runs.{segments_of}
use Rattle.gapped_array.proofs.Layouts.{vertex_listed, no_run, appended}
use Rattle.gapped_array.proofs.array.GappedArray.open_with.Goals as goal

pub invariant_of-self-2 : goal.invariant_of-self-2
invariant_of-self-2 c =
    let ws = c.args.words.now in
    let segments = c.segments_for-segments.result in
    let in' : c.args.vertex < length c.self.inside.runs.items = vertex_listed c.self.inside.cells.items c.self.inside.runs.items c.args.self.now c.args.vertex c.self.view_is c.requires.inside in
    let none : segments_of (get_or c.self.inside.runs.items c.args.vertex None) ≡ 0 = ap segments_of (no_run c.self.inside.cells.items c.self.inside.runs.items c.args.self.now c.args.vertex c.self.view_is in' c.requires.closed) in
    let some : 0 < length ws = elim (cases_lt 0 (length ws)) [
      | inl lt ↦ lt
      | inr ge ↦ absurd (eqb-false (length ws) 0 (sym c.is_empty.ensures ∙ c.if-is_empty.false) (omega arith))
    ] in
    let run : Run = record { segment = c.self.inside.segments; segments = segments; count = length ws } in
    let rest : List ℕ = replicate (32 * segments - length ws) 0 in
    (appended c.self.inside.cells.items c.append.new.cells.items rest c.self.inside.segments 0 c.self.inside.runs.items c.args.vertex run ws c.self.invariant (vertex_listed c.self.inside.cells.items c.self.inside.runs.items c.args.self.now c.args.vertex c.self.view_is c.requires.inside) c.in_ok-append.ensures.ok refl refl (omega (arith, length-replicate {A = ℕ} (32 * segments - length ws) 0, c.segments_for-segments.ensures.room)) c.requires.set (omega (arith, c.segments_for-segments.ensures.room, some)) (omega (arith, none)) (omega (arith, c.self.invariant.space))).0

pub returns-clause-ok : goal.returns-clause-ok
returns-clause-ok c =
    let ws = c.args.words.now in
    let segments = c.segments_for-segments.result in
    let in' : c.args.vertex < length c.self.inside.runs.items = vertex_listed c.self.inside.cells.items c.self.inside.runs.items c.args.self.now c.args.vertex c.self.view_is c.requires.inside in
    let none : segments_of (get_or c.self.inside.runs.items c.args.vertex None) ≡ 0 = ap segments_of (no_run c.self.inside.cells.items c.self.inside.runs.items c.args.self.now c.args.vertex c.self.view_is in' c.requires.closed) in
    let some : 0 < length ws = elim (cases_lt 0 (length ws)) [
      | inl lt ↦ lt
      | inr ge ↦ absurd (eqb-false (length ws) 0 (sym c.is_empty.ensures ∙ c.if-is_empty.false) (omega arith))
    ] in
    let run : Run = record { segment = c.self.inside.segments; segments = segments; count = length ws } in
    let rest : List ℕ = replicate (32 * segments - length ws) 0 in
    (appended c.self.inside.cells.items c.append.new.cells.items rest c.self.inside.segments 0 c.self.inside.runs.items c.args.vertex run ws c.self.invariant (vertex_listed c.self.inside.cells.items c.self.inside.runs.items c.args.self.now c.args.vertex c.self.view_is c.requires.inside) c.in_ok-append.ensures.ok refl refl (omega (arith, length-replicate {A = ℕ} (32 * segments - length ws) 0, c.segments_for-segments.ensures.room)) c.requires.set (omega (arith, c.segments_for-segments.ensures.room, some)) (omega (arith, none)) (omega (arith, c.self.invariant.space))).2 ∙ ap (λ l. set l c.args.vertex (Some c.args.words.now)) c.self.view_is

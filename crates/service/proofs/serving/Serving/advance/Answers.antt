use Rattle.std.proofs.Common.{◌≡◌, ◌≤◌, ◌+◌, ◌-◌, ◌++◌, List, ℕ, take, drop, length, refl, sym, ap, subst, subst₂, ◌∙◌, arith, length-drop}
use Rattle.std.proofs.lemmas.List.{drop-drop}
use Rattle.std.specs.List.{flat_map}
use Rattle.std.specs.Io.KnownBytes.{Appends}
use Rattle.script_model.specs.Texts.{edge_text}
use Rattle.service.specs.Ends.{TakesFront}
use Rattle.service.specs.Served.{IsOneLine}
use Rattle.service.specs.Stand.{Stand}
use Rattle.service.proofs.FirstLines.{slice_from}
use Rattle.service.proofs.RoundLemmas.{left_from, advance_fails, written_begins, serving_adds, listing_adds, adds_at, adds_written, adds_begins, settled_written, settled_begins}
use Rattle.service.specs.Asking.{Asks}
use Rattle.service.proofs.AskingLemmas.{asks_written, served_passed}
use Rattle.service.proofs.serving.Serving.advance.Goals as goal

pub returns-in_err-more-clause-advance : goal.returns-in_err-more-clause-advance
returns-in_err-more-clause-advance g c =
    advance_fails c.from_residual.result _ (g.O.Output.contents c.args.output.now) (g.O.Output.contents c.lines.output) c.args.self.now _ c.from_residual.ensures.1 (λ read held wrote.
    written_begins read held (g.O.Output.contents c.lines.output) (left_from c.lines.self c.lines.from) (c.lines.invariant.written read held wrote))

pub returns-in_err-drop_first-in-Left-clause-advance : goal.returns-in_err-drop_first-in-Left-clause-advance
returns-in_err-drop_first-in-Left-clause-advance g c =
    advance_fails c.from_residual-in_err-drop_first-in-Left.result _ (g.O.Output.contents c.args.output.now) (g.O.Output.contents c.lines.output) c.args.self.now _ c.from_residual-in_err-drop_first-in-Left.ensures.1 (λ read held wrote.
    written_begins read held (g.O.Output.contents c.lines.output) (left_from c.lines.self c.lines.from) (c.lines.invariant.written read held wrote))

pub returns-in_err-write_text-in-Left-clause-advance : goal.returns-in_err-write_text-in-Left-clause-advance
returns-in_err-write_text-in-Left-clause-advance g c =
    let mid = g.O.Output.contents c.lines.output in
    let bytes = take (length c.deref.result.now - c.lines.from) (drop c.lines.from c.deref.result.now) in
    let b = slice_from c.deref.result.now c.lines.from ∙ ap (drop c.lines.from) (c.deref.ensures.value ∙ ap (λ (s : Stand). s.pending) c.self.view_is) in
    let x = ap (λ (s : Stand). s.script) c.self.view_is in
    let none = ap (λ (s : Stand). s.text) c.self.view_is ∙ c.lines.invariant.said in
    let taken = (rw c.in-Left.is at c.in_ok-more.ensures.taken) in
    let adds = serving_adds c.self.inside.script c.execute_read.new.script bytes (drop c.in-Left.more bytes) c.self.inside.text.items c.execute_read.new.text.items none taken.2 in
    let text = ap (λ (s : Stand). s.text) c.self-in-Left.view_is ∙ c.in_ok-drop_first-in-Left.ensures.text in
    let holds = g.O.Output.contents c.write_text.new.output in
    let took = subst (λ (t : List ℕ). TakesFront mid holds t) text c.in_err-write_text-in-Left.ensures.err in
    advance_fails c.from_residual-in_err-write_text-in-Left.result _ (g.O.Output.contents c.args.output.now) (g.O.Output.contents c.write_text.new.output) c.args.self.now _ c.from_residual-in_err-write_text-in-Left.ensures.1 (λ read held wrote.
    adds_begins read held mid holds (left_from c.lines.self c.lines.from) bytes (drop c.in-Left.more bytes) c.execute_read.new.text.items c.self.inside.script c.execute_read.new.script b x adds took (c.lines.invariant.written read held wrote))

pub returns-in-Left-clause-advance : goal.returns-in-Left-clause-advance
returns-in-Left-clause-advance g c =
    let mid = g.O.Output.contents c.lines.output in
    let bytes = take (length c.deref.result.now - c.lines.from) (drop c.lines.from c.deref.result.now) in
    let b = slice_from c.deref.result.now c.lines.from ∙ ap (drop c.lines.from) (c.deref.ensures.value ∙ ap (λ (s : Stand). s.pending) c.self.view_is) in
    let x = ap (λ (s : Stand). s.script) c.self.view_is in
    let none = ap (λ (s : Stand). s.text) c.self.view_is ∙ c.lines.invariant.said in
    let taken = (rw c.in-Left.is at c.in_ok-more.ensures.taken) in
    let adds = serving_adds c.self.inside.script c.execute_read.new.script bytes (drop c.in-Left.more bytes) c.self.inside.text.items c.execute_read.new.text.items none taken.2 in
    let text = ap (λ (s : Stand). s.text) c.self-in-Left.view_is ∙ c.in_ok-drop_first-in-Left.ensures.text in
    let few = (rw c.in-Left.is at c.in_ok-more.ensures.few) in
    let holds = g.O.Output.contents c.write_text.new.output in
    let new : Stand = record { script = c.self-in-Left.inside.script; pending = c.self-in-Left.inside.pending.items; text = c.write_text.new.text.items } in
    let left = ap (λ (s : Stand). s.pending) c.self-in-Left.view_is ∙ c.in_ok-drop_first-in-Left.ensures.pending ∙ ap (drop (c.lines.from + c.in-Left.more)) (sym c.deref.ensures.value) ∙ sym (drop-drop c.in-Left.more c.lines.from c.deref.result.now) ∙ ap (drop c.in-Left.more) (sym (slice_from c.deref.result.now c.lines.from)) in
    let script = ap (λ (s : Stand). s.script) c.self-in-Left.view_is ∙ c.in_ok-drop_first-in-Left.ensures.script in
    let here = adds_at c.self.inside.script c.execute_read.new.script new.script bytes (drop c.in-Left.more bytes) new.pending c.execute_read.new.text.items adds script left in
    let wrote_more = subst (λ (t : List ℕ). Appends mid holds t) text c.in_ok-write_text-in-Left.ensures.ok in (
      (subst IsOneLine (sym left) taken.1, omega (arith, ap length left, length-drop c.in-Left.more bytes, few)),
      c.in_ok-write_text-in-Left.ensures.empty,
      λ read held wrote.
          adds_written read held mid holds (left_from c.lines.self c.lines.from) new bytes c.execute_read.new.text.items c.self.inside.script b x here wrote_more (c.lines.invariant.written read held wrote),
    )

pub lines-preserved : goal.lines-preserved
lines-preserved g c =
    let mid = g.O.Output.contents c.lines.output in
    let bytes = take (length c.deref.result.now - c.lines.from) (drop c.lines.from c.deref.result.now) in
    let b = slice_from c.deref.result.now c.lines.from ∙ ap (drop c.lines.from) (c.deref.ensures.value ∙ ap (λ (s : Stand). s.pending) c.self.view_is) in
    let x = ap (λ (s : Stand). s.script) c.self.view_is in
    let none = ap (λ (s : Stand). s.text) c.self.view_is ∙ c.lines.invariant.said in
    let taken = (rw c.in-Lists.is at c.in_ok-more.ensures.taken) in
    let whole = c.execute_read.new.text.items ++ flat_map edge_text c.in-Lists.listing in
    let adds = listing_adds c.self.inside.script c.execute_read.new.script bytes (drop c.in-Lists.more bytes) c.self.inside.text.items c.execute_read.new.text.items c.in-Lists.listing none taken.2 in
    let holds = g.O.Output.contents c.write_edges.new.output in
    let from = c.lines.from + c.in-Lists.more in
    let new : Stand = record { script = c.execute_read.new.script; pending = c.self.inside.pending.items; text = c.write_edges.new.text.items } in
    let left : drop from new.pending ≡ drop c.in-Lists.more bytes = ap (drop from) (sym c.deref.ensures.value) ∙ sym (drop-drop c.in-Lists.more c.lines.from c.deref.result.now) ∙ ap (drop c.in-Lists.more) (sym (slice_from c.deref.result.now c.lines.from)) in
    let here = adds_at c.self.inside.script c.execute_read.new.script new.script bytes (drop c.in-Lists.more bytes) (drop from new.pending) whole adds refl left in
    let inside : from ≤ length new.pending = omega (arith, taken.0, c.lines.invariant.inside, ap length (slice_from c.deref.result.now c.lines.from), length-drop c.lines.from c.deref.result.now, ap length c.deref.ensures.value, ap (λ (s : Stand). length s.pending) c.self.view_is) in
    record {
      said = c.in_ok-write_edges-in-Lists.ensures.empty;
      inside = inside;
      written = λ read held wrote.
          adds_written read held mid holds (left_from c.lines.self c.lines.from) (left_from new from) bytes whole c.self.inside.script b x here c.in_ok-write_edges-in-Lists.ensures.ok (c.lines.invariant.written read held wrote);
      writes = c.in_ok-write_edges-in-Lists.ensures.writes ∙ c.lines.invariant.writes;
    }

pub returns-in_err-write_edges-in-Lists-clause-advance : goal.returns-in_err-write_edges-in-Lists-clause-advance
returns-in_err-write_edges-in-Lists-clause-advance g c =
    let mid = g.O.Output.contents c.lines.output in
    let bytes = take (length c.deref.result.now - c.lines.from) (drop c.lines.from c.deref.result.now) in
    let b = slice_from c.deref.result.now c.lines.from ∙ ap (drop c.lines.from) (c.deref.ensures.value ∙ ap (λ (s : Stand). s.pending) c.self.view_is) in
    let x = ap (λ (s : Stand). s.script) c.self.view_is in
    let none = ap (λ (s : Stand). s.text) c.self.view_is ∙ c.lines.invariant.said in
    let taken = (rw c.in-Lists.is at c.in_ok-more.ensures.taken) in
    let whole = c.execute_read.new.text.items ++ flat_map edge_text c.in-Lists.listing in
    let adds = listing_adds c.self.inside.script c.execute_read.new.script bytes (drop c.in-Lists.more bytes) c.self.inside.text.items c.execute_read.new.text.items c.in-Lists.listing none taken.2 in
    let holds = g.O.Output.contents c.write_edges.new.output in
    let took = c.in_err-write_edges-in-Lists.ensures.err in
    advance_fails c.from_residual-in_err-write_edges-in-Lists.result _ (g.O.Output.contents c.args.output.now) (g.O.Output.contents c.write_edges.new.output) c.args.self.now _ c.from_residual-in_err-write_edges-in-Lists.ensures.1 (λ read held wrote.
    adds_begins read held mid holds (left_from c.lines.self c.lines.from) bytes (drop c.in-Lists.more bytes) whole c.self.inside.script c.execute_read.new.script b x adds took (c.lines.invariant.written read held wrote))

pub returns-in_err-write_text-in-Settled-clause-advance : goal.returns-in_err-write_text-in-Settled-clause-advance
returns-in_err-write_text-in-Settled-clause-advance g c =
    let mid = g.O.Output.contents c.lines.output in
    let bytes = take (length c.deref.result.now - c.lines.from) (drop c.lines.from c.deref.result.now) in
    let b = slice_from c.deref.result.now c.lines.from ∙ ap (drop c.lines.from) (c.deref.ensures.value ∙ ap (λ (s : Stand). s.pending) c.self.view_is) in
    let x = ap (λ (s : Stand). s.script) c.self.view_is in
    let none = ap (λ (s : Stand). s.text) c.self.view_is ∙ c.lines.invariant.said in
    let settling = (rw c.in-Settled.is at c.in_ok-more.ensures.taken) in
    advance_fails c.from_residual-in_err-write_text-in-Settled.result _ (g.O.Output.contents c.args.output.now) (g.O.Output.contents c.write_text-in-Settled.new.output) c.args.self.now _ c.from_residual-in_err-write_text-in-Settled.ensures.1 (λ read held wrote.
    settled_begins read held mid (g.O.Output.contents c.write_text-in-Settled.new.output) (left_from c.lines.self c.lines.from) bytes c.self.inside.text.items c.execute_read.new.text.items c.self.inside.script b x none settling c.in_err-write_text-in-Settled.ensures.err (c.lines.invariant.written read held wrote))

pub returns-in-Settled-clause-advance : goal.returns-in-Settled-clause-advance
returns-in-Settled-clause-advance g c =
    let mid = g.O.Output.contents c.lines.output in
    let bytes = take (length c.deref.result.now - c.lines.from) (drop c.lines.from c.deref.result.now) in
    let b = slice_from c.deref.result.now c.lines.from ∙ ap (drop c.lines.from) (c.deref.ensures.value ∙ ap (λ (s : Stand). s.pending) c.self.view_is) in
    let x = ap (λ (s : Stand). s.script) c.self.view_is in
    let none = ap (λ (s : Stand). s.text) c.self.view_is ∙ c.lines.invariant.said in
    let settling = (rw c.in-Settled.is at c.in_ok-more.ensures.taken) in
    (refl, λ read held wrote. settled_written read held mid (g.O.Output.contents c.write_text-in-Settled.new.output) (left_from c.lines.self c.lines.from) bytes c.self.inside.text.items c.execute_read.new.text.items c.self.inside.script b x none settling c.in_ok-write_text-in-Settled.ensures.ok (c.lines.invariant.written read held wrote))

pub returns-in_err-more-clause-store : goal.returns-in_err-more-clause-store
returns-in_err-more-clause-store g c =
    let bytes = take (length c.deref.result.now - c.lines.from) (drop c.lines.from c.deref.result.now) in
    let b = slice_from c.deref.result.now c.lines.from ∙ ap (drop c.lines.from) (c.deref.ensures.value ∙ ap (λ (s : Stand). s.pending) c.self.view_is) in
    let x = ap (λ (s : Stand). s.script) c.self.view_is in
    served_passed c.execute_read.result c.from_residual.result c.in_err-more.field-0.0 _ _ c.in_err-more.was c.from_residual.ensures.1 (λ asks.
    asks_written c.args.self.now (left_from c.lines.self c.lines.from) (g.O.Output.contents c.args.output.now) (g.O.Output.contents c.lines.output) c.lines.invariant.written (subst₂ Asks x b asks)) c.execute_read.ensures.store

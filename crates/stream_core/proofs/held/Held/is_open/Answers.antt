use Rattle.std.proofs.Common.{◌≡◌, ◌<◌, ◌≤◌, length, get_or, not, ap, subst, ◌∙◌}
use Rattle.store_model.specs.Core.{Holding, is_open}
use Rattle.stream_core.specs.Work.{holding_of}
use Rattle.stream_core.proofs.LeftLemmas.{open_read, not_open_past}
use Rattle.stream_core.proofs.held.Held.is_open.Goals as goal

pub returns-in-Some : goal.returns-in-Some
returns-in-Some c =
    let h = c.self.inside in
    let range = c.args.range in
    let edits = c.in-Some.edits.now in
    let holding : Holding = record { entry = h.entry; done = h.done.items } in
    let found = c.in-Some.ensures.lookup in
    let inside : range < length h.left.items = subst (λ l. range < length l) c.deref.ensures.value found.3.0 in
    let read : edits ≡ get_or h.left.items range edits = subst (λ l. edits ≡ get_or l range edits) c.deref.ensures.value found.1 in
    ap not c.is_empty.ensures ∙ open_read holding h.left.items range edits c.self.invariant inside read ∙ ap (λ w. is_open (holding_of w) range) c.self.view_is

pub returns-in-None : goal.returns-in-None
returns-in-None c =
    let h = c.self.inside in
    let range = c.args.range in
    let holding : Holding = record { entry = h.entry; done = h.done.items } in
    let past : length h.left.items ≤ range = subst (λ l. length l ≤ range) c.deref.ensures.value c.in-None.ensures.lookup.3 in
    not_open_past holding h.left.items range c.self.invariant past ∙ ap (λ w. is_open (holding_of w) range) c.self.view_is

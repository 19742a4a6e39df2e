use Rattle.std.proofs.Common.{option_map, ap, sym, subst, ◌∙◌, arith}
use Rattle.std.specs.Arc.{arc_value}
use Rattle.history.specs.Moment.{Moment, after_one}
use Rattle.store.specs.Pending.{published_of, HasRoom}
use Rattle.store.proofs.Recording.{room_for, few_next, known_next}
use Rattle.store.proofs.recorded.Recorded.record.Goals as goal

pub next_word-requires-clause-room : goal.next_word-requires-clause-room
next_word-requires-clause-room c =
    room_for (arc_value c.self.inside.version) c.self.inside.count _ c.self.invariant.2
    (subst (λ (m : Moment). HasRoom m.past (option_map (λ e. e.now) c.args.added)) (sym c.self.view_is) c.requires.room)

pub overflow_add-count : goal.overflow_add-count
overflow_add-count c =
    let few = room_for (arc_value c.self.inside.version) c.self.inside.count _ c.self.invariant.2
    (subst (λ (m : Moment). HasRoom m.past (option_map (λ e. e.now) c.args.added)) (sym c.self.view_is) c.requires.room) in
    omega (arith, few)

pub recorded-requires-clause-known : goal.recorded-requires-clause-known
recorded-requires-clause-known c =
    known_next (arc_value c.self.inside.version) (arc_value c.args.shares.shown) (published_of (option_map (λ e. e.now) c.args.added)) c.self.inside.known c.in_ok-known.known
    c.self.invariant.0 c.in_ok-known.ensures
    (c.requires.shares.0 ∙ ap (λ (m : Moment). after_one m.past (published_of (option_map (λ e. e.now) c.args.added))) (sym c.self.view_is))

pub recorded-requires-clause-few : goal.recorded-requires-clause-few
recorded-requires-clause-few c =
    few_next (arc_value c.self.inside.version) (arc_value c.args.shares.shown) c.self.inside.count (option_map (λ e. e.now) c.args.added)
    (c.requires.shares.0 ∙ ap (λ (m : Moment). after_one m.past (published_of (option_map (λ e. e.now) c.args.added))) (sym c.self.view_is))
    c.self.invariant.2 (subst (λ (m : Moment). HasRoom m.past (option_map (λ e. e.now) c.args.added)) (sym c.self.view_is) c.requires.room)

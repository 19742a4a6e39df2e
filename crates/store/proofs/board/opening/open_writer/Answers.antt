use Rattle.std.proofs.Common.{◌≡◌, ◌++◌, ◌∷◌, [], List, MatchResult, sym, ap, ◌∙◌, subst, drop}
use Rattle.history.specs.Moment.{Moment, Begins}
use Rattle.history.proofs.Moments.{begins_itself}
use Rattle.store.specs.declared.board.shown.Shown.{Shown}
use Rattle.store.proofs.Growing.{turns}
use Rattle.store.proofs.Waiting.{shows_same}
use Rattle.store.proofs.board.opening.open_writer.Goals as goal

pub publish_as-writer-requires : goal.publish_as-writer-requires
publish_as-writer-requires g c next is =
    let before = c.in_ok-writer.writer in
    let after = c.append-room.new.self in
    let old : List Moment = drop before.behind before.log.items in
    let new : List Moment = drop after.behind after.log.items in
    let now : Moment = after.desk.shown.value.version in
    let first : now ≡ before.desk.shown.value.version = ap (λ d. d.shown.value.version) c.append-room.ensures.desk in
    let same : now ≡ c.in_ok-waiting.waiting = first ∙ ap (λ (s : Shown). s.version) c.in_ok-writer.ensures.0 ∙ c.in_ok-share.ensures ∙ sym c.in_ok-waiting.ensures in
    let pending = subst (λ (m : Moment). MatchResult c.append-room.result (λ _. new ≡ old ++ m ∷ []) (λ back. (back ≡ m) × (new ≡ old))) (sym same) c.append-room.ensures.pending in
    let shown = shows_same now old new c.append-room.result c.in_ok-writer.ensures.1 pending in
    turns (λ (s : Shown). s.version) after.desk.shown.value next _ _
    (subst (λ (m : Moment). Begins now m) (sym (is ∙ shown)) (begins_itself now))

use Rattle.history.proofs.Moments.{begins_itself}
use Rattle.store.specs.declared.board.shown.Shown.{Shown}
use Rattle.store.proofs.Growing.{turns}
use Rattle.store.proofs.board.viewer.Viewer.look.Goals as goal

pub enter_as-requires : goal.enter_as-requires
enter_as-requires c x = turns (λ (s : Shown). s.version) x x _ _ (begins_itself x.version)

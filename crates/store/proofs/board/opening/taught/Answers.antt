use Rattle.store.specs.declared.board.shown.Shown.{Shown}
use Rattle.store.proofs.Growing.{admits, forks, merges}
use Rattle.store.proofs.board.opening.taught.Goals as goal

pub reader-requires : goal.reader-requires
reader-requires c = admits (λ (s : Shown). s.version)

pub tell-requires : goal.tell-requires
tell-requires c = forks (λ (s : Shown). s.version) _ _

pub learn-requires-clause-rule : goal.learn-requires-clause-rule
learn-requires-clause-rule c = merges (λ (s : Shown). s.version) _ _ _ _

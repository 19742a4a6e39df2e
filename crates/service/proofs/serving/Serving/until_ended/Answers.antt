use Rattle.service.specs.declared.serve_error.ServeError.TheVariants as errors
use Rattle.service.proofs.RoundLemmas.{begins}
use Rattle.service.proofs.AskingLemmas.{passed_on}
use Rattle.service.proofs.serving.Serving.until_ended.Goals as goal

pub returns-clause-served : goal.returns-clause-served
returns-clause-served g c had held served =
    begins _ _ _ _ c.loop.self errors.OutOfMemory (c.loop.invariant.3 had held served)

pub returns-in_err-ending-clause-store : goal.returns-in_err-ending-clause-store
returns-in_err-ending-clause-store g c =
    passed_on c.turn.result c.from_residual.result c.in_err-ending.field-0.0 _ _ c.in_err-ending.was c.from_residual.ensures.1 (λ asks had held served. asks had held (c.loop.invariant.3 had held served)) c.turn.ensures.store

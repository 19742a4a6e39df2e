-- Errors of workers, as errors of a batch.
use Rattle.workers.specs.declared.work_error.WorkError.{WorkError}
use Rattle.workers.specs.declared.work_error.WorkError.TheVariants as workers
use Rattle.batch_apply.specs.declared.errors.ApplyError.{ApplyError}
use Rattle.batch_apply.specs.declared.errors.ApplyError.TheVariants as apply

abbrev pub refused_as : WorkError → ApplyError
refused_as workers.OutOfMemory = apply.OutOfMemory
refused_as workers.WorkerRefused = apply.WorkerRefused

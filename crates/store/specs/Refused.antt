-- Errors of workers, as errors of a publication.
use Rattle.workers.specs.declared.work_error.WorkError.{WorkError}
use Rattle.workers.specs.declared.work_error.WorkError.TheVariants as workers
use Rattle.store.specs.declared.errors.PublishError.{PublishError}
use Rattle.store.specs.declared.errors.PublishError.TheVariants as publish

abbrev pub refused_as : WorkError → PublishError
refused_as workers.OutOfMemory = publish.OutOfMemory
refused_as workers.WorkerRefused = publish.WorkerRefused

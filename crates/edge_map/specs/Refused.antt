-- Errors of workers, as errors of a map.
use Rattle.workers.specs.declared.work_error.WorkError.{WorkError}
use Rattle.workers.specs.declared.work_error.WorkError.TheVariants as workers
use Rattle.edge_map.specs.declared.errors.MapError.{MapError}
use Rattle.edge_map.specs.declared.errors.MapError.TheVariants as map

abbrev pub refused_as : WorkError → MapError
refused_as workers.OutOfMemory = map.OutOfMemory
refused_as workers.WorkerRefused = map.WorkerRefused

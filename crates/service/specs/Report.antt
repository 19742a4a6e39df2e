-- How the program ends.
use Rattle.std.specs.Prelude.{ℕ, List, [], Result, Ok, Err, codes}
use Rattle.script_model.specs.declared.ending.Ending.{Ending}
use Rattle.script_model.specs.declared.ending.Ending.TheVariants as endings
use Rattle.service.specs.declared.serve_error.ServeError.{ServeError}
use Rattle.service.specs.declared.serve_error.ServeError.TheVariants as errors

-- the exit status
abbrev pub status_of : Result Ending ServeError → ℕ
status_of (Ok endings.Complete) = 0
status_of (Ok endings.Fault) = 1
status_of (Err e) = 1

abbrev pub error_line : ServeError → List ℕ
error_line errors.Read = codes "edgebpf: read"
error_line errors.Write = codes "edgebpf: write"
error_line errors.OutOfMemory = codes "edgebpf: memory"
error_line errors.WorkerRefused = codes "edgebpf: worker"
error_line errors.Store = codes "edgebpf: store"

-- the line on standard error
abbrev pub line_of : Result Ending ServeError → List ℕ
line_of (Ok ending) = []
line_of (Err e) = error_line e

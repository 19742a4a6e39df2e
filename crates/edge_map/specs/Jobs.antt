-- What runs over a frontier give, by however many workers they are done.
use Rattle.std.specs.Prelude.{◌≡◌, ℕ, List, [], ◌++◌, length, replicate, Option, Some, None}
use Rattle.std.specs.Borrow.{Bor}
use Rattle.bpf_image.specs.Program.{Program}
use Rattle.graph_model.specs.Graph.{Graph}
use Rattle.past_model.specs.Past.{graph_of}
use Rattle.map_model.specs.declared.reduction.Reduction.{Reduction}
use Rattle.map_model.specs.declared.row.Row.{Row}
use Rattle.map_model.specs.EdgeMap.{Inputs, all_with, rows_with, reduction_of_numbers}
use Rattle.map_model.specs.Parts.{values_for, pair_numbers}
use Rattle.map_model.specs.Pushes.{joined}
use Rattle.map_model.specs.PushParts.{pushed_edges}
use Rattle.verifier.specs.Walks.{longest}
use Rattle.edge_fold.specs.Inputs.{inputs_of}
use Rattle.edge_fold.specs.Rows.{reported_rows}
use Rattle.edge_fold.specs.declared.rows.Rows.TheVariants.{OfSources}
use Rattle.edge_map.specs.declared.job.Job.{Job}
use Rattle.edge_map.specs.declared.job.JobOutcome.{JobOutcome}
use Rattle.edge_map.specs.declared.job.Wanted.{Wanted}
use Rattle.edge_map.specs.declared.job.Wanted.TheVariants.{Rows, Values, Pushed, Own}

-- what a push begins with: these numbers, or else what no number reduces to at each of so many vertices
abbrev pub begins_with : Reduction → (vertices : ℕ) → Option (Bor (List ℕ)) → List ℕ
begins_with r vertices None = replicate vertices (reduction_of_numbers r [])
begins_with r vertices (Some numbers) = numbers.now

-- the exit numbers: of a frontier's edges, or of its vertices, each as a pair with itself
abbrev pub job_exits : Wanted → Program → Graph → Inputs → (frontier : List ℕ) → List ℕ
job_exits Rows p g inputs frontier = all_with p (longest p) g inputs frontier
job_exits Values p g inputs frontier = all_with p (longest p) g inputs frontier
job_exits Pushed p g inputs frontier = all_with p (longest p) g inputs frontier
job_exits Own p g inputs frontier = pair_numbers p (longest p) g inputs frontier frontier

-- the numbers that are wanted: none; for each vertex of the frontier what those of its edges reduce to; for each vertex of the graph
-- what it began with and those of the edges to it reduce to; or for each vertex of the frontier its own
abbrev pub job_numbers : Wanted → Program → Graph → Reduction → Inputs → (frontier first : List ℕ) → List ℕ
job_numbers Rows p g r inputs frontier first = []
job_numbers Values p g r inputs frontier first = values_for p (longest p) g r inputs frontier
job_numbers Pushed p g r inputs frontier first = pushed_edges p (longest p) g r inputs frontier first
job_numbers Own p g r inputs frontier first = pair_numbers p (longest p) g inputs frontier frontier

-- the rows that are wanted: those of vertices with a neighbour, or none
abbrev pub job_rows : Wanted → Program → Graph → Reduction → Inputs → (frontier : List ℕ) → List Row
job_rows Rows p g r inputs frontier = reported_rows OfSources g (rows_with p (longest p) g r inputs frontier)
job_rows Values p g r inputs frontier = []
job_rows Pushed p g r inputs frontier = []
job_rows Own p g r inputs frontier = []

-- the numbers of two parts of a frontier: those of a push joined at each vertex, others one after another
abbrev pub parts_together : Wanted → Reduction → (early late : List ℕ) → List ℕ
parts_together Rows r early late = early ++ late
parts_together Values r early late = early ++ late
parts_together Pushed r early late = joined r early late
parts_together Own r early late = early ++ late

-- how many exit numbers there are, what all of them reduce to, and what is wanted
pub record IsDone (wanted : Wanted) (p : Program) (g : Graph) (r : Reduction) (inputs : Inputs) (frontier first : List ℕ) (out : JobOutcome) : Type 0 where
  pub count : out.count ≡ length (job_exits wanted p g inputs frontier)
  pub total : out.total ≡ reduction_of_numbers r (job_exits wanted p g inputs frontier)
  pub numbers : out.numbers.items ≡ job_numbers wanted p g r inputs frontier first
  pub rows : out.rows.items ≡ job_rows wanted p g r inputs frontier

-- the same of a part of a job's frontier
abbrev pub IsPartDone : Job → (frontier first : List ℕ) → JobOutcome → Type 0
IsPartDone job frontier first out =
    let m = job.mapped in
    IsDone job.wanted m.program.now (graph_of m.version.now) job.request.reduction (inputs_of m) frontier first out

-- a job is another one, but for its frontier and for what its push begins with
pub record IsPartOf (whole : Job) (frontier : List ℕ) (before : Option (Bor (List ℕ))) (part : Job) : Type 0 where
  pub mapped_is : part.mapped ≡ whole.mapped
  pub frontier_is : part.request.frontier.now ≡ frontier
  pub reduction_is : part.request.reduction ≡ whole.request.reduction
  pub wanted_is : part.wanted ≡ whole.wanted
  pub before_is : part.before ≡ before

-- what a job's push begins with
abbrev pub first_of : Job → List ℕ
first_of job = begins_with job.request.reduction (graph_of job.mapped.version.now).vertex_count job.before

-- a job is done
abbrev pub IsJobDone : Job → JobOutcome → Type 0
IsJobDone job out = IsPartDone job job.request.frontier.now (first_of job) out

use Rattle.std.proofs.Common.{◌<◌, ◌^◌, ℕ, List, Option, sym, subst}
use Rattle.std.specs.Prelude.{slice_index}
use Rattle.std.specs.Borrow.{Bor}
use Rattle.past_model.specs.Past.{graph_of}
use Rattle.edge_map.specs.Jobs.{begins_with}
use Rattle.edge_map.proofs.shares.begins_with_numbers.Goals as goal

pub returns-in-Some : goal.returns-in-Some
returns-in-Some c =
    let job = c.args.job.now in
    let n : ℕ = (graph_of job.mapped.version.now).vertex_count in
    record {
      small = λ v.
          subst (λ (before : Option (Bor (List ℕ))). slice_index (begins_with job.request.reduction n before) v < 2 ^ 64) (sym c.in-Some.is) (c.are_numbers.ensures v);
    }

use Rattle.std.proofs.Common.{◌≡◌, ◌+◌, ◌≤◌, ◌++◌, ℕ, List, take, drop, length-take, length-drop, refl, subst, arith}
use Rattle.std.proofs.lemmas.List.{take-append-drop}
use Rattle.past_model.specs.Past.{graph_of}
use Rattle.past_model.proofs.Pasts.{vertex_count-graph_of}
use Rattle.edge_fold.specs.Inputs.{inputs_of}
use Rattle.edge_map.specs.declared.job.JobOutcome.{JobOutcome}
use Rattle.edge_map.specs.Jobs.{first_of, IsPartDone}
use Rattle.edge_map.proofs.JobParts.{both_done, exits_few, first_long, pushed_alike}
use Rattle.edge_map.proofs.shares.together.Goals as goal

pub put_together-requires : goal.put_together-requires
put_together-requires c =
    let job = c.args.job.now in
    let m = job.mapped in
    let g = graph_of m.version.now in
    let f = job.request.frontier.now in
    record {
      alike = pushed_alike job.wanted m.program.now g job.request.reduction (inputs_of m) (take c.args.at f) (drop c.args.at f) (first_of job) c.args.early c.args.late
          (first_long job.request.reduction g.vertex_count job.before job.long) c.requires.early c.requires.late;
    }

pub overflow_add-early : goal.overflow_add-early
overflow_add-early c =
    let job = c.args.job.now in
    let m = job.mapped in
    let g = graph_of m.version.now in
    let f = job.request.frontier.now in
    let small : g.vertex_count ≤ 268435456 = omega (arith, c.vertex_count-vertices.ensures.range, c.vertex_count-vertices.ensures.value, vertex_count-graph_of m.version.now) in
    let before = exits_few job.wanted m.program.now g (inputs_of m) (take c.args.at f) c.every_edge_has_its_number.ensures small in
    let after = exits_few job.wanted m.program.now g (inputs_of m) (drop c.args.at f) c.every_edge_has_its_number.ensures small in
    record { fits = omega (arith, c.requires.early.count, c.requires.late.count, before, after, length-take c.args.at f, length-drop c.args.at f, job.few) }

pub returns : goal.returns
returns c =
    let job = c.args.job.now in
    let m = job.mapped in
    let g = graph_of m.version.now in
    let f = job.request.frontier.now in
    let out : JobOutcome = record { count = c.args.early.count + c.args.late.count; total = c.combine.result; numbers = c.put_together.new.early; rows = c.append.new.self } in
    let all : take c.args.at f ++ drop c.args.at f ≡ f = take-append-drop c.args.at f in
    subst (λ (l : List ℕ). IsPartDone job l (first_of job) out) all
    (both_done job.wanted m.program.now g job.request.reduction (inputs_of m) (take c.args.at f) (drop c.args.at f) (first_of job) c.args.early c.args.late out
    c.every_edge_has_its_number.ensures c.begins_with_numbers.ensures.small (first_long job.request.reduction g.vertex_count job.before job.long)
    c.requires.early c.requires.late refl c.combine.ensures c.in_ok-put_together.ensures c.in_ok-append.ensures.items)

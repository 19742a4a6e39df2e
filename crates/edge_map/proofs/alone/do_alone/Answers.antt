use Rattle.std.proofs.Common.{IfOk, sym, subst}
use Rattle.past_model.specs.Past.{graph_of}
use Rattle.edge_fold.specs.Inputs.{inputs_of}
use Rattle.edge_map.specs.declared.job.Wanted.{Wanted}
use Rattle.edge_map.specs.Jobs.{first_of, IsDone}
use Rattle.edge_map.proofs.alone.do_alone.Goals as goal

pub returns-in-Rows : goal.returns-in-Rows
returns-in-Rows c =
    let job = c.args.job.now in
    let m = job.mapped in
    subst (λ (w : Wanted). IfOk c.find_rows.result (λ out. IsDone w m.program.now (graph_of m.version.now) job.request.reduction (inputs_of m) job.request.frontier.now (first_of job) out)) (sym c.in-Rows.is) (c.find_rows.ensures (first_of job))

pub returns-in-Values : goal.returns-in-Values
returns-in-Values c =
    let job = c.args.job.now in
    let m = job.mapped in
    subst (λ (w : Wanted). IfOk c.find_values.result (λ out. IsDone w m.program.now (graph_of m.version.now) job.request.reduction (inputs_of m) job.request.frontier.now (first_of job) out)) (sym c.in-Values.is) (c.find_values.ensures (first_of job))

pub returns-in-Own : goal.returns-in-Own
returns-in-Own c =
    let job = c.args.job.now in
    let m = job.mapped in
    subst (λ (w : Wanted). IfOk c.find_own.result (λ out. IsDone w m.program.now (graph_of m.version.now) job.request.reduction (inputs_of m) job.request.frontier.now (first_of job) out)) (sym c.in-Own.is) (c.find_own.ensures (first_of job))

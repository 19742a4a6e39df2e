-- A plan's task.
use Rattle.past_model.specs.Past.{graph_of}
use Rattle.edge_map.specs.declared.plan.Plan.{Plan}
use Rattle.edge_map.specs.Pieces.{Task, task}

abbrev pub task_of : Plan → Task
task_of plan =
    task plan.program.now (graph_of plan.version.now) plan.argument.now plan.frontier.now plan.reduction plan.rows plan.counter.now

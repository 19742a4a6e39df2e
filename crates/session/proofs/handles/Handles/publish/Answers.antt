use Rattle.std.proofs.Common.{◌≡◌, ◌∙◌}
use Rattle.session.proofs.Unpublished.{unpublished_since}
use Rattle.session.proofs.handles.Handles.publish.Goals.{else-is_none-via-then-is_none+else-not-submit, else-is_none-via-else-is_none}
use Rattle.session.proofs.handles.Handles.publish.Goals as goal

pub returns-in-Err-OutOfMemory : goal.returns-in-Err-OutOfMemory
returns-in-Err-OutOfMemory g c =
    let same : c.else-is_none.self ≡ c.args.self.now = elim c.else-is_none.branch [
      | else-is_none-via-then-is_none+else-not-submit w ↦ w.self-is ∙ w.submit.ensures
      | else-is_none-via-else-is_none w ↦ w.self-is
    ] in
    record { published = unpublished_since c.self-2.inside.ends.publisher c.step.new.self c.args.self.now c.else-is_none.self c.self-2.view_is same c.in-Err-OutOfMemory.ensures.kept }

pub returns-in-Err-WorkerRefused : goal.returns-in-Err-WorkerRefused
returns-in-Err-WorkerRefused g c =
    let same : c.else-is_none.self ≡ c.args.self.now = elim c.else-is_none.branch [
      | else-is_none-via-then-is_none+else-not-submit w ↦ w.self-is ∙ w.submit.ensures
      | else-is_none-via-else-is_none w ↦ w.self-is
    ] in
    record { published = unpublished_since c.self-2.inside.ends.publisher c.step.new.self c.args.self.now c.else-is_none.self c.self-2.view_is same c.in-Err-WorkerRefused.ensures.kept }

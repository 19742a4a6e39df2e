use Rattle.std.proofs.Common.{sym, ap, ◌∙◌}
use Rattle.abstract_values.specs.Values.{join_of}
use Rattle.abstract_state.specs.States.{elementwise}
use Rattle.abstract_state.specs.Called.{kept_by}
use Rattle.abstract_state.proofs.Zipped.{with_none}
use Rattle.abstract_state.proofs.joining.join_if_called.Goals as goal

pub returns-in-None-clause-kept : goal.returns-in-None-clause-kept
returns-in-None-clause-kept c =
    sym (ap (λ o. elementwise join_of (kept_by c.args.called) (kept_by o)) c.in-None.is ∙ with_none join_of (kept_by c.args.called))

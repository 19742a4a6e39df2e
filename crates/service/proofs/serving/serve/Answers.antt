use Rattle.service.specs.Stand.{Stand}
use Rattle.service.proofs.RoundLemmas.{is_served_first}
use Rattle.service.proofs.AskingLemmas.{on_store}
use Rattle.service.proofs.serving.serve.Goals as goal

pub returns-clause-served : goal.returns-clause-served
returns-clause-served g c =
    let first : Stand = record { script = c.new.result; pending = c.new-2.result.items; text = c.new-3.result.items } in
    c.until_ended-answer.ensures.served _ _ (is_served_first _ _ first c.new.ensures c.new-2.ensures.items)

pub returns-clause-store : goal.returns-clause-store
returns-clause-store g c =
    let first : Stand = record { script = c.new.result; pending = c.new-2.result.items; text = c.new-3.result.items } in
    on_store c.until_ended-answer.result _ _ (λ asks. asks (g.I.Input.remaining c.args.input.now) (g.O.Output.contents c.args.output.now) (is_served_first _ _ first c.new.ensures c.new-2.ensures.items)) c.until_ended-answer.ensures.store

use Rattle.std.proofs.Common.{◌≡◌, ◌<◌, ◌++◌, ◌∷◌, [], sym, ap, ◌∙◌, subst, arith, length, vec_len, vec_capacity}
use Rattle.std.proofs.lemmas.List.{length-map}
use Rattle.std.proofs.lemmas.Grind.{common_steps}
use Rattle.crossbeam_queue.specs.Passes.{view}
use Rattle.past_model.specs.declared.limits.TheConstants.{FEEDS}
use Rattle.store_model.specs.declared.limits.TheConstants.{QUEUE_PLACES}
use Rattle.store.specs.declared.queue.queue_view.QueueView.{QueueView}
use Rattle.store.specs.QueueViews.{taker}
use Rattle.store.specs.declared.queue.message.Message.{Message}
use Rattle.store.specs.QueueRule.{Left, entries_of}
use Rattle.store.proofs.Taking.{pops, left}
use Rattle.store.proofs.Counting.{room, is_left}
use Rattle.store.proofs.queue.ending.all_left.Goals as goal

pub learn_as-requires-clause-rule : goal.learn_as-requires-clause-rule
learn_as-requires-clause-rule g c = left _ _ (ap (λ v. v.takes) c.requires.ended)

pub pop_as-requires-clause-rule : goal.pop_as-requires-clause-rule
pop_as-requires-clause-rule g c =
    let takes = ap (λ (v : QueueView). v.takes) c.taking.invariant.hand in
    (pops _ _ takes, left _ _ takes)

pub returns-in_default : goal.returns-in_default
returns-in_default g c =
    let first : QueueView = view c.args.pass in
    let start = c.learn_as.ensures.rule in
    let held = c.in_default.ensures.rule.1 in
    let before : Left (taker first.vertex_count first.taken FEEDS first.ended) (entries_of start.0) = subst (λ (v : QueueView). Left v (entries_of start.0)) c.requires.ended start.1 in
    let after : Left (taker first.vertex_count (first.taken ++ c.taking.left.items) FEEDS first.ended) (entries_of held.0) = subst (λ (v : QueueView). Left v (entries_of held.0)) c.taking.invariant.hand held.2 in
    subst (λ (v : QueueView). Left v c.taking.left.items) (sym c.requires.ended)
    (is_left first.vertex_count first.taken (entries_of start.0) c.taking.left.items (entries_of held.0) first.ended c.requires.both before (length-map held.0 (λ (x : Message). x.entry) ∙ held.1) after)

pub unreachable-requires : goal.unreachable-requires
unreachable-requires g c =
    let first : QueueView = view c.args.pass in
    let start = c.learn_as.ensures.rule in
    let took = c.in-Some-pop_as.ensures.rule in
    let x = c.in-Some-pop_as.message.entry in
    let before : Left (taker first.vertex_count first.taken FEEDS first.ended) (entries_of start.0) = subst (λ (v : QueueView). Left v (entries_of start.0)) c.requires.ended start.1 in
    let now : view c.pop_as.new.pass ≡ taker first.vertex_count ((first.taken ++ c.taking.left.items) ++ x ∷ []) FEEDS first.ended =
    took.0 ∙ ap (λ (v : QueueView). taker v.vertex_count (v.taken ++ x ∷ []) v.made v.ended) c.taking.invariant.hand in
    let after : Left (taker first.vertex_count ((first.taken ++ c.taking.left.items) ++ x ∷ []) FEEDS first.ended) took.2.0 = subst (λ (v : QueueView). Left v took.2.0) now took.2.1 in
    let short : length c.taking.left.items < QUEUE_PLACES = room first.vertex_count first.taken (entries_of start.0) c.taking.left.items took.2.0 x first.ended c.requires.both before after in
    let fits : vec_len c.taking.left < vec_capacity c.taking.left = omega arith in
    let ok = c.push.ensures.succeeds fits in
    grind (arith, common_steps, ok)

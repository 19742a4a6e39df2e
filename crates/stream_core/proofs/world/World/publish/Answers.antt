use Rattle.std.proofs.Common.{◌≡◌, ◌+◌, true, None, sym, ap, subst, ◌∙◌}
use Rattle.std.proofs.lemmas.Option.{same_Some}
use Rattle.std.proofs.lemmas.List.{length_push}
use Rattle.past_model.specs.declared.entry.Entry.{Entry}
use Rattle.past_model.specs.Past.{Past, longer}
use Rattle.history.specs.declared.published.Published.TheVariants.{Batch as OneBatch}
use Rattle.history.specs.Moment.{Beginning, count_of, and_then}
use Rattle.store_model.specs.declared.event.Event.TheVariants.{Publish}
use Rattle.store_model.specs.declared.reply.Reply.TheVariants.{Done}
use Rattle.store_model.specs.Events.{can, after}
use Rattle.stream_core.specs.Work.{Work}
use Rattle.stream_core.specs.Runs.{past_at}
use Rattle.stream_core.specs.World.{core_of, IsWorld}
use Rattle.stream_core.proofs.WorldLemmas.{world_published, core_published, past_at-batch}
use Rattle.stream_core.proofs.world.World.publish.Goals as goal

pub invariant_of-self : goal.invariant_of-self
invariant_of-self c =
    let w = c.self.inside in
    let work : Work = c.in-Some.held in
    let past = past_at w.vertex_count w.known in
    let queue = w.queue.items in
    let runs = w.runs.items in
    let able = subst (λ s. can s Publish ≡ true) (sym c.self.view_is) c.requires in
    let whole = subst (λ held. can (core_of past queue held runs) Publish ≡ true) c.in-Some.is able in
    let same : c.in-Some-take.held ≡ work = same_Some c.in-Some-take.held work (sym c.in-Some-take.is ∙ c.take.ensures.value ∙ c.in-Some.is) in
    let table : c.show.new.published ≡ work.parts = c.show.ensures ∙ ap (λ (x : Work). x.parts) same in
    let known : c.in_ok-known.known ≡ and_then w.known (OneBatch work.entry) =
    c.in_ok-known.ensures.known ∙ ap (λ (e : Entry). and_then w.known (OneBatch e)) c.entry.ensures in
    let is = world_published past queue work w.table runs (subst (λ held. IsWorld past queue held w.table runs) c.in-Some.is c.self.invariant.0) whole in (
      subst (λ held. IsWorld (past_at w.vertex_count c.in_ok-known.known) queue held c.show.new.published runs) (sym c.take.ensures.after)
          (subst (λ parts. IsWorld (past_at w.vertex_count c.in_ok-known.known) queue None parts runs) (sym table)
          (subst (λ (k : Beginning). IsWorld (past_at w.vertex_count k) queue None work.parts runs) (sym known)
          (subst (λ (p : Past). IsWorld p queue None work.parts runs) (sym (past_at-batch w.vertex_count w.known work.entry)) is))),
      ap (λ (k : Beginning). k.book) known ∙ c.self.invariant.1,
      ap (λ n. n + 1) c.self.invariant.2 ∙ sym (length_push w.known.published (OneBatch work.entry)) ∙ ap count_of (sym known),
    )

pub returns-in-Some-take-clause-ok : goal.returns-in-Some-take-clause-ok
returns-in-Some-take-clause-ok c =
    let w = c.self.inside in
    let work : Work = c.in-Some.held in
    let past = past_at w.vertex_count w.known in
    let queue = w.queue.items in
    let runs = w.runs.items in
    let known : c.in_ok-known.known ≡ and_then w.known (OneBatch work.entry) =
    c.in_ok-known.ensures.known ∙ ap (λ (e : Entry). and_then w.known (OneBatch e)) c.entry.ensures in
    ap (λ (k : Beginning). core_of (past_at w.vertex_count k) queue c.take.new.self runs) known
    ∙ ap (λ (p : Past). core_of p queue c.take.new.self runs) (past_at-batch w.vertex_count w.known work.entry)
    ∙ ap (λ held. core_of (longer past work.entry) queue held runs) c.take.ensures.after
    ∙ core_published past queue work runs
    ∙ ap (λ held. after (core_of past queue held runs) Publish Done) (sym c.in-Some.is)
    ∙ ap (λ s. after s Publish Done) c.self.view_is

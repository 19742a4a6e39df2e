-- Every run is right, and is of a version that was published.
use Rattle.std.proofs.Common.{◌≡◌, ℕ, ◌<◌, Option, Some, None, List, [], ◌∷◌, ◌++◌, length, refl, sym, ap, subst, ◌∙◌, length-append, arith}
use Rattle.std.proofs.lemmas.Bool.{false≢true}
use Rattle.past_model.specs.declared.entry.Entry.{Entry}
use Rattle.past_model.specs.Past.{Past}
use Rattle.past_model.specs.Epochs.{IsBefore}
use Rattle.past_model.proofs.Epochs.{before_itself, before_onwards, before_longer, before_rebased}
use Rattle.store_model.specs.declared.event.Event.{Event}
use Rattle.store_model.specs.declared.event.Event.TheVariants.{Submit, Take, Part, Publish, Rebase, Pin, Lend}
use Rattle.store_model.specs.declared.reply.Reply.{Reply}
use Rattle.store_model.specs.declared.reply.Reply.TheVariants.{Done, Refused, Slice, End}
use Rattle.store_model.specs.Core.{Core, Holding, Run, words_of, opening_core}
use Rattle.store_model.specs.Events.{Lends, after_take, after_publish, after_lend, after, Happens}
use Rattle.store_model.specs.Laws.{IsRight, EveryRunIsRight, IsOfVersion, RunsAreOfVersions}
use Rattle.store_model.proofs.Steps.{runs_keep, EachRun, pinned, each_after, none_yet}

no_more : (all words rest : List ℕ) → 0 < length words → all ≡ (all ++ words) ++ rest → ⊥
no_more all words rest some e = omega (arith, ap length e, length-append (all ++ words) rest, length-append all words)

lend_right : (reply : Reply) (run : Run) → IsRight run → Lends (words_of run) run.lent reply → IsRight (after_lend reply run)
lend_right (Slice words) run (beginning, whole) (some, more) = (
  more,
  λ ended. absurd (no_more (words_of run) words.items more.0 some (more.1 ∙ ap (λ l. (l ++ words.items) ++ more.0) (whole ended))),
)
lend_right End run (beginning, whole) all = (beginning, λ ended. all)
lend_right Done run right lends = absurd lends
lend_right Refused run right lends = absurd lends

pin_right : (s : Core) (vertex : ℕ) → IsRight (pinned s vertex)
pin_right s vertex = ((words_of (pinned s vertex), refl), λ ended. absurd (false≢true ended))

right_after : (s t : Core) (event : Event) (reply : Reply) → EachRun IsRight s → Happens s event reply t → EachRun IsRight t
right_after s t event reply now (able, answers, is) =
    subst (EachRun IsRight) (sym is) (each_after IsRight IsRight s event reply (λ run right. right) (pin_right s) (λ was right lends. lend_right reply was right lends) now answers)

pub every_run_is_right : EveryRunIsRight
every_run_is_right n reader events replies s run ran is =
    runs_keep (EachRun IsRight) right_after (opening_core n) s events replies (none_yet IsRight 16) ran reader run is

-- the last version of a store is before that of a later one
abbrev IsFurther : Core → Core → Type 0
IsFurther s t = IsBefore s.past t.past

lend_of : (P : Past → Type 0) (reply : Reply) (run : Run) → P run.past → P (after_lend reply run).past
lend_of P (Slice words) run of = of
lend_of P End run of = of
lend_of P Done run of = of
lend_of P Refused run of = of

further_publish : (held : Option Holding) (s : Core) → IsFurther s (after_publish held s)
further_publish None s = before_itself s.past
further_publish (Some h) s = before_longer s.past h.entry

further_take : (queue : List Entry) (s : Core) → IsFurther s (after_take queue s)
further_take [] s = before_itself s.past
further_take (e ∷ es) s = before_itself s.past

further_after : (s : Core) (event : Event) (reply : Reply) → IsFurther s (after s event reply)
further_after s (Submit feed batch) reply = before_itself s.past
further_after s Take reply = further_take s.queue s
further_after s (Part range) reply = before_itself s.past
further_after s Publish reply = further_publish s.held s
further_after s Rebase reply = before_rebased s.past
further_after s (Pin reader vertex) reply = before_itself s.past
further_after s (Lend reader) reply = before_itself s.past

still_of : (s t : Core) (run : Run) → IsFurther s t → IsOfVersion s run → IsOfVersion t run
still_of s t run further of = before_onwards run.past s.past t.past of further

of_after : (s t : Core) (event : Event) (reply : Reply) → EachRun (IsOfVersion s) s → Happens s event reply t → EachRun (IsOfVersion t) t
of_after s t event reply now (able, answers, is) =
    let next = after s event reply in
    subst (λ x. EachRun (IsOfVersion x) x) (sym is) (each_after (IsOfVersion s) (IsOfVersion next) s event reply
    (λ run of. still_of s next run (further_after s event reply) of)
    (λ vertex. further_after s event reply)
    (λ was of lends. still_of s next (after_lend reply was) (further_after s event reply) (lend_of (λ p. IsBefore p s.past) reply was of))
    now answers)

pub runs_are_of_versions : RunsAreOfVersions
runs_are_of_versions n reader events replies s run ran is =
    runs_keep (λ x. EachRun (IsOfVersion x) x) of_after (opening_core n) s events replies (none_yet (IsOfVersion (opening_core n)) 16) ran reader run is

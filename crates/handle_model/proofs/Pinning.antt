-- A pin among the events of others.
use Rattle.std.proofs.Common.{◌≡◌, ◌==◌, ℕ, suc, ◌<◌, inl, inr, nat_lt, false, Option, Some, None, is_some, option_map, MatchOption, List, [], ◌∷◌, slice_set, refl, sym, ap, subst, ◌∙◌, arith}
use Rattle.std.specs.List.{list_any, insert}
use Rattle.std.proofs.lemmas.Bool.{and_from, or_parts, lt-ltb, eqb-false}
use Rattle.std.proofs.lemmas.List.{get_or-set_same, get_or-set_other, set_comm}
use Rattle.past_model.specs.declared.entry.Entry.{Entry}
use Rattle.past_model.specs.Past.{Past}
use Rattle.past_model.specs.Epochs.{IsBefore, IsBeforeInEpoch}
use Rattle.past_model.proofs.Epochs.{before_one}
use Rattle.store_model.specs.declared.event.Event.{Event}
use Rattle.store_model.specs.declared.event.Event.TheVariants.{Submit, Take, Part, Publish, Rebase, Pin, Lend}
use Rattle.store_model.specs.declared.reply.Reply.{Reply}
use Rattle.store_model.specs.declared.reply.Reply.TheVariants.{Done, Refused, Slice, End}
use Rattle.store_model.specs.Core.{Core, Holding, Run, run_of, words_of}
use Rattle.store_model.specs.Events.{can, Answers, Lends, after, after_take, after_publish, after_lend, Happens, Steps, Ran}
use Rattle.handle_model.specs.Calls.{is_of_reader, new_run, with_run}
use Rattle.handle_model.specs.Laws.{PinsAre}
use Rattle.handle_model.proofs.Passing.{grown, goes_on, one_first, none_between}

-- one reader's run is nothing to the events of others
other_run : (s : Core) (reader by : ℕ) (run : Run) → (by == reader) ≡ false → run_of (with_run s reader run) by ≡ run_of s by
other_run s reader by run other = get_or-set_other s.runs reader by (Some run) None (eqb-false by reader other)

can_still : (s : Core) (reader : ℕ) (run : Run) (event : Event) → is_of_reader reader event ≡ false → can (with_run s reader run) event ≡ can s event
can_still s reader run (Submit feed batch) other = refl
can_still s reader run Take other = refl
can_still s reader run (Part range) other = refl
can_still s reader run Publish other = refl
can_still s reader run Rebase other = refl
can_still s reader run (Pin by vertex) other = refl
can_still s reader run (Lend by) other = ap is_some (other_run s reader by run other)

answers_still : (s : Core) (reader : ℕ) (run : Run) (event : Event) (reply : Reply) → is_of_reader reader event ≡ false → Answers s event reply
    → Answers (with_run s reader run) event reply
answers_still s reader run (Submit feed batch) reply other answers = answers
answers_still s reader run Take reply other answers = answers
answers_still s reader run (Part range) reply other answers = answers
answers_still s reader run Publish reply other answers = answers
answers_still s reader run Rebase reply other answers = answers
answers_still s reader run (Pin by vertex) reply other answers = answers
answers_still s reader run (Lend by) reply other answers =
    subst (λ o. MatchOption o ⊥ (λ was. Lends (words_of was) was.lent reply)) (sym (other_run s reader by run other)) answers

take_still : (queue : List Entry) (s : Core) (reader : ℕ) (run : Run) → with_run (after_take queue s) reader run ≡ after_take queue (with_run s reader run)
take_still [] s reader run = refl
take_still (e ∷ es) s reader run = refl

publish_still : (held : Option Holding) (s : Core) (reader : ℕ) (run : Run)
    → with_run (after_publish held s) reader run ≡ after_publish held (with_run s reader run)
publish_still None s reader run = refl
publish_still (Some h) s reader run = refl

after_still : (s : Core) (reader : ℕ) (run : Run) (event : Event) (reply : Reply) → is_of_reader reader event ≡ false
    → with_run (after s event reply) reader run ≡ after (with_run s reader run) event reply
after_still s reader run (Submit feed batch) reply other = refl
after_still s reader run Take reply other = take_still s.queue s reader run
after_still s reader run (Part range) reply other = refl
after_still s reader run Publish reply other = publish_still s.held s reader run
after_still s reader run Rebase reply other = refl
after_still s reader run (Pin by vertex) reply other =
    ap (λ l. record s { runs = l }) (set_comm s.runs by reader (Some (new_run s.past vertex)) (Some run) (eqb-false by reader other))
after_still s reader run (Lend by) reply other =
    ap (λ l. record s { runs = l }) (set_comm s.runs by reader (option_map (after_lend reply) (run_of s by)) (Some run) (eqb-false by reader other))
    ∙ ap (λ o. record s { runs = slice_set (slice_set s.runs reader (Some run)) by (option_map (after_lend reply) o) }) (sym (other_run s reader by run other))

happens_still : (s t : Core) (reader : ℕ) (run : Run) (event : Event) (reply : Reply) → is_of_reader reader event ≡ false → Happens s event reply t
    → Happens (with_run s reader run) event reply (with_run t reader run)
happens_still s t reader run event reply other (able, answers, is) = (
  can_still s reader run event other ∙ able,
  answers_still s reader run event reply other answers,
  ap (λ x. with_run x reader run) is ∙ after_still s reader run event reply other,
)

step_still : (s t : Core) (reader : ℕ) (run : Run) (event : Event) (reply : Reply) → is_of_reader reader event ≡ false → Steps s event reply t
    → Steps (with_run s reader run) event reply (with_run t reader run)
step_still s t reader run event Refused other step = (can_still s reader run event other ∙ step.0, ap (λ x. with_run x reader run) step.1)
step_still s t reader run event Done other step = happens_still s t reader run event Done other step
step_still s t reader run event (Slice words) other step = happens_still s t reader run event (Slice words) other step
step_still s t reader run event End other step = happens_still s t reader run event End other step

ran_still : (s t : Core) (reader : ℕ) (run : Run) (events : List Event) (replies : List Reply) → list_any (is_of_reader reader) events ≡ false
    → Ran s events replies t → Ran (with_run s reader run) events replies (with_run t reader run)
ran_still s t reader run [] [] others ran = ap (λ x. with_run x reader run) ran
ran_still s t reader run (event ∷ events) (reply ∷ replies) others (mid, step, ran) =
    let (first, rest) = or_parts (is_of_reader reader event) (list_any (is_of_reader reader) events) others in (
      with_run mid reader run,
      step_still s mid reader run event reply first step,
      ran_still mid t reader run events replies rest ran,
    )
ran_still s t reader run [] (reply ∷ replies) others ran = absurd ran
ran_still s t reader run (event ∷ events) [] others ran = absurd ran

-- the pin is made at once where the version is the last one
at_once : (pinned : Past) (reader vertex : ℕ) (s t : Core) (events : List Event) (replies : List Reply) → s.past ≡ pinned → Ran s events replies t
    → list_any (is_of_reader reader) events ≡ false → reader < 16 → vertex < pinned.vertex_count
    → Ran s (Pin reader vertex ∷ events) (Done ∷ replies) (with_run t reader (new_run pinned vertex))
at_once pinned reader vertex s t events replies same ran others there inside = (
  with_run s reader (new_run pinned vertex),
  (
    and_from (nat_lt reader 16) (nat_lt vertex s.past.vertex_count) (lt-ltb reader 16 there)
        (lt-ltb vertex s.past.vertex_count (subst (λ p. vertex < p.vertex_count) (sym same) inside)),
    refl,
    ap (λ p. with_run s reader (new_run p vertex)) (sym same),
  ),
  ran_still s t reader (new_run pinned vertex) events replies others ran,
)

abbrev HasPlace : Past → ℕ → ℕ → Core → List Event → List Reply → Core → Type 0
HasPlace pinned reader vertex s events replies t =
    (place : ℕ) × Ran s (insert events place (Pin reader vertex)) (insert replies place Done) (with_run t reader (new_run pinned vertex))

-- the pin's place: before the first event that leads past the version, or after the last one
placed : (pinned : Past) (reader vertex : ℕ) (s t : Core) (events : List Event) (replies : List Reply)
    → IsBefore s.past pinned → IsBeforeInEpoch pinned t.past → Ran s events replies t
    → list_any (is_of_reader reader) events ≡ false → reader < 16 → vertex < pinned.vertex_count → HasPlace pinned reader vertex s events replies t
placed pinned reader vertex s t [] [] first last ran others there inside =
    let now : IsBeforeInEpoch pinned s.past = subst (λ x. IsBeforeInEpoch pinned x.past) ran last in
    (0, at_once pinned reader vertex s t [] [] (before_one s.past pinned first (sym first.0, inl now)) ran others there inside)
placed pinned reader vertex s t (event ∷ events) (reply ∷ replies) first last (mid, step, ran) others there inside =
    let (none, more) = or_parts (is_of_reader reader event) (list_any (is_of_reader reader) events) others in
    let before : IsBefore s.past t.past = goes_on s t (event ∷ events) (reply ∷ replies) (mid, step, ran) in
    let rest : IsBefore mid.past t.past = goes_on mid t events replies ran in
    let counts : pinned.vertex_count ≡ t.past.vertex_count = first.0 ∙ sym before.0 in
    elim (one_first mid.past pinned t.past rest counts last) [
      | inl still ↦ (
          let (place, found) = placed pinned reader vertex mid t events replies still last ran more there inside in (suc place, (mid, step, found)))
      | inr past ↦ elim (none_between s.past pinned mid.past (grown s mid event reply step) first (counts ∙ rest.0) past) [
        | inl here ↦ (0, at_once pinned reader vertex s t (event ∷ events) (reply ∷ replies) here (mid, step, ran) others there inside)
        | inr next ↦ (1, (mid, step, at_once pinned reader vertex mid t events replies next ran more there inside))
      ]
    ]
placed pinned reader vertex s t [] (reply ∷ replies) first last ran others there inside = absurd ran
placed pinned reader vertex s t (event ∷ events) [] first last ran others there inside = absurd ran

pub pins_are : PinsAre
pins_are = (
  λ seen pinned before s t events replies reader vertex was ran others now there inside. placed pinned reader vertex s t events replies
      (subst (λ p. IsBefore p pinned) (sym was) before) now ran others there (subst (λ n. vertex < n) (sym before.0) inside),
  λ s reader vertex past there. record {
    run = new_run past vertex;
    has = get_or-set_same s.runs reader (Some (new_run past vertex)) None there;
    pinned = refl;
    here = refl;
    words = refl;
  },
)

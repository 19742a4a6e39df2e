-- The publisher's events among those of others.
use Rattle.std.proofs.Common.{◌≡◌, true, false, nat_lt, is_none, Option, option_map, Some, None, List, [], ◌∷◌, ◌++◌, length, filter, refl, sym, ap, subst, ◌∙◌, append_assoc, append-nil, length-append, arith}
use Rattle.std.proofs.lemmas.Bool.{and_from, and_parts, lt-ltb, ltb-true, true≢false, false≢true}
use Rattle.past_model.specs.declared.entry.Entry.{Entry}
use Rattle.past_model.specs.Past.{longer}
use Rattle.past_model.specs.Epochs.{rebased}
use Rattle.store_model.specs.declared.event.Event.{Event}
use Rattle.store_model.specs.declared.event.Event.TheVariants.{Submit, Take, Part, Publish, Rebase, Pin, Lend}
use Rattle.store_model.specs.declared.reply.Reply.{Reply}
use Rattle.store_model.specs.declared.reply.Reply.TheVariants.{Done, Refused, Slice, End}
use Rattle.store_model.specs.Core.{Core, Holding, is_open, is_whole}
use Rattle.store_model.specs.Events.{IsBeginning, can, is_held_and, after, after_take, after_publish, after_part, Steps, Ran}
use Rattle.handle_model.specs.Calls.{all_done, publication}
use Rattle.handle_model.specs.Laws.{is_of_publisher, WovenPublications}
use Rattle.handle_model.proofs.Publications.{publications_are}
use Rattle.handle_model.proofs.Others.{each_to_its_own}

-- to the publisher a store is as another one, but that more batches may wait
record IsAlike (s t : Core) : Type 0 where
  past : t.past ≡ s.past
  held : t.held ≡ s.held
  queue : IsBeginning s.queue t.queue

other_leaves : (s t u : Core) (event : Event) (reply : Reply) → IsAlike s t → Steps t event reply u → is_of_publisher event ≡ false → IsAlike s u
other_leaves s t u event reply alike step other =
    let (past, held, (more, queue)) = (each_to_its_own t u event reply step).of_publisher other in
    record {
      past = past ∙ alike.past;
      held = held ∙ alike.held;
      queue = (alike.queue.0 ++ more, queue ∙ ap (λ l. l ++ more) alike.queue.1 ∙ append_assoc s.queue alike.queue.0 more);
    }

still_some : (queue longer rest : List Entry) → longer ≡ queue ++ rest → nat_lt 0 (length queue) ≡ true → nat_lt 0 (length longer) ≡ true
still_some queue longer rest is some = lt-ltb 0 (length longer) (omega (arith, ap length is, length-append queue rest, ltb-true 0 (length queue) some))

still_able : (s t : Core) (event : Event) → IsAlike s t → is_of_publisher event ≡ true → can s event ≡ true → can t event ≡ true
still_able s t Take alike own able =
    let parts = and_parts (is_none s.held) (nat_lt 0 (length s.queue)) able in
    and_from (is_none t.held) (nat_lt 0 (length t.queue)) (ap is_none alike.held ∙ parts.0) (still_some s.queue t.queue alike.queue.0 alike.queue.1 parts.1)
still_able s t (Part range) alike own able = ap (is_held_and (λ h. is_open h range)) alike.held ∙ able
still_able s t Publish alike own able = ap (is_held_and is_whole) alike.held ∙ able
still_able s t (Submit feed batch) alike own able = absurd (false≢true own)
still_able s t Rebase alike own able = able
still_able s t (Pin reader vertex) alike own able = absurd (false≢true own)
still_able s t (Lend reader) alike own able = absurd (false≢true own)

takes_alike : (s t : Core) (queue longer rest : List Entry) → t.past ≡ s.past → longer ≡ queue ++ rest → nat_lt 0 (length queue) ≡ true
    → IsAlike (after_take queue s) (after_take longer t)
takes_alike s t [] longer rest past is some = absurd (false≢true some)
takes_alike s t (e ∷ es) longer rest past is some =
    subst (λ l. IsAlike (after_take (e ∷ es) s) (after_take l t)) (sym is) (record { past = past; held = refl; queue = (rest, refl) })

publishes_alike : (s t : Core) (held : Option Holding) → IsAlike s t → IsAlike (after_publish held s) (after_publish held t)
publishes_alike s t None alike = alike
publishes_alike s t (Some h) alike = record { past = ap (λ p. longer p h.entry) alike.past; held = refl; queue = alike.queue }

happens_alike : (s t : Core) (event : Event) (reply : Reply) → IsAlike s t → is_of_publisher event ≡ true → can s event ≡ true → IsAlike (after s event Done) (after t event reply)
happens_alike s t Take reply alike own able =
    takes_alike s t s.queue t.queue alike.queue.0 alike.past alike.queue.1 (and_parts (is_none s.held) (nat_lt 0 (length s.queue)) able).1
happens_alike s t (Part range) reply alike own able = record { past = alike.past; held = ap (option_map (after_part range)) alike.held; queue = alike.queue }
happens_alike s t Publish reply alike own able =
    subst (λ h. IsAlike (after_publish s.held s) (after_publish h t)) (sym alike.held) (publishes_alike s t s.held alike)
happens_alike s t (Submit feed batch) reply alike own able = absurd (false≢true own)
happens_alike s t Rebase reply alike own able = record { past = ap rebased alike.past; held = alike.held; queue = alike.queue }
happens_alike s t (Pin reader vertex) reply alike own able = absurd (false≢true own)
happens_alike s t (Lend reader) reply alike own able = absurd (false≢true own)

-- an event that can happen is not refused
happened : (t u : Core) (event : Event) (reply : Reply) → can t event ≡ true → Steps t event reply u → u ≡ after t event reply
happened t u event Refused able step = absurd (true≢false (sym able ∙ step.0))
happened t u event Done able step = step.2
happened t u event (Slice words) able step = step.2
happened t u event End able step = step.2

steps_alike : (s t mid u : Core) (event : Event) (reply : Reply) → IsAlike s t → is_of_publisher event ≡ true → Steps s event Done mid → Steps t event reply u → IsAlike mid u
steps_alike s t mid u event reply alike own (able, done, is) step =
    subst (λ x. IsAlike x u) (sym is)
    (subst (IsAlike (after s event Done)) (sym (happened t u event reply (still_able s t event alike own able) step)) (happens_alike s t event reply alike own able))

-- what is to be shown of the events after one
abbrev Onwards : Core → Core → List Event → List Event → Type 0
Onwards s' t' todo events =
    (mid u : Core) (replies : List Reply) → IsAlike mid u → Ran mid todo (all_done todo) s' → Ran u events replies t' → IsAlike s' t'

own_woven : (s s' t t' : Core) (event : Event) (todo events : List Event) (replies : List Reply) → IsAlike s t → Ran s todo (all_done todo) s'
    → is_of_publisher event ≡ true → event ∷ filter is_of_publisher events ≡ todo → Ran t (event ∷ events) replies t'
    → Onwards s' t' (filter is_of_publisher events) events → IsAlike s' t'
own_woven s s' t t' event todo events [] alike ran own is more onwards = absurd more
own_woven s s' t t' event todo events (reply ∷ replies) alike ran own is (u, step, more) onwards =
    let (mid, first, rest) = subst (λ l. Ran s l (all_done l) s') (sym is) ran in
    onwards mid u replies (steps_alike s t mid u event reply alike own first step) rest more

other_woven : (s s' t t' : Core) (event : Event) (todo events : List Event) (replies : List Reply) → IsAlike s t → Ran s todo (all_done todo) s'
    → is_of_publisher event ≡ false → Ran t (event ∷ events) replies t' → Onwards s' t' todo events → IsAlike s' t'
other_woven s s' t t' event todo events [] alike ran other more onwards = absurd more
other_woven s s' t t' event todo events (reply ∷ replies) alike ran other (u, step, more) onwards =
    onwards s u replies (other_leaves s t u event reply alike step other) ran more

woven : (s s' t t' : Core) (todo events : List Event) (replies : List Reply) → IsAlike s t → Ran s todo (all_done todo) s'
    → filter is_of_publisher events ≡ todo → Ran t events replies t' → IsAlike s' t'
woven s s' t t' todo [] [] alike ran is more =
    subst (λ x. IsAlike s' x) (sym more) (subst (λ x. IsAlike x t) (sym (subst (λ l. Ran s l (all_done l) s') (sym is) ran)) alike)
woven s s' t t' todo [] (reply ∷ replies) alike ran is more = absurd more
woven s s' t t' todo (Submit feed batch ∷ events) replies alike ran is more =
    other_woven s s' t t' (Submit feed batch) todo events replies alike ran refl more (λ mid u rest still ran onwards. woven mid s' u t' todo events rest still ran is onwards)
woven s s' t t' todo (Take ∷ events) replies alike ran is more =
    own_woven s s' t t' Take todo events replies alike ran refl is more
    (λ mid u rest still ran onwards. woven mid s' u t' (filter is_of_publisher events) events rest still ran refl onwards)
woven s s' t t' todo (Part range ∷ events) replies alike ran is more =
    own_woven s s' t t' (Part range) todo events replies alike ran refl is more
    (λ mid u rest still ran onwards. woven mid s' u t' (filter is_of_publisher events) events rest still ran refl onwards)
woven s s' t t' todo (Publish ∷ events) replies alike ran is more =
    own_woven s s' t t' Publish todo events replies alike ran refl is more
    (λ mid u rest still ran onwards. woven mid s' u t' (filter is_of_publisher events) events rest still ran refl onwards)
woven s s' t t' todo (Rebase ∷ events) replies alike ran is more =
    own_woven s s' t t' Rebase todo events replies alike ran refl is more
    (λ mid u rest still ran onwards. woven mid s' u t' (filter is_of_publisher events) events rest still ran refl onwards)
woven s s' t t' todo (Pin reader vertex ∷ events) replies alike ran is more =
    other_woven s s' t t' (Pin reader vertex) todo events replies alike ran refl more (λ mid u rest still ran onwards. woven mid s' u t' todo events rest still ran is onwards)
woven s s' t t' todo (Lend reader ∷ events) replies alike ran is more =
    other_woven s s' t t' (Lend reader) todo events replies alike ran refl more (λ mid u rest still ran onwards. woven mid s' u t' todo events rest still ran is onwards)

pub woven_publications : WovenPublications
woven_publications past held e s t ranges events replies sees next are own ran =
    let (s', alone, seen, queue) = publications_are past held e s ranges sees next are in
    let alike = woven s s' s t (publication held ranges) events replies (record { past = refl; held = refl; queue = ([], sym (append-nil s.queue)) }) alone own ran in
    record { published = alike.past ∙ seen.published; holds = alike.held ∙ seen.holds }

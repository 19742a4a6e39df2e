-- What every event keeps, every list of events keeps.
use Rattle.std.proofs.Common.{◌≡◌, ℕ, zero, suc, Option, Some, None, List, [], ◌∷◌, ◌⊎◌, MatchOption, slice_set, slice_index_or, option_map, refl, false, replicate, sym, ap, subst, ◌∙◌, inl, inr}
use Rattle.std.proofs.lemmas.Option.{same_Some, none-some}
use Rattle.past_model.specs.declared.entry.Entry.{Entry}
use Rattle.store_model.specs.declared.event.Event.{Event}
use Rattle.store_model.specs.declared.event.Event.TheVariants.{Submit, Take, Part, Publish, Rebase, Pin, Lend}
use Rattle.store_model.specs.declared.reply.Reply.{Reply}
use Rattle.store_model.specs.declared.reply.Reply.TheVariants.{Done, Refused, Slice, End}
use Rattle.store_model.specs.Core.{Core, Holding, Run, words_of, run_of}
use Rattle.store_model.specs.Events.{Answers, Lends, after_take, after_publish, after_lend, after, Happens, Steps, Ran}
use Rattle.store_model.specs.Laws.{RunsGoOn}

-- an event changes nothing, or it happens
pub step_keeps : (P : Core → Type 0) (s t : Core) (event : Event) (reply : Reply) → P s → (Happens s event reply t → P t) → Steps s event reply t → P t
step_keeps P s t event Refused now happens h = subst P (sym h.1) now
step_keeps P s t event Done now happens h = happens h
step_keeps P s t event (Slice words) now happens h = happens h
step_keeps P s t event End now happens h = happens h

pub runs_keep : (P : Core → Type 0) → ((s t : Core) (event : Event) (reply : Reply) → P s → Happens s event reply t → P t) → (s t : Core) (events : List Event) (replies : List Reply) → P s → Ran s events replies t → P t
runs_keep P keeps s t [] [] now h = subst P (sym h) now
runs_keep P keeps s t (event ∷ events) (reply ∷ replies) now (mid, first, rest) =
    runs_keep P keeps mid t events replies (step_keeps P s mid event reply now (keeps s mid event reply now) first) rest
runs_keep P keeps s t [] (reply ∷ replies) now h = absurd h
runs_keep P keeps s t (event ∷ events) [] now h = absurd h

pub go_on : RunsGoOn
go_on s t u [] [] event reply h step = (u, subst (λ x. Steps x event reply u) h step, refl)
go_on s t u (first ∷ events) (answer ∷ replies) event reply (mid, one, rest) step =
    (mid, one, go_on mid t u events replies event reply rest step)
go_on s t u [] (answer ∷ replies) event reply h step = absurd h
go_on s t u (first ∷ events) [] event reply h step = absurd h

-- what each run of the store is
abbrev pub EachRun : (Run → Type 0) → Core → Type 0
EachRun Q s = (reader : ℕ) (run : Run) → run_of s reader ≡ Some run → Q run

set_run : (runs : List (Option Run)) (place reader : ℕ) (o : Option Run) (run : Run) → slice_index_or (slice_set runs place o) reader None ≡ Some run → (o ≡ Some run) ⊎ (slice_index_or runs reader None ≡ Some run)
set_run [] place reader o run e = inr e
set_run (x ∷ xs) zero zero o run e = inl e
set_run (x ∷ xs) zero (suc reader) o run e = inr e
set_run (x ∷ xs) (suc place) zero o run e = inr e
set_run (x ∷ xs) (suc place) (suc reader) o run e = set_run xs place reader o run e

runs_take : (queue : List Entry) (s : Core) → (after_take queue s).runs ≡ s.runs
runs_take [] s = refl
runs_take (e ∷ es) s = refl

runs_publish : (held : Option Holding) (s : Core) → (after_publish held s).runs ≡ s.runs
runs_publish None s = refl
runs_publish (Some h) s = refl

-- the run of a pin at this moment
abbrev pub pinned : Core → ℕ → Run
pinned s vertex = record { past = s.past; vertex = vertex; lent = []; ended = false }

lent_run : (R : Run → Type 0) (reply : Reply) (o : Option Run) (run : Run) → MatchOption o ⊥ (λ was. Lends (words_of was) was.lent reply) → ((was : Run) → o ≡ Some was → Lends (words_of was) was.lent reply → R (after_lend reply was)) → option_map (after_lend reply) o ≡ Some run → R run
lent_run R reply None run lends more e = absurd lends
lent_run R reply (Some was) run lends more e = subst R (same_Some (after_lend reply was) run e) (more was refl lends)

-- an event keeps it where pins and lends do
pub each_after : (Q R : Run → Type 0) (s : Core) (event : Event) (reply : Reply) → ((run : Run) → Q run → R run)
    → ((vertex : ℕ) → R (pinned s vertex)) → ((was : Run) → Q was → Lends (words_of was) was.lent reply → R (after_lend reply was))
    → EachRun Q s → Answers s event reply → EachRun R (after s event reply)
each_after Q R s (Submit feed batch) reply others pins lends now answers reader run e = others run (now reader run e)
each_after Q R s Take reply others pins lends now answers reader run e =
    others run (now reader run (ap (λ l. slice_index_or l reader None) (sym (runs_take s.queue s)) ∙ e))
each_after Q R s (Part range) reply others pins lends now answers reader run e = others run (now reader run e)
each_after Q R s Publish reply others pins lends now answers reader run e =
    others run (now reader run (ap (λ l. slice_index_or l reader None) (sym (runs_publish s.held s)) ∙ e))
each_after Q R s Rebase reply others pins lends now answers reader run e = others run (now reader run e)
each_after Q R s (Pin place vertex) reply others pins lends now answers reader run e =
    elim (set_run s.runs place reader (Some (pinned s vertex)) run e) [
      | inl mine ↦ subst R (same_Some (pinned s vertex) run mine) (pins vertex)
      | inr other ↦ others run (now reader run other)
    ]
each_after Q R s (Lend place) reply others pins lends now answers reader run e =
    elim (set_run s.runs place reader (option_map (after_lend reply) (run_of s place)) run e) [
      | inl mine ↦ lent_run R reply (run_of s place) run answers (λ was is. lends was (now place was is)) mine
      | inr other ↦ others run (now reader run other)
    ]

none_at : (count reader : ℕ) (run : Run) → slice_index_or (replicate count None) reader None ≡ Some run → ⊥
none_at zero reader run e = none-some run e
none_at (suc count) zero run e = none-some run e
none_at (suc count) (suc reader) run e = none_at count reader run e

-- and at first there is no run
pub none_yet : (Q : Run → Type 0) (count reader : ℕ) (run : Run) → slice_index_or (replicate count None) reader None ≡ Some run → Q run
none_yet Q count reader run e = absurd (none_at count reader run e)

-- Lines that are executed and what they say written, and what this leads to.
use Rattle.std.proofs.Common.{◌≡◌, ◌<◌, ℕ, List, [], ◌++◌, length, take, drop, Option, Some, None, refl, sym, ap, subst, ◌∙◌, inl, inr, append_assoc}
use Rattle.std.specs.Prelude.{Result, Ok, Err, IsErrAnd}
use Rattle.std.specs.List.{flat_map}
use Rattle.std.specs.Io.KnownBytes.{Appends, Consumes, Keeps, IsAtEnd}
use Rattle.std.proofs.lemmas.List.{append-nil}
use Rattle.map_model.specs.declared.listed_edge.ListedEdge.{ListedEdge}
use Rattle.script_model.specs.declared.ending.Ending.{Ending}
use Rattle.script_model.specs.declared.ending.Ending.TheVariants as endings
use Rattle.script_model.specs.State.{Script, new_script}
use Rattle.script_model.specs.Lexing.{script_lines}
use Rattle.script_model.specs.Texts.{edge_text}
use Rattle.script_model.specs.Script.{Meaning, meaning_from, meaning}
use Rattle.service.specs.declared.serve_error.ServeError.{ServeError}
use Rattle.service.specs.Ends.{TakesFront}
use Rattle.service.specs.Served.{Served, Settled, Serving, Listing, Settling}
use Rattle.service.specs.Serves.{IsMeant, Serves}
use Rattle.service.specs.Stand.{Stand}
use Rattle.service.specs.Rounds.{Advances, Concludes, IsWritten, IsServed, Turns}
use Rattle.service.proofs.KnownLemmas.{appends_more, consumes_more, consumes_keeps}
use Rattle.service.proofs.Following.{served_more}

-- an error that is passed on
pub is_that : {A E : Type 0} (r : Result A E) (e : E) → IsErrAnd r (λ (x : E). x ≡ e) → r ≡ Err e
is_that (Ok x) e h = absurd h
is_that (Err x) e h = ap Err h

-- an error leaves what is written as the beginning of something
pub advance_fails : (r : Result (Option Ending) ServeError) (P : ServeError → Type 0) (kept holds : Option (List ℕ)) (old new : Stand) → IsErrAnd r P → ((read : List ℕ) (held : Option (List ℕ)) → IsWritten read held kept old → (rest : List ℕ) → TakesFront held holds (meaning (read ++ rest)).text) → Advances r kept holds old new
advance_fails (Ok x) P kept holds old new is goes = absurd is
advance_fails (Err e) P kept holds old new is goes = goes

pub conclude_fails : (r : Result Ending ServeError) (P : ServeError → Type 0) (kept holds : Option (List ℕ)) (old : Stand) → IsErrAnd r P → ((read : List ℕ) (held : Option (List ℕ)) → IsWritten read held kept old → TakesFront held holds (meaning read).text) → Concludes r kept holds old
conclude_fails (Ok x) P kept holds old is goes = absurd is
conclude_fails (Err e) P kept holds old is goes = goes

pub turn_stops : (r : Result (Option Ending) ServeError) (P : ServeError → Type 0) (was has kept holds : Option (List ℕ)) (old new : Stand) → IsErrAnd r P → ((e : ServeError) → Turns (Err e) was has kept holds old new) → Turns r was has kept holds old new
turn_stops (Ok x) P was has kept holds old new is goes = absurd is
turn_stops (Err e) P was has kept holds old new is goes = goes e

-- where a script stands whose bytes are executed up to a place
abbrev pub left_from : Stand → ℕ → Stand
left_from s from = record s { pending = drop from s.pending }

-- ---- lines that add a text

-- what is served with so much of some bytes executed, and the text that this adds
abbrev pub Adds : (old new : Script) → (bytes left whole : List ℕ) → Type 0
Adds old new bytes left whole =
    (read before : List ℕ) → Served read before old bytes → Served read (before ++ whole) new left

abbrev pub lines_of : List ListedEdge → List ℕ
lines_of edges = flat_map edge_text edges

pub said_is : (text said t : List ℕ) → text ≡ [] → said ≡ text ++ t → t ≡ said
said_is text said t none is = sym (is ∙ ap (λ (x : List ℕ). x ++ t) none)

pub serving_adds : (old new : Script) (bytes left text said : List ℕ) → text ≡ [] → Serving old new bytes left text said → Adds old new bytes left said
serving_adds old new bytes left text said none serving read before h =
    let n = serving read before h in
    subst (λ (t : List ℕ). Served read (before ++ t) new left) (said_is text said n.0 none n.1) n.2

pub listing_adds : (old new : Script) (bytes left text said : List ℕ) (edges : List ListedEdge) → text ≡ [] → Listing old new bytes left text said edges → Adds old new bytes left (said ++ lines_of edges)
listing_adds old new bytes left text said edges none listing read before h =
    let n = listing read before h in
    subst (λ (t : List ℕ). Served read (before ++ (t ++ lines_of edges)) new left) (said_is text said n.0 none n.1) n.2

pub adds_at : (old new mid : Script) (bytes left last whole : List ℕ) → Adds old new bytes left whole → mid ≡ new → last ≡ left → Adds old mid bytes last whole
adds_at old new mid bytes left last whole adds a b = rw (a, b) adds

-- lines that are executed, and one after them that lists edges
pub lists_after : (old mid new : Script) (bytes middle left last text said told : List ℕ) (edges : List ListedEdge) → Serving old mid bytes middle text said → Listing mid new middle left said told edges → last ≡ left → Listing old new bytes last text told edges
lists_after old mid new bytes middle left last text said told edges serving listing same read before h =
    let a = serving read before h in
    let b = listing read (before ++ a.0) a.2 in
    let joined : (before ++ a.0) ++ (b.0 ++ lines_of edges) ≡ before ++ ((a.0 ++ b.0) ++ lines_of edges) = append_assoc before a.0 (b.0 ++ lines_of edges) ∙ ap (λ (t : List ℕ). before ++ t) (sym (append_assoc a.0 b.0 (lines_of edges))) in
    let here : Served read (before ++ ((a.0 ++ b.0) ++ lines_of edges)) new left = subst (λ (t : List ℕ). Served read t new left) joined b.2 in
    (a.0 ++ b.0, b.1 ∙ ap (λ (t : List ℕ). t ++ b.0) a.1 ∙ append_assoc text a.0 b.0, subst (λ (l : List ℕ). Served read (before ++ ((a.0 ++ b.0) ++ lines_of edges)) new l) (sym same) here)

-- lines that are executed after others
pub serving_after : (old mid new : Script) (bytes middle left last text said told : List ℕ) → Serving old mid bytes middle text said → Serving mid new middle left said told → last ≡ left → Serving old new bytes last text told
serving_after old mid new bytes middle left last text said told serving more same read before h =
    let a = serving read before h in
    let b = more read (before ++ a.0) a.2 in
    let here : Served read (before ++ (a.0 ++ b.0)) new left = subst (λ (t : List ℕ). Served read t new left) (append_assoc before a.0 b.0) b.2 in
    (a.0 ++ b.0, b.1 ∙ ap (λ (t : List ℕ). t ++ b.0) a.1 ∙ append_assoc text a.0 b.0, subst (λ (l : List ℕ). Served read (before ++ (a.0 ++ b.0)) new l) (sym same) here)

-- ---- what is written

abbrev rest_of : Script → List ℕ → List ℕ
rest_of s bytes = (meaning_from s (script_lines bytes)).text

-- what is written so far
pub written_begins : (read : List ℕ) (held holds : Option (List ℕ)) (s : Stand) → IsWritten read held holds s → (rest : List ℕ) → TakesFront held holds (meaning (read ++ rest)).text
written_begins read held holds s (said, wrote, h) rest =
    (said, rest_of s.script (s.pending ++ rest), ap (λ (o : Meaning). o.text) (h rest), wrote)

-- the same of what the bytes read mean by themselves
pub written_front : (read : List ℕ) (held holds : Option (List ℕ)) (s : Stand) → IsWritten read held holds s → TakesFront held holds (meaning read).text
written_front read held holds s wrote =
    subst (λ (bytes : List ℕ). TakesFront held holds (meaning bytes).text) (append-nil read) (written_begins read held holds s wrote [])

-- what a write takes, after what was written before
pub takes_more : (held was holds : Option (List ℕ)) (before text all last : List ℕ) → Appends held was before → TakesFront was holds text → all ≡ (before ++ text) ++ last → TakesFront held holds all
takes_more held was holds before text all last wrote (front, rest, parts, took) whole =
    let cut : all ≡ (before ++ front) ++ (rest ++ last) = whole ∙ ap (λ (t : List ℕ). (before ++ t) ++ last) parts ∙ append_assoc before (front ++ rest) last ∙ ap (λ (t : List ℕ). before ++ t) (append_assoc front rest last) ∙ sym (append_assoc before front (rest ++ last)) in
    (before ++ front, rest ++ last, cut, appends_more held was holds before front wrote took)

-- lines are executed, and what they say is written
pub adds_written : (read : List ℕ) (held kept holds : Option (List ℕ)) (s new : Stand) (bytes whole : List ℕ) (script : Script) → bytes ≡ s.pending → script ≡ s.script → Adds script new.script bytes new.pending whole → Appends kept holds whole → IsWritten read held kept s → IsWritten read held holds new
adds_written read held kept holds s new bytes whole script b x adds wrote_more (before, wrote, h) =
    let here : Served read before script bytes = rw (x, b) h in
    (before ++ whole, appends_more held kept holds before whole wrote wrote_more, adds read before here)

-- or a beginning of it
pub adds_begins : (read : List ℕ) (held kept holds : Option (List ℕ)) (s : Stand) (bytes left whole : List ℕ) (script next : Script) → bytes ≡ s.pending → script ≡ s.script → Adds script next bytes left whole → TakesFront kept holds whole → IsWritten read held kept s → (rest : List ℕ) → TakesFront held holds (meaning (read ++ rest)).text
adds_begins read held kept holds s bytes left whole script next b x adds took (before, wrote, h) rest =
    let here : Served read before script bytes = rw (x, b) h in
    takes_more held kept holds before whole _ (rest_of next (left ++ rest)) wrote took (ap (λ (o : Meaning). o.text) (adds read before here rest))

-- the same where the script is settled
settled_adds : (read before bytes text said : List ℕ) (script : Script) → text ≡ [] → Settling script bytes text said → Served read before script bytes → Settled read (before ++ said)
settled_adds read before bytes text said script none settling h =
    let n = settling read before h in
    subst (λ (t : List ℕ). Settled read (before ++ t)) (said_is text said n.0 none n.1) n.2

pub settled_written : (read : List ℕ) (held kept holds : Option (List ℕ)) (s : Stand) (bytes text said : List ℕ) (script : Script) → bytes ≡ s.pending → script ≡ s.script → text ≡ [] → Settling script bytes text said → Appends kept holds said → IsWritten read held kept s → (all : List ℕ) × Appends held holds all × Settled read all
settled_written read held kept holds s bytes text said script b x none settling wrote_more (before, wrote, h) =
    let here : Served read before script bytes = rw (x, b) h in
    (before ++ said, appends_more held kept holds before said wrote wrote_more, settled_adds read before bytes text said script none settling here)

pub settled_begins : (read : List ℕ) (held kept holds : Option (List ℕ)) (s : Stand) (bytes text said : List ℕ) (script : Script) → bytes ≡ s.pending → script ≡ s.script → text ≡ [] → Settling script bytes text said → TakesFront kept holds said → IsWritten read held kept s → (rest : List ℕ) → TakesFront held holds (meaning (read ++ rest)).text
settled_begins read held kept holds s bytes text said script b x none settling took (before, wrote, h) rest =
    let here : Served read before script bytes = rw (x, b) h in
    let settled = settled_adds read before bytes text said script none settling here in
    takes_more held kept holds before said _ [] wrote took (ap (λ (o : Meaning). o.text) (settled rest) ∙ sym (append-nil (before ++ said)))

-- ---- between two reads

consumes_none : (has : Option (List ℕ)) → Consumes has has []
consumes_none None = tt
consumes_none (Some bytes) = refl

appends_none : (holds : Option (List ℕ)) → Appends holds holds []
appends_none None = tt
appends_none (Some bytes) = sym (append-nil bytes)

-- before the first read
pub is_served_first : (has holds : Option (List ℕ)) (s : Stand) → s.script ≡ new_script → s.pending ≡ [] → IsServed has has holds holds s
is_served_first has holds s first none = ([], consumes_none has, ([], appends_none holds, λ rest. rw (first, none) refl))

pub begins : (had has held holds : Option (List ℕ)) (s : Stand) (e : ServeError) → IsServed had has held holds s → Serves (Err e) had has held holds
begins had has held holds s e (read, took, wrote) = (read, took, inl (written_begins read held holds s wrote))

-- what was written, with more bytes read
longer : (read more : List ℕ) (held holds : Option (List ℕ)) (old mid : Stand) → mid.script ≡ old.script → mid.pending ≡ old.pending ++ more → IsWritten read held holds old → IsWritten (read ++ more) held holds mid
longer read more held holds old mid script pending (said, wrote, h) =
    let more_is : Served (read ++ more) said old.script mid.pending = subst (λ (bytes : List ℕ). Served (read ++ more) said old.script bytes) (sym pending) (served_more read said old.script old.pending more h) in
    (said, wrote, subst (λ (s : Script). Served (read ++ more) said s mid.pending) (sym script) more_is)

-- a read fails, or there is no memory for what it gave
pub turn_fails : (was has kept : Option (List ℕ)) (old new : Stand) (e : ServeError) → (more : List ℕ) × Consumes was has more → Turns (Err e) was has kept kept old new
turn_fails was has kept old new e (more, took_more) had held (read, took, (said, wrote, h)) = (
  read ++ more,
  consumes_more had was has read more took took_more,
  inl (λ rest.
      (said, rest_of old.script (old.pending ++ (more ++ rest)), ap (λ (bytes : List ℕ). (meaning bytes).text) (append_assoc read more rest) ∙ ap (λ (o : Meaning). o.text) (h (more ++ rest)), wrote)),
)

settled_ends : (read said : List ℕ) (ending : Ending) (left : Option (List ℕ)) → ending ≡ endings.Fault → Settled read said → IsMeant read said ending left
settled_ends read said endings.Complete left is settled = absurd cc
settled_ends read said endings.Fault left is settled =
    (ap (λ (bytes : List ℕ). meaning bytes) (sym (append-nil read)) ∙ settled [], inr settled)

-- nothing is read
pub turn_unread : (was has kept : Option (List ℕ)) (old new : Stand) (e : ServeError) → Keeps was has → Turns (Err e) was has kept kept old new
turn_unread was has kept old new e keeps =
    turn_fails was has kept old new e ([], consumes_keeps was was has [] (consumes_none was) keeps)

-- more is read, and its lines are executed
pub turn_advances : (was has kept holds : Option (List ℕ)) (more : List ℕ) (old mid new : Stand) (r : Result (Option Ending) ServeError) → mid.script ≡ old.script → mid.pending ≡ old.pending ++ more → Consumes was has more → Advances r kept holds mid new → Turns r was has kept holds old new
turn_advances was has kept holds more old mid new (Ok None) script pending took_more advances = (
  advances.0.0,
  advances.1,
  λ had held (read, took, wrote).
      (read ++ more, consumes_more had was has read more took took_more, advances.2 (read ++ more) held (longer read more held kept old mid script pending wrote)),
)
turn_advances was has kept holds more old mid new (Ok (Some ending)) script pending took_more advances =
    λ had held (read, took, wrote).
    let n = advances.1 (read ++ more) held (longer read more held kept old mid script pending wrote) in
    (read ++ more, consumes_more had was has read more took took_more, n.0, n.1, settled_ends (read ++ more) n.0 ending has advances.0 n.2)
turn_advances was has kept holds more old mid new (Err e) script pending took_more advances =
    λ had held (read, took, wrote).
    (read ++ more, consumes_more had was has read more took took_more, inl (advances (read ++ more) held (longer read more held kept old mid script pending wrote)))

ends_at_end : (read said : List ℕ) (ending : Ending) (left : Option (List ℕ)) → meaning read ≡ record { text = said; ending = ending } → IsAtEnd left → IsMeant read said ending left
ends_at_end read said endings.Complete left means at_end = (means, at_end)
ends_at_end read said endings.Fault left means at_end = (means, inl at_end)

consumes_same : (had was has : Option (List ℕ)) (read : List ℕ) → Consumes had was read → Consumes was has [] → Consumes had has read
consumes_same had was has read took none =
    subst (λ (bytes : List ℕ). Consumes had has bytes) (append-nil read) (consumes_more had was has read [] took none)

no_more : (was has : Option (List ℕ)) (count : ℕ) (block : List ℕ) → count ≡ 0 → Consumes was has (take count block) → Consumes was has []
no_more was has count block none took = subst (λ (n : ℕ). Consumes was has (take n block)) none took

-- nothing more is read, and the script ends
pub turn_concludes : (was has kept holds : Option (List ℕ)) (count : ℕ) (block : List ℕ) (old new : Stand) (ending : Ending) → count ≡ 0 → 0 < length block → (Consumes was has (take count block) × (count ≡ 0 → 0 < length block → IsAtEnd has)) → Concludes (Ok ending) kept holds old → Turns (Ok (Some ending)) was has kept holds old new
turn_concludes was has kept holds count block old new ending none some gave concludes had held (read, took, wrote) =
    let n = concludes read held wrote in
    (read, consumes_same had was has read took (no_more was has count block none gave.0), n.0, n.1, ends_at_end read n.0 ending has n.2 (gave.1 none some))

pub turn_unended : (was has kept holds : Option (List ℕ)) (count : ℕ) (block : List ℕ) (old new : Stand) (e : ServeError) → count ≡ 0 → 0 < length block → (Consumes was has (take count block) × (count ≡ 0 → 0 < length block → IsAtEnd has)) → Concludes (Err e) kept holds old → Turns (Err e) was has kept holds old new
turn_unended was has kept holds count block old new e none some gave concludes had held (read, took, wrote) =
    (read, consumes_same had was has read took (no_more was has count block none gave.0), inr (gave.1 none some, concludes read held wrote))

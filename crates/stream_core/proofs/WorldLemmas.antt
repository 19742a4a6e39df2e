-- What each event keeps of a world.
use Rattle.std.proofs.Common.{◌≡◌, ℕ, zero, suc, ◌<◌, ◌≤◌, true, false, Option, Some, None, MatchOption, Result, Ok, Err, IfOk, OnOk, OnErr, is_some, nat_lt, ◌&&◌, List, [], ◌∷◌, ◌++◌, length, get_or, set, map, drop, replicate, option_map, refl, sym, ap, subst, ◌∙◌, ◌⊎◌, inl, inr, length-set, arith}
use Rattle.std.specs.List.{AllByRecursion}
use Rattle.std.proofs.lemmas.Bool.{and_parts, false≢true}
use Rattle.std.proofs.lemmas.Option.{none-some, same_Some}
use Rattle.std.proofs.lemmas.List.{map-set}
use Rattle.past_model.specs.declared.edit.Edit.{Edit}
use Rattle.past_model.specs.declared.entry.Entry.{Entry}
use Rattle.graph_model.specs.Graph.{empty_graph}
use Rattle.past_model.specs.declared.limits.TheConstants.{FEEDS, MOST_VERTICES}
use Rattle.past_model.specs.Edits.{AreEditsBelow, are_edits_below}
use Rattle.past_model.specs.Past.{Past, IsPast, graph_of, opening, longer}
use Rattle.past_model.specs.Epochs.{rebased}
use Rattle.past_model.proofs.Epochs.{graph_of-rebased, IsPast-rebased}
use Rattle.history.specs.Moment.{Beginning, moment_of, and_then}
use Rattle.history.specs.declared.published.Published.TheVariants.{Batch as OneBatch, Rebase as OneRebase}
use Rattle.history.proofs.Moments.{after_all-append, vertex_count-moment_of}
use Rattle.past_model.proofs.Below.{below_from_test}
use Rattle.past_model.proofs.Pasts.{graph_of-longer, vertex_count-graph_of, IsPast-opening, IsPast-longer}
use Rattle.shards.specs.Part.{Part}
use Rattle.shard_table.specs.Table.{IsTable}
use Rattle.store_model.specs.declared.limits.TheConstants.{QUEUE_PLACES}
use Rattle.store_model.specs.declared.event.Event.TheVariants.{Submit, Publish, Pin, Lend}
use Rattle.store_model.specs.declared.reply.Reply.{Reply}
use Rattle.store_model.specs.declared.reply.Reply.TheVariants.{Done}
use Rattle.store_model.specs.Core.{Core, Run, range_of, is_open, is_whole, words_of}
use Rattle.store_model.specs.Events.{can, after, after_lend, Answers, Lends}
use Rattle.store_model.proofs.Entries.{below_append}
use Rattle.stream_core.specs.declared.reader_run.ReaderRun.{ReaderRun}
use Rattle.stream_core.specs.Tables.{IsTableInWork}
use Rattle.stream_core.specs.Work.{Work, holding_of, IsEditable, IsWorkAfter}
use Rattle.stream_core.specs.Runs.{past_at, run_in, IsRunIn, IsLendable, IsLent}
use Rattle.stream_core.specs.World.{core_of, IsWorkIn, IsWorld}
use Rattle.stream_core.proofs.TableLemmas.{in_ranges, table_begun, table_whole}

-- ---- a store in which nothing has happened

no_run : (count reader : ℕ) (run : ReaderRun) → get_or (replicate count None) reader None ≡ Some run → ⊥
no_run zero reader run e = none-some run e
no_run (suc count) zero run e = none-some run e
no_run (suc count) (suc reader) run e = no_run count reader run e

pub first_world : (n : ℕ) (parts : List Part) → 1 ≤ n → n ≤ MOST_VERTICES → IsTable (empty_graph n) parts → IsWorld (opening n) [] None parts (replicate 16 None)
first_world n parts some most table = record {
  some = some;
  most = most;
  past_is = IsPast-opening n;
  published = table;
  waiting = tt;
  work = tt;
  places = refl;
  each = λ reader run e. absurd (no_run 16 reader run e);
}

-- ---- one batch more in the queue

pub world_submitted : (past : Past) (queue : List Entry) (held : Option Work) (parts : List Part) (runs : List (Option ReaderRun)) (feed : ℕ) (batch : List Edit)
    → IsWorld past queue held parts runs → can (core_of past queue held runs) (Submit feed batch) ≡ true → IsWorld past (queue ++ (record { feed = feed; batch = batch }) ∷ []) held parts runs
world_submitted past queue held parts runs feed batch is able =
    let room = and_parts (nat_lt feed FEEDS) (nat_lt (length queue) QUEUE_PLACES && are_edits_below past.vertex_count batch) able in
    let below = below_from_test past.vertex_count batch (and_parts (nat_lt (length queue) QUEUE_PLACES) (are_edits_below past.vertex_count batch) room.1).1 in
    record {
      some = is.some;
      most = is.most;
      past_is = is.past_is;
      published = is.published;
      waiting = below_append past.vertex_count queue ((record { feed = feed; batch = batch }) ∷ []) is.waiting (below, tt);
      work = is.work;
      places = is.places;
      each = is.each;
    }

-- ---- the queue's first batch is held

below_in_graph : (past : Past) (es : List Edit) → AreEditsBelow past.vertex_count es → AreEditsBelow (graph_of past).vertex_count es
below_in_graph past es below = subst (λ n. AreEditsBelow n es) (sym (vertex_count-graph_of past)) below

-- the table has the range of each edit of the queue's first batch
pub first_inside : (past : Past) (queue : List Entry) (held : Option Work) (parts : List Part) (runs : List (Option ReaderRun)) (e : Entry)
    → IsWorld past queue held parts runs → 0 < length queue → e ≡ get_or queue 0 e → AllByRecursion (λ x. range_of x < length parts) e.batch
first_inside past [] held parts runs e is some first = absurd (omega (arith, some))
first_inside past (x ∷ rest) held parts runs e is some first =
    subst (λ (y : Entry). AllByRecursion (λ z. range_of z < length parts) y.batch) (sym first)
    (in_ranges (graph_of past).vertex_count (length parts) x.batch (λ r. (is.published.ranges r).1) (below_in_graph past x.batch is.waiting.0))

pub world_taken : (past : Past) (e : Entry) (rest : List Entry) (held : Option Work) (parts : List Part) (runs : List (Option ReaderRun))
    → IsWorld past (e ∷ rest) held parts runs → IsWorld past rest (Some (record { entry = e; done = []; parts = parts })) parts runs
world_taken past e rest held parts runs is = record {
  some = is.some;
  most = is.most;
  past_is = is.past_is;
  published = is.published;
  waiting = is.waiting.1;
  work = record { below = is.waiting.0; table = table_begun (graph_of past) e.batch parts is.published };
  places = is.places;
  each = is.each;
}

-- the first and the rest, by what was read and what was left
pub queue_split : (queue rest : List Entry) (e : Entry) → 0 < length queue → e ≡ get_or queue 0 e → rest ≡ drop 1 queue → queue ≡ e ∷ rest
queue_split [] rest e some first left = absurd (omega (arith, some))
queue_split (x ∷ xs) rest e some first left = λ i. sym first i ∷ sym left i

-- ---- a range is done

pub held_editable : (past : Past) (queue : List Entry) (w : Work) (parts : List Part) (runs : List (Option ReaderRun)) (range : ℕ)
    → IsWorld past queue (Some w) parts runs → is_open (holding_of w) range ≡ true → IsEditable range w
held_editable past queue w parts runs range is able = record {
  graph = graph_of past;
  small = subst (λ n. n ≤ MOST_VERTICES) (sym (vertex_count-graph_of past)) is.most;
  below = below_in_graph past w.entry.batch is.work.below;
  table = is.work.table;
  still_open = able;
}

pub world_edited : (past : Past) (queue : List Entry) (w next : Work) (parts : List Part) (runs : List (Option ReaderRun)) (range : ℕ)
    → IsWorld past queue (Some w) parts runs → IsWorkAfter range w next → IsWorld past queue (Some next) parts runs
world_edited past queue w next parts runs range is done = record {
  some = is.some;
  most = is.most;
  past_is = is.past_is;
  published = is.published;
  waiting = is.waiting;
  work = record {
    below = subst (λ (e : Entry). AreEditsBelow past.vertex_count e.batch) (sym done.entry) is.work.below;
    table = subst (λ (e : Entry). IsTableInWork (graph_of past) e.batch next.done next.parts) (sym done.entry) (done.table (graph_of past) (below_in_graph past w.entry.batch is.work.below) is.work.table);
  };
  places = is.places;
  each = is.each;
}

-- ---- the held batch is published

pub world_published : (past : Past) (queue : List Entry) (w : Work) (parts : List Part) (runs : List (Option ReaderRun))
    → IsWorld past queue (Some w) parts runs → is_whole (holding_of w) ≡ true → IsWorld (longer past w.entry) queue None w.parts runs
world_published past queue w parts runs is whole = record {
  some = is.some;
  most = is.most;
  past_is = IsPast-longer past w.entry is.past_is is.work.below;
  published = subst (λ g. IsTable g w.parts) (sym (graph_of-longer past w.entry)) (table_whole (graph_of past) w.entry.batch w.done w.parts whole is.work.table);
  waiting = is.waiting;
  work = tt;
  places = is.places;
  each = is.each;
}

pub core_published : (past : Past) (queue : List Entry) (w : Work) (runs : List (Option ReaderRun))
    → core_of (longer past w.entry) queue None runs ≡ after (core_of past queue (Some w) runs) Publish Done
core_published past queue w runs = refl

-- ---- a rebase

still_editable : (past : Past) (held : Option Work) → IsPast past → MatchOption held (Unit {0}) (IsWorkIn past) → MatchOption held (Unit {0}) (IsWorkIn (rebased past))
still_editable past None is work = tt
still_editable past (Some w) is work = record {
  below = work.below;
  table = subst (λ g. IsTableInWork g w.entry.batch w.done w.parts) (sym (graph_of-rebased past is)) work.table;
}

pub world_rebased : (past : Past) (queue : List Entry) (held : Option Work) (parts : List Part) (runs : List (Option ReaderRun))
    → IsWorld past queue held parts runs → IsWorld (rebased past) queue held parts runs
world_rebased past queue held parts runs is = record {
  some = is.some;
  most = is.most;
  past_is = IsPast-rebased past is.past_is;
  published = subst (λ g. IsTable g parts) (sym (graph_of-rebased past is.past_is)) is.published;
  waiting = is.waiting;
  work = still_editable past held is.past_is is.work;
  places = is.places;
  each = is.each;
}

-- ---- what the history has more

pub past_at-batch : (n : ℕ) (k : Beginning) (e : Entry) → past_at n (and_then k (OneBatch e)) ≡ longer (past_at n k) e
past_at-batch n k e = ap (λ (p : Past). record p { vertex_count = n }) (after_all-append (opening n) k.published (OneBatch e ∷ []))

pub past_at-rebase : (n : ℕ) (k : Beginning) → past_at n (and_then k OneRebase) ≡ rebased (past_at n k)
past_at-rebase n k =
    let p : Past = (moment_of n k).past in
    let count : p.vertex_count ≡ n = vertex_count-moment_of n k in
    let same : record p { vertex_count = n } ≡ p = λ i. record p { vertex_count = sym count i } in
    let last : record (rebased p) { vertex_count = n } ≡ rebased p = λ i. record (rebased p) { vertex_count = sym count i } in
    ap (λ (q : Past). record q { vertex_count = n }) (after_all-append (opening n) k.published (OneRebase ∷ [])) ∙ last ∙ ap rebased (sym same)

-- ---- a reader's run is put in its place

set_place : {X : Type 0} (xs : List (Option X)) (place reader : ℕ) (x y : X) → get_or (set xs place (Some x)) reader None ≡ Some y → (x ≡ y) ⊎ (get_or xs reader None ≡ Some y)
set_place [] place reader x y e = inr e
set_place (o ∷ xs) zero zero x y e = inl (same_Some x y e)
set_place (o ∷ xs) zero (suc reader) x y e = inr e
set_place (o ∷ xs) (suc place) zero x y e = inr e
set_place (o ∷ xs) (suc place) (suc reader) x y e = set_place xs place reader x y e

world_with_run : (past : Past) (queue : List Entry) (held : Option Work) (parts : List Part) (runs : List (Option ReaderRun)) (place : ℕ) (r : ReaderRun)
    → IsWorld past queue held parts runs → IsRunIn past.vertex_count r → IsWorld past queue held parts (set runs place (Some r))
world_with_run past queue held parts runs place r is run = record {
  some = is.some;
  most = is.most;
  past_is = is.past_is;
  published = is.published;
  waiting = is.waiting;
  work = is.work;
  places = length-set runs place (Some r) ∙ is.places;
  each = λ reader other e. elim (set_place runs place reader r other e) [ inl same ↦ subst (IsRunIn past.vertex_count) same run | inr old ↦ is.each reader other old ];
}

-- a run that begins now
abbrev pub new_run : Beginning → ℕ → List Part → ReaderRun
new_run k vertex parts = record { known = k; vertex = vertex; place = 0; ended = false; table = parts }

pub world_pinned : (n : ℕ) (k : Beginning) (queue : List Entry) (held : Option Work) (parts : List Part) (runs : List (Option ReaderRun)) (reader vertex : ℕ)
    → IsWorld (past_at n k) queue held parts runs → IsWorld (past_at n k) queue held parts (set runs reader (Some (new_run k vertex parts)))
world_pinned n k queue held parts runs reader vertex is =
    world_with_run (past_at n k) queue held parts runs reader (new_run k vertex parts) is record { table = is.published; within = omega arith }

abbrev with_run : Core → ℕ → Run → Core
with_run s reader run = record s { runs = set s.runs reader (Some run) }

pub core_pinned : (n : ℕ) (k : Beginning) (queue : List Entry) (held : Option Work) (parts : List Part) (runs : List (Option ReaderRun)) (reader vertex : ℕ)
    → core_of (past_at n k) queue held (set runs reader (Some (new_run k vertex parts))) ≡ after (core_of (past_at n k) queue held runs) (Pin reader vertex) Done
core_pinned n k queue held parts runs reader vertex =
    ap (λ l. record (core_of (past_at n k) queue held runs) { runs = l }) (map-set (option_map (run_in n)) runs reader (Some (new_run k vertex parts)))

-- ---- a reader's run is lent more

get_or-runs : (f : ReaderRun → Run) (runs : List (Option ReaderRun)) (reader : ℕ) → get_or (map (option_map f) runs) reader None ≡ option_map f (get_or runs reader None)
get_or-runs f [] reader = refl
get_or-runs f (o ∷ runs) zero = refl
get_or-runs f (o ∷ runs) (suc reader) = get_or-runs f runs reader

some_inside : {X : Type 0} (xs : List (Option X)) (i : ℕ) → is_some (get_or xs i None) ≡ true → i < length xs
some_inside [] i h = absurd (false≢true h)
some_inside (x ∷ xs) zero h = omega arith
some_inside (x ∷ xs) (suc i) h = (let rest = some_inside xs i h in omega arith)

-- a reader that has a run has a place
pub run_inside : (past : Past) (queue : List Entry) (held : Option Work) (runs : List (Option ReaderRun)) (reader : ℕ) → can (core_of past queue held runs) (Lend reader) ≡ true → reader < length runs
run_inside past queue held runs reader able = some_inside runs reader (sym (is_some-option_map (run_in past.vertex_count) (get_or runs reader None)) ∙ ap is_some (sym (get_or-runs (run_in past.vertex_count) runs reader)) ∙ able)
  where
    is_some-option_map : (f : ReaderRun → Run) (o : Option ReaderRun) → is_some (option_map f o) ≡ is_some o
    is_some-option_map f None = refl
    is_some-option_map f (Some r) = refl

pub lendable : (past : Past) (queue : List Entry) (held : Option Work) (parts : List Part) (runs : List (Option ReaderRun)) (reader : ℕ) (r : ReaderRun)
    → IsWorld past queue held parts runs → get_or runs reader None ≡ Some r → IsLendable r
lendable past queue held parts runs reader r is has = record { vertices = past.vertex_count; small = is.most; is = is.each reader r has }

pub world_lent : (past : Past) (queue : List Entry) (held : Option Work) (parts : List Part) (runs : List (Option ReaderRun)) (reader : ℕ) (r next : ReaderRun) (reply : Reply)
    → IsWorld past queue held parts runs → get_or runs reader None ≡ Some r → IsLent past.vertex_count r reply next → IsWorld past queue held parts (set runs reader (Some next))
world_lent past queue held parts runs reader r next reply is has lent =
    world_with_run past queue held parts runs reader next is (lent.still (is.each reader r has))

run_has : (past : Past) (runs : List (Option ReaderRun)) (reader : ℕ) (r : ReaderRun) → get_or runs reader None ≡ Some r → get_or (map (option_map (run_in past.vertex_count)) runs) reader None ≡ Some (run_in past.vertex_count r)
run_has past runs reader r has = get_or-runs (run_in past.vertex_count) runs reader ∙ ap (option_map (run_in past.vertex_count)) has

pub answers_lent : (past : Past) (queue : List Entry) (held : Option Work) (parts : List Part) (runs : List (Option ReaderRun)) (reader : ℕ) (r next : ReaderRun) (reply : Reply)
    → IsWorld past queue held parts runs → get_or runs reader None ≡ Some r → IsLent past.vertex_count r reply next → Answers (core_of past queue held runs) (Lend reader) reply
answers_lent past queue held parts runs reader r next reply is has lent =
    subst (λ o. MatchOption o ⊥ (λ run. Lends (words_of run) run.lent reply)) (sym (run_has past runs reader r has)) (lent.answer (is.each reader r has))

pub core_lent : (past : Past) (queue : List Entry) (held : Option Work) (parts : List Part) (runs : List (Option ReaderRun)) (reader : ℕ) (r next : ReaderRun) (reply : Reply)
    → IsWorld past queue held parts runs → get_or runs reader None ≡ Some r → IsLent past.vertex_count r reply next → core_of past queue held (set runs reader (Some next)) ≡ after (core_of past queue held runs) (Lend reader) reply
core_lent past queue held parts runs reader r next reply is has lent =
    ap (λ l. record (core_of past queue held runs) { runs = l }) (map-set (option_map (run_in past.vertex_count)) runs reader (Some next))
    ∙ ap (λ run. with_run (core_of past queue held runs) reader run) (lent.run (is.each reader r has))
    ∙ ap (λ o. record (core_of past queue held runs) { runs = set (map (option_map (run_in past.vertex_count)) runs) reader (option_map (after_lend reply) o) }) (sym (run_has past runs reader r has))

-- ---- calls that may have failed

pub world_after_part : {E : Type 0} (past : Past) (queue : List Entry) (w next : Work) (parts : List Part) (runs : List (Option ReaderRun)) (range : ℕ) (result : Result (Unit {0}) E)
    → IsWorld past queue (Some w) parts runs → OnOk result (IsWorkAfter range w next) → OnErr result (next ≡ w) → IsWorld past queue (Some next) parts runs
world_after_part past queue w next parts runs range (Ok u) is done same = world_edited past queue w next parts runs range is done
world_after_part past queue w next parts runs range (Err e) is done same = subst (λ x. IsWorld past queue (Some x) parts runs) (sym same) is

pub world_after_lend : {E : Type 0} (past : Past) (queue : List Entry) (held : Option Work) (parts : List Part) (runs : List (Option ReaderRun)) (reader : ℕ) (r next : ReaderRun) (result : Result Reply E)
    → IsWorld past queue held parts runs → get_or runs reader None ≡ Some r → IfOk result (λ reply. (n : ℕ) → IsLent n r reply next) → OnErr result (next ≡ r) → IsWorld past queue held parts (set runs reader (Some next))
world_after_lend past queue held parts runs reader r next (Ok reply) is has lent same = world_lent past queue held parts runs reader r next reply is has (lent past.vertex_count)
world_after_lend past queue held parts runs reader r next (Err e) is has lent same =
    world_with_run past queue held parts runs reader next is (subst (IsRunIn past.vertex_count) (sym same) (is.each reader r has))

pub answers_after_lend : {E : Type 0} (past : Past) (queue : List Entry) (held : Option Work) (parts : List Part) (runs : List (Option ReaderRun)) (reader : ℕ) (r next : ReaderRun) (result : Result Reply E)
    → IsWorld past queue held parts runs → get_or runs reader None ≡ Some r → IfOk result (λ reply. (n : ℕ) → IsLent n r reply next)
    → IfOk result (λ reply. Answers (core_of past queue held runs) (Lend reader) reply)
answers_after_lend past queue held parts runs reader r next (Ok reply) is has lent = answers_lent past queue held parts runs reader r next reply is has (lent past.vertex_count)
answers_after_lend past queue held parts runs reader r next (Err e) is has lent = tt

pub core_after_lend : {E : Type 0} (past : Past) (queue : List Entry) (held : Option Work) (parts : List Part) (runs : List (Option ReaderRun)) (reader : ℕ) (r next : ReaderRun) (result : Result Reply E)
    → IsWorld past queue held parts runs → get_or runs reader None ≡ Some r → IfOk result (λ reply. (n : ℕ) → IsLent n r reply next)
    → IfOk result (λ reply. core_of past queue held (set runs reader (Some next)) ≡ after (core_of past queue held runs) (Lend reader) reply)
core_after_lend past queue held parts runs reader r next (Ok reply) is has lent = core_lent past queue held parts runs reader r next reply is has (lent past.vertex_count)
core_after_lend past queue held parts runs reader r next (Err e) is has lent = tt

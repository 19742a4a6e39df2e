-- Laws of handles and their calls. Each is the contract of a public function.
use Rattle.std.specs.Prelude.{◌≡◌, ℕ, ◌<◌, Bool, true, false, List, [], ◌∷◌, ◌++◌, length, filter, Option, Some, None, ◌==◌}
use Rattle.past_model.specs.declared.edit.Edit.{Edit}
use Rattle.past_model.specs.declared.entry.Entry.{Entry}
use Rattle.graph_model.specs.Graph.{neighbours}
use Rattle.past_model.specs.Edits.{AreEditsBelow}
use Rattle.past_model.specs.Past.{Past, graph_of, longer}
use Rattle.past_model.specs.declared.limits.TheConstants.{FEEDS}
use Rattle.past_model.specs.Epochs.{IsBefore, rebased}
use Rattle.store_model.specs.declared.event.Event.{Event}
use Rattle.store_model.specs.declared.event.Event.TheVariants.{Submit, Take, Part, Publish, Rebase, Pin, Lend}
use Rattle.store_model.specs.declared.reply.Reply.{Reply}
use Rattle.store_model.specs.Core.{Core, run_of}
use Rattle.store_model.specs.Events.{IsBeginning, Steps, Ran}
use Rattle.handle_model.specs.Sights.{FeedSees, PublisherSees, CursorSees}
use Rattle.handle_model.specs.Calls.{IsSubmission, IsPublication, IsRebase, IsTaking, IsPin, IsLend, IsNext, AreRangesOf, publication, is_of_reader, new_run, with_run}

-- a batch of a feed that there is, whose edits name vertices, is the next that the feed has sent
abbrev pub SubmissionsAre : Type 0
SubmissionsAre =
    (n feed : ℕ) (batch : List Edit) (sent : List Entry) → feed < FEEDS → AreEditsBelow n batch
    → IsSubmission n feed batch sent (sent ++ (record { feed = feed; batch = batch }) ∷ [])

-- what is published is longer by the next batch
abbrev pub PublicationsAre : Type 0
PublicationsAre = (past : Past) (held : Option Entry) (e : Entry) → IsPublication past held e (longer past e)

-- a rebase keeps what is held and what waits
abbrev pub RebasesAre : Type 0
RebasesAre = (past : Past) (held : Option Entry) → IsRebase past held (rebased past)

-- each batch has such ranges
abbrev pub RangesAre : Type 0
RangesAre = (batch : List Edit) → (ranges : List ℕ) × AreRangesOf batch ranges

-- what is held before stays the next, and nothing is published
abbrev pub TakingsAre : Type 0
TakingsAre = (past : Past) (held : Option Entry) (e : Entry) → IsTaking past held e past

-- the version that was seen, and one that it is before, can be pinned, and the cursor has all neighbours of its vertex to lend
abbrev pub PinsAre : Type 0
PinsAre =
    ((seen pinned : Past) → IsBefore seen pinned → IsPin seen pinned)
    × ((s : Core) (reader vertex : ℕ) (past : Past) → reader < length s.runs
    → CursorSees (with_run s reader (new_run past vertex)) reader past vertex (neighbours (graph_of past) vertex))

-- a slice that begins what is left, and the end where nothing is left
abbrev pub LendsAre : Type 0
LendsAre =
    ((past : Past) (vertex : ℕ) (slice rest : List ℕ) → 0 < length slice → IsLend past vertex (slice ++ rest) (Some slice) rest)
    × ((past : Past) (vertex : ℕ) → IsLend past vertex [] None [])

abbrev pub is_submission_of : ℕ → Event → Bool
is_submission_of feed (Submit by batch) = by == feed
is_submission_of feed Take = false
is_submission_of feed (Part range) = false
is_submission_of feed Publish = false
is_submission_of feed Rebase = false
is_submission_of feed (Pin reader vertex) = false
is_submission_of feed (Lend reader) = false

abbrev pub is_of_publisher : Event → Bool
is_of_publisher Take = true
is_of_publisher (Part range) = true
is_of_publisher Publish = true
is_of_publisher Rebase = true
is_of_publisher (Submit feed batch) = false
is_of_publisher (Pin reader vertex) = false
is_of_publisher (Lend reader) = false

-- an event of others changes nothing of what a handle sees; and batches that wait are only taken by the publisher
pub record OthersLeave (s : Core) (event : Event) (t : Core) : Type 0 where
  pub count : t.past.vertex_count ≡ s.past.vertex_count
  pub of_feeds : (n feed : ℕ) (sent : List Entry) → feed < FEEDS → is_submission_of feed event ≡ false → FeedSees s n feed sent
      → FeedSees t n feed sent
  pub of_publisher : is_of_publisher event ≡ false → (t.past ≡ s.past) × (t.held ≡ s.held) × IsBeginning s.queue t.queue
  pub of_readers : (reader : ℕ) → is_of_reader reader event ≡ false → run_of t reader ≡ run_of s reader

abbrev pub EachToItsOwn : Type 0
EachToItsOwn = (s t : Core) (event : Event) (reply : Reply) → Steps s event reply t → OthersLeave s event t

-- a publication whose events come among those of others, refused or not: what is published is longer by the same batch
abbrev pub WovenPublications : Type 0
WovenPublications =
    (past : Past) (held : Option Entry) (e : Entry) (s t : Core) (ranges : List ℕ) (events : List Event) (replies : List Reply)
    → PublisherSees s past held → IsNext s held e → AreRangesOf e.batch ranges
    → filter is_of_publisher events ≡ publication held ranges → Ran s events replies t → PublisherSees t (longer past e) None

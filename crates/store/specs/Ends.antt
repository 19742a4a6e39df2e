-- What is known of the two kinds of ends of a queue: feeds put batches in, and one end takes them out.
use Rattle.std.specs.Prelude.{◌≡◌, ℕ, ◌+◌, ◌%◌, ◌^◌, ◌≤◌, List, [], ◌∷◌, ◌++◌, length, map}
use Rattle.atomic_table.specs.Seated.{TableId}
use Rattle.graph_model.specs.Graph.{numbers_below}
use Rattle.past_model.specs.declared.edit.Edit.{Edit}
use Rattle.past_model.specs.declared.entry.Entry.{Entry}
use Rattle.past_model.specs.declared.limits.TheConstants.{FEEDS}
use Rattle.store_model.specs.declared.limits.TheConstants.{QUEUE_PLACES}
use Rattle.past_model.specs.Past.{of_feed}

-- a feed: how many vertices its edits are about, what it has put, in order, how often it was refused, and which queue
-- it puts into
pub record Feeding : Type 0 where
  pub vertex_count : ℕ
  pub feed : ℕ
  pub sent : List Entry
  pub refused : ℕ
  pub queue : TableId

-- the taking end: how many vertices the edits are about, what it has taken, in order, how often it found nothing, and
-- which queue it takes from
pub record Taking : Type 0 where
  pub vertex_count : ℕ
  pub taken : List Entry
  pub empties : ℕ
  pub queue : TableId

abbrev pub feeding : ℕ → ℕ → List Entry → ℕ → TableId → Feeding
feeding n feed sent refused queue = record { vertex_count = n; feed = feed; sent = sent; refused = refused; queue = queue }

abbrev pub taking : ℕ → List Entry → ℕ → TableId → Taking
taking n taken empties queue = record { vertex_count = n; taken = taken; empties = empties; queue = queue }

-- a feed and a taking end that have done nothing
abbrev pub new_feed : ℕ → ℕ → TableId → Feeding
new_feed n feed queue = feeding n feed [] 0 queue

-- all feeds, from A on
abbrev pub new_feeds : ℕ → TableId → List Feeding
new_feeds n queue = map (λ feed. new_feed n feed queue) (numbers_below FEEDS)

-- a feed as it was before it did anything
abbrev pub as_new : Feeding → Feeding
as_new s = new_feed s.vertex_count s.feed s.queue

abbrev pub new_taking : ℕ → TableId → Taking
new_taking n queue = taking n [] 0 queue

-- a counter of 64 bits, one further
abbrev pub one_more : ℕ → ℕ
one_more n = (n + 1) % 2 ^ 64

-- the feed has put a batch
abbrev pub after_put : Feeding → List Edit → Feeding
after_put s batch = record s { sent = s.sent ++ (record { feed = s.feed; batch = batch }) ∷ [] }

-- it was refused
abbrev pub after_refusal : Feeding → Feeding
after_refusal s = record s { refused = one_more s.refused }

-- an entry was taken
abbrev pub after_pop : Taking → Entry → Taking
after_pop t e = record t { taken = t.taken ++ e ∷ [] }

-- nothing was found
abbrev pub after_nothing : Taking → Taking
after_nothing t = record t { empties = one_more t.empties }

-- it is the feed of this number at this queue, over so many vertices
abbrev pub IsFeedOf : ℕ → TableId → ℕ → Feeding → Type 0
IsFeedOf n queue feed s = (s.vertex_count ≡ n) × (s.queue ≡ queue) × (s.feed ≡ feed)

-- at some moment the queue held as many batches as it may, and these and what was taken before were, of the
-- feed, all that it had put. Nothing that an end sees later can show that this was not so: other threads put and took at
-- that moment, too
pub record WasFull (s : Feeding) : Type 0 where
  pub taken : List Entry
  pub items : List Entry
  pub full : length items ≡ QUEUE_PLACES
  pub all : of_feed s.feed (taken ++ items) ≡ s.sent

-- at some moment the queue held nothing: all that the feeds had put was taken. Nothing that an end sees later can show that
-- this was not so: a feed may have put a batch a moment after it
pub record WasEmpty (t : Taking) : Type 0 where
  pub sent : ℕ → List Entry
  pub all : (feed : ℕ) → of_feed feed t.taken ≡ sent feed
  pub no_other : (feed : ℕ) → FEEDS ≤ feed → sent feed ≡ []

-- What the passes of the queue know.
use Rattle.std.specs.Prelude.{ℕ, true, false, List, [], ◌∷◌, ◌++◌}
use Rattle.past_model.specs.declared.entry.Entry.{Entry}
use Rattle.store.specs.declared.queue.queue_view.QueueView.{QueueView}

-- a pass that may do nothing
abbrev pub spent_view : QueueView
spent_view =
    record { opens = false; waits = false; vertex_count = 0; takes = false; taken = []; made = 0; ended = []; feeds = false; feed = 0; sent = [] }

-- the only pass, before it is known how many vertices the edits are about
abbrev pub newcomer : QueueView
newcomer = record spent_view { opens = true }

-- the only pass, which has said so
abbrev pub opener : ℕ → QueueView
opener n = record spent_view { waits = true; vertex_count = n }

-- the pass that takes: what it took, how many feeds it made, and what those put that it took in again, from feed 0 on
abbrev pub taker : ℕ → List Entry → ℕ → List (List Entry) → QueueView
taker n taken made ended = record spent_view { vertex_count = n; takes = true; taken = taken; made = made; ended = ended }

-- a feed's pass: what it put
abbrev pub feeder : ℕ → ℕ → List Entry → QueueView
feeder n feed sent = record spent_view { vertex_count = n; feeds = true; feed = feed; sent = sent }

-- the pass that takes, once it has taken in what the next feed put
abbrev pub after_end : QueueView → List Entry → QueueView
after_end v sent = taker v.vertex_count v.taken v.made (v.ended ++ sent ∷ [])

-- A command that was performed, or was not.
use Rattle.std.specs.Prelude.{◌≡◌, ◌⊎◌, Some, None, Result, Ok, Err, ⊤}
use Rattle.past_model.specs.declared.entry.Entry.{Entry}
use Rattle.session_model.specs.Session.{Session}
use Rattle.session_model.specs.Commands.{Command, PublishBatch, Answer, BatchPublished, PinTaken, HomeReported, Rebased}
use Rattle.session_model.specs.Responses.{Response, Answers, Fails}
use Rattle.session.specs.declared.answer.Answer.{Answer as GivenAnswer}
use Rattle.session.specs.declared.error.CommandError.{CommandError}
use Rattle.session.specs.declared.error.CommandError.TheVariants as errors
use Rattle.session.specs.Kept.{answer_of}

-- only the store gives these answers: a batch that is published, a pin on the last version, a home in it, a rebase of it
abbrev pub IsAskedOfStore : Answer → Type 0
IsAskedOfStore (BatchPublished feed number gained lost) = ⊤
IsAskedOfStore (PinTaken name number edges) = ⊤
IsAskedOfStore (HomeReported vertex home degree) = ⊤
IsAskedOfStore (Rebased epoch edges) = ⊤
IsAskedOfStore answer = ⊥

abbrev pub IsOfStore : Response → Type 0
IsOfStore (Answers answer s) = IsAskedOfStore answer
IsOfStore (Fails fault) = ⊥

abbrev pub HandsInBatch : Command → Type 0
HandsInBatch (PublishBatch feed edits) = ⊤
HandsInBatch command = ⊥

-- the session is as it was, but that a batch may be held where none was: one that its store has taken
abbrev pub IsAsItWas : (old new : Session) → Type 0
IsAsItWas old new = (new ≡ old) ⊎ ((old.held ≡ None) × ((e : Entry) × (new ≡ record old { held = Some e })))

-- the store gave no such answer as it should: for a batch none is held, so none is for lack of memory or of a worker; for a pin,
-- a home or a rebase the session is as it was
abbrev pub IsUnanswered : Answer → (old new : Session) → Type 0
IsUnanswered (BatchPublished feed number gained lost) old new = new.held ≡ None
IsUnanswered answer old new = new ≡ old

abbrev pub IsDenied : Response → (old new : Session) → Type 0
IsDenied (Answers answer s) old new = IsAskedOfStore answer × IsUnanswered answer old new
IsDenied (Fails fault) old new = ⊥

-- the answer is the response's, and leads to its session; or the fault is the response's, and the session is as it was. Where
-- there is no memory or no worker, it is as it was, but that a batch may be held where none was. Where the store does not answer as it should,
-- the response would have been an answer that only it gives: of a batch, and none is held; else the session is as it was.
abbrev pub Performs : Response → Result GivenAnswer CommandError → (old new : Session) → Type 0
Performs response (Ok answer) old new = response ≡ Answers (answer_of answer) new
Performs response (Err (errors.Fault fault)) old new = (response ≡ Fails fault) × (new ≡ old)
Performs response (Err errors.OutOfMemory) old new = IsAsItWas old new
Performs response (Err errors.WorkerRefused) old new = IsAsItWas old new
Performs response (Err errors.Store) old new = IsDenied response old new

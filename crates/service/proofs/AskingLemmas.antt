-- How the bytes that are read come to a line whose answer only the store gives.
use Rattle.std.proofs.Common.{◌≡◌, ◌+◌, ℕ, List, [], ◌∷◌, ◌++◌, take, drop, Option, None, refl, sym, subst}
use Rattle.std.specs.Prelude.{Result, Ok, Err, IsErrAnd}
use Rattle.std.specs.Io.KnownBytes.{Consumes}
use Rattle.std.proofs.lemmas.List.{append-nil}
use Rattle.script_model.specs.State.{Script}
use Rattle.script_model.specs.Execution.{execution}
use Rattle.script.specs.declared.error.ScriptError.{ScriptError}
use Rattle.script.specs.declared.error.ScriptError.TheVariants as script_errors
use Rattle.script.specs.Executes.{AsksStore, OnStore as OnScriptStore}
use Rattle.service.specs.declared.serve_error.ServeError.{ServeError}
use Rattle.service.specs.declared.serve_error.ServeError.TheVariants as errors
use Rattle.service.specs.Asking.{Asks, AsksBy, OnStore}
use Rattle.service.specs.Served.{Served, Serving, IsLine, IsOneLine}
use Rattle.service.specs.Stand.{Stand}
use Rattle.service.specs.Rounds.{IsWritten, serve_error_of}
use Rattle.service.proofs.Following.{served_more}
use Rattle.service.proofs.KnownLemmas.{consumes_more}

-- ---- the line

-- the first line of some bytes, with its end
pub asks_first : (s : Script) (bytes : List ℕ) (k : ℕ) → IsLine bytes k → AsksStore (execution s (take k bytes)) → Asks s bytes
asks_first s bytes k line asks read said h = record {
  said = said;
  script = s;
  line = take k bytes;
  behind = 10 ∷ drop (k + 1) bytes;
  served = subst (λ (left : List ℕ). Served read said s left) line.1 h;
  one = line.0;
  ended = refl;
  asks = asks;
}

-- the last line, which lacks its end
pub asks_last : (s : Script) (bytes : List ℕ) → IsOneLine bytes → AsksStore (execution s bytes) → Asks s bytes
asks_last s bytes one asks read said h = record {
  said = said;
  script = s;
  line = bytes;
  behind = [];
  served = subst (λ (left : List ℕ). Served read said s left) (sym (append-nil bytes)) h;
  one = one;
  ended = tt;
  asks = asks;
}

-- after lines that are executed
pub asks_after : (old mid : Script) (bytes left text said : List ℕ) → Serving old mid bytes left text said → Asks mid left → Asks old bytes
asks_after old mid bytes left text said serving asks read before h =
    let n = serving read before h in
    asks read (before ++ n.0) n.2

-- after lines that are executed and written
pub asks_written : (old mid : Stand) (kept holds : Option (List ℕ)) → ((read : List ℕ) (held : Option (List ℕ)) → IsWritten read held kept old → IsWritten read held holds mid) → Asks mid.script mid.pending → Asks old.script old.pending
asks_written old mid kept holds goes asks read said h =
    let wrote = goes read None (said, tt, h) in
    asks read wrote.0 wrote.2

-- ---- between two reads

pub asks_read : (was has kept : Option (List ℕ)) (more : List ℕ) (old mid : Stand) → mid.script ≡ old.script → mid.pending ≡ old.pending ++ more → Consumes was has more → Asks mid.script mid.pending → AsksBy was has kept old
asks_read was has kept more old mid script pending took_more asks had held (read, took, (said, wrote, h)) =
    let next : Served (read ++ more) said mid.script mid.pending = rw (script, pending) (served_more read said old.script old.pending more h) in
    (read ++ more, consumes_more had was has read more took took_more, asks (read ++ more) said next)

-- nothing more is read
pub asks_unread : (was has kept : Option (List ℕ)) (count : ℕ) (block : List ℕ) (old : Stand) → count ≡ 0 → Consumes was has (take count block) → Asks old.script old.pending → AsksBy was has kept old
asks_unread was has kept count block old none took_none asks had held (read, took, (said, wrote, h)) =
    let nothing : Consumes was has [] = subst (λ (n : ℕ). Consumes was has (take n block)) none took_none in
    let took_all : Consumes had has read = subst (λ (bytes : List ℕ). Consumes had has bytes) (append-nil read) (consumes_more had was has read [] took nothing) in
    (read, took_all, asks read said h)

-- ---- errors that are passed on

pub script_passed : {A B : Type 0} (a : Result A ScriptError) (r : Result B ScriptError) (e : ScriptError) (P Q : Type 0) → a ≡ Err e → IsErrAnd r (λ (x : ScriptError). x ≡ e) → (P → Q) → OnScriptStore a P → OnScriptStore r Q
script_passed a (Ok x) e P Q is same go h = absurd same
script_passed a (Err x) script_errors.OutOfMemory P Q is same go h = rw same tt
script_passed a (Err x) script_errors.WorkerRefused P Q is same go h = rw same tt
script_passed a (Err x) script_errors.Store P Q is same go h = rw same (go (rw is at h))

-- a script's error as one of serving it
pub served_passed : {A B : Type 0} (a : Result A ScriptError) (r : Result B ServeError) (e : ScriptError) (P Q : Type 0) → a ≡ Err e → IsErrAnd r (λ (x : ServeError). x ≡ serve_error_of e) → (P → Q) → OnScriptStore a P → OnStore r Q
served_passed a (Ok x) e P Q is same go h = absurd same
served_passed a (Err x) script_errors.OutOfMemory P Q is same go h = rw same tt
served_passed a (Err x) script_errors.WorkerRefused P Q is same go h = rw same tt
served_passed a (Err x) script_errors.Store P Q is same go h = rw same (go (rw is at h))

pub passed_on : {A B : Type 0} (a : Result A ServeError) (r : Result B ServeError) (e : ServeError) (P Q : Type 0) → a ≡ Err e → IsErrAnd r (λ (x : ServeError). x ≡ e) → (P → Q) → OnStore a P → OnStore r Q
passed_on a (Ok x) e P Q is same go h = absurd same
passed_on a (Err x) errors.Read P Q is same go h = rw same tt
passed_on a (Err x) errors.Write P Q is same go h = rw same tt
passed_on a (Err x) errors.OutOfMemory P Q is same go h = rw same tt
passed_on a (Err x) errors.WorkerRefused P Q is same go h = rw same tt
passed_on a (Err x) errors.Store P Q is same go h = rw same (go (rw is at h))

pub on_store : {A : Type 0} (r : Result A ServeError) (P Q : Type 0) → (P → Q) → OnStore r P → OnStore r Q
on_store (Ok x) P Q go h = tt
on_store (Err errors.Read) P Q go h = tt
on_store (Err errors.Write) P Q go h = tt
on_store (Err errors.OutOfMemory) P Q go h = tt
on_store (Err errors.WorkerRefused) P Q go h = tt
on_store (Err errors.Store) P Q go h = go h

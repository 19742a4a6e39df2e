-- A reader's run that is lent more.
use Rattle.std.proofs.Common.{◌≡◌, ℕ, ◌+◌, ◌<◌, ◌≤◌, List, [], ◌++◌, Vec, length, take, drop, true, refl, sym, ap, ◌∙◌, append_assoc, append-nil, length-append, take_at, arith}
use Rattle.std.specs.declared.alloc.Global.{Global}
use Rattle.std.proofs.lemmas.List.{take-append-drop, length-take-le}
use Rattle.past_model.specs.declared.limits.TheConstants.{MOST_VERTICES}
use Rattle.past_model.specs.Past.{graph_of}
use Rattle.graph_model.proofs.Neighbours.{length-neighbours}
use Rattle.past_model.proofs.Pasts.{vertex_count-graph_of}
use Rattle.store_model.specs.declared.reply.Reply.TheVariants.{Slice, End}
use Rattle.store_model.specs.Core.{Run}
use Rattle.store_model.specs.Events.{IsBeginning}
use Rattle.stream_core.specs.declared.reader_run.ReaderRun.{ReaderRun}
use Rattle.stream_core.specs.Runs.{words_in, version_of, IsRunIn, IsLent}

none_left : (place : ℕ) (all : List ℕ) → drop place all ≡ [] → take place all ≡ all
none_left place all none =
    sym (append-nil (take place all)) ∙ ap (λ l. take place all ++ l) (sym none) ∙ take-append-drop place all

parted : (place : ℕ) (all words rest : List ℕ) → drop place all ≡ words ++ rest → all ≡ (take place all ++ words) ++ rest
parted place all words rest is =
    sym (take-append-drop place all) ∙ ap (λ l. take place all ++ l) is ∙ sym (append_assoc (take place all) words rest)

lent_length : (place : ℕ) (all words : List ℕ) → place ≤ length all → length (take place all ++ words) ≡ place + length words
lent_length place all words within = omega (arith, length-append (take place all) words, length-take-le place all within)

more_within : (place : ℕ) (all words rest : List ℕ) → place ≤ length all → drop place all ≡ words ++ rest → place + length words ≤ length all
more_within place all words rest within is =
    omega (arith, ap length (parted place all words rest is), length-append (take place all ++ words) rest, lent_length place all words within)

more_lent : (place : ℕ) (all words rest : List ℕ) → place ≤ length all → drop place all ≡ words ++ rest → take (place + length words) all ≡ take place all ++ words
more_lent place all words rest within is =
    ap (take (place + length words)) (parted place all words rest is)
    ∙ take_at (take place all ++ words) rest (place + length words) (lent_length place all words within)

-- nothing was left
pub lent_end : (n : ℕ) (r : ReaderRun) → (IsRunIn n r → drop r.place (words_in n r) ≡ []) → IsLent n r End (record r { ended = true })
lent_end n r none = record {
  answer = λ is. none_left r.place (words_in n r) (none is);
  still = λ is. record { table = is.table; within = is.within };
  run = λ is. refl;
}

-- the next words are a beginning of what was left
pub lent_slice : (n : ℕ) (r : ReaderRun) (words : Vec ℕ Global) → (IsRunIn n r → (0 < length words.items) × IsBeginning words.items (drop r.place (words_in n r)))
    → IsLent n r (Slice words) (record r { place = r.place + length words.items })
lent_slice n r words next = record {
  answer = λ is. (let more = (next is).1 in ((next is).0, (more.0, parted r.place (words_in n r) words.items more.0 more.1)));
  still = λ is. record { table = is.table; within = (let more = (next is).1 in more_within r.place (words_in n r) words.items more.0 is.within more.1) };
  run = λ is. (
      let more = (next is).1 in
      ap (λ l. run_lent n r l) (more_lent r.place (words_in n r) words.items more.0 is.within more.1));
}
  where
    run_lent : ℕ → ReaderRun → List ℕ → Run
    run_lent n r l = record { past = version_of n r; vertex = r.vertex; lent = l; ended = r.ended }

-- a place fits
pub few_lent : (n : ℕ) (r : ReaderRun) (words : List ℕ) → n ≤ MOST_VERTICES → IsRunIn n r → IsBeginning words (drop r.place (words_in n r)) → r.place + length words ≤ MOST_VERTICES
few_lent n r words small is more =
    let version = version_of n r in
    omega (arith, more_within r.place (words_in n r) words more.0 is.within more.1, length-neighbours (graph_of version) r.vertex, vertex_count-graph_of version)

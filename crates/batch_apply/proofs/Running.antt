-- Edits that lie one after another, in runs.
use Rattle.std.proofs.Common.{◌≡◌, ℕ, ◌+◌, ◌-◌, ◌<◌, ◌≤◌, List, [], ◌∷◌, ◌++◌, length, get_or, map, take, drop, All, refl, sym, ap, ◌∙◌, arith}
use Rattle.std.specs.List.{AllByRecursion}
use Rattle.std.proofs.Math.Seq.{drop-append_seam, take-length}
use Rattle.std.proofs.lemmas.List.{take-append-le, take_more, drop-append-le, length-drop, map-append}
use Rattle.std.proofs.lemmas.List.Elements.{All-weaker, recursion_from_All}
use Rattle.past_model.specs.declared.edit.Edit.{Edit}
use Rattle.batch_apply.specs.declared.pieces.Run.{Run}
use Rattle.batch_apply.specs.Pieces.{piece_in, IsWithin}

-- edits after those of a run do not change its piece
same_piece : (es fs : List Edit) (run : Run) → IsWithin (length es) run → piece_in (es ++ fs) run ≡ piece_in es run
same_piece es fs run within =
    let low = within.0 in
    let high = within.1 in
    let start : run.start ≤ length es = omega arith in
    let count : run.end - run.start ≤ length (drop run.start es) = omega (arith, length-drop run.start es) in
    ap (λ l. (run.range, l)) (ap (take (run.end - run.start)) (drop-append-le run.start es fs start) ∙ take-append-le (run.end - run.start) (drop run.start es) fs count)

same_pieces : (es fs : List Edit) (runs : List Run) → AllByRecursion (IsWithin (length es)) runs → map (piece_in (es ++ fs)) runs ≡ map (piece_in es) runs
same_pieces es fs [] within = refl
same_pieces es fs (run ∷ runs) within =
    ap (λ p. p ∷ map (piece_in (es ++ fs)) runs) (same_piece es fs run within.0) ∙ ap (λ l. piece_in es run ∷ l) (same_pieces es fs runs within.1)

-- the piece of a run of all edits after some
last_piece : (es fs : List Edit) (run : Run) → run.start ≡ length es → run.end ≡ length es + length fs → piece_in (es ++ fs) run ≡ (run.range, fs)
last_piece es fs run start end =
    let own : drop run.start (es ++ fs) ≡ fs = ap (λ n. drop n (es ++ fs)) start ∙ drop-append_seam es fs in
    let count : run.end - run.start ≡ length fs = omega (arith, start, end) in
    ap (λ l. (run.range, l)) (ap (take (run.end - run.start)) own ∙ ap (λ n. take n fs) count ∙ take-length fs)

pub one_piece_more : (es fs : List Edit) (runs : List Run) (run : Run) → All (IsWithin (length es)) runs → run.start ≡ length es → run.end ≡ length es + length fs
    → map (piece_in (es ++ fs)) (runs ++ run ∷ []) ≡ map (piece_in es) runs ++ (run.range, fs) ∷ []
one_piece_more es fs runs run within start end =
    map-append (piece_in (es ++ fs)) runs (run ∷ [])
    ∙ ap (λ l. l ++ piece_in (es ++ fs) run ∷ []) (same_pieces es fs runs (recursion_from_All (IsWithin (length es)) runs within))
    ∙ ap (λ p. map (piece_in es) runs ++ p ∷ []) (last_piece es fs run start end)

pub still_within : (m n : ℕ) (runs : List Run) → m ≤ n → All (IsWithin m) runs → All (IsWithin n) runs
still_within m n runs more = All-weaker (IsWithin m) (IsWithin n) (λ run within. (within.0, (let high = within.1 in omega (arith, more)))) runs

-- the piece of one range more
pub next_piece : {A : Type 0} (f : ℕ → A) (ranges : List ℕ) (place range : ℕ) → place < length ranges → range ≡ get_or ranges place 0
    → map f (take place ranges) ++ f range ∷ [] ≡ map f (take (place + 1) ranges)
next_piece f ranges place range inside own =
    ap (λ r. map f (take place ranges) ++ f r ∷ []) own
    ∙ sym (map-append f (take place ranges) (get_or ranges place 0 ∷ []))
    ∙ ap (map f) (sym (take_more ranges place 0 inside))

-- Runs that are moved together.
use Rattle.std.proofs.Common.{◌≡◌, ◌≢◌, ℕ, zero, suc, ◌+◌, ◌*◌, ◌<◌, ◌≤◌, ◌⊎◌, inl, inr, true, false, cond, ltb, List, [], ◌∷◌, ◌++◌, length, take, drop, get_or, set, Option, Some, None, sum_by, refl, sym, ap, ap₂, subst, ◌∙◌, arith, lt-ltb, le-ltb, length-append, length-drop, append_assoc}
use Rattle.std.proofs.lemmas.Bool.{cases_lt, cases_eq}
use Rattle.std.proofs.lemmas.List.{get_or-set_same, get_or-set_other, length-take-le, get_or_past, set-get_or, take_at, drop_at, take-take}
use Rattle.std.proofs.lemmas.List.Sums.{sum_by-cons}
use Rattle.word_sets.specs.Words.{IsSet}
use Rattle.gapped_array.specs.declared.run.Run.{Run}
use Rattle.gapped_array.specs.declared.run.TheConstants.{SEGMENT}
use Rattle.gapped_array.specs.Cells.{piece}
use Rattle.gapped_array.proofs.Pieces.{length-piece, piece_at, piece_before, piece_after}
use Rattle.gapped_array.proofs.Layouts.{OthersStay, layout_changed, lists_changed, list_of_run, words_inside, list_same}
use Rattle.gapped_array.specs.Runs.{words_in, lists_in, segments_of, live, Fits, IsLayout, IsBehind}

-- the segments of a run that begins before a segment
abbrev pub segments_before : ℕ → Option Run → ℕ
segments_before end None = 0
segments_before end (Some r) = cond (ltb r.segment end) r.segments 0

-- all that begin before it end there, and have all segments up to it
pub record IsPacked (end segments : ℕ) (runs : List (Option Run)) : Type 0 where
  pub inside : end ≤ segments
  pub ends : (i : ℕ) (r : Run) → get_or runs i None ≡ Some r → r.segment < end → r.segment + r.segments ≤ end
  pub filled : end ≡ sum_by (segments_before end) runs

none_before : (o : Option Run) → segments_before 0 o ≡ 0
none_before None = refl
none_before (Some r) = let e : ltb r.segment 0 ≡ false = le-ltb r.segment 0 (omega arith) in rw e refl

sum_none : (runs : List (Option Run)) → sum_by (segments_before 0) runs ≡ 0
sum_none [] = refl
sum_none (o ∷ runs) =
    sum_by-cons (segments_before 0) o runs ∙ omega (arith, none_before o, sum_none runs)

pub packed_none : (segments : ℕ) (runs : List (Option Run)) → IsPacked 0 segments runs
packed_none segments runs =
    record { inside = omega arith; ends = λ i r e h. absurd (omega arith); filled = sym (sum_none runs) }

sum_same : (f g : Option Run → ℕ) (runs : List (Option Run)) → ((i : ℕ) → i < length runs → f (get_or runs i None) ≡ g (get_or runs i None)) → sum_by f runs ≡ sum_by g runs
sum_same f g [] h = refl
sum_same f g (o ∷ runs) h =
    omega (arith, sum_by-cons f o runs, sum_by-cons g o runs, h 0 (omega arith), sum_same f g runs (λ i l. h (suc i) (omega arith)))

sum_moved : (f g : Option Run → ℕ) (runs : List (Option Run)) (v : ℕ) (new : Option Run) (k : ℕ) → v < length runs → ((i : ℕ) → i < length runs → i ≢ v → f (get_or runs i None) ≡ g (get_or runs i None)) → f new ≡ g (get_or runs v None) + k → sum_by f (set runs v new) ≡ sum_by g runs + k
sum_moved f g [] v new k lt others is = absurd (omega arith)
sum_moved f g (o ∷ runs) zero new k lt others is =
    omega (arith, sum_by-cons f new runs, sum_by-cons g o runs, is, sum_same f g runs (λ i l. others (suc i) (omega arith) (λ e. omega arith)))
sum_moved f g (o ∷ runs) (suc v) new k lt others is =
    omega (arith, sum_by-cons f o (set runs v new), sum_by-cons g o runs, others 0 (omega arith) (λ e. omega arith), sum_moved f g runs v new k (omega arith) (λ i l ne. others (suc i) (omega arith) (λ e. ne (omega arith))) is)

-- every other run ends where the moved ones end, or begins after the next
where_others : (xs : List ℕ) (segments end : ℕ) (runs : List (Option Run)) (v : ℕ) (r : Run) → IsLayout xs segments runs → IsPacked end segments runs → v < length runs → get_or runs v None ≡ Some r → IsBehind end r → ((i : ℕ) (s : Run) → i < length runs → get_or runs i None ≡ Some s → IsBehind end s → r.segment ≤ s.segment) → (i : ℕ) (s : Run) → i ≢ v → get_or runs i None ≡ Some s → (s.segment + s.segments ≤ end) ⊎ ((r.segment + r.segments ≤ s.segment) × (0 < s.segments))
where_others xs segments end runs v r a p lt e b first i s ne q =
    elim (cases_lt s.segment end) [
      | inl before ↦ inl (p.ends i s q before)
      | inr behind ↦ elim (cases_lt 0 s.segments) [
        | inl some ↦ (
            let listed : i < length runs = elim (cases_lt i (length runs)) [
              | inl l ↦ l
              | inr past ↦ (let n : None ≡ Some s = sym (get_or_past runs i None past) ∙ q in cc)
            ] in
            let later = first i s listed q (behind, some) in
            elim (a.apart i v s r ne q e) [
              | inl ends ↦ absurd (omega (arith, later, some))
              | inr begins ↦ inr (begins, some)
            ])
        | inr none ↦ (let zero' : s.segment ≡ 0 = (a.fits i s q).none (omega arith) in inl (omega arith))
      ]
    ]

counted : (end : ℕ) (r : Run) → r.segment < end → segments_before end (Some r) ≡ r.segments
counted end r lt = let e : ltb r.segment end ≡ true = lt-ltb r.segment end lt in rw e refl

uncounted : (end : ℕ) (r : Run) → end ≤ r.segment → segments_before end (Some r) ≡ 0
uncounted end r le = let e : ltb r.segment end ≡ false = le-ltb r.segment end le in rw e refl

ended : (end : ℕ) (r : Run) → r.segment + r.segments ≤ end → segments_before end (Some r) ≡ r.segments
ended end r le =
    elim (cases_lt r.segment end) [
      | inl lt ↦ counted end r lt
      | inr ge ↦ uncounted end r ge ∙ omega arith
    ]

as_before : (end k : ℕ) (o : Option Run) → ((s : Run) → o ≡ Some s → (s.segment + s.segments ≤ end) ⊎ (end + k ≤ s.segment)) → segments_before (end + k) o ≡ segments_before end o
as_before end k None h = refl
as_before end k (Some s) h =
    elim (h s refl) [
      | inl before ↦ ended (end + k) s (omega arith) ∙ sym (ended end s before)
      | inr behind ↦ uncounted (end + k) s behind ∙ sym (uncounted end s (omega arith))
    ]

-- the next run is moved to the end of those that are moved
pub packed_more : (xs ys : List ℕ) (segments end : ℕ) (runs : List (Option Run)) (v : ℕ) (r : Run) → IsLayout xs segments runs → IsPacked end segments runs → v < length runs → get_or runs v None ≡ Some r → IsBehind end r → ((i : ℕ) (s : Run) → i < length runs → get_or runs i None ≡ Some s → IsBehind end s → r.segment ≤ s.segment) → ys ≡ take (SEGMENT * end) xs ++ (words_in xs r ++ drop (SEGMENT * end + r.count) xs) → let new : Run = record { segment = end; segments = r.segments; count = r.count } in IsLayout ys segments (set runs v (Some new)) × (lists_in ys (set runs v (Some new)) ≡ lists_in xs runs) × IsPacked (end + r.segments) segments (set runs v (Some new))
packed_more xs ys segments end runs v r a p lt e b first is =
    let new : Run = record { segment = end; segments = r.segments; count = r.count } in
    let f = a.fits v r e in
    let ws = words_in xs r in
    let all : length xs ≡ SEGMENT * segments = a.cells in
    let long : length ws ≡ r.count = length-piece (SEGMENT * r.segment) r.count xs (words_inside xs segments r all f) in
    let from = SEGMENT * end in
    let n = from + r.count in
    let start : length (take from xs) ≡ from = length-take-le from xs (omega (arith, f.inside, b.0)) in
    let whole : length ys ≡ length xs = ap length is ∙ length-append (take from xs) (ws ++ drop n xs) ∙ omega (arith, length-append ws (drop n xs), length-drop n xs, start, f.inside, f.count, b.0) in
    let front : take from xs ≡ take from ys = sym (ap (take from) is ∙ take_at (take from xs) (ws ++ drop n xs) from start) in
    let back : drop n xs ≡ drop n ys = sym (ap (drop n) (is ∙ sym (append_assoc (take from xs) ws (drop n xs))) ∙ drop_at (take from xs ++ ws) (drop n xs) n (length-append (take from xs) ws ∙ omega arith)) in
    let mine : words_in ys new ≡ ws = ap (piece from r.count) is ∙ piece_at from r.count (take from xs) ws (drop n xs) start long in
    let place = where_others xs segments end runs v r a p lt e b first in
    let others : OthersStay xs ys runs v new = λ i s ne q. (
    let g = a.fits i s q in
    elim (place i s ne q) [
      | inl before ↦ (inl before, piece_before (SEGMENT * s.segment) s.count from xs ys (omega (arith, g.count)) (omega (arith, f.inside, b.0)) front (omega (arith, f.inside, b.0, whole)))
      | inr behind ↦ (inr (omega (arith, behind.0, b.0)), piece_after (SEGMENT * s.segment) s.count n xs ys (omega (arith, behind.0, b.0, f.count)) back)
    ]) in
    let fit : Fits ys segments new = record { inside = omega (arith, f.inside, b.0); count = f.count; none = λ z. absurd (omega (arith, b.1, z)); words = subst IsSet (sym mine) f.words } in (
      layout_changed xs ys segments segments runs v new a lt (whole ∙ all) (omega arith) fit others,
      lists_changed xs ys runs v (Some new) (Some ws) (ap (λ l. Some l) mine) (λ i s ne q. (others i s ne q).1)
          ∙ ap (λ o. set (lists_in xs runs) v o) (sym (list_of_run xs runs (lists_in xs runs) v r refl lt e))
          ∙ set-get_or (lists_in xs runs) v None,
      record {
        inside = omega (arith, f.inside, b.0);
        ends = λ i s q before. elim (cases_eq i v) [
          | inl same ↦ (
              let here : Some new ≡ Some s = sym (ap (λ k. get_or (set runs k (Some new)) i None) (sym same) ∙ get_or-set_same runs i (Some new) None (omega arith)) ∙ q in
              let P : Run → Type 0 = λ t. t.segment + t.segments ≤ end + r.segments in
              let one : new ≡ s = cc in
              subst P one (omega arith))
          | inr other ↦ elim (place i s other (sym (get_or-set_other runs v i (Some new) None other) ∙ q)) [
            | inl ended' ↦ omega arith
            | inr behind ↦ absurd (omega (arith, behind.0, b.0))
          ]
        ];
        filled = (let moved : sum_by (segments_before (end + r.segments)) (set runs v (Some new)) ≡ sum_by (segments_before end) runs + r.segments = sum_moved (segments_before (end + r.segments)) (segments_before end) runs v (Some new) r.segments lt (λ i l ne. as_before end r.segments (get_or runs i None) (λ s q. elim (place i s ne q) [
          | inl before ↦ inl before
          | inr behind ↦ inr (omega (arith, behind.0, b.0))
        ])) (counted (end + r.segments) new (omega (arith, b.1)) ∙ (let zero' : segments_before end (get_or runs v None) ≡ 0 = ap (segments_before end) e ∙ uncounted end r b.0 in omega arith)) in omega (arith, p.filled, moved));
      },
    )

all_counted : (end : ℕ) (o : Option Run) → ((s : Run) → o ≡ Some s → s.segment + s.segments ≤ end) → segments_before end o ≡ segments_of o
all_counted end None h = refl
all_counted end (Some s) h = ended end s (h s refl)

map_same : (ys xs : List ℕ) (runs : List (Option Run)) → ((i : ℕ) (s : Run) → get_or runs i None ≡ Some s → words_in ys s ≡ words_in xs s) → lists_in ys runs ≡ lists_in xs runs
map_same ys xs [] h = refl
map_same ys xs (o ∷ runs) h =
    ap₂ (λ a b. a ∷ b) (list_same xs ys o (λ s e. h 0 s e)) (map_same ys xs runs (λ i s e. h (suc i) s e))

-- where no run is left after the moved ones, the array ends with them
pub packed_all : (xs ys : List ℕ) (segments end : ℕ) (runs : List (Option Run)) → IsLayout xs segments runs → IsPacked end segments runs → ((i : ℕ) (s : Run) → i < length runs → get_or runs i None ≡ Some s → IsBehind end s → ⊥) → ys ≡ take (SEGMENT * end) xs → IsLayout ys end runs × (lists_in ys runs ≡ lists_in xs runs) × (end ≡ live runs)
packed_all xs ys segments end runs a p none is =
    let all : length xs ≡ SEGMENT * segments = a.cells in
    let from = SEGMENT * end in
    let listed : (i : ℕ) (s : Run) → get_or runs i None ≡ Some s → i < length runs = λ i s q. elim (cases_lt i (length runs)) [
      | inl l ↦ l
      | inr past ↦ (let n : None ≡ Some s = sym (get_or_past runs i None past) ∙ q in cc)
    ] in
    let ends : (i : ℕ) (s : Run) → get_or runs i None ≡ Some s → s.segment + s.segments ≤ end = λ i s q. elim (cases_lt s.segment end) [
      | inl before ↦ p.ends i s q before
      | inr behind ↦ elim (cases_lt 0 s.segments) [
        | inl some ↦ absurd (none i s (listed i s q) q (behind, some))
        | inr none' ↦ (let zero' : s.segment ≡ 0 = (a.fits i s q).none (omega arith) in omega arith)
      ]
    ] in
    let short : length ys ≡ from = ap length is ∙ length-take-le from xs (omega (arith, p.inside)) in
    let front : take from xs ≡ take from ys = sym (ap (take from) is ∙ take-take from from xs (omega arith)) in
    let words : (i : ℕ) (s : Run) → get_or runs i None ≡ Some s → words_in ys s ≡ words_in xs s = λ i s q. piece_before (SEGMENT * s.segment) s.count from xs ys (omega (arith, (a.fits i s q).count, ends i s q)) (omega (arith, p.inside)) front (omega arith) in (
      record {
        table = a.table;
        cells = short;
        fits = λ i s q. (let f = a.fits i s q in record { inside = ends i s q; count = f.count; none = f.none; words = subst IsSet (sym (words i s q)) f.words });
        apart = a.apart;
      },
      map_same ys xs runs words,
      p.filled ∙ sum_same (segments_before end) segments_of runs (λ i l. all_counted end (get_or runs i None) (λ s q. ends i s q)),
    )

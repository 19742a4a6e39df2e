-- What changes where one vertex's run changes.
use Rattle.std.proofs.Common.{◌≡◌, ◌≢◌, ℕ, true, false, zero, suc, ◌+◌, ◌-◌, ◌*◌, ◌<◌, ◌≤◌, max, inl, inr, List, [], ◌∷◌, ◌++◌, length, take, drop, replicate, insert, remove, get_or, set, Option, Some, None, Ok, Err, IsNone, is_some, unwrap_or, refl, sym, ap, ap₂, subst, ◌∙◌, arith, length-set, length-append, length-drop, append_assoc}
use Rattle.std.proofs.lemmas.Bool.{cases_lt, cases_eq, true≢false}
use Rattle.std.proofs.lemmas.List.{length-map, length-replicate, length-take-le, take_all, take_at, drop_at, get_or-set_same, get_or-set_other, set-get_or, set-set, get_or-map, get_or_default, ext_get_or, get_or_past, get_or_append_left, length_push}
use Rattle.std.proofs.lemmas.List.Edits.{length-insert, length-remove}
use Rattle.std.proofs.lemmas.List.Sums.{sum_by-set, sum_by_push}
use Rattle.word_sets.specs.declared.places.TheConstants.{WORD_LIMIT}
use Rattle.word_sets.specs.Words.{IsSet, IsPlace, has_word, with_word, without_word}
use Rattle.word_sets.proofs.Changes.{with_present, without_absent}
use Rattle.word_sets.proofs.Members.{IsWithin-with, IsWithin-without}
use Rattle.word_sets.proofs.Within.{IsWithin-length}
use Rattle.gapped_array.specs.declared.run.Run.{Run}
use Rattle.gapped_array.specs.declared.run.TheConstants.{SEGMENT}
use Rattle.gapped_array.specs.Cells.{piece}
use Rattle.gapped_array.specs.Runs.{words_in, list_in, lists_in, segments_of, live, Fits, AreApart, IsLayout, IsArray, HasRoom}
use Rattle.gapped_array.specs.Table.{IsOpen, list_at}
use Rattle.gapped_array.proofs.Pieces.{length-piece, piece-append, piece_at, piece_front, piece_before, piece_after}

pub Fits-same : (xs ys : List ℕ) (segments later : ℕ) (r : Run) → segments ≤ later → words_in ys r ≡ words_in xs r → Fits xs segments r → Fits ys later r
Fits-same xs ys segments later r le same f =
    record { inside = omega (arith, f.inside); count = f.count; none = f.none; words = subst IsSet (sym same) f.words }

some_same : (r s : Run) → Some r ≡ Some s → r ≡ s
some_same r s e = cc

flip : (r s : Run) → AreApart r s → AreApart s r
flip r s (inl h) = inr h
flip r s (inr h) = inl h

-- the others are as they were, and the new one is none of theirs
abbrev pub OthersStay : List ℕ → List ℕ → List (Option Run) → ℕ → Run → Type 0
OthersStay xs ys runs v r = (i : ℕ) (s : Run) → i ≢ v → get_or runs i None ≡ Some s → AreApart s r × (words_in ys s ≡ words_in xs s)

at_vertex : (runs : List (Option Run)) (v : ℕ) (r s : Run) → v < length runs → get_or (set runs v (Some r)) v None ≡ Some s → r ≡ s
at_vertex runs v r s lt e = some_same r s (sym (get_or-set_same runs v (Some r) None lt) ∙ e)

-- the array after one vertex's run is changed
pub layout_changed : (xs ys : List ℕ) (segments later : ℕ) (runs : List (Option Run)) (v : ℕ) (r : Run) → IsLayout xs segments runs → v < length runs → length ys ≡ 32 * later → segments ≤ later → Fits ys later r → OthersStay xs ys runs v r → IsLayout ys later (set runs v (Some r))
layout_changed xs ys segments later runs v r a lt cells le fit others =
    let in' : v < length runs = omega (arith, a.table) in
    record {
      table = omega (arith, length-set runs v (Some r), a.table);
      cells = cells;
      fits = λ i s e. elim (cases_eq i v) [
        | inl same ↦ subst (Fits ys later) (at_vertex runs v r s in' (ap (λ n. get_or (set runs v (Some r)) n None) (sym same) ∙ e)) fit
        | inr other ↦ (
            let was : get_or runs i None ≡ Some s = sym (get_or-set_other runs v i (Some r) None other) ∙ e in
            Fits-same xs ys segments later s le (others i s other was).1 (a.fits i s was))
      ];
      apart = λ i j s t ne e f. elim (cases_eq i v) [
        | inl same ↦ (
            let mine = at_vertex runs v r s in' (ap (λ n. get_or (set runs v (Some r)) n None) (sym same) ∙ e) in
            let other : j ≢ v = λ q. ne (same ∙ sym q) in
            let was : get_or runs j None ≡ Some t = sym (get_or-set_other runs v j (Some r) None other) ∙ f in
            subst (λ q. AreApart q t) mine (flip t r (others j t other was).0))
        | inr other ↦ (
            let was : get_or runs i None ≡ Some s = sym (get_or-set_other runs v i (Some r) None other) ∙ e in
            elim (cases_eq j v) [
              | inl same ↦ (
                  let mine = at_vertex runs v r t in' (ap (λ n. get_or (set runs v (Some r)) n None) (sym same) ∙ f) in
                  subst (λ q. AreApart s q) mine (others i s other was).0)
              | inr other' ↦ a.apart i j s t ne was (sym (get_or-set_other runs v j (Some r) None other') ∙ f)
            ])
      ];
    }

pub list_same : (xs ys : List ℕ) (o : Option Run) → ((s : Run) → o ≡ Some s → words_in ys s ≡ words_in xs s) → list_in ys o ≡ list_in xs o
list_same xs ys None h = refl
list_same xs ys (Some s) h = ap (λ l. Some l) (h s refl)

pub lists_changed : (xs ys : List ℕ) (runs : List (Option Run)) (v : ℕ) (new : Option Run) (list : Option (List ℕ)) → list_in ys new ≡ list → ((i : ℕ) (s : Run) → i ≢ v → get_or runs i None ≡ Some s → words_in ys s ≡ words_in xs s) → lists_in ys (set runs v new) ≡ set (lists_in xs runs) v list
lists_changed xs ys runs v new list is others =
    let n : length (lists_in ys (set runs v new)) ≡ length runs = length-map (set runs v new) (list_in ys) ∙ length-set runs v new in
    let m : length (set (lists_in xs runs) v list) ≡ length runs = length-set (lists_in xs runs) v list ∙ length-map runs (list_in xs) in
    ext_get_or None (lists_in ys (set runs v new)) (set (lists_in xs runs) v list) (n ∙ sym m) (λ k h.
    let lt : k < length runs = omega (arith, n) in
    let lt' : k < length (set runs v new) = omega (arith, length-set runs v new) in
    let lt'' : k < length (lists_in xs runs) = omega (arith, length-map runs (list_in xs)) in
    get_or-map (list_in ys) (set runs v new) k None None lt' ∙ elim (cases_eq k v) [
      | inl same ↦ (
          let here : get_or (set runs v new) k None ≡ new = ap (λ n. get_or (set runs n new) k None) (sym same) ∙ get_or-set_same runs k new None lt in
          let there : get_or (set (lists_in xs runs) v list) k None ≡ list = ap (λ n. get_or (set (lists_in xs runs) n list) k None) (sym same) ∙ get_or-set_same (lists_in xs runs) k list None lt'' in
          ap (list_in ys) here ∙ is ∙ sym there)
      | inr other ↦
          ap (list_in ys) (get_or-set_other runs v k new None other)
          ∙ list_same xs ys (get_or runs k None) (λ s e. others k s other e)
          ∙ sym (get_or-map (list_in xs) runs k None None lt)
          ∙ sym (get_or-set_other (lists_in xs runs) v k list None other)
    ])

pub live-set : (runs : List (Option Run)) (v : ℕ) (new : Option Run) → v < length runs → live (set runs v new) + segments_of (get_or runs v None) ≡ live runs + segments_of new
live-set runs v new lt = sum_by-set segments_of runs v new None lt

-- the run that a read of the table gave
run_read : (runs : List (Option Run)) (v : ℕ) (o : Option Run) (r : Run) → v < length runs → o ≡ get_or runs v o → o ≡ Some r → get_or runs v None ≡ Some r
run_read runs v o r lt e is = get_or_default runs v None o lt ∙ sym e ∙ is

-- a vertex with a list is listed
pub open_listed : (xs : List ℕ) (runs : List (Option Run)) (now : List (Option (List ℕ))) (v : ℕ) → lists_in xs runs ≡ now → IsOpen now v → v < length runs
open_listed xs runs now v shown is = elim (cases_lt v (length runs)) [
  | inl lt ↦ lt
  | inr past ↦ absurd (true≢false (sym is ∙ ap is_some (get_or_past now v None (omega (arith, past, ap length shown, length-map runs (list_in xs))))))
]

pub lists_length : (xs : List ℕ) (runs : List (Option Run)) (now : List (Option (List ℕ))) → lists_in xs runs ≡ now → length now ≡ length runs
lists_length xs runs now shown = ap length (sym shown) ∙ length-map runs (list_in xs)

-- and so is one of which the lists are asked
pub vertex_listed : (xs : List ℕ) (runs : List (Option Run)) (now : List (Option (List ℕ))) (v : ℕ) → lists_in xs runs ≡ now → v < length now → v < length runs
vertex_listed xs runs now v shown inside = omega (arith, inside, ap length shown, length-map runs (list_in xs))

-- a list of an open run, and the run of an open list
pub list_of_run : (xs : List ℕ) (runs : List (Option Run)) (now : List (Option (List ℕ))) (v : ℕ) (r : Run) → lists_in xs runs ≡ now → v < length runs → get_or runs v None ≡ Some r → get_or now v None ≡ Some (words_in xs r)
list_of_run xs runs now v r shown lt e =
    ap (λ l. get_or l v None) (sym shown) ∙ get_or-map (list_in xs) runs v None None lt ∙ ap (list_in xs) e

pub list_at_run : (xs : List ℕ) (runs : List (Option Run)) (now : List (Option (List ℕ))) (v : ℕ) (r : Run) → lists_in xs runs ≡ now → v < length runs → get_or runs v None ≡ Some r → list_at now v ≡ words_in xs r
list_at_run xs runs now v r shown lt e =
    ap (λ o. unwrap_or o []) (list_of_run xs runs now v r shown lt e)

none_listed : (xs : List ℕ) (o : Option Run) → IsNone (list_in xs o) → o ≡ None
none_listed xs None h = refl
none_listed xs (Some r) h = absurd (true≢false h)

pub no_run : (xs : List ℕ) (runs : List (Option Run)) (now : List (Option (List ℕ))) (v : ℕ) → lists_in xs runs ≡ now → v < length runs → IsNone (get_or now v None) → get_or runs v None ≡ None
no_run xs runs now v shown lt h =
    none_listed xs (get_or runs v None) (subst IsNone (ap (λ l. get_or l v None) (sym shown) ∙ get_or-map (list_in xs) runs v None None lt) h)

pub words_inside : (xs : List ℕ) (segments : ℕ) (r : Run) → length xs ≡ SEGMENT * segments → Fits xs segments r → SEGMENT * r.segment + r.count ≤ length xs
words_inside xs segments r e f = omega (arith, f.inside, f.count)

pub words_few : (xs : List ℕ) (segments : ℕ) (r : Run) → length xs ≡ SEGMENT * segments → Fits xs segments r → r.count ≤ WORD_LIMIT
words_few xs segments r e f =
    omega (arith, IsWithin-length 0 WORD_LIMIT (words_in xs r) f.words, length-piece (SEGMENT * r.segment) r.count xs (words_inside xs segments r e f))

-- what is known of a run that was read from the table
pub record RunAt (xs : List ℕ) (segments : ℕ) (runs : List (Option Run)) (v : ℕ) (r : Run) : Type 0 where
  pub listed : v < length runs
  pub here : get_or runs v None ≡ Some r
  pub fits : Fits xs segments r
  pub inside : SEGMENT * r.segment + r.count ≤ length xs

pub run_read_at : (xs : List ℕ) (segments : ℕ) (runs : List (Option Run)) (v : ℕ) (o : Option Run) (r : Run) → IsLayout xs segments runs → v < length runs → o ≡ get_or runs v o → o ≡ Some r → RunAt xs segments runs v r
run_read_at xs segments runs v o r a small read is =
    let listed : v < length runs = omega (arith, a.table, small) in
    let here = run_read runs v o r listed read is in
    let fits = a.fits v r here in
    record { listed = listed; here = here; fits = fits; inside = words_inside xs segments r a.cells fits }

abbrev pub empty_run : Run
empty_run = record { segment = 0; segments = 0; count = 0 }

pub opened : (xs : List ℕ) (segments : ℕ) (runs : List (Option Run)) (now : List (Option (List ℕ))) (v : ℕ) → IsArray xs segments runs → lists_in xs runs ≡ now → v < length runs → IsNone (get_or now v None) → IsArray xs segments (set runs v (Some empty_run)) × (lists_in xs (set runs v (Some empty_run)) ≡ set now v (Some []))
opened xs segments runs now v a shown lt h =
    let in' : v < length runs = omega (arith, a.layout.table) in
    let was : get_or runs v None ≡ None = no_run xs runs now v shown in' h in
    let none : segments_of (get_or runs v None) ≡ 0 = ap segments_of was in
    let empty : Fits xs segments empty_run = record { inside = omega arith; count = omega arith; none = λ e. refl; words = omega arith } in (
      record {
        layout = layout_changed xs xs segments segments runs v empty_run a.layout lt a.layout.cells (omega arith) empty (λ i s ne e. (inr (omega arith), refl));
        space = omega (arith, a.space, live-set runs v (Some empty_run) in', none);
      },
      lists_changed xs xs runs v (Some empty_run) (Some []) refl (λ i s ne e. refl) ∙ ap (λ l. set l v (Some [])) shown,
    )

-- a run is put after all segments
pub appended : (xs ys zs : List ℕ) (segments more : ℕ) (runs : List (Option Run)) (v : ℕ) (r : Run) (ws : List ℕ) → IsArray xs segments runs → v < length runs → ys ≡ xs ++ (ws ++ zs) → length ws ≡ r.count → r.segment ≡ segments → length ws + length zs ≡ SEGMENT * r.segments → IsSet ws → 0 < r.segments → segments_of (get_or runs v None) ≤ more → segments + r.segments + 2 * more ≤ 2 * (live runs + r.segments) + 256 → IsArray ys (segments + r.segments) (set runs v (Some r)) × (words_in ys r ≡ ws) × (lists_in ys (set runs v (Some r)) ≡ set (lists_in xs runs) v (Some ws))
appended xs ys zs segments more runs v r ws a lt is count at long set' some old space =
    let in' : v < length runs = omega (arith, a.layout.table) in
    let all : length xs ≡ SEGMENT * segments = a.layout.cells in
    let mine : words_in ys r ≡ ws = ap (piece (SEGMENT * r.segment) r.count) is ∙ piece_at (SEGMENT * r.segment) r.count xs ws zs (omega arith) count in
    let others : OthersStay xs ys runs v r = λ i s ne e. (let f = a.layout.fits i s e in (inl (omega (arith, f.inside)), ap (piece (SEGMENT * s.segment) s.count) is ∙ piece-append (SEGMENT * s.segment) s.count xs (ws ++ zs) (words_inside xs segments s all f))) in
    let cells : length ys ≡ SEGMENT * (segments + r.segments) = ap length is ∙ length-append xs (ws ++ zs) ∙ omega (arith, length-append ws zs) in
    let fit : Fits ys (segments + r.segments) r = record { inside = omega arith; count = omega arith; none = λ e. absurd (omega arith); words = subst IsSet (sym mine) set' } in (
      record {
        layout = layout_changed xs ys segments (segments + r.segments) runs v r a.layout lt cells (omega arith) fit others;
        space = omega (arith, live-set runs v (Some r) in', old, space);
      },
      mine,
      lists_changed xs ys runs v (Some r) (Some ws) (ap (λ l. Some l) mine) (λ i s ne e. (others i s ne e).1),
    )

-- the words of a run are replaced
pub replaced : (xs zs : List ℕ) (segments : ℕ) (runs : List (Option Run)) (v : ℕ) (r : Run) (ws : List ℕ) (c : ℕ) → IsArray xs segments runs → v < length runs → get_or runs v None ≡ Some r → length ws ≤ SEGMENT * r.segments → c ≤ length ws → IsSet (take c ws) → zs ≡ take (SEGMENT * r.segment) xs ++ (ws ++ drop (SEGMENT * r.segment + length ws) xs) → let new : Run = record { segment = r.segment; segments = r.segments; count = c } in IsArray zs segments (set runs v (Some new)) × (lists_in zs (set runs v (Some new)) ≡ set (lists_in xs runs) v (Some (take c ws)))
replaced xs zs segments runs v r ws c a lt e short le set' is =
    let new : Run = record { segment = r.segment; segments = r.segments; count = c } in
    let in' : v < length runs = omega (arith, a.layout.table) in
    let all : length xs ≡ SEGMENT * segments = a.layout.cells in
    let f = a.layout.fits v r e in
    let from = SEGMENT * r.segment in
    let n = from + length ws in
    let start : length (take from xs) ≡ from = length-take-le from xs (omega (arith, f.inside)) in
    let whole : length zs ≡ length xs = ap length is ∙ length-append (take from xs) (ws ++ drop n xs) ∙ omega (arith, length-append ws (drop n xs), length-drop n xs, start, f.inside) in
    let front : take from xs ≡ take from zs = sym (ap (take from) is ∙ take_at (take from xs) (ws ++ drop n xs) from start) in
    let back : drop n xs ≡ drop n zs = sym (ap (drop n) (is ∙ sym (append_assoc (take from xs) ws (drop n xs))) ∙ drop_at (take from xs ++ ws) (drop n xs) n (length-append (take from xs) ws ∙ omega (arith, start))) in
    let mine : words_in zs new ≡ take c ws = ap (piece from c) is ∙ piece_front from c (take from xs) ws (drop n xs) start le in
    let others : OthersStay xs zs runs v new = λ i s ne q. (
    let g = a.layout.fits i s q in
    let apart = a.layout.apart i v s r ne q e in (
      apart,
      elim apart [
        | inl before ↦ piece_before (SEGMENT * s.segment) s.count from xs zs (omega (arith, g.count)) (omega (arith, f.inside)) front (omega (arith, f.inside, whole))
        | inr behind ↦ piece_after (SEGMENT * s.segment) s.count n xs zs (omega arith) back
      ],
    )) in
    let same : segments_of (get_or runs v None) ≡ r.segments = ap segments_of e in (
      record {
        layout = layout_changed xs zs segments segments runs v new a.layout lt (whole ∙ all) (omega arith) (record { inside = f.inside; count = omega arith; none = f.none; words = subst IsSet (sym mine) set' }) others;
        space = omega (arith, a.space, live-set runs v (Some new) in', same);
      },
      lists_changed xs zs runs v (Some new) (Some (take c ws)) (ap (λ l. Some l) mine) (λ i s ne q. (others i s ne q).1),
    )

same_run : (r s : Run) → r.segment ≡ s.segment → r.segments ≡ s.segments → r.count ≡ s.count → r ≡ s
same_run r s e f g =
    let make : ℕ → ℕ → ℕ → Run = λ a b c. record { segment = a; segments = b; count = c } in
    ap (λ a. make a r.segments r.count) e ∙ ap (λ b. make s.segment b r.count) f ∙ ap (λ c. make s.segment s.segments c) g

-- room is made for one word more
pub room_made : (xs ys : List ℕ) (segments : ℕ) (runs : List (Option Run)) (v : ℕ) (run r : Run) → IsArray xs segments runs → v < length runs → get_or runs v None ≡ Some run → HasRoom segments run xs ys r → (later : ℕ) × IsArray ys later (set runs v (Some r)) × (words_in ys r ≡ words_in xs run) × (lists_in ys (set runs v (Some r)) ≡ lists_in xs runs) × (later ≡ max segments (r.segment + r.segments))
room_made xs ys segments runs v run r a lt e h =
    let in' : v < length runs = omega (arith, a.layout.table) in
    let f = a.layout.fits v run e in
    let ws = words_in xs run in
    let long : length ws ≡ run.count = length-piece (SEGMENT * run.segment) run.count xs (words_inside xs segments run a.layout.cells f) in
    elim h.found [
      | inl stays ↦ (
          let one : r ≡ run = same_run r run stays.1 stays.2 h.same in
          let table : set runs v (Some r) ≡ runs = ap (λ o. set runs v o) (ap (λ q. Some q) one ∙ sym e) ∙ set-get_or runs v None in
          let P : List (Option Run) → Type 0 = λ l. IsArray xs segments l in
          let Q : List ℕ → Type 0 = λ l. IsArray l segments (set runs v (Some r)) in (
            segments,
            subst Q (sym stays.0) (subst P (sym table) a),
            ap (λ l. words_in l r) stays.0 ∙ ap (words_in xs) one,
            ap (λ l. lists_in l (set runs v (Some r))) stays.0 ∙ ap (lists_in xs) table,
            omega (arith, f.inside, stays.1, stays.2),
          ))
      | inr moves ↦ (
          let rest : List ℕ = replicate (SEGMENT * r.segments - run.count) 0 in
          let same : segments_of (get_or runs v None) ≡ run.segments = ap segments_of e in
          let m = appended xs ys rest segments run.segments runs v r ws a lt moves.0 (long ∙ sym h.same) moves.1 (omega (arith, length-replicate {A = ℕ} (SEGMENT * r.segments - run.count) 0, h.room, h.same)) f.words (omega (arith, moves.2)) (omega arith) (omega (arith, a.space, moves.2)) in (
            segments + r.segments,
            m.0,
            m.1,
            m.2 ∙ ap (λ o. set (lists_in xs runs) v o) (sym (list_of_run xs runs (lists_in xs runs) v run refl in' e)) ∙ set-get_or (lists_in xs runs) v None,
            omega (arith, moves.1),
          ))
    ]

-- a word is put in where room was made
pub inserted : (xs ys zs : List ℕ) (segments later : ℕ) (runs : List (Option Run)) (now : List (Option (List ℕ))) (v : ℕ) (run r : Run) (at w : ℕ) → IsArray xs segments runs → lists_in xs runs ≡ now → v < length runs → get_or runs v None ≡ Some run → HasRoom segments run xs ys r → w < WORD_LIMIT → IsPlace w (words_in xs run) (Err at) → zs ≡ take (SEGMENT * r.segment) ys ++ (insert (piece (SEGMENT * r.segment) r.count ys) at w ++ drop (SEGMENT * r.segment + (r.count + 1)) ys) → later ≡ max segments (r.segment + r.segments) → let new : Run = record { segment = r.segment; segments = r.segments; count = r.count + 1 } in IsArray zs later (set runs v (Some new)) × (lists_in zs (set runs v (Some new)) ≡ set now v (Some (with_word w (list_at now v))))
inserted xs ys zs segments later runs now v run r at w a shown lt e h small place is after =
    let new : Run = record { segment = r.segment; segments = r.segments; count = r.count + 1 } in
    let in' : v < length runs = omega (arith, a.layout.table) in
    let f = a.layout.fits v run e in
    let m = room_made xs ys segments runs v run r a lt e h in
    let ws = insert (words_in ys r) at w in
    let here : get_or (set runs v (Some r)) v None ≡ Some r = get_or-set_same runs v (Some r) None in' in
    let short : at ≤ length (words_in ys r) = (let q : length (words_in ys r) ≡ length (words_in xs run) = ap length m.2 in omega (arith, place.0)) in
    let fits : length (words_in ys r) ≡ r.count = length-piece (SEGMENT * r.segment) r.count ys (words_inside ys m.0 r m.1.layout.cells (m.1.layout.fits v r here)) in
    let more : length ws ≡ r.count + 1 = length-insert (words_in ys r) at w short ∙ omega arith in
    let whole : take (r.count + 1) ws ≡ ws = take_all (r.count + 1) ws (omega arith) in
    let becomes : ws ≡ with_word w (words_in xs run) = ap (λ l. insert l at w) m.2 ∙ place.1 in
    let is_set : IsSet (with_word w (words_in xs run)) = IsWithin-with 0 WORD_LIMIT w (words_in xs run) (omega arith) small f.words in
    let behind : drop (SEGMENT * r.segment + (r.count + 1)) ys ≡ drop (SEGMENT * r.segment + length ws) ys = ap (λ k. drop (SEGMENT * r.segment + k) ys) (sym more) in
    let p = replaced ys zs m.0 (set runs v (Some r)) v r ws (r.count + 1) m.1 (omega (arith, length-set runs v (Some r))) here (omega (arith, h.room)) (omega arith) (subst IsSet (sym (whole ∙ becomes)) is_set) (is ∙ ap (λ l. take (SEGMENT * r.segment) ys ++ (ws ++ l)) behind) in
    let table : set (set runs v (Some r)) v (Some new) ≡ set runs v (Some new) = set-set runs v (Some r) (Some new) in
    let count : later ≡ m.0 = after ∙ sym m.4 in
    let P : List (Option Run) → Type 0 = λ l. IsArray zs m.0 l in
    let Q : ℕ → Type 0 = λ k. IsArray zs k (set runs v (Some new)) in (
      subst Q (sym count) (subst P table p.0),
      ap (lists_in zs) (sym table) ∙ p.1 ∙ ap₂ (λ l o. set l v o) (m.3 ∙ shown) (ap (λ l. Some l) (whole ∙ becomes ∙ ap (with_word w) (sym (list_at_run xs runs now v run shown in' e)))),
    )

-- a word is taken out
pub taken : (xs zs : List ℕ) (segments : ℕ) (runs : List (Option Run)) (now : List (Option (List ℕ))) (v : ℕ) (r : Run) (at w : ℕ) → IsArray xs segments runs → lists_in xs runs ≡ now → v < length runs → get_or runs v None ≡ Some r → IsPlace w (words_in xs r) (Ok at) → zs ≡ take (SEGMENT * r.segment) xs ++ ((remove (words_in xs r) at ++ get_or (words_in xs r) at 0 ∷ []) ++ drop (SEGMENT * r.segment + r.count) xs) → let new : Run = record { segment = r.segment; segments = r.segments; count = r.count - 1 } in IsArray zs segments (set runs v (Some new)) × (lists_in zs (set runs v (Some new)) ≡ set now v (Some (without_word w (list_at now v))))
taken xs zs segments runs now v r at w a shown lt e place is =
    let in' : v < length runs = omega (arith, a.layout.table) in
    let f = a.layout.fits v r e in
    let old = words_in xs r in
    let x = get_or old at 0 in
    let ws = remove old at ++ x ∷ [] in
    let long : length old ≡ r.count = length-piece (SEGMENT * r.segment) r.count xs (words_inside xs segments r a.layout.cells f) in
    let fewer : length (remove old at) + 1 ≡ length old = length-remove old at place.0 in
    let whole : length ws ≡ r.count = length-append (remove old at) (x ∷ []) ∙ omega arith in
    let kept : take (r.count - 1) ws ≡ remove old at = take_at (remove old at) (x ∷ []) (r.count - 1) (omega arith) in
    let is_set : IsSet (without_word w old) = IsWithin-without 0 WORD_LIMIT w old f.words in
    let behind : drop (SEGMENT * r.segment + r.count) xs ≡ drop (SEGMENT * r.segment + length ws) xs = ap (λ k. drop (SEGMENT * r.segment + k) xs) (sym whole) in
    let p = replaced xs zs segments runs v r ws (r.count - 1) a lt e (omega (arith, f.count)) (omega arith) (subst IsSet (sym (kept ∙ place.1)) is_set) (is ∙ ap (λ l. take (SEGMENT * r.segment) xs ++ (ws ++ l)) behind) in (
      p.0,
      p.1 ∙ ap₂ (λ l o. set l v o) shown (ap (λ l. Some l) (kept ∙ place.1 ∙ ap (without_word w) (sym (list_at_run xs runs now v r shown in' e)))),
    )

-- a run is closed: its segments are left as they are
pub closed : (xs : List ℕ) (segments : ℕ) (runs : List (Option Run)) (v : ℕ) → IsLayout xs segments runs → v < length runs → IsLayout xs segments (set runs v None) × (lists_in xs (set runs v None) ≡ set (lists_in xs runs) v None)
closed xs segments runs v a lt =
    let in' : v < length runs = omega (arith, a.table) in
    let before : (i : ℕ) (r : Run) → get_or (set runs v None) i None ≡ Some r → get_or runs i None ≡ Some r = λ i r e. elim (cases_eq i v) [
      | inl same ↦ (let q : None ≡ Some r = sym (ap (λ n. get_or (set runs n None) i None) (sym same) ∙ get_or-set_same runs i None None (omega arith)) ∙ e in cc)
      | inr other ↦ sym (get_or-set_other runs v i None None other) ∙ e
    ] in (
      record {
        table = omega (arith, length-set runs v None, a.table);
        cells = a.cells;
        fits = λ i r e. a.fits i r (before i r e);
        apart = λ i j r s ne e f. a.apart i j r s ne (before i r e) (before j s f);
      },
      lists_changed xs xs runs v None None refl (λ i s ne e. refl),
    )

-- the list of a vertex stays where what is put there is that list
same_list : (now : List (Option (List ℕ))) (v : ℕ) (new old : List ℕ) → get_or now v None ≡ Some old → new ≡ old → now ≡ set now v (Some new)
same_list now v new old e is =
    sym (ap (λ o. set now v o) (ap (λ l. Some l) is ∙ sym e) ∙ set-get_or now v None)

pub present_stays : (xs : List ℕ) (runs : List (Option Run)) (now : List (Option (List ℕ))) (v : ℕ) (r : Run) (w : ℕ) → lists_in xs runs ≡ now → v < length runs → get_or runs v None ≡ Some r → IsSet (words_in xs r) → has_word w (words_in xs r) ≡ true → now ≡ set now v (Some (with_word w (list_at now v)))
present_stays xs runs now v r w shown lt e s h =
    let is = list_at_run xs runs now v r shown lt e in
    same_list now v (with_word w (list_at now v)) (words_in xs r) (list_of_run xs runs now v r shown lt e) (ap (with_word w) is ∙ with_present 0 WORD_LIMIT w (words_in xs r) s h)

pub absent_stays : (xs : List ℕ) (runs : List (Option Run)) (now : List (Option (List ℕ))) (v : ℕ) (r : Run) (w : ℕ) → lists_in xs runs ≡ now → v < length runs → get_or runs v None ≡ Some r → has_word w (words_in xs r) ≡ false → now ≡ set now v (Some (without_word w (list_at now v)))
absent_stays xs runs now v r w shown lt e h =
    let is = list_at_run xs runs now v r shown lt e in
    same_list now v (without_word w (list_at now v)) (words_in xs r) (list_of_run xs runs now v r shown lt e) (ap (without_word w) is ∙ without_absent w (words_in xs r) h)

none_at : (n i : ℕ) → get_or (replicate n (let o : Option Run = None in o)) i None ≡ None
none_at zero i = refl
none_at (suc n) zero = refl
none_at (suc n) (suc i) = none_at n i

-- no run is open
pub none_open : (xs : List ℕ) (runs : List (Option Run)) → xs ≡ [] → runs ≡ replicate 256 None → IsArray xs 0 runs
none_open xs runs e f =
    let none : (i : ℕ) (r : Run) → get_or runs i None ≡ Some r → ⊥ = λ i r q. (let n : None ≡ Some r = sym (ap (λ l. get_or l i None) f ∙ none_at 256 i) ∙ q in cc) in
    record {
      layout = record {
        table = omega (arith, ap length f, length-replicate {A = Option Run} 256 None);
        cells = ap length e;
        fits = λ i r q. absurd (none i r q);
        apart = λ i j r s ne q p. absurd (none i r q);
      };
      space = omega arith;
    }

-- a vertex more, which has no list
pub vertex_added : (xs : List ℕ) (segments : ℕ) (runs more : List (Option Run)) → IsArray xs segments runs → more ≡ runs ++ None ∷ [] → length runs < 256 → IsArray xs segments more
vertex_added xs segments runs more a is room =
    let before : (i : ℕ) (r : Run) → get_or more i None ≡ Some r → get_or runs i None ≡ Some r = λ i r e. elim (cases_lt i (length runs)) [
      | inl lt ↦ sym (ap (λ l. get_or l i None) is ∙ get_or_append_left runs (None ∷ []) None i lt) ∙ e
      | inr ge ↦ (let n : None ≡ Some r = sym (ap (λ l. get_or l i None) is ∙ none_behind runs i ge) ∙ e in cc)
    ] in
    record {
      layout = record {
        table = omega (arith, ap length is, length_push runs None);
        cells = a.layout.cells;
        fits = λ i r e. a.layout.fits i r (before i r e);
        apart = λ i j r s ne e f. a.layout.apart i j r s ne (before i r e) (before j s f);
      };
      space = (let same : live more ≡ live runs = ap live is ∙ sum_by_push segments_of runs None ∙ omega arith in omega (arith, a.space, same));
    }
  where
    none_behind : (l : List (Option Run)) (i : ℕ) → length l ≤ i → get_or (l ++ None ∷ []) i None ≡ None
    none_behind [] zero h = refl
    none_behind [] (suc i) h = refl
    none_behind (x ∷ l) zero h = absurd (omega arith)
    none_behind (x ∷ l) (suc i) h = none_behind l i (omega arith)

-- the list that is put in at the last vertex
pub set_last : (l : List (Option (List ℕ))) (v : ℕ) (ws : List ℕ) → v ≡ length l → set (l ++ None ∷ []) v (Some ws) ≡ l ++ Some ws ∷ []
set_last l v ws e = ap (λ k. set (l ++ None ∷ []) k (Some ws)) e ∙ at_end l
  where
    at_end : (xs : List (Option (List ℕ))) → set (xs ++ None ∷ []) (length xs) (Some ws) ≡ xs ++ Some ws ∷ []
    at_end [] = refl
    at_end (x ∷ xs) = ap (λ t. x ∷ t) (at_end xs)

-- The lists and the degrees of a frontier, which are written to arrays.
use Rattle.std.proofs.Common.{◌≡◌, ℕ, suc, ◌+◌, ◌<◌, ◌≤◌, List, [], ◌∷◌, ◌++◌, map, length, take, drop, get_or, slice_set, refl, sym, ap, ◌∙◌, append-nil, arith}
use Rattle.std.specs.Prelude.{slice_index}
use Rattle.std.proofs.lemmas.List.{take_more, take_all, take-append-drop, take-set-le, drop-drop, get_or-set_same, length-set, map-append, length-append}
use Rattle.std.proofs.lemmas.Grind.{flat_map-append}
use Rattle.std.proofs.lemmas.Slice.{take-put_mid, drop-put_mid}
use borrow.Rule.Slice.PartMut.{put_mid}
use Rattle.graph_model.specs.Graph.{Graph, neighbours, degree, numbers_below}
use Rattle.edge_fold.proofs.Written.{length_put}
use Rattle.embedding.specs.Lists.{lists_of, list_begins, list_starts}

module _ (g : Graph) (frontier : List ℕ) where
  -- the lists of one vertex more
  pub lists_more : (i : ℕ) → i < length frontier → lists_of g (take (i + 1) frontier) ≡ lists_of g (take i frontier) ++ neighbours g (slice_index frontier i)
  lists_more i inside =
      ap (lists_of g) (take_more frontier i 0 inside)
      ∙ flat_map-append (neighbours g) (take i frontier) (slice_index frontier i ∷ [])
      ∙ ap (λ l. lists_of g (take i frontier) ++ l) (append-nil (neighbours g (slice_index frontier i)))

  pub begins_more : (i : ℕ) → i < length frontier → list_begins g frontier (i + 1) ≡ list_begins g frontier i + degree g (slice_index frontier i)
  begins_more i inside = ap length (lists_more i inside) ∙ length-append (lists_of g (take i frontier)) (neighbours g (slice_index frontier i))

  -- a vertex's list lies within them all
  pub begins_fit : (i : ℕ) → i < length frontier → list_begins g frontier i + degree g (slice_index frontier i) ≤ length (lists_of g frontier)
  begins_fit i inside =
      let early = lists_of g (take (i + 1) frontier) in
      let late = lists_of g (drop (i + 1) frontier) in
      let cut : lists_of g frontier ≡ early ++ late =
      ap (lists_of g) (sym (take-append-drop (i + 1) frontier)) ∙ flat_map-append (neighbours g) (take (i + 1) frontier) (drop (i + 1) frontier) in
      omega (arith, begins_more i inside, ap length cut, length-append early late)

-- the lists of the first vertices are copied, and where they begin
pub record AreListed (g : Graph) (frontier starts before targets : List ℕ) (place at : ℕ) : Type 0 where
  pub begin : at ≡ list_begins g frontier place
  pub starts_long : length starts ≡ length frontier + 1
  pub long : length targets ≡ length before
  pub copied : take at targets ≡ lists_of g (take place frontier)
  pub rest : drop at targets ≡ drop at before
  pub started : take (place + 1) starts ≡ map (list_begins g frontier) (numbers_below (place + 1))

-- the next vertex's list has room
pub list_fits : (g : Graph) (frontier starts before targets : List ℕ) (place at k : ℕ) → AreListed g frontier starts before targets place at → place < length frontier
    → length (lists_of g frontier) ≤ length before → k ≡ degree g (slice_index frontier place) → at + k ≤ length targets
list_fits g frontier starts before targets place at k done inside room many =
    omega (arith, begins_fit g frontier place inside, done.begin, many, done.long, room)

-- what is set after the first elements
take_set : (xs : List ℕ) (i v : ℕ) → i < length xs → take (i + 1) (slice_set xs i v) ≡ take i xs ++ v ∷ []
take_set xs i v inside =
    let long = length-set xs i v in
    take_more (slice_set xs i v) i 0 (omega (arith, inside, long))
    ∙ ap (λ l. l ++ get_or (slice_set xs i v) i 0 ∷ []) (take-set-le i xs i v (omega arith))
    ∙ ap (λ n. take i xs ++ n ∷ []) (get_or-set_same xs i v 0 inside)

pub none_listed : (g : Graph) (frontier starts targets : List ℕ) → length starts ≡ length frontier + 1 → AreListed g frontier (slice_set starts 0 0) targets targets 0 0
none_listed g frontier starts targets starts_long = record {
  begin = refl;
  starts_long = length-set starts 0 0 ∙ starts_long;
  long = refl;
  copied = refl;
  rest = refl;
  started = take_set starts 0 0 (omega (arith, starts_long));
}

-- two lists that are the same after a place are so after a later one
drop_on : (at k : ℕ) (xs ys : List ℕ) → drop at xs ≡ drop at ys → drop (at + k) xs ≡ drop (at + k) ys
drop_on at k xs ys same = sym (drop-drop k at xs) ∙ ap (drop k) same ∙ drop-drop k at ys

pub vertex_listed : (g : Graph) (frontier starts before targets : List ℕ) (i at k : ℕ) (part : List ℕ)
    → AreListed g frontier starts before targets i at → i < length frontier → length (lists_of g frontier) ≤ length before
    → k ≡ degree g (slice_index frontier i) → length part ≡ k → part ≡ neighbours g (slice_index frontier i)
    → AreListed g frontier (slice_set starts (i + 1) (at + k)) before (put_mid at k targets part) (i + 1) (at + k)
vertex_listed g frontier starts before targets i at k part done inside room many long is =
    let fits = list_fits g frontier starts before targets i at k done inside room many in
    let begin : at + k ≡ list_begins g frontier (i + 1) = omega (arith, done.begin, many, begins_more g frontier i inside) in
    let after : i + 1 + 1 ≡ suc (i + 1) = omega arith in
    let starting : map (list_begins g frontier) (numbers_below (i + 1 + 1)) ≡ map (list_begins g frontier) (numbers_below (i + 1)) ++ list_begins g frontier (i + 1) ∷ [] =
    ap (λ n. map (list_begins g frontier) (numbers_below n)) after ∙ map-append (list_begins g frontier) (numbers_below (i + 1)) ((i + 1) ∷ []) in
    record {
      begin = begin;
      starts_long = length-set starts (i + 1) (at + k) ∙ done.starts_long;
      long = length_put at k targets part fits long ∙ done.long;
      copied = take-put_mid at k targets part (at + k) (omega (arith, long)) (omega (arith, fits))
          ∙ ap (λ l. take at targets ++ l) is ∙ ap (λ l. l ++ neighbours g (slice_index frontier i)) done.copied ∙ sym (lists_more g frontier i inside);
      rest = drop-put_mid at k targets part (at + k) (omega arith) (omega (arith, fits)) long ∙ drop_on at k targets before done.rest;
      started = take_set starts (i + 1) (at + k) (omega (arith, done.starts_long, inside))
          ∙ ap (λ l. l ++ (at + k) ∷ []) done.started ∙ ap (λ n. map (list_begins g frontier) (numbers_below (i + 1)) ++ n ∷ []) begin ∙ sym starting;
    }

pub all_listed : (g : Graph) (frontier starts before targets : List ℕ) (i at : ℕ) → AreListed g frontier starts before targets i at → i ≡ length frontier
    → (starts ≡ list_starts g frontier) × (targets ≡ lists_of g frontier ++ drop (length (lists_of g frontier)) before)
all_listed g frontier starts before targets i at done all =
    let whole : take i frontier ≡ frontier = take_all i frontier (omega (arith, all)) in
    let end : at ≡ length (lists_of g frontier) = done.begin ∙ ap (λ l. length (lists_of g l)) whole in (
      sym (take_all (i + 1) starts (omega (arith, done.starts_long, all))) ∙ done.started ∙ ap (λ n. map (list_begins g frontier) (numbers_below (n + 1))) all,
      sym (take-append-drop at targets) ∙ ap (λ l. l ++ drop at targets) (done.copied ∙ ap (lists_of g) whole)
          ∙ ap (λ l. lists_of g frontier ++ l) (done.rest ∙ ap (λ n. drop n before) end),
    )

-- the degrees of the first vertices are written
pub record AreCounted (g : Graph) (frontier counts : List ℕ) (place : ℕ) : Type 0 where
  pub long : length counts ≡ length frontier
  pub counted : take place counts ≡ map (degree g) (take place frontier)

pub vertex_counted : (g : Graph) (frontier counts : List ℕ) (i v : ℕ) → AreCounted g frontier counts i → i < length frontier → v ≡ degree g (slice_index frontier i)
    → AreCounted g frontier (slice_set counts i v) (i + 1)
vertex_counted g frontier counts i v done inside is = record {
  long = length-set counts i v ∙ done.long;
  counted = take_set counts i v (omega (arith, done.long, inside)) ∙ ap (λ l. l ++ v ∷ []) done.counted
      ∙ ap (λ n. map (degree g) (take i frontier) ++ n ∷ []) is ∙ sym (map-append (degree g) (take i frontier) (slice_index frontier i ∷ []))
      ∙ sym (ap (map (degree g)) (take_more frontier i 0 inside));
}

pub all_counted : (g : Graph) (frontier counts : List ℕ) (i : ℕ) → AreCounted g frontier counts i → i ≡ length frontier → counts ≡ map (degree g) frontier
all_counted g frontier counts i done all =
    sym (take_all i counts (omega (arith, done.long, all))) ∙ done.counted ∙ ap (map (degree g)) (take_all i frontier (omega (arith, all)))

-- Edited ranges in their order, and what each worker made of those that were dealt to it.
use Rattle.std.proofs.Common.{◌≡◌, ℕ, zero, suc, ◌+◌, ◌*◌, ◌/◌, ◌%◌, ◌<◌, ◌≤◌, true, List, [], ◌∷◌, ◌++◌, length, get_or, All, Vec, Bor, sym, ap, subst, subst₂, ◌∙◌, inl, inr, arith}
use Rattle.std.specs.declared.alloc.Global.{Global}
use Rattle.std.proofs.lemmas.Bool.{cases_Bool, cases_lt}
use Rattle.std.proofs.lemmas.Nat.{div-add-mod'}
use Rattle.std.proofs.lemmas.List.{get_or_push, get_or_append_left, length_push, length-map, get_or-map}
use Rattle.past_model.specs.declared.limits.TheConstants.{MOST_RANGES}
use Rattle.shards.specs.declared.edited_shard.EditedShard.{EditedShard}
use Rattle.shards.specs.Groups.{Grouped, edits_of, is_filled, filled_below, filled_groups}
use Rattle.shards.specs.Part.{Part, AreEditsOf}
use Rattle.shard_table.specs.Table.{part_at}
use Rattle.shard_table.specs.Made.{IsBatch, IsMade, AreMade}
use Rattle.shard_table.proofs.RangeLemmas.{range_edits, range_own}
use Rattle.shard_table.proofs.MadeLemmas.{edits_in}
use Rattle.shards.proofs.FilledLemmas.{filled_more, filled_same}
use Rattle.batch_apply.specs.Dealt.{Piece, pieces_of, IsReady, IsMadeOf, IsDealt, AreDealt}

-- ---- the ranges that have an edit

-- as many come before one as its place among all
pub place_of : (g : Grouped) (n r : ℕ) → r < n → is_filled g r ≡ true → (length (filled_below g r) < length (filled_below g n)) × (get_or (filled_below g n) (length (filled_below g r)) 0 ≡ r)
place_of g zero r h some = absurd (omega arith)
place_of g (suc n) r h some =
    let next : n + 1 ≡ suc n = omega arith in
    elim (cases_Bool (is_filled g n)) [
      | inl t ↦ (
          let all : filled_below g (suc n) ≡ filled_below g n ++ n ∷ [] = ap (filled_below g) (sym next) ∙ filled_more g n t in
          let long = length_push (filled_below g n) n in
          subst (λ l. (length (filled_below g r) < length l) × (get_or l (length (filled_below g r)) 0 ≡ r)) (sym all)
          (elim (cases_lt r n) [
            | inl lt ↦ (
                let before = place_of g n r lt some in (
                  (let small = before.0 in omega arith),
                  get_or_append_left (filled_below g n) (n ∷ []) 0 (length (filled_below g r)) before.0 ∙ before.1,
                ))
            | inr ge ↦ (
                let same : r ≡ n = omega arith in
                let here = ap (λ k. length (filled_below g k)) same in (
                  omega arith,
                  get_or_push (filled_below g n) n 0 (length (filled_below g r)) (sym here) ∙ sym same,
                ))
          ]))
      | inr f ↦ (
          let all : filled_below g (suc n) ≡ filled_below g n = ap (filled_below g) (sym next) ∙ filled_same g n f in
          let other : r ≡ n → ⊥ = λ same. (let t : is_filled g n ≡ true = subst (λ k. is_filled g k ≡ true) same some in cc) in
          let lt : r < n = omega (arith, other) in
          subst (λ l. (length (filled_below g r) < length l) × (get_or l (length (filled_below g r)) 0 ≡ r)) (sym all) (place_of g n r lt some))
    ]

-- they are ranges
pub filled_small : (g : Grouped) (n : ℕ) → length (filled_below g n) ≤ n
filled_small g zero = omega arith
filled_small g (suc n) =
    let next : n + 1 ≡ suc n = omega arith in
    let before = filled_small g n in
    elim (cases_Bool (is_filled g n)) [
      | inl t ↦ (
          let all = ap length (ap (filled_below g) (sym next) ∙ filled_more g n t) in
          omega (arith, all, length_push (filled_below g n) n))
      | inr f ↦ (
          let all = ap length (ap (filled_below g) (sym next) ∙ filled_same g n f) in
          omega (arith, all))
    ]

pub filled_in : (g : Grouped) (n i : ℕ) → i < length (filled_below g n) → get_or (filled_below g n) i 0 < n
filled_in g zero i h = absurd (omega arith)
filled_in g (suc n) i h =
    let next : n + 1 ≡ suc n = omega arith in
    elim (cases_Bool (is_filled g n)) [
      | inl t ↦ (
          let all : filled_below g (suc n) ≡ filled_below g n ++ n ∷ [] = ap (filled_below g) (sym next) ∙ filled_more g n t in
          let long = length_push (filled_below g n) n in
          let h' : i < length (filled_below g n ++ n ∷ []) = subst (λ l. i < length l) all h in
          subst (λ l. get_or l i 0 < suc n) (sym all)
          (elim (cases_lt i (length (filled_below g n))) [
            | inl lt ↦ (let before = filled_in g n i lt in let same = get_or_append_left (filled_below g n) (n ∷ []) 0 i lt in omega arith)
            | inr ge ↦ (
                let end : length (filled_below g n) ≡ i = omega (arith, long, h') in
                let same = get_or_push (filled_below g n) n 0 i end in
                omega arith)
          ]))
      | inr f ↦ (
          let all : filled_below g (suc n) ≡ filled_below g n = ap (filled_below g) (sym next) ∙ filled_same g n f in
          let h' : i < length (filled_below g n) = subst (λ l. i < length l) all h in
          let before = filled_in g n i h' in
          let same = ap (λ l. get_or l i 0) all in
          omega arith)
    ]

-- a range that has an edit is one of the groups
pub filled_one : (groups : Grouped) (ranges : List ℕ) (place range : ℕ) → ranges ≡ filled_groups groups → place < length ranges → get_or ranges place 0 ≡ range → range < groups.count
filled_one groups ranges place range are inside here =
    subst (λ r. r < groups.count) here (subst (λ l. get_or l place 0 < groups.count) (sym are) (filled_in groups groups.count place (subst (λ l. place < length l) are inside)))

-- the piece at a place is of the filled group there, and has its edits
pub piece_at : (groups : Grouped) (pieces : List Piece) (k : ℕ) (d : Piece) → pieces ≡ pieces_of groups → k < length pieces
    → ((get_or pieces k d).0 ≡ get_or (filled_groups groups) k 0) × ((get_or pieces k d).1 ≡ edits_of groups (get_or pieces k d).0) × (k < length (filled_groups groups))
piece_at groups pieces k d are h =
    let own : ℕ → Piece = λ range. (range, edits_of groups range) in
    let long : length pieces ≡ length (filled_groups groups) = ap length are ∙ length-map (filled_groups groups) own in
    let inside : k < length (filled_groups groups) = omega (arith, h, long) in
    let at : get_or pieces k d ≡ own (get_or (filled_groups groups) k 0) = ap (λ l. get_or l k d) are ∙ get_or-map own (filled_groups groups) k 0 d inside in (
      ap (λ (p : Piece). p.0) at,
      ap (λ (p : Piece). p.1) at ∙ ap (edits_of groups) (sym (ap (λ (p : Piece). p.0) at)),
      inside,
    )

-- there are no more of them than ranges
pub few_pieces : (groups : Grouped) (pieces : List Piece) → pieces ≡ pieces_of groups → groups.count ≤ MOST_RANGES → length pieces ≤ MOST_RANGES
few_pieces groups pieces are few =
    let own : ℕ → Piece = λ range. (range, edits_of groups range) in
    omega (arith, ap length are, length-map (filled_groups groups) own, filled_small groups groups.count)

-- the pieces of a batch are ready
pub all_ready : (groups : Grouped) (parts : List Part) (pieces : List Piece) → IsBatch groups parts → pieces ≡ pieces_of groups → All (IsReady parts) pieces
all_ready groups parts pieces batch are =
    λ k d h.
    let own = get_or pieces k d in
    let at = piece_at groups pieces k d are h in
    let count = batch.count in
    let inside : own.0 < length parts = omega (arith, at.0, count, filled_in groups groups.count k at.2) in
    let editable = batch.editable in
    let edits : own.1 ≡ range_edits groups.count groups.edits own.0 = at.1 ∙ edits_in groups batch.by_range own.0 in (
      inside,
      subst (AreEditsOf (part_at parts own.0)) (sym edits) (range_own editable.graph (part_at parts own.0) groups.count groups.edits own.0 editable.small (editable.table.each own.0 inside) editable.below),
    )

-- ---- what workers made

-- what was made of pieces from a place on, each so many places further on
abbrev pub AreMadeOf : List Part → List Piece → ℕ → ℕ → List EditedShard → Type 0
AreMadeOf parts pieces first step made = (i : ℕ) (p : Piece) (d : EditedShard) → i < length made → IsMadeOf parts (get_or pieces (first + i * step) p) (get_or made i d)

-- one piece more
pub piece_more : (parts : List Part) (pieces : List Piece) (first step : ℕ) (made : List EditedShard) (e : EditedShard) → ((p : Piece) → IsMadeOf parts (get_or pieces (first + length made * step) p) e) → AreMadeOf parts pieces first step made → AreMadeOf parts pieces first step (made ++ e ∷ [])
piece_more parts pieces first step made e last before i p d h =
    elim (cases_lt i (length made)) [
      | inl lt ↦ subst (IsMadeOf parts (get_or pieces (first + i * step) p)) (sym (get_or_append_left made (e ∷ []) d i lt)) (before i p d lt)
      | inr ge ↦ (
          let same : length made ≡ i = omega (arith, length_push made e) in
          subst (IsMadeOf parts (get_or pieces (first + i * step) p)) (sym (get_or_push made e d i same)) (subst (λ k. IsMadeOf parts (get_or pieces (first + k * step) p) e) same (last p)))
    ]

-- one worker more
pub worker_more : (parts : List Part) (pieces : List Piece) (step : ℕ) (lists : List (Vec EditedShard Global)) (own : Vec EditedShard Global) → AreDealt parts pieces step lists → IsDealt parts pieces (length lists) step own.items → AreDealt parts pieces step (lists ++ own ∷ [])
worker_more parts pieces step lists own before last = record {
  each = λ worker h d. elim (cases_lt worker (length lists)) [
    | inl lt ↦ subst (λ (v : Vec EditedShard Global). IsDealt parts pieces worker step v.items) (sym (get_or_append_left lists (own ∷ []) d worker lt)) (before.each worker lt d)
    | inr ge ↦ (
        let same : length lists ≡ worker = omega (arith, length_push lists own) in
        subst (λ (v : Vec EditedShard Global). IsDealt parts pieces worker step v.items) (sym (get_or_push lists own d worker same)) (subst (λ k. IsDealt parts pieces k step own.items) same last))
  ];
}

-- the piece at a place of all, where it was made
pub in_turn : (parts : List Part) (pieces : List Piece) (lists : List (Vec EditedShard Global)) (place : ℕ) (own : Vec EditedShard Global) → 0 < length lists → AreDealt parts pieces (length lists) lists → place < length pieces → own ≡ get_or lists (place % length lists) own
    → (place / length lists < length own.items) × ((p : Piece) (d : EditedShard) → IsMadeOf parts (get_or pieces place p) (get_or own.items (place / length lists) d))
in_turn parts pieces lists place own some dealt h is =
    let hands = length lists in
    let worker : place % hands < hands = omega arith in
    let whole : place % hands + place / hands * hands ≡ place = omega (arith, div-add-mod' place hands) in
    let fact = dealt.each (place % hands) worker own (place / hands) (omega (arith, whole)) in
    subst (λ (v : Vec EditedShard Global). (place / hands < length v.items) × ((p : Piece) (d : EditedShard) → IsMadeOf parts (get_or pieces place p) (get_or v.items (place / hands) d))) (sym is)
    (subst (λ k. (place / hands < length (get_or lists (place % hands) own).items) × ((p : Piece) (d : EditedShard) → IsMadeOf parts (get_or pieces k p) (get_or (get_or lists (place % hands) own).items (place / hands) d))) whole fact)

-- so all are made
pub all_made : (groups : Grouped) (parts : List Part) (pieces : List Piece) (made : List (Bor EditedShard)) → groups.count ≡ length parts → pieces ≡ pieces_of groups → length made ≡ length pieces → ((j : ℕ) (p : Piece) (d : Bor EditedShard) → j < length made → IsMadeOf parts (get_or pieces j p) (get_or made j d).now) → AreMade groups 0 parts made
all_made groups parts pieces made count are long each =
    λ k h some.
    let at = place_of groups groups.count (0 + k) (omega arith) some in
    let n = length (filled_below groups (0 + k)) in
    let few : length pieces ≡ length (filled_groups groups) = ap length are ∙ length-map (filled_groups groups) (λ range. (range, edits_of groups range)) in
    let inside : n < length made = (let small = at.0 in omega (arith, long, few)) in
    let same : 0 + k ≡ k = omega arith in
    let q : Piece = (0, []) in
    let own = piece_at groups pieces n q are (omega (arith, long, inside)) in
    let number : (get_or pieces n q).0 ≡ 0 + k = own.0 ∙ at.1 in (
      inside,
      λ d. subst (λ r. IsMade (part_at parts r) (edits_of groups (0 + k)) (get_or made n d).now) same
          (subst₂ (λ r es. IsMade (part_at parts r) es (get_or made n d).now) number (own.1 ∙ ap (edits_of groups) number) (each n q d inside)),
    )

-- one piece more in the order of all
pub made_more : (parts : List Part) (pieces : List Piece) (made : List (Bor EditedShard)) (e : Bor EditedShard) → ((p : Piece) → IsMadeOf parts (get_or pieces (length made) p) e.now) → ((j : ℕ) (p : Piece) (d : Bor EditedShard) → j < length made → IsMadeOf parts (get_or pieces j p) (get_or made j d).now)
    → (j : ℕ) (p : Piece) (d : Bor EditedShard) → j < length (made ++ e ∷ []) → IsMadeOf parts (get_or pieces j p) (get_or (made ++ e ∷ []) j d).now
made_more parts pieces made e last before j p d h =
    elim (cases_lt j (length made)) [
      | inl lt ↦ subst (λ (m : Bor EditedShard). IsMadeOf parts (get_or pieces j p) m.now) (sym (get_or_append_left made (e ∷ []) d j lt)) (before j p d lt)
      | inr ge ↦ (
          let same : length made ≡ j = omega (arith, length_push made e) in
          subst (λ (m : Bor EditedShard). IsMadeOf parts (get_or pieces j p) m.now) (sym (get_or_push made e d j same)) (subst (λ k. IsMadeOf parts (get_or pieces k p) e.now) same (last p)))
    ]

-- no worker yet
pub none_dealt : (parts : List Part) (pieces : List Piece) (step : ℕ) → AreDealt parts pieces step []
none_dealt parts pieces step = record { each = λ worker h d. absurd (omega arith) }

-- What pieces gave, each put at its number.
use Rattle.std.proofs.Common.{◌≡◌, ◌≢◌, ℕ, ◌<◌, ◌⊎◌, List, [], ◌∷◌, ◌++◌, length, get_or, set, All, Option, Some, None, sym, ap, subst, ◌∙◌, inl, inr, arith}
use Rattle.std.proofs.lemmas.Bool.Decides.{nat_tests}
use Rattle.std.proofs.lemmas.Bool.{cases_eq}
use Rattle.std.proofs.lemmas.List.{map-append, get_or-set_same, get_or-set_other, length-set}
use Rattle.claims.specs.Claims.{times}
use Rattle.claims.proofs.Sums.{times_both}
use Rattle.edge_fold.specs.declared.outcome.MapOutcome.{MapOutcome}
use Rattle.edge_map.specs.declared.piece.Piece.{Piece}
use Rattle.edge_map.specs.Pieces.{Task, piece_count, IsPart, IsPiece, IsPlace, ArePlaced, IsWorkDone, numbers_of}

-- each number has its piece among those left, or what its piece gave at its place
pub record IsPlacing (t : Task) (pieces : List Piece) (places : List (Option MapOutcome)) : Type 0 where
  pub count : length places ≡ piece_count t.frontier
  pub right : All (IsPiece t) pieces
  pub each : (k : ℕ) → k < piece_count t.frontier → (0 < times k (numbers_of pieces)) ⊎ IsPlace t k (get_or places k None)

pub none_placed : (t : Task) (pieces : List Piece) (places : List (Option MapOutcome)) → IsWorkDone t pieces → length places ≡ piece_count t.frontier → IsPlacing t pieces places
none_placed t pieces places done count = record { count = count; right = done.right; each = λ k inside. inl (done.each k inside) }

times_none : (k n : ℕ) → k ≢ n → times k (n ∷ []) ≡ 0
times_none k n other = grind (arith, nat_tests)

-- the last piece is put at its place
pub one_placed : (t : Task) (all left : List Piece) (piece : Piece) (places next : List (Option MapOutcome))
    → IsPlacing t all places → all ≡ left ++ piece ∷ [] → All (IsPiece t) left → IsPiece t piece → next ≡ set places piece.number (Some piece.outcome)
    → IsPlacing t left next
one_placed t all left piece places next w is rest own put = record {
  count = ap length put ∙ length-set places piece.number (Some piece.outcome) ∙ w.count;
  right = rest;
  each = λ k inside. elim (cases_eq k piece.number) [
    | inl same ↦ (
        let small : piece.number < length places = omega (arith, own.0, w.count) in
        let here : get_or next piece.number None ≡ Some piece.outcome = ap (λ l. get_or l piece.number None) put ∙ get_or-set_same places piece.number (Some piece.outcome) None small in
        inr (subst (λ n. IsPlace t n (get_or next n None)) (sym same) (subst (IsPlace t piece.number) (sym here) own.1)))
    | inr other ↦ (
        let there : get_or next k None ≡ get_or places k None = ap (λ l. get_or l k None) put ∙ get_or-set_other places piece.number k (Some piece.outcome) None other in
        let fewer : times k (numbers_of all) ≡ times k (numbers_of left) =
        ap (λ l. times k (numbers_of l)) is ∙ ap (times k) (map-append (λ (p : Piece). p.number) left (piece ∷ [])) ∙ times_both k (numbers_of left) (piece.number ∷ [])
        ∙ omega (arith, times_none k piece.number other) in
        elim (w.each k inside) [
          | inl some ↦ inl (subst (λ n. 0 < n) fewer some)
          | inr placed ↦ inr (subst (IsPlace t k) (sym there) placed)
        ])
  ];
}

-- none is left
pub all_placed : (t : Task) (left : List Piece) (places : List (Option MapOutcome)) → IsPlacing t left places → length left ≡ 0 → ArePlaced t places
all_placed t [] places w none = record {
  count = w.count;
  each = λ k inside. elim (w.each k inside) [
    | inl some ↦ (let no : ⊥ = omega (arith, some) in absurd no)
    | inr placed ↦ placed
  ];
}
all_placed t (piece ∷ left) places w none = (let no : ⊥ = omega (arith, none) in absurd no)

-- what stands at a place
pub placed_is : (t : Task) (k : ℕ) (o : Option MapOutcome) (out : MapOutcome) → IsPlace t k o → o ≡ Some out → IsPart t k out
placed_is t k o out w is = subst (IsPlace t k) is w

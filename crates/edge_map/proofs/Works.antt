-- What workers have done, claim by claim and together.
use Rattle.std.proofs.Common.{◌≡◌, ℕ, ◌+◌, ◌<◌, ◌≤◌, List, [], ◌∷◌, ◌++◌, length, refl, sym, ap, subst, ◌∙◌, All, arith}
use Rattle.std.proofs.lemmas.Bool.Decides.{nat_tests}
use Rattle.std.proofs.lemmas.List.{length_push, map-append}
use Rattle.std.proofs.lemmas.List.Elements.{All-append, All-nil, All-cons}
use Rattle.claims.specs.Claims.{Claiming, claiming, times, once_below, AreAllBelow}
use Rattle.claims.proofs.Sums.{times_both}
use Rattle.edge_map.specs.declared.piece.Piece.{Piece}
use Rattle.edge_map.specs.Pieces.{Task, piece_count, IsPiece, numbers_of, IsWork, IsWorkDone}

times_same : (n : ℕ) → times n (n ∷ []) ≡ 1
times_same n = grind (arith, nat_tests)

times_other : (x n : ℕ) → x < n → times x (n ∷ []) ≡ 0
times_other x n less = grind (arith, nat_tests)

-- a worker between two claims
pub record IsWorking (t : Task) (parts : ℕ) (c : Claiming) (pieces : List Piece) : Type 0 where
  pub of : c.counter ≡ t.counter
  pub has : c.parts ≡ parts
  pub covers : (x : ℕ) → times x c.claimed ≡ times x (numbers_of pieces)
  pub many : length c.claimed ≡ length pieces
  pub few : length pieces ≤ piece_count t.frontier
  pub right : All (IsPiece t) pieces

pub nothing_yet : (t : Task) (c : Claiming) → c.counter ≡ t.counter → c.claimed ≡ [] → IsWorking t c.parts c []
nothing_yet t c of fresh = record {
  of = of;
  has = refl;
  covers = λ x. ap (times x) fresh;
  many = ap length fresh;
  few = omega arith;
  right = All-nil (IsPiece t);
}

-- one piece more
pub one_more : (t : Task) (parts : ℕ) (c next : Claiming) (pieces : List Piece) (piece : Piece)
    → IsWorking t parts c pieces → next ≡ claiming c.counter c.parts (c.claimed ++ piece.number ∷ []) → length c.claimed ≤ piece.number
    → IsPiece t piece → IsWorking t parts next (pieces ++ piece ∷ [])
one_more t parts c next pieces piece w is least right =
    let more : (x : ℕ) → times x (c.claimed ++ piece.number ∷ []) ≡ times x (numbers_of (pieces ++ piece ∷ [])) =
    λ x. times_both x c.claimed (piece.number ∷ [])
    ∙ ap (λ n. n + times x (piece.number ∷ [])) (w.covers x)
    ∙ sym (ap (times x) (map-append (λ (p : Piece). p.number) pieces (piece ∷ [])) ∙ times_both x (numbers_of pieces) (piece.number ∷ [])) in
    let small = right.0 in
    record {
      of = ap (λ (d : Claiming). d.counter) is ∙ w.of;
      has = ap (λ (d : Claiming). d.parts) is ∙ w.has;
      covers = λ x. ap (λ (d : Claiming). times x d.claimed) is ∙ more x;
      many = ap (λ (d : Claiming). length d.claimed) is ∙ omega (arith, length_push c.claimed piece.number, length_push pieces piece, w.many);
      few = omega (arith, length_push pieces piece, w.many);
      right = All-append (IsPiece t) pieces (piece ∷ []) w.right (All-cons (IsPiece t) piece [] right (All-nil (IsPiece t)));
    }

-- a claim after all pieces
pub ended : (t : Task) (parts : ℕ) (c next : Claiming) (pieces : List Piece) (n : ℕ)
    → IsWorking t parts c pieces → next ≡ claiming c.counter c.parts (c.claimed ++ n ∷ []) → piece_count t.frontier ≤ n → IsWork t parts next pieces
ended t parts c next pieces n w is behind = record {
  of = ap (λ (d : Claiming). d.counter) is ∙ w.of;
  has = ap (λ (d : Claiming). d.parts) is ∙ w.has;
  covers = λ x inside. ap (λ (d : Claiming). times x d.claimed) is ∙ omega (arith, times_both x c.claimed (n ∷ []), times_other x n (omega arith), w.covers x);
  last = n;
  behind = behind;
  claimed = subst (λ k. 0 < k) (sym (ap (λ (d : Claiming). times n d.claimed) is)) (omega (arith, times_both n c.claimed (n ∷ []), times_same n));
  right = w.right;
}

-- what two have done
pub both : (t : Task) (m n : ℕ) (c d next : Claiming) (xs ys zs : List Piece)
    → IsWork t m c xs → IsWork t n d ys → next ≡ claiming c.counter (c.parts + d.parts) (c.claimed ++ d.claimed) → zs ≡ xs ++ ys → IsWork t (m + n) next zs
both t m n c d next xs ys zs v w is all = record {
  of = ap (λ (e : Claiming). e.counter) is ∙ v.of;
  has = ap (λ (e : Claiming). e.parts) is ∙ omega (arith, v.has, w.has);
  covers = λ x inside. ap (λ (e : Claiming). times x e.claimed) is ∙ times_both x c.claimed d.claimed
      ∙ omega (arith, v.covers x inside, w.covers x inside)
      ∙ sym (ap (λ ps. times x (numbers_of ps)) all ∙ ap (times x) (map-append (λ (p : Piece). p.number) xs ys) ∙ times_both x (numbers_of xs) (numbers_of ys));
  last = v.last;
  behind = v.behind;
  claimed = subst (λ k. 0 < k) (sym (ap (λ (e : Claiming). times v.last e.claimed) is)) (omega (arith, times_both v.last c.claimed d.claimed, v.claimed));
  right = subst (All (IsPiece t)) (sym all) (All-append (IsPiece t) xs ys v.right w.right);
}

once_inside : (n x : ℕ) → 0 < once_below n x → x < n
once_inside n x some = grind (arith, nat_tests)

inside_once : (n x : ℕ) → x < n → once_below n x ≡ 1
inside_once n x some = grind (arith, nat_tests)

-- who has claimed all numbers below the counter has done all pieces
pub all_done : (t : Task) (parts : ℕ) (c : Claiming) (pieces : List Piece) (n : ℕ) → IsWork t parts c pieces → AreAllBelow n c.claimed → IsWorkDone t pieces
all_done t parts c pieces n w below =
    let past : w.last < n = once_inside n w.last (subst (λ k. 0 < k) (below w.last) w.claimed) in
    let behind = w.behind in
    record {
      each = λ x inside. omega (arith, w.covers x inside, below x, inside_once n x (omega arith));
      right = w.right;
    }

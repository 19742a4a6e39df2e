-- Edges that are copied to arrays.
use Rattle.std.proofs.Common.{◌≡◌, ℕ, suc, ◌+◌, ◌<◌, ◌≤◌, List, [], ◌∷◌, ◌++◌, map, length, take, get_or, eq-eqb, ne_eqb, slice_set, refl, sym, ap, ◌∙◌, append-nil, arith}
use Rattle.std.specs.List.{flat_map}
use Rattle.std.proofs.lemmas.List.{take_more, take_all, take-set-le, get_or-set_same, length-set, map-append}
use Rattle.std.proofs.lemmas.Grind.{flat_map-append}
use Rattle.std.proofs.lemmas.Slice.{take-put_mid}
use borrow.Rule.Slice.PartMut.{put_mid}
use Rattle.graph_model.specs.Graph.{Graph, neighbours, degree, numbers_below, count_pairs, edge_count}
use Rattle.edge_fold.proofs.Written.{length_put, pairs_more, places_left}
use Rattle.embedding.specs.Arrays.{starts_of, targets_of, copy_status}
use Rattle.embedding.specs.declared.statuses.TheConstants.{DONE, LENGTHS}

abbrev pub begins : Graph → ℕ → ℕ
begins g v = count_pairs v g.vertex_count g.has_edge

-- the edges of the first vertices are copied, and where they begin and end
pub record AreCopied (g : Graph) (starts targets : List ℕ) (sources at : ℕ) : Type 0 where
  pub place : at ≡ count_pairs sources g.vertex_count g.has_edge
  pub starts_long : length starts ≡ g.vertex_count + 1
  pub long : length targets ≡ edge_count g
  pub copied : take at targets ≡ flat_map (neighbours g) (numbers_below sources)
  pub started : take (sources + 1) starts ≡ map (begins g) (numbers_below (sources + 1))

-- what is set behind the first elements
take_set : (xs : List ℕ) (i v : ℕ) → i < length xs → take (i + 1) (slice_set xs i v) ≡ take i xs ++ v ∷ []
take_set xs i v inside =
    let long = length-set xs i v in
    take_more (slice_set xs i v) i 0 (omega (arith, inside, long))
    ∙ ap (λ l. l ++ get_or (slice_set xs i v) i 0 ∷ []) (take-set-le i xs i v (omega arith))
    ∙ ap (λ n. take i xs ++ n ∷ []) (get_or-set_same xs i v 0 inside)

pub none_copied : (g : Graph) (starts targets : List ℕ) → length starts ≡ g.vertex_count + 1 → length targets ≡ edge_count g
    → AreCopied g (slice_set starts 0 0) targets 0 0
unfolding count_pairs
none_copied g starts targets starts_long long = record {
  place = refl;
  starts_long = length-set starts 0 0 ∙ starts_long;
  long = long;
  copied = refl;
  started = take_set starts 0 0 (omega (arith, starts_long));
}

pub vertex_copied : (g : Graph) (starts targets : List ℕ) (source at k : ℕ) (part : List ℕ)
    → AreCopied g starts targets source at → source < g.vertex_count → k ≡ degree g source → length part ≡ k → part ≡ neighbours g source
    → AreCopied g (slice_set starts (source + 1) (at + k)) (put_mid at k targets part) (source + 1) (at + k)
vertex_copied g starts targets source at k part done below many long is =
    let fits : at + k ≤ length targets = omega (arith, places_left g source at below done.place, many, done.long) in
    let next : source + 1 ≡ suc source = omega arith in
    let after : source + 1 + 1 ≡ suc (source + 1) = omega arith in
    let place : at + k ≡ count_pairs (source + 1) g.vertex_count g.has_edge = omega (arith, done.place, many, pairs_more g source below) in
    let more : flat_map (neighbours g) (numbers_below (source + 1)) ≡ flat_map (neighbours g) (numbers_below source) ++ neighbours g source =
    ap (λ n. flat_map (neighbours g) (numbers_below n)) next
    ∙ flat_map-append (neighbours g) (numbers_below source) (source ∷ [])
    ∙ ap (λ l. flat_map (neighbours g) (numbers_below source) ++ l) (append-nil (neighbours g source)) in
    let starting : map (begins g) (numbers_below (source + 1 + 1)) ≡ map (begins g) (numbers_below (source + 1)) ++ begins g (source + 1) ∷ [] =
    ap (λ n. map (begins g) (numbers_below n)) after ∙ map-append (begins g) (numbers_below (source + 1)) ((source + 1) ∷ []) in
    record {
      place = place;
      starts_long = length-set starts (source + 1) (at + k) ∙ done.starts_long;
      long = length_put at k targets part fits long ∙ done.long;
      copied = take-put_mid at k targets part (at + k) (omega (arith, long)) (omega (arith, fits))
          ∙ ap (λ l. take at targets ++ l) is ∙ ap (λ l. l ++ neighbours g source) done.copied ∙ sym more;
      started = take_set starts (source + 1) (at + k) (omega (arith, done.starts_long, below))
          ∙ ap (λ l. l ++ (at + k) ∷ []) done.started ∙ ap (λ n. map (begins g) (numbers_below (source + 1)) ++ n ∷ []) place ∙ sym starting;
    }

pub all_copied : (g : Graph) (starts targets : List ℕ) (sources at : ℕ) → AreCopied g starts targets sources at → sources ≡ g.vertex_count
    → (starts ≡ starts_of g) × (targets ≡ targets_of g)
all_copied g starts targets sources at done all =
    let end : at ≡ length targets = done.place ∙ ap (λ n. count_pairs n g.vertex_count g.has_edge) all ∙ sym done.long in (
      sym (take_all (sources + 1) starts (omega (arith, done.starts_long, all))) ∙ done.started ∙ ap (λ n. map (begins g) (numbers_below (n + 1))) all,
      sym (take_all at targets (omega (arith, end))) ∙ done.copied ∙ ap (λ n. flat_map (neighbours g) (numbers_below n)) all,
    )

-- each answer, by the lengths
pub wrong_starts : (g : Graph) (starts targets : List ℕ) → (length starts ≡ g.vertex_count + 1 → ⊥) → copy_status g starts targets ≡ LENGTHS
wrong_starts g starts targets wrong = rw (ne_eqb (length starts) (g.vertex_count + 1) wrong) refl

pub wrong_targets : (g : Graph) (starts targets : List ℕ) → length starts ≡ g.vertex_count + 1 → (length targets ≡ edge_count g → ⊥) → copy_status g starts targets ≡ LENGTHS
wrong_targets g starts targets right wrong = rw (eq-eqb (length starts) (g.vertex_count + 1) right, ne_eqb (length targets) (edge_count g) wrong) refl

pub right_lengths : (g : Graph) (starts targets : List ℕ) → length starts ≡ g.vertex_count + 1 → length targets ≡ edge_count g → copy_status g starts targets ≡ DONE
right_lengths g starts targets starts_right targets_right =
    rw (eq-eqb (length starts) (g.vertex_count + 1) starts_right, eq-eqb (length targets) (edge_count g) targets_right) refl

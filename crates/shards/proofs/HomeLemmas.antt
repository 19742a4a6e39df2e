-- The homes of the lists of a part, one vertex after another.
use Rattle.std.proofs.Common.{◌≡◌, ℕ, ◌+◌, ◌<◌, Bool, List, [], ◌∷◌, ◌++◌, length, get_or, filter, sym, ap, subst, ◌∙◌, inl, inr, arith}
use Rattle.std.proofs.lemmas.Bool.{cases_lt}
use Rattle.std.proofs.lemmas.List.{length_push, get_or_append_left, get_or_push}
use Rattle.past_model.specs.declared.limits.TheConstants.{MOST_VERTICES}
use Rattle.past_model.specs.declared.edit.Edit.{Edit}
use Rattle.past_model.specs.declared.home.Home.{Home}
use Rattle.past_model.specs.declared.home.Home.TheVariants.{Block}
use Rattle.graph_model.specs.Graph.{numbers_below}
use Rattle.past_model.specs.Homes.{home_after, IsHomeOf}
use Rattle.past_model.proofs.HomeLemmas.{homes_hold, homes_stay}
use Rattle.word_sets.specs.declared.places.TheConstants.{WORD_LIMIT}
use Rattle.word_sets.specs.Words.{IsSet}
use Rattle.word_sets.proofs.Targets.{IsWithin-numbers_below}
use Rattle.word_sets.proofs.Within.{IsWithin-filter, IsWithin-wider}
use Rattle.shards.specs.declared.counts.Counts.{Counts}
use Rattle.shards.specs.Part.{Part, row_at, home_at, AreHomes, AreHomesAfter, IsShard}
use Rattle.shards.specs.Merge.{decision, IsMerged}
use Rattle.shards.specs.Begun.{AreAtHome}

pub none_moved : (p : Part) (rows : List (List ℕ)) (homes : List Home) → rows ≡ [] → homes ≡ [] → AreAtHome p rows homes
none_moved p rows homes no_rows no_homes = record {
  count = ap length no_homes ∙ sym (ap length no_rows);
  each = λ i h. absurd (omega (arith, ap length no_homes));
}

-- one list more
pub one_moved : (p : Part) (rows new_rows : List (List ℕ)) (homes new_homes : List Home) (row : List ℕ) (home : Home) (i : ℕ) → AreAtHome p rows homes → length rows ≡ i → new_rows ≡ rows ++ row ∷ [] → new_homes ≡ homes ++ home ∷ [] → home ≡ home_after (home_at p i) (length row) → AreAtHome p new_rows new_homes
one_moved p rows new_rows homes new_homes row home i moved count rows_is homes_is is =
    let same = moved.count in
    record {
      count = ap length homes_is ∙ length_push homes home ∙ ap (λ n. n + 1) same ∙ sym (length_push rows row) ∙ sym (ap length rows_is);
      each = λ k h. elim (cases_lt k (length homes)) [
        | inl lt ↦
            ap (λ l. get_or l k Block) homes_is
            ∙ get_or_append_left homes (home ∷ []) Block k lt
            ∙ moved.each k lt
            ∙ ap (λ l. home_after (home_at p k) (length l)) (sym (ap (λ l. get_or l k []) rows_is ∙ get_or_append_left rows (row ∷ []) [] k (omega (arith, same, lt))))
        | inr ge ↦
            (let last : length homes ≡ k = omega (arith, ap length homes_is, length_push homes home) in
            let at : i ≡ k = omega (arith, last, same, count) in
            ap (λ l. get_or l k Block) homes_is
            ∙ get_or_push homes home Block k last
            ∙ is
            ∙ ap (λ j. home_after (home_at p j) (length row)) at
            ∙ ap (λ l. home_after (home_at p k) (length l)) (sym (ap (λ l. get_or l k []) rows_is ∙ get_or_push rows row [] k (omega (arith, at, count)))))
      ];
    }

-- and one that stays as it is keeps its home
pub same_home : (p : Part) (i : ℕ) → IsShard p → i < length p.rows → home_at p i ≡ home_after (home_at p i) (length (row_at p i))
same_home p i is inside =
    let count = is.homes.count in
    sym (homes_stay (home_at p i) (length (row_at p i)) (is.homes.each i (omega (arith, count, inside))))

-- all homes of a part, and that they may keep its lists
pub all_moved : (p : Part) (range : ℕ) (rows : List (List ℕ)) (homes : List Home) → AreHomes p → length rows ≡ length p.rows → AreAtHome p rows homes
    → AreHomesAfter p (record { range = range; rows = rows; homes = homes }) × AreHomes (record { range = range; rows = rows; homes = homes })
all_moved p range rows homes are long moved = (
  record {
    count = moved.count ∙ long ∙ sym are.count;
    each = moved.each;
  },
  record {
    count = moved.count;
    each = λ i h. subst (λ home. IsHomeOf home (length (get_or rows i []))) (sym (moved.each i h)) (homes_hold (home_at p i) (length (get_or rows i [])));
  },
)

-- a merged list is a set
pub set_merged : (es : List Edit) (u n : ℕ) (p : ℕ → Bool) (row : List ℕ) (counts : Counts) → n ≡ MOST_VERTICES → IsMerged es u n p row counts → IsSet row
set_merged es u n p row counts is merged =
    subst IsSet (sym merged.list)
    (IsWithin-wider 0 0 n WORD_LIMIT (filter (decision es u p) (numbers_below n)) (omega arith) (omega (arith, is))
    (IsWithin-filter (decision es u p) 0 n (numbers_below n) (IsWithin-numbers_below n)))

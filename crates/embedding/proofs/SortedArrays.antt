-- Sorted arrays that passed the tests.
use Rattle.std.proofs.Common.{◌≡◌, ◌≢◌, ℕ, ◌+◌, ◌-◌, ◌<◌, List, length, get_or, drop, sym, subst, ◌∙◌, inl, inr, arith}
use Rattle.std.proofs.lemmas.Bool.{cases_eq}
use Rattle.std.proofs.lemmas.List.{get_or-take, get_or-drop, length-take}
use Rattle.word_sets.specs.Words.{IsWithin}
use Rattle.word_sets.proofs.Within.{within_from}
use Rattle.shards.specs.Arrays.{start_at, list_of}
use Rattle.version.specs.Sorted.{AreSorted}
use Rattle.version.proofs.SortedLemmas.{starts_within}
use Rattle.version.specs.Version.{IsVertexCount}
use Rattle.embedding.specs.declared.statuses.TheConstants.{DONE, NO_MEMORY}
use Rattle.embedding.specs.Batches.{IsHandedOut}
use Rattle.embedding.specs.Sorted.{Ascend, AreVertices, IsTested}

-- a target of a vertex's list stands among all targets
at_list : (starts targets : List ℕ) (v k : ℕ) → k < start_at starts (v + 1) - start_at starts v → get_or (list_of starts targets v) k 0 ≡ get_or targets (start_at starts v + k) 0
at_list starts targets v k h =
    get_or-take (start_at starts (v + 1) - start_at starts v) (drop (start_at starts v) targets) k 0 h ∙ get_or-drop (start_at starts v) targets k 0

list_within : (n : ℕ) (starts targets : List ℕ) (v : ℕ) → v < n → Ascend n starts targets → AreVertices n targets → IsWithin 0 n (list_of starts targets v)
list_within n starts targets v below are vertices =
    let size : ℕ = start_at starts (v + 1) - start_at starts v in
    let high = starts_within n starts targets (v + 1) are.places (omega arith) in
    within_from 0 n (list_of starts targets v) (omega arith) (are.lists v below) (λ k h. omega arith) (λ k h. (
    let inside : k < size = omega (arith, h, length-take size (drop (start_at starts v) targets)) in
    subst (λ w. w < n) (sym (at_list starts targets v k inside)) (vertices (start_at starts v + k) (omega (arith, inside, high)))))

pub all_sorted : (n : ℕ) (starts targets : List ℕ) → length starts ≡ n + 1 → Ascend n starts targets → AreVertices n targets → AreSorted n starts targets
all_sorted n starts targets count are vertices = record {
  count = count;
  places = are.places;
  lists = λ v below. list_within n starts targets v below are vertices;
}

-- where all tests pass
pub tested_count : (n : ℕ) (starts targets : List ℕ) (status : ℕ) → IsTested n starts targets status → status ≡ DONE → IsVertexCount n
tested_count n starts targets status tested done = tested.vertices (λ is. omega (arith, is, done))

pub tested_sorted : (n : ℕ) (starts targets : List ℕ) (status : ℕ) → IsTested n starts targets status → status ≡ DONE → AreSorted n starts targets
tested_sorted n starts targets status tested done =
    let count = tested.long (λ is. omega (arith, is, done)) (λ is. omega (arith, is, done)) in
    let are = tested.sorted (λ is. omega (arith, is, done)) (λ is. omega (arith, is, done)) (λ is. omega (arith, is, done)) in
    all_sorted n starts targets count are (tested.within done)

pub tested_done : (n : ℕ) (starts targets : List ℕ) (status : ℕ) → IsTested n starts targets status → status ≡ DONE → IsTested n starts targets DONE
tested_done n starts targets status tested done = subst (IsTested n starts targets) done tested

-- what is handed out then is tested, too, unless there is no memory
pub tested_handed : (n : ℕ) (starts targets : List ℕ) (answer : ℕ) {made same : Type 0} → IsTested n starts targets DONE → IsHandedOut answer made same → answer ≢ NO_MEMORY → IsTested n starts targets answer
tested_handed n starts targets answer tested out some = elim (cases_eq answer DONE) [
  | inl done ↦ subst (IsTested n starts targets) (sym done) tested
  | inr other ↦ absurd (some (out.1 other).0)
]

-- One run of an array that is changed again and again, and all others stay.
use Rattle.std.proofs.Common.{◌≡◌, ℕ, ◌<◌, List, Option, Some, None, [], length, get_or, set, unwrap_or, IsSome, is_some, refl, sym, ap, subst, ◌∙◌, inl, inr}
use Rattle.std.proofs.lemmas.Bool.{cases_lt, true≢false}
use Rattle.std.proofs.lemmas.List.{get_or-set_same, set-set, set-get_or, get_or_past}
use Rattle.gapped_array.specs.Table.{IsOpen, list_at}

abbrev Runs : Type 0
Runs = List (Option (List ℕ))

-- an open run is one of the array's
pub run_inside : (a : Runs) (k : ℕ) → IsOpen a k → k < length a
run_inside a k opened = elim (cases_lt k (length a)) [
  | inl lt ↦ lt
  | inr past ↦ absurd (true≢false (sym opened ∙ ap is_some (get_or_past a k None past)))
]

-- what is open has its list
some_list : (o : Option (List ℕ)) → IsSome o → o ≡ Some (unwrap_or o [])
some_list None opened = absurd (true≢false (sym opened))
some_list (Some row) opened = refl

pub run_as_it_is : (a : Runs) (k : ℕ) → IsOpen a k → a ≡ set a k (Some (list_at a k))
run_as_it_is a k opened = sym (set-get_or a k None) ∙ ap (λ o. set a k o) (some_list (get_or a k None) opened)

-- a change of it leaves it open
pub run_stays_open : (old new : Runs) (k : ℕ) (row : List ℕ) → IsOpen old k → new ≡ set old k (Some row) → IsOpen new k
run_stays_open old new k row opened is =
    let now : get_or new k None ≡ Some row = ap (λ a. get_or a k None) is ∙ get_or-set_same old k (Some row) None (run_inside old k opened) in
    subst IsSome (sym now) refl

-- and two changes are one
pub run_again : (old mid new : Runs) (k : ℕ) → IsOpen old k → mid ≡ set old k (Some (list_at mid k)) → new ≡ set mid k (Some (list_at new k)) → IsOpen new k × (new ≡ set old k (Some (list_at new k)))
run_again old mid new k opened first second =
    let between = run_stays_open old mid k (list_at mid k) opened first in (
      run_stays_open mid new k (list_at new k) between second,
      second ∙ ap (λ a. set a k (Some (list_at new k))) first ∙ set-set old k (Some (list_at mid k)) (Some (list_at new k)),
    )

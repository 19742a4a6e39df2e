-- What callers see of an array: for each vertex its list, or that it has none.
use Rattle.std.specs.Prelude.{ℕ, List, [], Option, None, IsSome, unwrap_or, slice_index_or}

-- whether a vertex has a list
abbrev pub IsOpen : List (Option (List ℕ)) → ℕ → Type 0
IsOpen lists vertex = IsSome (slice_index_or lists vertex None)

-- its list
abbrev pub list_at : List (Option (List ℕ)) → ℕ → List ℕ
list_at lists vertex = unwrap_or (slice_index_or lists vertex None) []

-- For the code: lists of values that are joined from a place on.
use Rattle.std.specs.Prelude.{ℕ, List, ◌++◌, take, drop}
use Rattle.abstract_values.specs.declared.value.AbstractValue.{AbstractValue}
use Rattle.abstract_values.specs.Values.{join_of}
use Rattle.abstract_state.specs.States.{elementwise}

-- the values before a place as they are, and those from it on joined with the others
abbrev pub joined_from : ℕ → (values others : List AbstractValue) → List AbstractValue
joined_from n values others = take n values ++ elementwise join_of (drop n values) (drop n others)

-- What is known of a value describes it: the meaning of abstract values.
use Rattle.std.specs.Prelude.{◌≡◌, ℕ, ◌+◌, ◌<◌, ◌≤◌, ◌^◌, pos, ◌+ℤ◌, ◌≤ℤ◌, Bool, true, false, Option, Some, None}
use Rattle.bpf_image.specs.declared.lengths.Lengths.{Lengths}
use Rattle.bpf_model.specs.State.{record_base, table_base, frame_top}
use Rattle.abstract_values.specs.declared.branch.Sides.{Sides}
use Rattle.abstract_values.specs.declared.limits.TheConstants.{FRAME_BOTTOM}
use Rattle.abstract_values.specs.declared.value.AbstractValue.{AbstractValue}
use Rattle.abstract_values.specs.declared.value.AbstractValue.TheVariants.{Unset, Number, Record, Stack, Table}

-- a record's length and a table's have 16 bits
abbrev pub AreShort : Lengths → Type 0
AreShort lengths = (lengths.record_length < 2 ^ 16) × (lengths.table_length < 2 ^ 16)

-- a value describes what a register holds, where record and table have these lengths and so many frames are live
abbrev pub Describes : Lengths → ℕ → AbstractValue → Option ℕ → Type 0
Describes lengths live Unset x = Unit {0}
Describes lengths live (Number lo hi) x = (n : ℕ) × (x ≡ Some n) × (lo ≤ n) × (n ≤ hi) × (n < 2 ^ 64)
Describes lengths live (Record lo hi) x =
    (n : ℕ) × (x ≡ Some (record_base + n)) × (lo ≤ n) × (n ≤ hi) × (n ≤ lengths.record_length)
Describes lengths live (Stack frame offset) x =
    (n : ℕ) × (x ≡ Some n) × (pos n ≡ pos (frame_top frame) +ℤ offset) × (FRAME_BOTTOM ≤ℤ offset) × (offset ≤ℤ pos 0) × (frame < live)
Describes lengths live (Table lo hi) x =
    (n : ℕ) × (x ≡ Some (table_base + n)) × (lo ≤ n) × (n ≤ hi) × (n ≤ lengths.table_length)

-- a side of a branch describes two numbers that come to it; none come to a side that is not walked
abbrev pub DescribesSide : Lengths → ℕ → Option (AbstractValue × AbstractValue) → ℕ → ℕ → Type 0
DescribesSide lengths live None x y = ⊥
DescribesSide lengths live (Some known) x y =
    Describes lengths live known.0 (Some x) × Describes lengths live known.1 (Some y)

-- the side that a branch goes on with
abbrev pub side_of : Sides → Bool → Option (AbstractValue × AbstractValue)
side_of sides true = sides.taken
side_of sides false = sides.passed

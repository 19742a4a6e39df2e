-- Soundness, in the words of abstract interpretation: what is known after an operation describes every
-- result of what was described before it. Each law is the contract of a public function.
use Rattle.std.specs.Prelude.{◌≡◌, ℕ, ◌≤◌, Option, Some, Ok}
use Rattle.bpf_isa.specs.declared.instruction.Width.{Width}
use Rattle.bpf_isa.specs.declared.instruction.Operation.{Operation}
use Rattle.bpf_isa.specs.declared.instruction.Comparison.{Comparison}
use Rattle.bpf_isa.specs.declared.instruction.Extension.{Extension}
use Rattle.bpf_isa.specs.declared.instruction.ByteOrder.{ByteOrder}
use Rattle.bpf_isa.specs.declared.instruction.SwapBits.{SwapBits}
use Rattle.bpf_image.specs.declared.lengths.Lengths.{Lengths}
use Rattle.bpf_model.specs.State.{most_frames}
use Rattle.bpf_model.specs.Arithmetic.{alu_number, negate_number, move_signed_number, swap_number, holds}
use Rattle.abstract_values.specs.declared.branch.Sides.{Sides}
use Rattle.abstract_values.specs.declared.value.AbstractValue.{AbstractValue}
use Rattle.abstract_values.specs.Values.{join_of, alu_result, negate_result, move_signed_result, swap_result}
use Rattle.abstract_values.specs.Narrowing.{narrowing}
use Rattle.abstract_values.specs.Described.{AreShort, Describes, DescribesSide, side_of}

-- what one of two values describes, their join describes too
abbrev pub JoinDescribes : Type 0
JoinDescribes =
    (lengths : Lengths) (live : ℕ) (a b : AbstractValue) (x : Option ℕ)
    → (Describes lengths live a x → Describes lengths live (join_of a b) x)
    × (Describes lengths live b x → Describes lengths live (join_of a b) x)

-- the order of two ways, and of three, makes no difference to what is known where they meet
abbrev pub JoinCommutes : Type 0
JoinCommutes = (a b : AbstractValue) → join_of a b ≡ join_of b a

abbrev pub JoinAssociates : Type 0
JoinAssociates = (a b c : AbstractValue) → join_of (join_of a b) c ≡ join_of a (join_of b c)

-- what the rules give describes what the arithmetic makes of two described numbers. The lengths of record and
-- table have 16 bits, and no more frames are live than may be.
abbrev pub AluDescribes : Type 0
AluDescribes =
    (width : Width) (operation : Operation) (lengths : Lengths) (live : ℕ) (a b v : AbstractValue) (x y : ℕ)
    → AreShort lengths → live ≤ most_frames
    → alu_result width operation lengths a b ≡ Ok v
    → Describes lengths live a (Some x) → Describes lengths live b (Some y)
    → Describes lengths live v (Some (alu_number width operation x y))

abbrev pub NegateDescribes : Type 0
NegateDescribes =
    (width : Width) (lengths : Lengths) (live : ℕ) (a v : AbstractValue) (x : ℕ)
    → negate_result width a ≡ Ok v → Describes lengths live a (Some x)
    → Describes lengths live v (Some (negate_number width x))

abbrev pub MoveSignedDescribes : Type 0
MoveSignedDescribes =
    (e : Extension) (lengths : Lengths) (live : ℕ) (a v : AbstractValue) (x : ℕ)
    → move_signed_result e a ≡ Ok v → Describes lengths live a (Some x)
    → Describes lengths live v (Some (move_signed_number e x))

abbrev pub SwapDescribes : Type 0
SwapDescribes =
    (order : ByteOrder) (bits : SwapBits) (lengths : Lengths) (live : ℕ) (a v : AbstractValue) (x : ℕ)
    → swap_result order bits a ≡ Ok v → Describes lengths live a (Some x)
    → Describes lengths live v (Some (swap_number order bits x))

-- two described numbers are described on the side of a branch that they take
abbrev pub NarrowDescribes : Type 0
NarrowDescribes =
    (width : Width) (comparison : Comparison) (lengths : Lengths) (live : ℕ) (a b : AbstractValue) (sides : Sides) (x y : ℕ)
    → narrowing width comparison a b ≡ Ok sides
    → Describes lengths live a (Some x) → Describes lengths live b (Some y)
    → DescribesSide lengths live (side_of sides (holds width comparison x y)) x y

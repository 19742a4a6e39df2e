-- Laws of what is known of states. Each is the contract of a public function.
use Rattle.std.specs.Prelude.{◌≡◌, ℕ, ◌<◌, ◌≤◌, ◌^◌, ℤ, FitsSigned, Some, Ok}
use Rattle.std.specs.Int.{w16}
use Rattle.bpf_isa.specs.declared.instruction.Size.{Size}
use Rattle.bpf_model.specs.State.{Partial, most_frames, number_at, address_at}
use Rattle.bpf_isa.specs.Sizes.{size_bytes}
use Rattle.bpf_image.specs.declared.lengths.Lengths.{Lengths}
use Rattle.abstract_values.specs.declared.value.AbstractValue.{AbstractValue}
use Rattle.abstract_values.specs.Described.{AreShort, Describes}
use Rattle.abstract_state.specs.States.{AbstractState, join_of_states}
use Rattle.abstract_state.specs.Memory.{load_result, store_result, gather_result}
use Rattle.abstract_state.specs.Described.{DescribesParts, IsAllowed, IsReadable, IsWritten, IsStored}

-- what one of two states describes, their join describes too
abbrev pub JoinDescribesStates : Type 0
JoinDescribesStates =
    (lengths : Lengths) (live : ℕ) (a b : AbstractState) (registers memory : Partial)
    → (DescribesParts lengths live a registers memory → DescribesParts lengths live (join_of_states a b) registers memory)
    × (DescribesParts lengths live b registers memory → DescribesParts lengths live (join_of_states a b) registers memory)

-- the order of two ways, and of three, makes no difference to what is known where they meet
abbrev pub JoinIsOrderless : Type 0
JoinIsOrderless =
    ((a b : AbstractState) → join_of_states a b ≡ join_of_states b a)
    × ((a b c : AbstractState) → join_of_states (join_of_states a b) c ≡ join_of_states a (join_of_states b c))

-- what the rules say of a load describes the number that is there, and its bytes may be read
abbrev pub LoadDescribes : Type 0
LoadDescribes =
    (lengths : Lengths) (live : ℕ) (a : AbstractState) (registers memory : Partial) (base v : AbstractValue) (offset : ℤ) (size : Size) (x : ℕ)
    → AreShort lengths → live ≤ most_frames → FitsSigned w16 offset
    → load_result lengths a base offset (size_bytes size) ≡ Ok v
    → DescribesParts lengths live a registers memory → Describes lengths live base (Some x)
    → (n : ℕ) × IsReadable lengths live (address_at x offset) (size_bytes size)
    × (number_at memory (address_at x offset) (size_bytes size) ≡ Some n) × Describes lengths live v (Some n)

-- what the rules say of a store describes the memory after it, and the store is allowed.
abbrev pub StoreDescribes : Type 0
StoreDescribes =
    (lengths : Lengths) (live : ℕ) (a b : AbstractState) (registers before after : Partial) (base v : AbstractValue) (offset : ℤ) (size : Size) (x n : ℕ)
    → lengths.record_length < 2 ^ 16 → live ≤ most_frames → FitsSigned w16 offset → n < 2 ^ 64
    → store_result lengths a base offset (size_bytes size) v ≡ Ok b
    → DescribesParts lengths live a registers before
    → Describes lengths live base (Some x) → Describes lengths live v (Some n)
    → IsStored before after (address_at x offset) (size_bytes size) n
    → IsAllowed lengths live (address_at x offset) (size_bytes size) × DescribesParts lengths live b registers after

-- what the rules say of gather describes the memory after it, and its bytes are allowed
abbrev pub GatherDescribes : Type 0
GatherDescribes =
    (lengths : Lengths) (live : ℕ) (a b : AbstractState) (registers before after : Partial) (pointer : AbstractValue) (room x : ℕ)
    → lengths.record_length < 2 ^ 16 → live ≤ most_frames → 1 ≤ room
    → gather_result lengths a pointer room ≡ Ok b
    → DescribesParts lengths live a registers before → Describes lengths live pointer (Some x)
    → IsWritten before after x room
    → IsAllowed lengths live x room × DescribesParts lengths live b registers after

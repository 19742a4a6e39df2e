-- A join of states describes what its sides do.
use Rattle.std.proofs.Common.{◌≡◌, ℕ, zero, suc, ◌+◌, List, [], ◌∷◌, length, Bool, true, false, Option, Some, None, get_or}
use Rattle.std.specs.Prelude.{◌&&◌}
use Rattle.std.proofs.lemmas.Bool.{and_parts}
use Rattle.bpf_image.specs.declared.lengths.Lengths.{Lengths}
use Rattle.bpf_model.specs.State.{Partial, Saved, frame_top}
use Rattle.abstract_values.specs.declared.value.AbstractValue.{AbstractValue}
use Rattle.abstract_values.specs.declared.value.AbstractValue.TheVariants.{Unset}
use Rattle.abstract_values.specs.Values.{join_of}
use Rattle.abstract_values.specs.Described.{Describes}
use Rattle.abstract_values.proofs.Sound.{join_describes}
use Rattle.abstract_state.specs.declared.state.Frame.{Frame}
use Rattle.abstract_state.specs.States.{AbstractState, join_of_frames, join_if_live}
use Rattle.abstract_state.specs.States.{elementwise, join_of_states}
use Rattle.abstract_state.specs.Described.{DescribesFrame, DescribesLive, DescribesParts, DescribesKept}

left_described : (l : Lengths) (live : ℕ) (xs ys : List AbstractValue) (k : ℕ) (x : Option ℕ) → Describes l live (get_or xs k Unset) x → Describes l live (get_or (elementwise join_of xs ys) k Unset) x
left_described l live [] ys k x d = d
left_described l live (a ∷ xs) [] k x d = tt
left_described l live (a ∷ xs) (b ∷ ys) zero x d = (join_describes l live a b x).0 d
left_described l live (a ∷ xs) (b ∷ ys) (suc k) x d = left_described l live xs ys k x d

right_described : (l : Lengths) (live : ℕ) (xs ys : List AbstractValue) (k : ℕ) (x : Option ℕ) → Describes l live (get_or ys k Unset) x → Describes l live (get_or (elementwise join_of xs ys) k Unset) x
right_described l live [] ys k x d = tt
right_described l live (a ∷ xs) [] k x d = tt
right_described l live (a ∷ xs) (b ∷ ys) zero x d = (join_describes l live a b x).1 d
right_described l live (a ∷ xs) (b ∷ ys) (suc k) x d = right_described l live xs ys k x d

abbrev both : Bool → Bool → Bool
both a b = a && b

both_were : (xs ys : List Bool) (k : ℕ) → get_or (elementwise (λ a b. a && b) xs ys) k false ≡ true → (get_or xs k false ≡ true) × (get_or ys k false ≡ true)
both_were [] ys k h = absurd cc
both_were (a ∷ xs) [] k h = absurd cc
both_were (a ∷ xs) (b ∷ ys) zero h = and_parts a b h
both_were (a ∷ xs) (b ∷ ys) (suc k) h = both_were xs ys k h

left_frame : (l : Lengths) (live top : ℕ) (f g : Frame) (memory : Partial) → DescribesFrame l live top f memory → DescribesFrame l live top (join_of_frames f g) memory
left_frame l live top f g memory d = record {
  stack_set = λ k lt h. d.stack_set k lt ((both_were f.bytes_set g.bytes_set k h).0);
  spilled = λ j lt. left_described l live f.slots g.slots j _ (d.spilled j lt);
}

right_frame : (l : Lengths) (live top : ℕ) (f g : Frame) (memory : Partial) → DescribesFrame l live top g memory → DescribesFrame l live top (join_of_frames f g) memory
right_frame l live top f g memory d = record {
  stack_set = λ k lt h. d.stack_set k lt ((both_were f.bytes_set g.bytes_set k h).1);
  spilled = λ j lt. right_described l live f.slots g.slots j _ (d.spilled j lt);
}

left_live : (l : Lengths) (live top : ℕ) (memory : Partial) (f g : Option Frame) → DescribesLive l live top f memory → DescribesLive l live top (join_if_live f g) memory
left_live l live top memory (Some f) (Some g) d = left_frame l live top f g memory d
left_live l live top memory (Some f) None d = tt
left_live l live top memory None g d = tt

right_live : (l : Lengths) (live top : ℕ) (memory : Partial) (f g : Option Frame) → DescribesLive l live top g memory → DescribesLive l live top (join_if_live f g) memory
right_live l live top memory (Some f) (Some g) d = right_frame l live top f g memory d
right_live l live top memory (Some f) None d = tt
right_live l live top memory None g d = tt

-- element by element, where nothing is said of what is not there
left_each : {A : Type 0} (f : A → A → A) (z : A) (P : A → Type 0) → P z → ((x y : A) → P x → P (f x y)) → (xs ys : List A) (k : ℕ) → P (get_or xs k z) → P (get_or (elementwise f xs ys) k z)
left_each f z P none both [] ys k d = d
left_each f z P none both (x ∷ xs) [] k d = none
left_each f z P none both (x ∷ xs) (y ∷ ys) zero d = both x y d
left_each f z P none both (x ∷ xs) (y ∷ ys) (suc k) d = left_each f z P none both xs ys k d

right_each : {A : Type 0} (f : A → A → A) (z : A) (P : A → Type 0) → P z → ((x y : A) → P y → P (f x y)) → (xs ys : List A) (k : ℕ) → P (get_or ys k z) → P (get_or (elementwise f xs ys) k z)
right_each f z P none both [] ys k d = none
right_each f z P none both (x ∷ xs) [] k d = none
right_each f z P none both (x ∷ xs) (y ∷ ys) zero d = both x y d
right_each f z P none both (x ∷ xs) (y ∷ ys) (suc k) d = right_each f z P none both xs ys k d

left_parts : (l : Lengths) (live : ℕ) (a b : AbstractState) (registers memory : Partial) → DescribesParts l live a registers memory → DescribesParts l live (join_of_states a b) registers memory
left_parts l live a b registers memory d = record {
  values = λ r. left_described l live a.registers b.registers r (registers r) (d.values r);
  record_set = d.record_set;
  table_set = d.table_set;
  frames = λ k is_live. left_each join_if_live None (λ f. DescribesLive l live (frame_top k) f memory) tt (left_live l live (frame_top k) memory) a.frames b.frames k (d.frames k is_live);
}

right_parts : (l : Lengths) (live : ℕ) (a b : AbstractState) (registers memory : Partial) → DescribesParts l live b registers memory → DescribesParts l live (join_of_states a b) registers memory
right_parts l live a b registers memory d = record {
  values = λ r. right_described l live a.registers b.registers r (registers r) (d.values r);
  record_set = d.record_set;
  table_set = d.table_set;
  frames = λ k is_live. right_each join_if_live None (λ f. DescribesLive l live (frame_top k) f memory) tt (right_live l live (frame_top k) memory) a.frames b.frames k (d.frames k is_live);
}

pub join_describes_states : (l : Lengths) (live : ℕ) (a b : AbstractState) (registers memory : Partial) → (DescribesParts l live a registers memory → DescribesParts l live (join_of_states a b) registers memory) × (DescribesParts l live b registers memory → DescribesParts l live (join_of_states a b) registers memory)
join_describes_states l live a b registers memory = (left_parts l live a b registers memory, right_parts l live a b registers memory)

-- and what is kept of callers
pub left_kept : (l : Lengths) (kept other : List (List AbstractValue)) (callers : List Saved) → DescribesKept l kept callers → DescribesKept l (elementwise (elementwise join_of) kept other) callers
left_kept l kept other [] d = tt
left_kept l kept other (caller ∷ callers) d =
    (λ i. left_each (elementwise join_of) [] (λ vs. Describes l (suc (length callers)) (get_or vs i Unset) (caller.registers (i + 6))) tt (λ xs ys. left_described l (suc (length callers)) xs ys i (caller.registers (i + 6))) kept other (length callers) (d.0 i), left_kept l kept other callers d.1)

pub right_kept : (l : Lengths) (other kept : List (List AbstractValue)) (callers : List Saved) → DescribesKept l kept callers → DescribesKept l (elementwise (elementwise join_of) other kept) callers
right_kept l other kept [] d = tt
right_kept l other kept (caller ∷ callers) d =
    (λ i. right_each (elementwise join_of) [] (λ vs. Describes l (suc (length callers)) (get_or vs i Unset) (caller.registers (i + 6))) tt (λ xs ys. right_described l (suc (length callers)) xs ys i (caller.registers (i + 6))) other kept (length callers) (d.0 i), right_kept l other kept callers d.1)

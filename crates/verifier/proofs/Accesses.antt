-- A load or a store that the rules allow does not trap, and leaves what they describe.
use Rattle.std.proofs.Common.{◌≡◌, ℕ, zero, suc, leb, ◌+◌, ◌-◌, ◌^◌, ◌<◌, ◌≤◌, true, Some, Result, Ok, Err, refl, sym, ap, subst, ◌∙◌, arith, inl, inr}
use Rattle.std.specs.Prelude.{ℤ, pos, ◌+ℤ◌, FitsSigned}
use Rattle.std.specs.Int.{w16}
use Rattle.std.proofs.lemmas.Bool.{cases_eq, or_left, or_right, and_from, le-leb}
use Rattle.bpf_isa.specs.declared.register.Register.{Register}
use Rattle.bpf_isa.specs.declared.instruction.Instruction.{Instruction}
use Rattle.bpf_isa.specs.declared.instruction.Size.{Size}
use Rattle.bpf_isa.specs.declared.instruction.SignedSize.{SignedSize}
use Rattle.bpf_isa.specs.declared.instruction.SignedSize.TheVariants.{SignedByte, SignedHalf, SignedWord}
use Rattle.bpf_isa.specs.declared.instruction.Extension.TheVariants.{From8To64, From16To64, From32To64}
use Rattle.bpf_model.specs.Arithmetic.{move_signed_number}
use Rattle.bpf_model.specs.State.{State, with_values, frame_top, frame_bytes, in_frame, may_read, may_write, address_at, live_frames, in_frames}
use Rattle.bpf_model.specs.Step.{Goes, load_extension, low_bytes, load, store, next_with_result}
use Rattle.bpf_isa.specs.Sizes.{size_bytes, plain_size}
use Rattle.bpf_image.specs.declared.limits.TheConstants.{MOST_RECORD_LENGTH}
use Rattle.bpf_image.specs.declared.lengths.Lengths.{Lengths}
use Rattle.bpf_model.proofs.ArithmeticFacts.{extended_fits}
use Rattle.bpf_model.specs.declared.cause.Cause.{Cause}
use Rattle.abstract_values.specs.declared.value.AbstractValue.{AbstractValue}
use Rattle.abstract_values.specs.declared.value.AbstractValue.TheVariants.{Number}
use Rattle.abstract_values.specs.Described.{Describes}
use Rattle.abstract_state.specs.States.{AbstractState}
use Rattle.abstract_state.specs.Memory.{load_result, load_signed_result, any_number_where, store_result}
use Rattle.abstract_state.specs.Described.{IsAllowed, IsReadable, DescribesKept}
use Rattle.abstract_state.proofs.Entered.{stored_kept}
use Rattle.abstract_state.proofs.Loads.{load_describes}
use Rattle.abstract_state.proofs.Stores.{store_describes}
use Rattle.verifier.specs.RuleLaws.{AreOfImage}
use Rattle.verifier.specs.Rules.{Ways, onward, write_ways, behind_store}
use Rattle.verifier.specs.Described.{DescribesState, Follows, stays}
use Rattle.verifier.proofs.RuleParts.{ok, bind_ok, writes_from}
use Rattle.verifier.proofs.KnownValues.{live, few_live}
use Rattle.verifier.proofs.Stored.{stored_number}
use Rattle.verifier.proofs.RegisterWrites.{put_follows}

-- bytes in one of some frames
in_some : (n k a size : ℕ) → k < n → frame_top k - frame_bytes ≤ a → a + size ≤ frame_top k → in_frames n a size ≡ true
in_some zero k a size lt low high = absurd (omega (arith, lt))
in_some (suc n) k a size lt low high =
    elim (cases_eq k n) [
      | inl same ↦
          let here : in_frame n a size ≡ true = and_from (leb (frame_top n - frame_bytes) a) (leb (a + size) (frame_top n)) (le-leb (frame_top n - frame_bytes) a (omega (arith, same, low))) (le-leb (a + size) (frame_top n) (omega (arith, same, high))) in
          or_left (in_frame n a size) (in_frames n a size) here
      | inr other ↦ or_right (in_frame n a size) (in_frames n a size) (in_some n k a size (omega (arith, lt, other)) low high)
    ]

-- bytes in the record or in a live frame may be written
pub allowed : (l : Lengths) (s : State) (a size : ℕ) → IsAllowed l (live s) a size → may_write l s a size ≡ true
allowed l s a size (inl within) = or_left _ _ within
allowed l s a size (inr inside) = or_right _ _ (in_some (live_frames s) inside.0 a size inside.1 inside.2 inside.3)

-- and read, as those in the table
readable : (l : Lengths) (s : State) (a size : ℕ) → IsReadable l (live s) a size → may_read l s a size ≡ true
readable l s a size (inl is) = or_left _ _ (allowed l s a size is)
readable l s a size (inr within) = or_right _ _ within

-- a plain load
pub load_follows : (l : Lengths) (pc : ℕ) (i : Instruction) (b : AbstractValue) (z : ℤ) (a : AbstractState) (s : State) (d : Register) (size : Size) (x : ℕ) (ws : Ways) → AreOfImage l → FitsSigned w16 z → s.pc ≡ pos pc → DescribesState l a s → Describes l (live s) b (Some x) → write_ways (pc + 1) a d (load_result l a b z (size_bytes size)) ≡ ok ws → Follows l i a s ws (load l s (address_at x z) size (next_with_result s 1 d))
load_follows l pc i b z a s d size x ws short fits at described base h =
    let w = writes_from (pc + 1) a d (load_result l a b z (size_bytes size)) ws h in
    let n = load_describes l (live s) a s.registers s.memory b w.value z size x (omega (arith, short.0), omega (arith, short.1)) (few_live l a s described) fits w.from described.parts base in
    let may = readable l s (address_at x z) (size_bytes size) n.1 in
    rw (may, n.2) (put_follows l pc 1 i a s d (ok w.value) n.0 ws at described (subst (λ r. write_ways (pc + 1) a d r ≡ ok ws) w.from h) (λ v e. let same : w.value ≡ v = cc in subst (λ u. Describes l (live s) u (Some n.0)) same n.3))

any_number : (l : Lengths) (t n : ℕ) → n < 2 ^ 64 → Describes l t (Number 0 (2 ^ 64 - 1)) (Some n)
any_number l t n lt = (n, refl, omega arith, omega (arith, lt), lt)

-- what a sign-extending load leaves has 64 bits
extended_64 : (size : SignedSize) (n : ℕ) → move_signed_number (load_extension size) n < 2 ^ 64
extended_64 SignedByte n = extended_fits From8To64 n
extended_64 SignedHalf n = extended_fits From16To64 n
extended_64 SignedWord n = extended_fits From32To64 n

-- a sign-extending load is a plain one of any number
any_from : (r : Result AbstractValue Cause) (v : AbstractValue) → any_number_where r ≡ ok v → (u : AbstractValue) × (r ≡ ok u) × (Number 0 (2 ^ 64 - 1) ≡ v)
any_from (Ok u) v h = (u, refl, cc)
any_from (Err cause) v h = absurd cc

pub load_extended_follows : (l : Lengths) (pc : ℕ) (i : Instruction) (b : AbstractValue) (z : ℤ) (a : AbstractState) (s : State) (d : Register) (size : SignedSize) (x : ℕ) (ws : Ways) → AreOfImage l → FitsSigned w16 z → s.pc ≡ pos pc → DescribesState l a s → Describes l (live s) b (Some x) → write_ways (pc + 1) a d (load_signed_result l a b z size) ≡ ok ws → Follows l i a s ws (load l s (address_at x z) (plain_size size) (λ n. next_with_result s 1 d (move_signed_number (load_extension size) n)))
load_extended_follows l pc i b z a s d size x ws short fits at described base h =
    let w = writes_from (pc + 1) a d (load_signed_result l a b z size) ws h in
    let u = any_from (load_result l a b z (size_bytes (plain_size size))) w.value w.from in
    let n = load_describes l (live s) a s.registers s.memory b u.0 z (plain_size size) x (omega (arith, short.0), omega (arith, short.1)) (few_live l a s described) fits u.1 described.parts base in
    let may = readable l s (address_at x z) (size_bytes (plain_size size)) n.1 in
    let m = move_signed_number (load_extension size) n.0 in
    rw (may, n.2) (put_follows l pc 1 i a s d (ok w.value) m ws at described (subst (λ r. write_ways (pc + 1) a d r ≡ ok ws) w.from h) (λ v e. let same : Number 0 (2 ^ 64 - 1) ≡ v = (let f : w.value ≡ v = cc in u.2 ∙ f) in subst (λ t. Describes l (live s) t (Some m)) same (any_number l (live s) m (extended_64 size n.0))))

-- a store
pub store_follows : (l : Lengths) (pc : ℕ) (i : Instruction) (b v : AbstractValue) (z : ℤ) (a : AbstractState) (s : State) (size : Size) (x n : ℕ) (ws : Ways) → l.record_length ≤ MOST_RECORD_LENGTH → FitsSigned w16 z → n < 2 ^ 64 → s.pc ≡ pos pc → DescribesState l a s → Describes l (live s) b (Some x) → Describes l (live s) v (Some n) → behind_store (pc + 1) (store_result l a b z (size_bytes size) v) ≡ ok ws → Follows l i a s ws (store l s (address_at x z) size n)
store_follows l pc i b v z a s size x n ws short fits lt at described base value h =
    let parts = bind_ok (store_result l a b z (size_bytes size) v) (λ t. ok (onward (pc + 1) t)) ws h in
    let t = parts.0 in
    let ways : onward (pc + 1) t ≡ ws = (let e : ok (onward (pc + 1) t) ≡ ok ws = parts.2 in cc) in
    let memory = with_values s.memory (address_at x z) (low_bytes size n) in
    let written = stored_number s.memory (address_at x z) size n in
    let left = store_describes l (live s) a t s.registers s.memory memory b v z size x n (omega (arith, short)) (few_live l a s described) fits lt parts.1 described.parts base value written in
    let may = allowed l s (address_at x z) (size_bytes size) left.0 in
    let moved : s.pc +ℤ pos 1 ≡ pos (pc + 1) = ap (λ y. y +ℤ pos 1) at in
    let after : State = record s { pc = s.pc +ℤ pos 1; memory = memory } in
    let same : t.kept ≡ a.kept = stored_kept l a t b v z (size_bytes size) parts.1 in
    let known : DescribesState l t after = record { parts = left.1; frame_register = described.frame_register; few_callers = described.few_callers; kept = subst (λ k. DescribesKept l k s.callers) (sym same) described.kept } in
    rw may (subst (λ u. Follows l i a s u (Goes after)) ways (stays (pos (pc + 1), t) (inl refl) moved known refl))

-- What a machine's memory is as it begins, and numbers of several bytes in it.
use Rattle.std.proofs.Common.{◌≡◌, ℕ, zero, suc, ◌+◌, ◌-◌, ◌*◌, ◌%◌, ◌^◌, ◌<◌, ◌≤◌, nat_le, List, length, Option, Some, None, arith, inl, inr, ◌∙◌, sym, refl, ap, add-zero, lit<}
use Rattle.std.proofs.Math.ListN.{replicate}
use Rattle.std.proofs.Math.Path.{fun_ext}
use Rattle.std.proofs.Math.Nat.{pow-suc, pow-le-pow_right}
use Rattle.std.proofs.lemmas.Bool.{cases_lt, cases_Bool, leb-true, cond-true, cond-false}
use Rattle.std.proofs.lemmas.List.{get_or-replicate, get_or_past, length-replicate}
use Rattle.std.proofs.lemmas.Option.{slice_get_past}
use Rattle.bpf_image.specs.declared.limits.TheConstants.{MOST_RECORD_LENGTH}
use Rattle.bpf_model.specs.State.{Partial, joined_bytes, number_at, record_base, record_memory}
use Rattle.bpf_model.specs.declared.limits.TheConstants.{STACK_BASE, FRAME_SPACE}
use Rattle.bpf_machine.specs.Seen.{values_of, stack_byte, memory_of}
use Rattle.bpf_machine.specs.declared.stack.TheConstants.{FRAME_START}

-- no byte of a new frame is set
pub held-replicate : (n k : ℕ) → values_of (replicate n None) k ≡ None
held-replicate n k =
    elim (cases_lt k n) [
      | inl below ↦ get_or-replicate n k None None below
      | inr past ↦ (let long : length (replicate {A = Option ℕ} n None) ≤ k = rw length-replicate past in get_or_past _ k None long)
    ]

-- a short record has no byte as far up as the stack
record_memory_past : (bytes : List ℕ) (a : ℕ) → length bytes ≤ MOST_RECORD_LENGTH → STACK_BASE ≤ a → record_memory bytes a ≡ None
record_memory_past bytes a short above =
    elim (cases_Bool (nat_le record_base a)) [
      | inl within ↦ (let past : length bytes ≤ a - record_base = omega arith in cond-true _ _ _ within ∙ slice_get_past bytes (a - record_base) past)
      | inr below ↦ cond-false _ _ _ below
    ]

none_there : (cells : Partial) (d : ℕ) → ((k : ℕ) → cells k ≡ None) → stack_byte cells d ≡ None
none_there cells d unset =
    elim (cases_Bool (nat_le FRAME_START (d % FRAME_SPACE))) [
      | inl room ↦ cond-true _ _ _ room ∙ unset _
      | inr low ↦ cond-false _ _ _ low
    ]

pub memory_begins : (bytes : List ℕ) (cells : Partial) → length bytes ≤ MOST_RECORD_LENGTH → ((k : ℕ) → cells k ≡ None) → record_memory bytes ≡ memory_of bytes cells
memory_begins bytes cells short unset =
    fun_ext (λ a. elim (cases_Bool (nat_le STACK_BASE a)) [
      | inl above ↦ record_memory_past bytes a short (leb-true _ a above) ∙ sym (cond-true _ _ _ above ∙ none_there cells (a - STACK_BASE) unset)
      | inr below ↦ sym (cond-false _ _ _ below)
    ])

-- a byte below a number of the bytes above it
pub number_more : (m : Partial) (a p n b v : ℕ) → 0 < p → p ≤ n → m (a + (p - 1)) ≡ Some b → number_at m (a + p) (n - p) ≡ Some v
    → number_at m (a + (p - 1)) (n - (p - 1)) ≡ Some (b + 256 * v)
number_more m a p n b v some within low high =
    let more : n - (p - 1) ≡ suc (n - p) = omega arith in
    let next : (a + (p - 1)) + 1 ≡ a + p = omega arith in
    rw (more, low, next, high) refl

-- and how large it may be
pub number_limit : (p n b v : ℕ) → 0 < p → p ≤ n → b < 256 → v < 256 ^ (n - p) → b + 256 * v < 256 ^ (n - (p - 1))
number_limit p n b v some within low high =
    let more : n - (p - 1) ≡ suc (n - p) = omega arith in
    rw (more, pow-suc) (omega arith)

-- 8 bytes fit 64 bits
pub number_fits : (p n b v : ℕ) → 0 < p → p ≤ n → n ≤ 8 → b < 256 → v < 256 ^ (n - p) → b + 256 * v < 2 ^ 64
number_fits p n b v some within most low high =
    let few : n - (p - 1) ≤ 8 = omega arith in
    omega (arith, number_limit p n b v some within low high, pow-le-pow_right {n = 256} (lit< tt) few)

joined_none : (low : Option ℕ) → joined_bytes low None ≡ None
joined_none None = refl
joined_none (Some b) = refl

-- no number where a byte is not set
pub number_unset : (m : Partial) (size a j : ℕ) → j < size → m (a + j) ≡ None → number_at m a size ≡ None
number_unset m zero a j within unset = absurd (omega arith)
number_unset m (suc size) a zero within unset = let here : m a ≡ None = rw add-zero at unset in rw here refl
number_unset m (suc size) a (suc j) within unset =
    let place : a + suc j ≡ (a + 1) + j = omega arith in
    let there : m ((a + 1) + j) ≡ None = ap m (sym place) ∙ unset in
    rw (number_unset m size (a + 1) j (omega arith) there) (joined_none (m a))

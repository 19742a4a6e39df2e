-- Calls and returns: what is known where a function begins and after its exit describes the run there.
use Rattle.std.proofs.Common.{◌≡◌, ◌≢◌, ℕ, zero, suc, ◌+◌, ◌-◌, ◌<◌, ◌≤◌, true, false, leb, ltb, List, [], ◌∷◌, length, map, set, Option, Some, None, get_or, refl, sym, ap, subst, ◌∙◌, arith, inl, inr}
use Rattle.std.specs.Prelude.{ℤ}
use Rattle.std.proofs.lemmas.Bool.{cases_eq, lt-leb, lt-ltb, le-leb, le-ltb}
use Rattle.std.proofs.lemmas.Int.{ints}
use Rattle.bpf_isa.specs.declared.instruction.Instruction.TheVariants.{CallLocal, Exit}
use Rattle.bpf_image.specs.declared.limits.TheConstants.{MOST_RECORD_LENGTH}
use Rattle.bpf_image.specs.declared.lengths.Lengths.{Lengths}
use Rattle.bpf_model.specs.declared.trap.TrapKind.TheVariants.{UnsetResult}
use Rattle.bpf_model.specs.State.{Partial, Saved, State, without_values, record_base, table_base, frame_top, frame_bytes, live_frames, most_frames}
use Rattle.bpf_model.specs.Calls.{saved_state, enter, return_to}
use Rattle.bpf_model.specs.Step.{number_or_trap, call, leave}
use Rattle.abstract_values.specs.declared.value.AbstractValue.{AbstractValue}
use Rattle.abstract_values.specs.declared.value.AbstractValue.TheVariants.{Unset, Number, Record, Stack, Table}
use Rattle.abstract_values.specs.Described.{Describes}
use Rattle.abstract_state.specs.States.{AbstractState, new_frame, nothing_kept, known_of, frame_of, without_pointers, callee_state, left_state}
use Rattle.abstract_state.specs.Described.{DescribesLive, DescribesKept}
use Rattle.abstract_state.proofs.Stores.{set_other}
use Rattle.abstract_state.proofs.Entered.{set_at, more_live, live_kept, new_described, kept_beside, frame_dropped, dropped_at}
use Rattle.verifier.specs.Rules.{Ways, exit_ways}
use Rattle.verifier.specs.Described.{top_above, DescribesState, Follows, enters, returns, exits}
use Rattle.verifier.specs.RuleLaws.{MayCall}
use Rattle.verifier.proofs.RuleParts.{ok}
use Rattle.verifier.proofs.KnownValues.{live}

-- below what is cleared, all stays
before_cleared : (m : Partial) (from count a : ℕ) → a < from → without_values m from count a ≡ m a
before_cleared m from count a lt =
    let below : leb from a ≡ false = lt-leb _ _ lt in
    rw below refl

-- and so it does past that
past_cleared : (m : Partial) (from count a : ℕ) → from + count ≤ a → without_values m from count a ≡ m a
past_cleared m from count a ge =
    let above : leb from a ≡ true = le-leb _ _ (omega (arith, ge)) in
    let past : ltb a (from + count) ≡ false = le-ltb _ _ ge in
    rw (above, past) refl

-- ---- a function begins

entered_values : (l : Lengths) (a : AbstractState) (s : State) (z : ℤ) → DescribesState l a s → (r : ℕ) → Describes l (suc (live s)) (known_of (callee_state (length s.callers) a) r) ((enter s z).registers r)
entered_values l a s z d zero = tt
entered_values l a s z d (suc zero) = more_live l (live s) (known_of a 1) (s.registers 1) (d.parts.values 1)
entered_values l a s z d (suc (suc zero)) = more_live l (live s) (known_of a 2) (s.registers 2) (d.parts.values 2)
entered_values l a s z d (suc (suc (suc zero))) = more_live l (live s) (known_of a 3) (s.registers 3) (d.parts.values 3)
entered_values l a s z d (suc (suc (suc (suc zero)))) = more_live l (live s) (known_of a 4) (s.registers 4) (d.parts.values 4)
entered_values l a s z d (suc (suc (suc (suc (suc zero))))) = more_live l (live s) (known_of a 5) (s.registers 5) (d.parts.values 5)
entered_values l a s z d (suc (suc (suc (suc (suc (suc zero)))))) = tt
entered_values l a s z d (suc (suc (suc (suc (suc (suc (suc zero))))))) = tt
entered_values l a s z d (suc (suc (suc (suc (suc (suc (suc (suc zero)))))))) = tt
entered_values l a s z d (suc (suc (suc (suc (suc (suc (suc (suc (suc zero))))))))) = tt
entered_values l a s z d (suc (suc (suc (suc (suc (suc (suc (suc (suc (suc zero)))))))))) = (frame_top (live s), refl, omega (arith, ints), omega (arith, ints), omega (arith, ints), omega arith)
entered_values l a s z d (suc (suc (suc (suc (suc (suc (suc (suc (suc (suc (suc r))))))))))) = tt

-- the bytes of frames that are live are left as they are
enter_keeps : (s : State) (z : ℤ) (k i : ℕ) → k < live s → i < frame_bytes → (enter s z).memory (frame_top k - frame_bytes + i) ≡ s.memory (frame_top k - frame_bytes + i)
enter_keeps s z k i low lt =
    before_cleared s.memory (frame_top (live_frames s) - frame_bytes) frame_bytes (frame_top k - frame_bytes + i) (omega (arith, low, lt))

entered_frames : (l : Lengths) (a : AbstractState) (s : State) (z : ℤ) → DescribesState l a s → (k : ℕ) → k < suc (live s) → DescribesLive l (suc (live s)) (frame_top k) (frame_of (callee_state (length s.callers) a) k) (enter s z).memory
entered_frames l a s z d k lt =
    elim (cases_eq k (suc (length s.callers))) [
      | inl same ↦
          let here : DescribesLive l (suc (live s)) (frame_top k) (get_or (set a.frames k (Some new_frame)) k None) (enter s z).memory = set_at (λ f. DescribesLive l (suc (live s)) (frame_top k) f (enter s z).memory) a.frames k (Some new_frame) None tt (new_described l (suc (live s)) (frame_top k) (enter s z).memory) in
          subst (λ j. DescribesLive l (suc (live s)) (frame_top k) (get_or (set a.frames j (Some new_frame)) k None) (enter s z).memory) same here
      | inr other ↦
          let below : k < live s = omega (arith, lt, other) in
          let kept = live_kept l (live s) (frame_top k) (frame_of a k) s.memory (enter s z).memory (λ i inside. enter_keeps s z k i below inside) (d.parts.frames k below) in
          subst (λ f. DescribesLive l (suc (live s)) (frame_top k) f (enter s z).memory) (sym (set_other a.frames (suc (length s.callers)) k (Some new_frame) None other)) kept
    ]

kept_values : (l : Lengths) (a : AbstractState) (s : State) → DescribesState l a s → (i : ℕ) → Describes l (live s) (get_or (known_of a 6 ∷ known_of a 7 ∷ known_of a 8 ∷ known_of a 9 ∷ []) i Unset) ((saved_state s).registers (i + 6))
kept_values l a s d zero = d.parts.values 6
kept_values l a s d (suc zero) = d.parts.values 7
kept_values l a s d (suc (suc zero)) = d.parts.values 8
kept_values l a s d (suc (suc (suc zero))) = d.parts.values 9
kept_values l a s d (suc (suc (suc (suc i)))) = tt

entered_kept : (l : Lengths) (a : AbstractState) (s : State) (z : ℤ) → DescribesState l a s → DescribesKept l (callee_state (length s.callers) a).kept (enter s z).callers
entered_kept l a s z d =
    let mine = known_of a 6 ∷ known_of a 7 ∷ known_of a 8 ∷ known_of a 9 ∷ [] in
    (λ i. set_at (λ vs. Describes l (live s) (get_or vs i Unset) ((saved_state s).registers (i + 6))) a.kept (length s.callers) (known_of a 6 ∷ known_of a 7 ∷ known_of a 8 ∷ known_of a 9 ∷ []) [] tt (kept_values l a s d i), kept_beside l a.kept (length s.callers) (known_of a 6 ∷ known_of a 7 ∷ known_of a 8 ∷ known_of a 9 ∷ []) s.callers (omega arith) d.kept)

pub entered_described : (l : Lengths) (a : AbstractState) (s : State) (z : ℤ) → l.record_length ≤ MOST_RECORD_LENGTH → live_frames s < most_frames → DescribesState l a s → DescribesState l (callee_state (length s.callers) a) (enter s z)
entered_described l a s z short few d = record {
  parts = record {
    values = entered_values l a s z d;
    record_set = λ k lt. (let b = d.parts.record_set k lt in (b.0, before_cleared s.memory (frame_top (live_frames s) - frame_bytes) frame_bytes (record_base + k) (omega (arith, lt, short)) ∙ b.1, b.2));
    table_set = λ k lt. (let b = d.parts.table_set k lt in (b.0, past_cleared s.memory (frame_top (live_frames s) - frame_bytes) frame_bytes (table_base + k) (omega (arith, few)) ∙ b.1, b.2));
    frames = entered_frames l a s z d;
  };
  kept = entered_kept l a s z d;
  frame_register = refl;
  few_callers = few;
}

pub call_follows : (l : Lengths) (z : ℤ) (a : AbstractState) (s : State) (ws : Ways) → l.record_length ≤ MOST_RECORD_LENGTH → DescribesState l a s → MayCall (CallLocal z) s → Follows l (CallLocal z) a s ws (call s z)
call_follows l z a s ws short d may =
    let few : live_frames s < most_frames = may z refl in
    let room : ltb (live_frames s) most_frames ≡ true = lt-ltb _ _ few in
    rw room (enters z refl (entered_described l a s z short few d))

-- ---- a function returns

returned_values : (l : Lengths) (a : AbstractState) (s : State) (caller : Saved) (callers : List Saved) (v : ℕ) → Describes l (suc (length callers)) (known_of a 0) (Some v) → DescribesKept l a.kept (caller ∷ callers) → (r : ℕ) → Describes l (suc (length callers)) (known_of (left_state (length callers) a) r) ((return_to s caller callers v).registers r)
returned_values l a s caller callers v result d zero = result
returned_values l a s caller callers v result d (suc zero) = tt
returned_values l a s caller callers v result d (suc (suc zero)) = tt
returned_values l a s caller callers v result d (suc (suc (suc zero))) = tt
returned_values l a s caller callers v result d (suc (suc (suc (suc zero)))) = tt
returned_values l a s caller callers v result d (suc (suc (suc (suc (suc zero))))) = tt
returned_values l a s caller callers v result d (suc (suc (suc (suc (suc (suc zero)))))) = d.0 0
returned_values l a s caller callers v result d (suc (suc (suc (suc (suc (suc (suc zero))))))) = d.0 1
returned_values l a s caller callers v result d (suc (suc (suc (suc (suc (suc (suc (suc zero)))))))) = d.0 2
returned_values l a s caller callers v result d (suc (suc (suc (suc (suc (suc (suc (suc (suc zero))))))))) = d.0 3
returned_values l a s caller callers v result d (suc (suc (suc (suc (suc (suc (suc (suc (suc (suc zero)))))))))) = (top_above callers, refl, omega (arith, ints), omega (arith, ints), omega (arith, ints), omega arith)
returned_values l a s caller callers v result d (suc (suc (suc (suc (suc (suc (suc (suc (suc (suc (suc r))))))))))) = tt

-- the frames that stay, without what pointed into the one that is dropped
returned_frames : (l : Lengths) (n : ℕ) (a : AbstractState) (memory : Partial) → ((k : ℕ) → k < suc n → DescribesLive l (suc n) (frame_top k) (frame_of a k) memory) → (k : ℕ) → k < n → DescribesLive l n (frame_top k) (get_or (map (without_pointers n) (set a.frames n None)) k None) memory
returned_frames l n a memory all k lt =
    let other : k ≢ n = (λ e. omega (arith, lt, e)) in
    let stays = frame_dropped l n (frame_top k) (frame_of a k) memory (all k (omega (arith, lt))) in
    let same : get_or (map (without_pointers n) (set a.frames n None)) k None ≡ without_pointers n (frame_of a k) = dropped_at n (set a.frames n None) k ∙ ap (without_pointers n) (set_other a.frames n k None None other) in
    subst (λ f. DescribesLive l n (frame_top k) f memory) (sym same) stays

leave_follows : (l : Lengths) (a : AbstractState) (s : State) (ws : Ways) (callers : List Saved) (v : ℕ) → DescribesState l a s → s.callers ≡ callers → ((n : ℕ) → Describes l n (known_of a 0) (Some v)) → Follows l Exit a s ws (leave s callers v)
leave_follows l a s ws [] v d same result = exits v refl same
leave_follows l a s ws (caller ∷ callers) v d same result =
    let deeper : length s.callers ≡ suc (length callers) = ap length same in
    let all = d.few_callers in
    let kept : DescribesKept l a.kept (caller ∷ callers) = subst (λ (cs : List Saved). DescribesKept l a.kept cs) same d.kept in
    let frames : (k : ℕ) → k < suc (suc (length callers)) → DescribesLive l (suc (suc (length callers))) (frame_top k) (frame_of a k) s.memory = subst (λ (cs : List Saved). (k : ℕ) → k < suc (length cs) → DescribesLive l (suc (length cs)) (frame_top k) (frame_of a k) s.memory) same d.parts.frames in
    returns caller callers v refl same (record {
      parts = record { values = returned_values l a s caller callers v (result (suc (length callers))) kept; record_set = d.parts.record_set; table_set = d.parts.table_set; frames = returned_frames l (suc (length callers)) a s.memory frames };
      kept = kept_beside l a.kept (length callers) nothing_kept callers (omega arith) kept.1;
      frame_register = refl;
      few_callers = omega (arith, deeper, all);
    })

number_leaves : (l : Lengths) (a : AbstractState) (s : State) (ws : Ways) (x : Option ℕ) (v : ℕ) → x ≡ Some v → ((n : ℕ) → Describes l n (known_of a 0) (Some v)) → DescribesState l a s → Follows l Exit a s ws (number_or_trap x UnsetResult s.pc (leave s s.callers))
number_leaves l a s ws x v is result d = rw is (leave_follows l a s ws s.callers v d refl result)

pub exit_follows : (l : Lengths) (a : AbstractState) (s : State) (ws : Ways) (v : AbstractValue) (x : Option ℕ) → known_of a 0 ≡ v → DescribesState l a s → Describes l (live s) v x → exit_ways v ≡ ok ws → Follows l Exit a s ws (number_or_trap x UnsetResult s.pc (leave s s.callers))
exit_follows l a s ws Unset x same d q h = absurd cc
exit_follows l a s ws (Number lo hi) x same d q h =
    number_leaves l a s ws x q.0 q.1 (λ n. subst (λ u. Describes l n u (Some q.0)) (sym same) (q.0, refl, q.2, q.3, q.4)) d
exit_follows l a s ws (Record lo hi) x same d q h = absurd cc
exit_follows l a s ws (Stack frame offset) x same d q h = absurd cc
exit_follows l a s ws (Table lo hi) x same d q h = absurd cc

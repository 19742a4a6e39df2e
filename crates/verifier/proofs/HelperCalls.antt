-- A helper that the rules allow does not trap, and what is known after it describes where the run goes on.
use Rattle.std.proofs.Common.{◌≡◌, ℕ, zero, suc, ◌+◌, ◌-◌, ◌*◌, ◌/◌, ◌%◌, ◌^◌, ◌<◌, ◌≤◌, eqb, leb, cond, Bool, true, false, Option, Some, None, Result, length, get_or, refl, sym, ap, subst, ◌∙◌, arith, inl, inr}
use Rattle.std.specs.Prelude.{pos, ◌+ℤ◌, ◌&&◌, unwrap_or}
use Rattle.std.proofs.lemmas.Bool.{cases_Bool, and_parts, eqb-true, leb-true}
use Rattle.bpf_isa.specs.declared.register.Register.TheVariants.{R1, R2, R3, R4}
use Rattle.bpf_isa.specs.declared.instruction.Instruction.{Instruction}
use Rattle.bpf_image.specs.declared.limits.TheConstants.{MOST_RECORD_LENGTH}
use Rattle.bpf_image.specs.declared.lengths.Lengths.{Lengths}
use Rattle.graph_model.specs.Graph.{Graph, degree}
use Rattle.graph_model.specs.Views.{is_edge, neighbour_at, neighbour_words, neighbours_among, word_bytes}
use Rattle.bpf_model.specs.declared.cause.Cause.{Cause}
use Rattle.bpf_model.specs.declared.cause.Cause.TheVariants.{HelperArgument}
use Rattle.bpf_model.specs.declared.helper.Helper.{Helper}
use Rattle.bpf_model.specs.declared.helper.Helper.TheVariants.{Degree, HasEdge, Neighbour, VertexCount, Gather}
use Rattle.bpf_model.specs.State.{Partial, State, with_value, with_values, without_values}
use Rattle.bpf_model.specs.Helpers.{IsView, no_neighbour, with_answer, is_room, gather, argument, helper_effect}
use Rattle.bpf_model.specs.Next.{Goes}
use Rattle.bpf_model.specs.Step.{call_helper}
use Rattle.bpf_model.specs.declared.limits.TheConstants.{MOST_GATHER_BYTES}
use Rattle.abstract_values.specs.declared.value.AbstractValue.{AbstractValue}
use Rattle.abstract_values.specs.declared.value.AbstractValue.TheVariants.{Unset, Number, Record, Stack, Table}
use Rattle.abstract_values.specs.Described.{Describes}
use Rattle.abstract_state.specs.States.{AbstractState, state_behind_helper}
use Rattle.abstract_state.specs.Memory.{gather_result}
use Rattle.abstract_state.specs.Described.{DescribesParts, DescribesKept}
use Rattle.abstract_state.proofs.Entered.{gathered_kept}
use Rattle.abstract_state.proofs.Gathers.{gather_describes}
use Rattle.verifier.specs.Rules.{Ways, bind, known_register, is_number, known_room, onward, way_with_answer, one_number_call, two_number_call, gather_ways, gather_call, helper_ways, helper_call_ways}
use Rattle.verifier.specs.Described.{DescribesState, Follows, stays}
use Rattle.verifier.proofs.RuleParts.{ok, failed, bind_ok}
use Rattle.verifier.proofs.KnownValues.{live, few_live, register_read}
use Rattle.verifier.proofs.Stored.{bytes_written}
use Rattle.verifier.proofs.Accesses.{allowed}
use Rattle.verifier.proofs.HelperAnswers.{degree_most, flag_most, neighbour_most, among_most, bytes_below, written_length}

-- ---- after every helper

answered_values : (l : Lengths) (t : ℕ) (b : AbstractState) (registers : Partial) (most answer : ℕ) → answer ≤ most → most < 2 ^ 64 → ((r : ℕ) → Describes l t (get_or b.registers r Unset) (registers r)) → (r : ℕ) → Describes l t (get_or (state_behind_helper b (Number 0 most)).registers r Unset) (with_value (without_values registers 1 5) 0 answer r)
answered_values l t b registers most answer le lt all zero = (answer, refl, omega arith, le, omega (arith, le, lt))
answered_values l t b registers most answer le lt all (suc zero) = tt
answered_values l t b registers most answer le lt all (suc (suc zero)) = tt
answered_values l t b registers most answer le lt all (suc (suc (suc zero))) = tt
answered_values l t b registers most answer le lt all (suc (suc (suc (suc zero)))) = tt
answered_values l t b registers most answer le lt all (suc (suc (suc (suc (suc zero))))) = tt
answered_values l t b registers most answer le lt all (suc (suc (suc (suc (suc (suc zero)))))) = all 6
answered_values l t b registers most answer le lt all (suc (suc (suc (suc (suc (suc (suc zero))))))) = all 7
answered_values l t b registers most answer le lt all (suc (suc (suc (suc (suc (suc (suc (suc zero)))))))) = all 8
answered_values l t b registers most answer le lt all (suc (suc (suc (suc (suc (suc (suc (suc (suc zero))))))))) = all 9
answered_values l t b registers most answer le lt all (suc (suc (suc (suc (suc (suc (suc (suc (suc (suc zero)))))))))) = all 10
answered_values l t b registers most answer le lt all (suc (suc (suc (suc (suc (suc (suc (suc (suc (suc (suc r))))))))))) = tt

-- the run goes on, with this memory
answer_follows : (l : Lengths) (pc : ℕ) (i : Instruction) (a b : AbstractState) (s : State) (memory : Partial) (most answer : ℕ) (ws : Ways) → s.pc ≡ pos pc → DescribesState l a s → DescribesParts l (live s) b s.registers memory → b.kept ≡ a.kept → answer ≤ most → most < 2 ^ 64 → ok (way_with_answer pc b most) ≡ ok ws → Follows l i a s ws (Goes (with_answer (record s { memory = memory }) answer))
answer_follows l pc i a b s memory most answer ws at described parts same le lt h =
    let ways : way_with_answer pc b most ≡ ws = cc in
    let moved : s.pc +ℤ pos 1 ≡ pos (pc + 1) = ap (λ z. z +ℤ pos 1) at in
    let after : State = with_answer (record s { memory = memory }) answer in
    let known : DescribesState l (state_behind_helper b (Number 0 most)) after = record {
      parts = record { values = answered_values l (live s) b s.registers most answer le lt parts.values; record_set = parts.record_set; table_set = parts.table_set; frames = parts.frames };
      frame_register = described.frame_register;
      few_callers = described.few_callers;
      kept = subst (λ k. DescribesKept l k s.callers) (sym same) described.kept;
    } in
    subst (λ u. Follows l i a s u (Goes after)) ways (stays (pos (pc + 1), state_behind_helper b (Number 0 most)) (inl refl) moved known refl)

-- and memory is as it was
plain_follows : (l : Lengths) (pc : ℕ) (i : Instruction) (a : AbstractState) (s : State) (most answer : ℕ) (ws : Ways) → s.pc ≡ pos pc → DescribesState l a s → answer ≤ most → most < 2 ^ 64 → ok (way_with_answer pc a most) ≡ ok ws → Follows l i a s ws (Goes (with_answer s answer))
plain_follows l pc i a s most answer ws at described le lt h =
    answer_follows l pc i a a s s.memory most answer ws at described described.parts refl le lt h

-- arguments are of their kinds where no rule is broken
pub of_kind : {A : Type 0} (test : Bool) (r : Result A Cause) (y : A) → cond test r (failed HelperArgument) ≡ ok y → r ≡ ok y
of_kind true r y h = h
of_kind false r y h = absurd cc

one_follows : (l : Lengths) (pc : ℕ) (i : Instruction) (a : AbstractState) (s : State) (most : ℕ) (answer : ℕ → ℕ) (ws : Ways) → s.pc ≡ pos pc → DescribesState l a s → ((n : ℕ) → answer n ≤ most) → most < 2 ^ 64 → one_number_call pc a most ≡ ok ws → Follows l i a s ws (argument s 1 (λ n. Goes (with_answer s (answer n))))
one_follows l pc i a s most answer ws at described le lt h =
    let u = bind_ok (known_register a R1) (λ u. cond (is_number u) (ok (way_with_answer pc a most)) (failed HelperArgument)) ws h in
    let x = register_read l a s R1 u.0 described u.1 in
    rw x.there (plain_follows l pc i a s most (answer x.number) ws at described (le x.number) lt (of_kind (is_number u.0) (ok (way_with_answer pc a most)) ws u.2))

two_follows : (l : Lengths) (pc : ℕ) (i : Instruction) (a : AbstractState) (s : State) (most : ℕ) (answer : ℕ → ℕ → ℕ) (ws : Ways) → s.pc ≡ pos pc → DescribesState l a s → ((m n : ℕ) → answer m n ≤ most) → most < 2 ^ 64 → two_number_call pc a most ≡ ok ws → Follows l i a s ws (argument s 1 (λ m. argument s 2 (λ n. Goes (with_answer s (answer m n)))))
two_follows l pc i a s most answer ws at described le lt h =
    let u = bind_ok (known_register a R1) (λ u. bind (known_register a R2) (λ v. cond (is_number u && is_number v) (ok (way_with_answer pc a most)) (failed HelperArgument))) ws h in
    let v = bind_ok (known_register a R2) (λ v. cond (is_number u.0 && is_number v) (ok (way_with_answer pc a most)) (failed HelperArgument)) ws u.2 in
    let x = register_read l a s R1 u.0 described u.1 in
    let y = register_read l a s R2 v.0 described v.1 in
    rw (x.there, y.there) (plain_follows l pc i a s most (answer x.number y.number) ws at described (le x.number y.number) lt (of_kind (is_number u.0 && is_number v.0) (ok (way_with_answer pc a most)) ws v.2))

-- ---- gather

-- the room that is known is the number that is there
record RoomIs (x room : ℕ) : Type 0 where
  same : x ≡ room
  allowed : is_room room ≡ true

room_is : (l : Lengths) (t x room : ℕ) (v : AbstractValue) → known_room v ≡ Some room → Describes l t v (Some x) → RoomIs x room
room_is l t x room Unset h d = absurd cc
room_is l t x room (Number lo hi) h d =
    elim (cases_Bool (eqb lo hi && is_room lo)) [
      | inl is ↦
          let both = and_parts (eqb lo hi) (is_room lo) is in
          let ends : lo ≡ hi = eqb-true lo hi both.0 in
          let low : lo ≡ room = (let e : Some lo ≡ Some room = (rw is at h) in cc) in
          let number : x ≡ d.0 = (let e : Some x ≡ Some d.0 = d.1 in cc) in
          record { same = omega (arith, number, d.2, d.3, ends, low); allowed = subst (λ n. is_room n ≡ true) low both.1 }
      | inr not_is ↦ absurd (let none : Option ℕ = None in let e : none ≡ Some room = (rw not_is at h) in cc)
    ]
room_is l t x room (Record lo hi) h d = absurd cc
room_is l t x room (Stack frame offset) h d = absurd cc
room_is l t x room (Table lo hi) h d = absurd cc

-- an allowed room is whole words
record Room (room : ℕ) : Type 0 where
  some : 1 ≤ room
  few : room ≤ MOST_GATHER_BYTES
  words : 4 * (room / 4) ≡ room

room_parts : (room : ℕ) → is_room room ≡ true → Room room
room_parts room h =
    let parts = and_parts (eqb (room % 4) 0) (leb 4 room && leb room MOST_GATHER_BYTES) h in
    let ends = and_parts (leb 4 room) (leb room MOST_GATHER_BYTES) parts.1 in
    let whole = eqb-true (room % 4) 0 parts.0 in
    record { some = omega (arith, leb-true 4 room ends.0); few = leb-true room MOST_GATHER_BYTES ends.1; words = omega (arith, whole) }

gathers : (l : Lengths) (pc : ℕ) (i : Instruction) (g : Graph) (a : AbstractState) (s : State) (pointer : AbstractValue) (room v first p : ℕ) (ws : Ways) → l.record_length ≤ MOST_RECORD_LENGTH → s.pc ≡ pos pc → DescribesState l a s → Describes l (live s) pointer (Some p) → is_room room ≡ true → gather_ways l pc a pointer (Some room) ≡ ok ws → Follows l i a s ws (gather l g s v first p room)
gathers l pc i g a s pointer room v first p ws short at described base is h =
    let parts = bind_ok (gather_result l a pointer room) (λ t. ok (way_with_answer pc t (room / 4))) ws h in
    let of_room = room_parts room is in
    let bytes = word_bytes (neighbour_words g v first (room / 4)) in
    let long : length bytes ≡ room = written_length g v first (room / 4) ∙ of_room.words in
    let memory = with_values s.memory p bytes in
    let written = bytes_written s.memory p bytes room long (λ j. bytes_below (neighbour_words g v first (room / 4)) j) in
    let left = gather_describes l (live s) a parts.0 s.registers s.memory memory pointer room p (omega (arith, short)) (few_live l a s described) of_room.some parts.1 described.parts base written in
    let may = allowed l s p room left.0 in
    let same : parts.0.kept ≡ a.kept = gathered_kept l a parts.0 pointer room parts.1 in
    let few : room / 4 < 2 ^ 64 = (let most = of_room.few in omega (arith, most)) in
    rw (is, may) (answer_follows l pc i a parts.0 s memory (room / 4) (neighbours_among g v first (room / 4)) ws at described left.1 same (among_most g v first (room / 4)) few parts.2)

-- gather with the room that is known
room_follows : (l : Lengths) (pc : ℕ) (i : Instruction) (g : Graph) (a : AbstractState) (s : State) (pointer value : AbstractValue) (room : Option ℕ) (v first p x : ℕ) (ws : Ways) → l.record_length ≤ MOST_RECORD_LENGTH → s.pc ≡ pos pc → DescribesState l a s → Describes l (live s) pointer (Some p) → Describes l (live s) value (Some x) → known_room value ≡ room → gather_ways l pc a pointer room ≡ ok ws → Follows l i a s ws (gather l g s v first p x)
room_follows l pc i g a s pointer value None v first p x ws short at described base lent known h = absurd cc
room_follows l pc i g a s pointer value (Some room) v first p x ws short at described base lent known h =
    let is = room_is l (live s) x room value known lent in
    subst (λ n. Follows l i a s ws (gather l g s v first p n)) (sym is.same) (gathers l pc i g a s pointer room v first p ws short at described base is.allowed h)

-- gather's arguments
pub record Asks (l : Lengths) (pc : ℕ) (a : AbstractState) (ws : Ways) : Type 0 where
  pub vertex : AbstractValue
  pub first : AbstractValue
  pub pointer : AbstractValue
  pub room : AbstractValue
  pub vertex_known : known_register a R1 ≡ ok vertex
  pub first_known : known_register a R2 ≡ ok first
  pub pointer_known : known_register a R3 ≡ ok pointer
  pub room_known : known_register a R4 ≡ ok room
  pub ways : gather_ways l pc a pointer (known_room room) ≡ ok ws

pub asks : (l : Lengths) (pc : ℕ) (a : AbstractState) (ws : Ways) → gather_call l pc a ≡ ok ws → Asks l pc a ws
asks l pc a ws h =
    let u = bind_ok (known_register a R1) (λ u. bind (known_register a R2) (λ v. bind (known_register a R3) (λ w. bind (known_register a R4) (λ room. cond (is_number u && is_number v) (gather_ways l pc a w (known_room room)) (failed HelperArgument))))) ws h in
    let v = bind_ok (known_register a R2) (λ v. bind (known_register a R3) (λ w. bind (known_register a R4) (λ room. cond (is_number u.0 && is_number v) (gather_ways l pc a w (known_room room)) (failed HelperArgument)))) ws u.2 in
    let w = bind_ok (known_register a R3) (λ w. bind (known_register a R4) (λ room. cond (is_number u.0 && is_number v.0) (gather_ways l pc a w (known_room room)) (failed HelperArgument))) ws v.2 in
    let room = bind_ok (known_register a R4) (λ room. cond (is_number u.0 && is_number v.0) (gather_ways l pc a w.0 (known_room room)) (failed HelperArgument)) ws w.2 in
    record {
      vertex = u.0;
      first = v.0;
      pointer = w.0;
      room = room.0;
      vertex_known = u.1;
      first_known = v.1;
      pointer_known = w.1;
      room_known = room.1;
      ways = of_kind (is_number u.0 && is_number v.0) (gather_ways l pc a w.0 (known_room room.0)) ws room.2;
    }

gather_follows : (l : Lengths) (pc : ℕ) (i : Instruction) (g : Graph) (a : AbstractState) (s : State) (ws : Ways) → l.record_length ≤ MOST_RECORD_LENGTH → s.pc ≡ pos pc → DescribesState l a s → gather_call l pc a ≡ ok ws → Follows l i a s ws (helper_effect l g Gather s)
gather_follows l pc i g a s ws short at described h =
    let asked = asks l pc a ws h in
    let x = register_read l a s R1 asked.vertex described asked.vertex_known in
    let y = register_read l a s R2 asked.first described asked.first_known in
    let p = register_read l a s R3 asked.pointer described asked.pointer_known in
    let n = register_read l a s R4 asked.room described asked.room_known in
    rw (x.there, y.there, p.there, n.there) (room_follows l pc i g a s asked.pointer asked.room (known_room asked.room) x.number y.number p.number n.number ws short at described p.described n.described refl asked.ways)

-- ---- any helper

helper_follows : (l : Lengths) (pc : ℕ) (i : Instruction) (g : Graph) (helper : Helper) (a : AbstractState) (s : State) (ws : Ways) → IsView g → l.record_length ≤ MOST_RECORD_LENGTH → s.pc ≡ pos pc → DescribesState l a s → helper_ways l pc helper a ≡ ok ws → Follows l i a s ws (helper_effect l g helper s)
helper_follows l pc i g Degree a s ws few short at described h =
    one_follows l pc i a s (2 ^ 32 - 1) (λ v. degree g v) ws at described (λ v. degree_most g v few) (omega arith) h
helper_follows l pc i g HasEdge a s ws few short at described h =
    two_follows l pc i a s 1 (λ u v. cond (is_edge g u v) 1 0) ws at described (λ u v. flag_most (is_edge g u v)) (omega arith) h
helper_follows l pc i g Neighbour a s ws few short at described h =
    two_follows l pc i a s (2 ^ 64 - 1) (λ v place. unwrap_or (neighbour_at g v place) no_neighbour) ws at described (λ v place. neighbour_most g v place few) (omega arith) h
helper_follows l pc i g VertexCount a s ws few short at described h =
    plain_follows l pc i a s (2 ^ 32 - 1) g.vertex_count ws at described (omega (arith, few)) (omega arith) h
helper_follows l pc i g Gather a s ws few short at described h = gather_follows l pc i g a s ws short at described h

pub helper_call_follows : (l : Lengths) (pc : ℕ) (i : Instruction) (g : Graph) (helper : Option Helper) (a : AbstractState) (s : State) (ws : Ways) → IsView g → l.record_length ≤ MOST_RECORD_LENGTH → s.pc ≡ pos pc → DescribesState l a s → helper_call_ways l pc helper a ≡ ok ws → Follows l i a s ws (call_helper l g helper s)
helper_call_follows l pc i g None a s ws few short at described h = absurd cc
helper_call_follows l pc i g (Some helper) a s ws few short at described h = helper_follows l pc i g helper a s ws few short at described h

-- ---- where the run goes on

answered_way : (pc : ℕ) (a : AbstractState) (most : ℕ) (ws : Ways) → ok (way_with_answer pc a most) ≡ ok ws → (b : AbstractState) × (onward (pc + 1) b ≡ ws)
answered_way pc a most ws h = (state_behind_helper a (Number 0 most), (let same : way_with_answer pc a most ≡ ws = cc in same))

one_way : (pc : ℕ) (a : AbstractState) (most : ℕ) (ws : Ways) → one_number_call pc a most ≡ ok ws → (b : AbstractState) × (onward (pc + 1) b ≡ ws)
one_way pc a most ws h =
    let u = bind_ok (known_register a R1) (λ u. cond (is_number u) (ok (way_with_answer pc a most)) (failed HelperArgument)) ws h in
    answered_way pc a most ws (of_kind (is_number u.0) (ok (way_with_answer pc a most)) ws u.2)

two_way : (pc : ℕ) (a : AbstractState) (most : ℕ) (ws : Ways) → two_number_call pc a most ≡ ok ws → (b : AbstractState) × (onward (pc + 1) b ≡ ws)
two_way pc a most ws h =
    let u = bind_ok (known_register a R1) (λ u. bind (known_register a R2) (λ v. cond (is_number u && is_number v) (ok (way_with_answer pc a most)) (failed HelperArgument))) ws h in
    let v = bind_ok (known_register a R2) (λ v. cond (is_number u.0 && is_number v) (ok (way_with_answer pc a most)) (failed HelperArgument)) ws u.2 in
    answered_way pc a most ws (of_kind (is_number u.0 && is_number v.0) (ok (way_with_answer pc a most)) ws v.2)

gather_way : (l : Lengths) (pc : ℕ) (a : AbstractState) (pointer : AbstractValue) (room : Option ℕ) (ws : Ways) → gather_ways l pc a pointer room ≡ ok ws → (b : AbstractState) × (onward (pc + 1) b ≡ ws)
gather_way l pc a pointer None ws h = absurd cc
gather_way l pc a pointer (Some room) ws h =
    let t = bind_ok (gather_result l a pointer room) (λ t. ok (way_with_answer pc t (room / 4))) ws h in
    answered_way pc t.0 (room / 4) ws t.2

helper_way : (l : Lengths) (pc : ℕ) (helper : Helper) (a : AbstractState) (ws : Ways) → helper_ways l pc helper a ≡ ok ws → (b : AbstractState) × (onward (pc + 1) b ≡ ws)
helper_way l pc Degree a ws h = one_way pc a (2 ^ 32 - 1) ws h
helper_way l pc HasEdge a ws h = two_way pc a 1 ws h
helper_way l pc Neighbour a ws h = two_way pc a (2 ^ 64 - 1) ws h
helper_way l pc VertexCount a ws h = answered_way pc a (2 ^ 32 - 1) ws h
helper_way l pc Gather a ws h = let asked = asks l pc a ws h in gather_way l pc a asked.pointer (known_room asked.room) ws asked.ways

-- after a helper there is one way: to the next instruction
pub helper_call_way : (l : Lengths) (pc : ℕ) (helper : Option Helper) (a : AbstractState) (ws : Ways) → helper_call_ways l pc helper a ≡ ok ws → (b : AbstractState) × (onward (pc + 1) b ≡ ws)
helper_call_way l pc None a ws h = absurd cc
helper_call_way l pc (Some helper) a ws h = helper_way l pc helper a ws h

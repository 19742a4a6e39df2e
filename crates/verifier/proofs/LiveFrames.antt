-- What is known where a run stands has a frame for each that is live, and no other.
use Rattle.std.proofs.Common.{◌≡◌, ℕ, zero, suc, ◌+◌, ◌-◌, ◌/◌, ◌^◌, ◌<◌, ◌≤◌, Bool, true, false, eqb, cond, List, [], ◌∷◌, ◌++◌, length, Option, Some, None, Result, Ok, Err, get_or, set, refl, sym, ap, subst, ◌∙◌, inl, inr, ◌⊎◌, get_or-set_same, get_or-set_other, arith}
use Rattle.std.specs.Prelude.{ℤ, pos, ◌+ℤ◌, ◌&&◌}
use Rattle.std.specs.Ordering.{int_eq}
use Rattle.std.proofs.lemmas.Bool.{cases_eq, cases_lt}
use Rattle.std.proofs.lemmas.List.{get_or_past, length-map, length-set}
use Rattle.bpf_isa.specs.declared.register.Register.{Register}
use Rattle.bpf_isa.specs.declared.register.Register.TheVariants.{R1, R2}
use Rattle.bpf_isa.specs.declared.instruction.Operand.{Operand}
use Rattle.bpf_isa.specs.declared.instruction.Operand.TheVariants.{Immediate, Source}
use Rattle.bpf_isa.specs.declared.instruction.Instruction.{Instruction}
use Rattle.bpf_isa.specs.declared.instruction.Instruction.TheVariants.{Alu, MoveSigned, Negate, Swap, Jump, Branch, CallHelper, CallLocal, Exit, Load, LoadSigned, Store, StoreRegister, Wide}
use Rattle.bpf_isa.specs.Sizes.{size_bytes}
use Rattle.bpf_image.specs.Program.{Program, units, lengths_of}
use Rattle.bpf_image.specs.declared.lengths.Lengths.{Lengths}
use Rattle.bpf_model.specs.declared.cause.Cause.{Cause}
use Rattle.bpf_model.specs.declared.cause.Cause.TheVariants.{OutOfRange, PointerUse, HelperArgument}
use Rattle.bpf_model.specs.declared.helper.Helper.{Helper}
use Rattle.bpf_model.specs.declared.helper.Helper.TheVariants.{Degree, HasEdge, Neighbour, VertexCount, Gather}
use Rattle.bpf_model.specs.Helpers.{helper_of}
use Rattle.bpf_model.specs.Step.{immediate_value, units_over}
use Rattle.bpf_model.specs.State.{Saved, frame_top, live_frames, most_frames}
use Rattle.abstract_values.specs.declared.branch.Sides.{Sides}
use Rattle.abstract_values.specs.declared.value.AbstractValue.{AbstractValue}
use Rattle.abstract_values.specs.declared.value.AbstractValue.TheVariants.{Unset, Number, Record, Stack, Table}
use Rattle.abstract_values.specs.Values.{alu_result, negate_result, move_signed_result, swap_result}
use Rattle.abstract_state.specs.declared.state.Frame.{Frame}
use Rattle.abstract_state.specs.States.{AbstractState, most_callers, new_frame, frame_of, with_frame, with_register, elementwise, join_if_live, join_of_frames, join_of_states, entry_state, callee_state, left_state, without_pointers, state_behind_helper}
use Rattle.abstract_state.specs.Memory.{is_within, is_in_frame, frame_index, is_slot, is_pointer, may_store, frame_write, frame_fill, frame_store_result, store_result, frame_gather_result, gather_result, load_result, load_signed_result}
use Rattle.abstract_state.specs.Described.{DescribesLive}
use Rattle.abstract_state.proofs.Entered.{dropped_at, same_everywhere}
use Rattle.verifier.specs.declared.refusal.Refusal.{Refusal}
use Rattle.verifier.specs.Rules.{Ways, bind, constant, known_register, known_operand, known_left, is_number, known_room, onward, write_ways, behind_store, target, branch_sides, with_operand, side_way, branch_ways, way_with_answer, one_number_call, two_number_call, gather_ways, helper_ways, helper_call_ways, exit_ways, transfer}
use Rattle.verifier.specs.Described.{IsWay}
use Rattle.verifier.specs.Listing.{instruction_at}
use Rattle.verifier.specs.Equations.{Passage, Outcome, Calls, opening, outcome_at, joined_with, joined_ways, ways_of, ways_after, known_ways, arrivals, states, left_by, joined_exit, exit_state, first_refusal, unless_refused_within, called, calls_of}
use Rattle.verifier.specs.Sound.{IsIn}
use Rattle.verifier.specs.Laws.{HasFrames, FramesAreLive, FramesAreDescribed}
use Rattle.verifier.proofs.RuleParts.{ok, failed, bind_ok, writes_from}
use Rattle.verifier.proofs.HelperCalls.{of_kind, asks}

-- ---- one state after another

-- what was live stays so, and nothing else comes to be
abbrev Stays : AbstractState → AbstractState → Type 0
Stays a b = (live : ℕ) → HasFrames live a → HasFrames live b

same_stays : (a b : AbstractState) → b.frames ≡ a.frames → Stays a b
same_stays a b same live h = record {
  places = ap length same ∙ h.places;
  each = λ k lt. (let f = h.each k lt in (f.0, ap (λ (fs : List (Option Frame)). get_or fs k None) same ∙ f.1));
  no_other = λ k le. ap (λ (fs : List (Option Frame)). get_or fs k None) same ∙ h.no_other k le;
}

-- a frame that is there is among the places
there_inside : (frames : List (Option Frame)) (k : ℕ) (g : Frame) → get_or frames k None ≡ Some g → k < length frames
there_inside frames k g there =
    elim (cases_lt k (length frames)) [
      | inl lt ↦ lt
      | inr past ↦ absurd (let e : None ≡ Some g = sym (get_or_past frames k None past) ∙ there in cc)
    ]

-- a frame that is there is written
put_stays : (a : AbstractState) (k : ℕ) (f g : Frame) → frame_of a k ≡ Some g → Stays a (with_frame a k f)
put_stays a k f g there live h = record {
  places = length-set a.frames k (Some f) ∙ h.places;
  each = λ j lt. elim (cases_eq j k) [
    | inl same ↦ (f, rw same (get_or-set_same a.frames k (Some f) None (there_inside a.frames k g there)))
    | inr other ↦ (let was = h.each j lt in (was.0, get_or-set_other a.frames k j (Some f) None other ∙ was.1))
  ];
  no_other = λ j le. elim (cases_eq j k) [
    | inl same ↦ absurd (let e : None ≡ Some g = sym (h.no_other j le) ∙ (ap (λ i. get_or a.frames i None) same ∙ there) in cc)
    | inr other ↦ get_or-set_other a.frames k j (Some f) None other ∙ h.no_other j le
  ];
}

stays_if : (test : Bool) (a s t : AbstractState) (cause : Cause) → Stays a s → cond test (ok s) (Err cause) ≡ ok t → Stays a t
stays_if true a s t cause stays h = subst (Stays a) (let e : s ≡ t = (let f : ok s ≡ ok t = h in cc) in e) stays
stays_if false a s t cause stays h = absurd cc

unless : (test : Bool) (r : Result AbstractState Cause) (t : AbstractState) (cause : Cause) → cond test r (Err cause) ≡ ok t → r ≡ ok t
unless true r t cause h = h
unless false r t cause h = absurd cc

unless_not : (test : Bool) (r : Result AbstractState Cause) (t : AbstractState) (cause : Cause) → cond test (Err cause) r ≡ ok t → r ≡ ok t
unless_not true r t cause h = absurd cc
unless_not false r t cause h = h

-- ---- stores and gather

frame_stored : (s t : AbstractState) (frame : ℕ) (f : Option Frame) (v : AbstractValue) (place : ℤ) (size : ℕ) → frame_of s frame ≡ f → frame_store_result s frame f place size v ≡ ok t → Stays s t
frame_stored s t frame None v place size there h = absurd cc
frame_stored s t frame (Some g) v place size there h =
    let after = frame_write g (frame_index place) size v in
    stays_if (is_in_frame place size) s (with_frame s frame after) t OutOfRange (put_stays s frame after g there)
    (unless (may_store v (is_in_frame place size && is_slot (frame_index place) size)) _ t PointerUse h)

stored_stays : (l : Lengths) (s t : AbstractState) (base v : AbstractValue) (z : ℤ) (size : ℕ) → store_result l s base z size v ≡ ok t → Stays s t
stored_stays l s t Unset v z size h = absurd cc
stored_stays l s t (Number lo hi) v z size h = absurd cc
stored_stays l s t (Record lo hi) v z size h =
    stays_if (is_within l.record_length lo hi z size) s s t OutOfRange (same_stays s s refl) (unless_not (is_pointer v) _ t PointerUse h)
stored_stays l s t (Stack frame top) v z size h = frame_stored s t frame (frame_of s frame) v (top +ℤ z) size refl h
stored_stays l s t (Table lo hi) v z size h = absurd cc

frame_gathered : (s t : AbstractState) (frame : ℕ) (f : Option Frame) (place : ℤ) (room : ℕ) → frame_of s frame ≡ f → frame_gather_result s frame f place room ≡ ok t → Stays s t
frame_gathered s t frame None place room there h = absurd cc
frame_gathered s t frame (Some g) place room there h =
    let after = frame_fill g (frame_index place) room in
    stays_if (is_in_frame place room) s (with_frame s frame after) t OutOfRange (put_stays s frame after g there) h

gathered_stays : (l : Lengths) (s t : AbstractState) (pointer : AbstractValue) (room : ℕ) → gather_result l s pointer room ≡ ok t → Stays s t
gathered_stays l s t Unset room h = absurd cc
gathered_stays l s t (Number lo hi) room h = absurd cc
gathered_stays l s t (Record lo hi) room h = stays_if (is_within l.record_length lo hi (pos 0) room) s s t OutOfRange (same_stays s s refl) h
gathered_stays l s t (Stack frame top) room h = frame_gathered s t frame (frame_of s frame) top room refl h
gathered_stays l s t (Table lo hi) room h = absurd cc

-- ---- the ways from an instruction

abbrev AllStay : AbstractState → Ways → Type 0
AllStay a ws = (w : ℤ × AbstractState) → IsWay w ws → Stays a w.1

one_stays : (a s : AbstractState) (z : ℤ) (ws : Ways) → Stays a s → (z, s) ∷ [] ≡ ws → AllStay a ws
one_stays a s z ws stays same w m =
    let one : IsWay w ((z, s) ∷ []) = subst (λ (x : Ways). IsWay w x) (sym same) m in
    elim one [ inl is ↦ subst (λ (x : ℤ × AbstractState). Stays a x.1) (sym is) stays | inr none ↦ absurd none ]

written_stays : (pc : ℕ) (a : AbstractState) (d : Register) (r : Result AbstractValue Cause) (ws : Ways) → write_ways pc a d r ≡ ok ws → AllStay a ws
written_stays pc a d r ws h =
    let w = writes_from pc a d r ws h in
    one_stays a (with_register a d w.value) (pos pc) ws (same_stays a (with_register a d w.value) refl) w.to

behind_stays : (pc : ℕ) (a : AbstractState) (r : Result AbstractState Cause) (ws : Ways) → ((t : AbstractState) → r ≡ ok t → Stays a t) → behind_store pc r ≡ ok ws → AllStay a ws
behind_stays pc a r ws all h =
    let t = bind_ok r (λ t. ok (onward pc t)) ws h in
    let same : (pos pc, t.0) ∷ [] ≡ ws = (let e : ok (onward pc t.0) ≡ ok ws = t.2 in cc) in
    one_stays a t.0 (pos pc) ws (all t.0 t.1) same

none_stay : (a : AbstractState) (ws : Ways) → ok [] ≡ ok ws → AllStay a ws
none_stay a ws h w m =
    let same : [] ≡ ws = (let e : ok [] ≡ ok ws = h in cc) in
    absurd (subst (λ (x : Ways). IsWay w x) (sym same) m)

returned_stays : (a : AbstractState) (v : AbstractValue) (ws : Ways) → exit_ways v ≡ ok ws → AllStay a ws
returned_stays a Unset ws h w m = absurd cc
returned_stays a (Number lo hi) ws h w m = none_stay a ws h w m
returned_stays a (Record lo hi) ws h w m = absurd cc
returned_stays a (Stack frame offset) ws h w m = absurd cc
returned_stays a (Table lo hi) ws h w m = absurd cc

operand_frames : (s : AbstractState) (o : Operand) (v : AbstractValue) → (with_operand s o v).frames ≡ s.frames
operand_frames s (Immediate n) v = refl
operand_frames s (Source r) v = refl

side_stays : (s : AbstractState) (left : Register) (right : Operand) (z : ℤ) (values : Option (AbstractValue × AbstractValue)) → AllStay s (side_way s left right z values)
side_stays s left right z None w m = absurd m
side_stays s left right z (Some values) w m =
    let after = with_operand (with_register s left values.0) right values.1 in
    one_stays s after z ((z, after) ∷ []) (same_stays s after (operand_frames (with_register s left values.0) right values.1)) refl w m

either_way : (w : ℤ × AbstractState) (xs ys : Ways) → IsWay w (xs ++ ys) → IsWay w xs ⊎ IsWay w ys
either_way w [] ys m = inr m
either_way w (x ∷ xs) ys m =
    elim m [
      | inl is ↦ inl (inl is)
      | inr rest ↦ elim (either_way w xs ys rest) [ inl left ↦ inl (inr left) | inr right ↦ inr right ]
    ]

branch_stays : (pc : ℕ) (z : ℤ) (s : AbstractState) (left : Register) (right : Operand) (sides : Sides) (ws : Ways) → branch_ways pc z s left right sides ≡ ws → AllStay s ws
branch_stays pc z s left right sides ws same w m =
    let taken = side_way s left right (target pc z) sides.taken in
    let passed = side_way s left right (pos (pc + 1)) sides.passed in
    let all : IsWay w (taken ++ passed) = subst (λ (x : Ways). IsWay w x) (sym same) m in
    elim (either_way w taken passed all) [
      | inl by ↦ side_stays s left right (target pc z) sides.taken w by
      | inr by ↦ side_stays s left right (pos (pc + 1)) sides.passed w by
    ]

-- ---- helpers

answered_stays : (pc : ℕ) (a t : AbstractState) (most : ℕ) (ws : Ways) → Stays a t → ok (way_with_answer pc t most) ≡ ok ws → AllStay a ws
answered_stays pc a t most ws stays h =
    let same : way_with_answer pc t most ≡ ws = cc in
    one_stays a (state_behind_helper t (Number 0 most)) (pos (pc + 1)) ws (λ live has. same_stays t (state_behind_helper t (Number 0 most)) refl live (stays live has)) same

one_stays_asked : (pc : ℕ) (a : AbstractState) (most : ℕ) (ws : Ways) → one_number_call pc a most ≡ ok ws → AllStay a ws
one_stays_asked pc a most ws h =
    let u = bind_ok (known_register a R1) (λ u. cond (is_number u) (ok (way_with_answer pc a most)) (failed HelperArgument)) ws h in
    answered_stays pc a a most ws (same_stays a a refl) (of_kind (is_number u.0) (ok (way_with_answer pc a most)) ws u.2)

two_stay_asked : (pc : ℕ) (a : AbstractState) (most : ℕ) (ws : Ways) → two_number_call pc a most ≡ ok ws → AllStay a ws
two_stay_asked pc a most ws h =
    let u = bind_ok (known_register a R1) (λ u. bind (known_register a R2) (λ v. cond (is_number u && is_number v) (ok (way_with_answer pc a most)) (failed HelperArgument))) ws h in
    let v = bind_ok (known_register a R2) (λ v. cond (is_number u.0 && is_number v) (ok (way_with_answer pc a most)) (failed HelperArgument)) ws u.2 in
    answered_stays pc a a most ws (same_stays a a refl) (of_kind (is_number u.0 && is_number v.0) (ok (way_with_answer pc a most)) ws v.2)

gather_stays : (l : Lengths) (pc : ℕ) (a : AbstractState) (pointer : AbstractValue) (room : Option ℕ) (ws : Ways) → gather_ways l pc a pointer room ≡ ok ws → AllStay a ws
gather_stays l pc a pointer None ws h = absurd cc
gather_stays l pc a pointer (Some room) ws h =
    let t = bind_ok (gather_result l a pointer room) (λ t. ok (way_with_answer pc t (room / 4))) ws h in
    answered_stays pc a t.0 (room / 4) ws (gathered_stays l a t.0 pointer room t.1) t.2

helper_stays : (l : Lengths) (pc : ℕ) (helper : Helper) (a : AbstractState) (ws : Ways) → helper_ways l pc helper a ≡ ok ws → AllStay a ws
helper_stays l pc Degree a ws h = one_stays_asked pc a (2 ^ 32 - 1) ws h
helper_stays l pc HasEdge a ws h = two_stay_asked pc a 1 ws h
helper_stays l pc Neighbour a ws h = two_stay_asked pc a (2 ^ 64 - 1) ws h
helper_stays l pc VertexCount a ws h = answered_stays pc a a (2 ^ 32 - 1) ws (same_stays a a refl) h
helper_stays l pc Gather a ws h = let asked = asks l pc a ws h in gather_stays l pc a asked.pointer (known_room asked.room) ws asked.ways

helper_call_stays : (l : Lengths) (pc : ℕ) (helper : Option Helper) (a : AbstractState) (ws : Ways) → helper_call_ways l pc helper a ≡ ok ws → AllStay a ws
helper_call_stays l pc None a ws h = absurd cc
helper_call_stays l pc (Some helper) a ws h = helper_stays l pc helper a ws h

-- one clause an instruction
ways_stay : (l : Lengths) (pc : ℕ) (i : Instruction) (a : AbstractState) (ws : Ways) → transfer l pc i a ≡ ok ws → AllStay a ws
unfolding transfer
ways_stay l pc (Alu w operation d o) a ws h =
    let u = bind_ok (known_left operation a d) (λ u. bind (known_operand w a o) (λ b. write_ways (pc + 1) a d (alu_result w operation l u b))) ws h in
    let b = bind_ok (known_operand w a o) (λ b. write_ways (pc + 1) a d (alu_result w operation l u.0 b)) ws u.2 in
    written_stays (pc + 1) a d (alu_result w operation l u.0 b.0) ws b.2
ways_stay l pc (MoveSigned extension d source) a ws h =
    let b = bind_ok (known_register a source) (λ b. write_ways (pc + 1) a d (move_signed_result extension b)) ws h in
    written_stays (pc + 1) a d (move_signed_result extension b.0) ws b.2
ways_stay l pc (Negate w d) a ws h =
    let b = bind_ok (known_register a d) (λ b. write_ways (pc + 1) a d (negate_result w b)) ws h in
    written_stays (pc + 1) a d (negate_result w b.0) ws b.2
ways_stay l pc (Swap order bits d) a ws h =
    let b = bind_ok (known_register a d) (λ b. write_ways (pc + 1) a d (swap_result order bits b)) ws h in
    written_stays (pc + 1) a d (swap_result order bits b.0) ws b.2
ways_stay l pc (Jump distance) a ws h =
    let same : (target pc (units_over distance), a) ∷ [] ≡ ws = (let e : ok ((target pc (units_over distance), a) ∷ []) ≡ ok ws = h in cc) in
    one_stays a a (target pc (units_over distance)) ws (same_stays a a refl) same
ways_stay l pc (Branch w c left right distance) a ws h =
    let u = bind_ok (known_register a left) (λ u. bind (known_operand w a right) (λ b. bind (branch_sides w c left right u b) (λ sides. ok (branch_ways pc distance a left right sides)))) ws h in
    let b = bind_ok (known_operand w a right) (λ b. bind (branch_sides w c left right u.0 b) (λ sides. ok (branch_ways pc distance a left right sides))) ws u.2 in
    let sides = bind_ok (branch_sides w c left right u.0 b.0) (λ sides. ok (branch_ways pc distance a left right sides)) ws b.2 in
    let same : branch_ways pc distance a left right sides.0 ≡ ws = (let e : ok (branch_ways pc distance a left right sides.0) ≡ ok ws = sides.2 in cc) in
    branch_stays pc distance a left right sides.0 ws same
ways_stay l pc (CallHelper number) a ws h = helper_call_stays l pc (helper_of number) a ws h
ways_stay l pc (CallLocal distance) a ws h = none_stay a ws h
ways_stay l pc Exit a ws h = returned_stays a (get_or a.registers 0 Unset) ws h
ways_stay l pc (Load size d base offset) a ws h =
    let b = bind_ok (known_register a base) (λ b. write_ways (pc + 1) a d (load_result l a b offset (size_bytes size))) ws h in
    written_stays (pc + 1) a d (load_result l a b.0 offset (size_bytes size)) ws b.2
ways_stay l pc (LoadSigned size d base offset) a ws h =
    let b = bind_ok (known_register a base) (λ b. write_ways (pc + 1) a d (load_signed_result l a b offset size)) ws h in
    written_stays (pc + 1) a d (load_signed_result l a b.0 offset size) ws b.2
ways_stay l pc (Store size base offset immediate) a ws h =
    let b = bind_ok (known_register a base) (λ b. behind_store (pc + 1) (store_result l a b offset (size_bytes size) (constant (immediate_value immediate)))) ws h in
    behind_stays (pc + 1) a (store_result l a b.0 offset (size_bytes size) (constant (immediate_value immediate))) ws (λ t is. stored_stays l a t b.0 (constant (immediate_value immediate)) offset (size_bytes size) is) b.2
ways_stay l pc (StoreRegister size base offset source) a ws h =
    let b = bind_ok (known_register a base) (λ b. bind (known_register a source) (λ v. behind_store (pc + 1) (store_result l a b offset (size_bytes size) v))) ws h in
    let v = bind_ok (known_register a source) (λ v. behind_store (pc + 1) (store_result l a b.0 offset (size_bytes size) v)) ws b.2 in
    behind_stays (pc + 1) a (store_result l a b.0 offset (size_bytes size) v.0) ws (λ t is. stored_stays l a t b.0 v.0 offset (size_bytes size) is) v.2
ways_stay l pc (Wide d value) a ws h = written_stays (pc + 2) a d (ok (constant value)) ws h

-- ---- where ways meet

zipped_live : (xs ys : List (Option Frame)) (k : ℕ) → get_or (elementwise join_if_live xs ys) k None ≡ join_if_live (get_or xs k None) (get_or ys k None)
zipped_live [] ys k = refl
zipped_live (x ∷ xs) [] k = sym (with_nothing (get_or (x ∷ xs) k None))
  where
    with_nothing : (f : Option Frame) → join_if_live f None ≡ None
    with_nothing None = refl
    with_nothing (Some f) = refl
zipped_live (x ∷ xs) (y ∷ ys) zero = refl
zipped_live (x ∷ xs) (y ∷ ys) (suc k) = zipped_live xs ys k

zipped_long : (xs ys : List (Option Frame)) → length xs ≡ length ys → length (elementwise join_if_live xs ys) ≡ length ys
zipped_long [] [] same = refl
zipped_long [] (y ∷ ys) same = absurd (omega (arith, same))
zipped_long (x ∷ xs) [] same = absurd (omega (arith, same))
zipped_long (x ∷ xs) (y ∷ ys) same = ap suc (zipped_long xs ys (omega (arith, same)))

joined_has : (live : ℕ) (a b : AbstractState) → HasFrames live a → HasFrames live b → HasFrames live (join_of_states a b)
joined_has live a b of_a of_b = record {
  places = zipped_long a.frames b.frames (of_a.places ∙ sym of_b.places) ∙ of_b.places;
  each = λ k lt. (let f = of_a.each k lt in let g = of_b.each k lt in (join_of_frames f.0 g.0, zipped_live a.frames b.frames k ∙ (rw (f.1, g.1) refl)));
  no_other = λ k le. zipped_live a.frames b.frames k ∙ ap (λ f. join_if_live f (get_or b.frames k None)) (of_a.no_other k le);
}

-- what is known, if anything is
abbrev IfKnown : ℕ → Option AbstractState → Type 0
IfKnown live known = (s : AbstractState) → known ≡ Some s → HasFrames live s

abbrev AllHave : ℕ → Ways → Type 0
AllHave live ws = (w : ℤ × AbstractState) → IsWay w ws → HasFrames live w.1

nothing_known : (live : ℕ) → IfKnown live None
nothing_known live s is = absurd (let e : None ≡ Some s = is in cc)

this_known : (live : ℕ) (a : AbstractState) → HasFrames live a → IfKnown live (Some a)
this_known live a has s is = subst (HasFrames live) (let e : Some a ≡ Some s = is in cc) has

with_known : (live : ℕ) (known : Option AbstractState) (b : AbstractState) → IfKnown live known → HasFrames live b → IfKnown live (joined_with known b)
with_known live None b old new = this_known live b new
with_known live (Some a) b old new = this_known live (join_of_states a b) (joined_has live a b (old a refl) new)

if_known : (live : ℕ) (test : Bool) (a b : Option AbstractState) → IfKnown live a → IfKnown live b → IfKnown live (cond test a b)
if_known live true a b of_a of_b = of_a
if_known live false a b of_a of_b = of_b

ways_known : (live : ℕ) (ws : Ways) (known : Option AbstractState) (q : ℕ) → IfKnown live known → AllHave live ws → IfKnown live (joined_ways known ws q)
ways_known live [] known q old all = old
ways_known live (w ∷ ws) known q old all =
    ways_known live ws (cond (int_eq w.0 (pos q)) (joined_with known w.1) known) q
    (if_known live (int_eq w.0 (pos q)) (joined_with known w.1) known (with_known live known w.1 old (all w (inl refl))) old)
    (λ x m. all x (inr m))

-- ---- calls

entered_has : (frame : ℕ) (s : AbstractState) → suc frame < most_frames → HasFrames (suc frame) s → HasFrames (suc (suc frame)) (callee_state frame s)
entered_has frame s few h = record {
  places = length-set s.frames (suc frame) (Some new_frame) ∙ h.places;
  each = λ k lt. elim (cases_eq k (suc frame)) [
    | inl same ↦ (new_frame, rw same (get_or-set_same s.frames (suc frame) (Some new_frame) None (omega (arith, few, h.places))))
    | inr other ↦ (let was = h.each k (omega (arith, lt, other)) in (was.0, get_or-set_other s.frames (suc frame) k (Some new_frame) None other ∙ was.1))
  ];
  no_other = λ k le. get_or-set_other s.frames (suc frame) k (Some new_frame) None (λ same. omega (arith, le, same)) ∙ h.no_other k (omega (arith, le));
}

-- a frame that is dropped is not known
none_there : (frames : List (Option Frame)) (k : ℕ) → get_or (set frames k None) k None ≡ None
none_there [] k = refl
none_there (f ∷ frames) zero = refl
none_there (f ∷ frames) (suc k) = none_there frames k

left_has : (frame : ℕ) (s : AbstractState) → HasFrames (suc (suc frame)) s → HasFrames (suc frame) (left_state frame s)
left_has frame s h =
    let left = set s.frames (suc frame) None in
    record {
      places = length-map left (without_pointers (suc frame)) ∙ (length-set s.frames (suc frame) None ∙ h.places);
      each = λ k lt. (
          let was = h.each k (omega (arith, lt)) in
          let there : get_or left k None ≡ Some was.0 = get_or-set_other s.frames (suc frame) k None None (λ same. omega (arith, lt, same)) ∙ was.1 in
          (_, dropped_at (suc frame) left k ∙ ap (without_pointers (suc frame)) there));
      no_other = λ k le. (
          let gone : get_or left k None ≡ None = elim (cases_eq k (suc frame)) [
            | inl same ↦ rw same (none_there s.frames (suc frame))
            | inr other ↦ get_or-set_other s.frames (suc frame) k None None other ∙ h.no_other k (omega (arith, le, other))
          ] in
          dropped_at (suc frame) left k ∙ ap (without_pointers (suc frame)) gone);
    }

-- what comes of a call has the frames of the caller
abbrev Returns : Calls → ℕ → Type 0
Returns calls frame =
    (w : Passage) (s t : AbstractState) → w.frame ≡ suc frame → w.known ≡ callee_state frame s → HasFrames (suc frame) s → calls w ≡ Ok (Some t) → HasFrames (suc frame) t

outcome_has : (calls : Calls) (v : Passage) (pc : ℕ) (i : Instruction) (s t : AbstractState) → Returns calls v.frame → HasFrames (suc v.frame) s → outcome_at calls (opening v pc i s) ≡ Ok (Some t) → HasFrames (suc v.frame) t
outcome_has calls v pc (CallLocal z) s t returns has is = returns _ s t refl refl has is
outcome_has calls v pc _ s t returns has is = absurd (let e : Ok None ≡ Ok (Some t) = is in cc)

after_has : (live pc : ℕ) (o : Outcome) → ((t : AbstractState) → o ≡ Ok (Some t) → HasFrames live t) → AllHave live (ways_after pc o)
after_has live pc (Ok None) all w m = absurd m
after_has live pc (Ok (Some t)) all w m =
    elim m [ inl is ↦ subst (λ (x : ℤ × AbstractState). HasFrames live x.1) (sym is) (all t refl) | inr none ↦ absurd none ]
after_has live pc (Err refusal) all w m = absurd m

rule_has : (live : ℕ) (s : AbstractState) (r : Result Ways Cause) → HasFrames live s → ((ws : Ways) → r ≡ ok ws → AllStay s ws) → AllHave live (ways_of r)
rule_has live s (Ok ws) has all w m = all ws refl w m live has
rule_has live s (Err cause) has all w m = absurd m

all_have : (p : Program) (calls : Calls) (v : Passage) (pc : ℕ) (i : Option Instruction) (s : Option AbstractState) → Returns calls v.frame → IfKnown (suc v.frame) s → AllHave (suc v.frame) (known_ways p calls v pc i s)
all_have p calls v pc None s returns known w m = absurd m
all_have p calls v pc (Some i) None returns known w m = absurd m
all_have p calls v pc (Some i) (Some s) returns known w m =
    let has = known s refl in
    let rule = transfer (lengths_of p) pc i s in
    let came = outcome_at calls (opening v pc i s) in
    elim (either_way w (ways_of rule) (ways_after pc came) m) [
      | inl by ↦ rule_has (suc v.frame) s rule has (λ ws is. ways_stay (lengths_of p) pc i s ws is) w by
      | inr by ↦ after_has (suc v.frame) pc came (λ t is. outcome_has calls v pc i s t returns has is) w by
    ]

-- ---- a passage

come_known : (p : Program) (calls : Calls) (v : Passage) → Returns calls v.frame → HasFrames (suc v.frame) v.known → (n q : ℕ) → IfKnown (suc v.frame) (arrivals p calls v n q)
come_known p calls v returns first zero q = if_known (suc v.frame) (eqb q v.entry) (Some v.known) None (this_known (suc v.frame) v.known first) (nothing_known (suc v.frame))
come_known p calls v returns first (suc n) q =
    ways_known (suc v.frame) (known_ways p calls v n (instruction_at p n) (arrivals p calls v n n)) (arrivals p calls v n q) q
    (come_known p calls v returns first n q)
    (all_have p calls v n (instruction_at p n) (arrivals p calls v n n) returns (come_known p calls v returns first n n))

left_known : (frame called_frame : ℕ) (known : Option AbstractState) (s : AbstractState) → called_frame ≡ suc frame → IfKnown (suc frame) known → HasFrames (suc called_frame) s → IfKnown (suc frame) (left_by called_frame known s)
left_known frame zero known s same old has = absurd (omega (arith, same))
left_known frame (suc caller) known s same old has =
    let is : caller ≡ frame = omega (arith, same) in
    with_known (suc frame) known (left_state caller s) old (subst (λ n. HasFrames (suc n) (left_state caller s)) is (left_has caller s has))

exit_known : (frame : ℕ) (v : Passage) (known : Option AbstractState) (i : Option Instruction) (s : Option AbstractState) → v.frame ≡ suc frame → IfKnown (suc frame) known → IfKnown (suc v.frame) s → IfKnown (suc frame) (joined_exit v known i s)
exit_known frame v known None s same old here = old
exit_known frame v known (Some Exit) None same old here = old
exit_known frame v known (Some Exit) (Some s) same old here = left_known frame v.frame known s same old (here s refl)
exit_known frame v known (Some _) s same old here = old

exits_known : (p : Program) (calls : Calls) (v : Passage) (frame : ℕ) → v.frame ≡ suc frame → ((n q : ℕ) → IfKnown (suc v.frame) (arrivals p calls v n q)) → (n : ℕ) → IfKnown (suc frame) (exit_state p calls v n)
exits_known p calls v frame same come zero = nothing_known (suc frame)
exits_known p calls v frame same come (suc n) =
    exit_known frame v (exit_state p calls v n) (instruction_at p n) (states p calls v n) same (exits_known p calls v frame same come n) (come n n)

exit_of : (r : Option Refusal) (e : Option AbstractState) (t : AbstractState) → unless_refused_within r e ≡ Ok (Some t) → e ≡ Some t
exit_of None e t is = (let f : Ok e ≡ Ok (Some t) = is in cc)
exit_of (Some refusal) e t is = absurd cc

-- passages within passages
returns_so : (p : Program) (n frame : ℕ) → suc frame + n ≤ most_frames → Returns (called p n) frame
unfolding called
returns_so p zero frame fits w s t at known has is = absurd (let e : Ok None ≡ Ok (Some t) = is in cc)
returns_so p (suc n) frame fits w s t at known has is =
    let few : suc frame < most_frames = omega (arith, fits) in
    let first : HasFrames (suc w.frame) w.known = rw (at, known) (entered_has frame s few has) in
    let within : Returns (called p n) w.frame = returns_so p n w.frame (omega (arith, at, fits)) in
    let come = come_known p (called p n) w within first in
    exits_known p (called p n) w frame at come (units p) t
    (exit_of (first_refusal p (called p n) w (units p)) (exit_state p (called p n) w (units p)) t is)

-- ---- a run

states_known : (p : Program) (v : Passage) → v.frame < most_frames → HasFrames (suc v.frame) v.known → (q : ℕ) → IfKnown (suc v.frame) (states p (calls_of p v) v q)
states_known p v few first q = come_known p (calls_of p v) v (returns_so p (most_callers - v.frame) v.frame (omega (arith, few))) first q q

same_passage : (w v : Passage) → Some w ≡ Some v → HasFrames (suc w.frame) w.known → HasFrames (suc v.frame) v.known
same_passage w v is has = subst (λ (x : Passage). HasFrames (suc x.frame) x.known) (let e : w ≡ v = cc in e) has

opened_has : (outer v : Passage) (place : ℕ) (z : ℤ) (s : AbstractState) → suc outer.frame < most_frames → HasFrames (suc outer.frame) s → opening outer place (CallLocal z) s ≡ Some v → HasFrames (suc v.frame) v.known
opened_has outer v place z s few has opens = same_passage _ v opens (entered_has outer.frame s few has)

in_frame : (p : Program) (v : Passage) (callers : List Saved) → IsIn p v callers → v.frame ≡ length callers
in_frame p v [] h = ap (λ (w : Passage). w.frame) h.0
in_frame p v (caller ∷ callers) h = h.2

entry_has : (l : Lengths) → HasFrames 1 (entry_state l)
entry_has l = record { places = refl; each = first; no_other = others }
  where
    first : (k : ℕ) → k < 1 → (f : Frame) × (frame_of (entry_state l) k ≡ Some f)
    first zero lt = (new_frame, refl)
    first (suc k) lt = absurd (omega (arith, lt))

    others : (k : ℕ) → 1 ≤ k → frame_of (entry_state l) k ≡ None
    others zero le = absurd (omega (arith, le))
    others (suc k) le = same_everywhere most_callers k None

begins_with : (p : Program) (v : Passage) (callers : List Saved) → length callers < most_frames → IsIn p v callers → HasFrames (suc v.frame) v.known
begins_with p v [] few h = subst (λ (w : Passage). HasFrames (suc w.frame) w.known) (sym h.0) (entry_has (lengths_of p))
begins_with p v (caller ∷ callers) few (outer, opened, frame, fine, within) =
    let at : outer.frame ≡ length callers = in_frame p outer callers within in
    let first = begins_with p outer callers (omega (arith, few)) within in
    let has = states_known p outer (omega (arith, at, few)) first opened.place opened.abstract_state opened.walked in
    opened_has outer v opened.place opened.distance opened.abstract_state (omega (arith, at, few)) has opened.opens

pub frames_are_live : FramesAreLive
frames_are_live p k s stands =
    let at : stands.passage.frame ≡ length s.callers = in_frame p stands.passage s.callers stands.within in
    let few = stands.described.few_callers in
    let first = begins_with p stands.passage s.callers few stands.within in
    subst (λ n. HasFrames (suc n) stands.abstract_state) at
    (states_known p stands.passage (omega (arith, at, few)) first stands.place stands.abstract_state stands.walked)

pub frames_are_described : FramesAreDescribed
frames_are_described p k s stands frame lt =
    let there = (frames_are_live p k s stands).each frame lt in
    let lies = stands.described.parts.frames frame lt in (
      there.0,
      there.1,
      subst (λ f. DescribesLive (lengths_of p) (live_frames s) (frame_top frame) f s.memory) there.1 lies,
    )

-- What gather fills, where the rules allow it, leaves a memory that they describe.
use Rattle.std.proofs.Common.{◌≡◌, ℕ, ◌+◌, ◌-◌, ◌^◌, ◌<◌, ◌≤◌, Option, Some, None, subst, arith, inl, inr}
use Rattle.std.specs.Prelude.{ℤ, pos, ◌+ℤ◌, int_le}
use Rattle.std.proofs.lemmas.Int.{ints}
use Rattle.std.proofs.lemmas.Bool.{cases_Bool, and_parts, and_from, le-leb}
use Rattle.bpf_image.specs.declared.lengths.Lengths.{Lengths}
use Rattle.bpf_model.specs.declared.limits.TheConstants.{FRAME_BYTES}
use Rattle.abstract_values.specs.declared.limits.TheConstants.{FRAME_BOTTOM}
use Rattle.bpf_model.specs.State.{Partial, record_base, frame_top, most_frames}
use Rattle.bpf_model.specs.declared.cause.Cause.TheVariants.{OutOfRange}
use Rattle.abstract_values.specs.declared.value.AbstractValue.{AbstractValue}
use Rattle.abstract_values.specs.declared.value.AbstractValue.TheVariants.{Unset, Number, Record, Stack, Table}
use Rattle.abstract_values.specs.Described.{Describes}
use Rattle.abstract_state.specs.declared.state.Frame.{Frame}
use Rattle.abstract_state.specs.States.{AbstractState, frame_of, with_frame}
use Rattle.abstract_state.specs.Memory.{is_within, is_in_frame, frame_index, frame_fill, frame_gather_result, gather_result}
use Rattle.abstract_state.specs.Described.{DescribesFrame, DescribesLive, DescribesParts, IsAllowed, IsWritten}
use Rattle.abstract_state.proofs.Loads.{at_most, natural, place_in}
use Rattle.abstract_state.proofs.Stores.{ok, failed, Leaves, filled_described, record_described}

record_gather : (l : Lengths) (live lo hi : ℕ) (s t : AbstractState) (registers before after : Partial) (room x : ℕ) → l.record_length < 2 ^ 16 → live ≤ most_frames → gather_result l s (Record lo hi) room ≡ ok t → DescribesParts l live s registers before → Describes l live (Record lo hi) (Some x) → IsWritten before after x room → Leaves l live t registers after x room
record_gather l live lo hi s t registers before after room x short high h d q written =
    elim (cases_Bool (is_within l.record_length lo hi (pos 0) room)) [
      | inl is ↦
          let same : s ≡ t = (let e : ok s ≡ ok t = (rw is at h) in cc) in
          let at = place_in l.record_length lo hi q.0 room (pos 0) q.2 q.3 is in
          let x-is : x ≡ record_base + at.place = (let e : Some x ≡ Some (record_base + q.0) = q.1 in let f : x ≡ record_base + q.0 = cc in omega (arith, ints, at.is, f)) in
          let here : IsWritten before after (record_base + at.place) room = subst (λ a. IsWritten before after a room) x-is written in
          let allowed : IsAllowed l live (record_base + at.place) room = inl (and_from _ _ (le-leb record_base (record_base + at.place) (omega arith)) (le-leb ((record_base + at.place) + room) (record_base + l.record_length) (omega (arith, at.inside)))) in
          let described = record_described l live s registers before after at.place room short at.inside d here in
          rw x-is (allowed, subst (λ w. DescribesParts l live w registers after) same described)
      | inr not_is ↦ absurd (let e : failed OutOfRange ≡ ok t = (rw not_is at h) in cc)
    ]

frame_gather : (l : Lengths) (live frame : ℕ) (offset : ℤ) (g : Frame) (s t : AbstractState) (registers before after : Partial) (room x : ℕ) → 1 ≤ room → frame_gather_result s frame (Some g) offset room ≡ ok t → DescribesParts l live s registers before → DescribesFrame l live (frame_top frame) g before → Describes l live (Stack frame offset) (Some x) → IsWritten before after x room → Leaves l live t registers after x room
frame_gather l live frame offset g s t registers before after room x some h d lies q written =
    let k = frame_index offset in
    let top = frame_top frame in
    let f = frame_fill g k room in
    let is_live = q.5 in
    elim (cases_Bool (is_in_frame offset room)) [
      | inl is ↦
          let same : with_frame s frame f ≡ t = (let e : ok (with_frame s frame f) ≡ ok t = (rw is at h) in cc) in
          let both = and_parts (int_le FRAME_BOTTOM offset) (int_le (offset +ℤ pos room) (pos 0)) is in
          let begins = at_most FRAME_BOTTOM offset both.0 in
          let ends = at_most (offset +ℤ pos room) (pos 0) both.1 in
          let index = natural (pos FRAME_BYTES +ℤ offset) (omega (arith, ints, begins)) in
          let inside : k + room ≤ FRAME_BYTES = omega (arith, ints, index, ends) in
          let x-is : x ≡ top - FRAME_BYTES + k = (let e : Some x ≡ Some q.0 = q.1 in let e2 : x ≡ q.0 = cc in omega (arith, ints, index, q.2, e2)) in
          let here : IsWritten before after (top - FRAME_BYTES + k) room = subst (λ a. IsWritten before after a room) x-is written in
          let allowed : IsAllowed l live (top - FRAME_BYTES + k) room = inr (frame, is_live, omega arith, omega (arith, inside)) in
          let described = filled_described l live frame g s registers before after k room is_live inside some d lies here in
          rw x-is (allowed, subst (λ w. DescribesParts l live w registers after) same described)
      | inr not_is ↦ absurd (let e : failed OutOfRange ≡ ok t = (rw not_is at h) in cc)
    ]

live_gather : (l : Lengths) (live frame : ℕ) (offset : ℤ) (g : Option Frame) (s t : AbstractState) (registers before after : Partial) (room x : ℕ) → 1 ≤ room → frame_gather_result s frame g offset room ≡ ok t → DescribesParts l live s registers before → DescribesLive l live (frame_top frame) g before → Describes l live (Stack frame offset) (Some x) → IsWritten before after x room → Leaves l live t registers after x room
live_gather l live frame offset None s t registers before after room x some h d lies q written = absurd cc
live_gather l live frame offset (Some g) s t registers before after room x some h d lies q written =
    frame_gather l live frame offset g s t registers before after room x some h d lies q written

pub gather_describes : (l : Lengths) (live : ℕ) (s t : AbstractState) (registers before after : Partial) (pointer : AbstractValue) (room x : ℕ) → l.record_length < 2 ^ 16 → live ≤ most_frames → 1 ≤ room → gather_result l s pointer room ≡ ok t → DescribesParts l live s registers before → Describes l live pointer (Some x) → IsWritten before after x room → IsAllowed l live x room × DescribesParts l live t registers after
gather_describes l live s t registers before after Unset room x short high some h d q written = absurd cc
gather_describes l live s t registers before after (Number lo hi) room x short high some h d q written = absurd cc
gather_describes l live s t registers before after (Record lo hi) room x short high some h d q written =
    record_gather l live lo hi s t registers before after room x short high h d q written
gather_describes l live s t registers before after (Stack frame offset) room x short high some h d q written =
    live_gather l live frame offset (frame_of s frame) s t registers before after room x some h d (d.frames frame q.5) q written
gather_describes l live s t registers before after (Table lo hi) room x short high some h d q written = absurd cc

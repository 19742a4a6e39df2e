-- The order in which ways come makes no difference to the join of their states.
use Rattle.std.proofs.Common.{◌≡◌, List, [], ◌∷◌, Bool, true, false, Option, Some, None, refl, ap, ap₂, ◌∙◌}
use Rattle.std.specs.Prelude.{◌&&◌}
use Rattle.abstract_values.specs.declared.value.AbstractValue.{AbstractValue}
use Rattle.abstract_values.specs.Values.{join_of}
use Rattle.abstract_values.proofs.Joins.{join_commutes, join_associates}
use Rattle.abstract_state.specs.declared.state.Frame.{Frame}
use Rattle.abstract_state.specs.States.{AbstractState, elementwise, join_if_live}
use Rattle.abstract_state.specs.Laws.{JoinIsOrderless}

commutes : {A : Type 0} (f : A → A → A) → ((a b : A) → f a b ≡ f b a) → (xs ys : List A) → elementwise f xs ys ≡ elementwise f ys xs
commutes f same [] [] = refl
commutes f same [] (y ∷ ys) = refl
commutes f same (x ∷ xs) [] = refl
commutes f same (x ∷ xs) (y ∷ ys) = ap₂ (λ head rest. head ∷ rest) (same x y) (commutes f same xs ys)

associates : {A : Type 0} (f : A → A → A) → ((a b c : A) → f (f a b) c ≡ f a (f b c)) → (xs ys zs : List A)
    → elementwise f (elementwise f xs ys) zs ≡ elementwise f xs (elementwise f ys zs)
associates f same [] ys zs = refl
associates f same (x ∷ xs) [] zs = refl
associates f same (x ∷ xs) (y ∷ ys) [] = refl
associates f same (x ∷ xs) (y ∷ ys) (z ∷ zs) = ap₂ (λ head rest. head ∷ rest) (same x y z) (associates f same xs ys zs)

both_commute : (a b : Bool) → (a && b) ≡ (b && a)
both_commute true true = refl
both_commute true false = refl
both_commute false true = refl
both_commute false false = refl

both_associate : (a b c : Bool) → ((a && b) && c) ≡ (a && (b && c))
both_associate true b c = refl
both_associate false b c = refl

abbrev frame_of_parts : List Bool → List AbstractValue → Option Frame
frame_of_parts bytes slots = Some (record { bytes_set = bytes; slots = slots })

same_frames : (bytes flags : List Bool) (slots values : List AbstractValue) → bytes ≡ flags → slots ≡ values → frame_of_parts bytes slots ≡ frame_of_parts flags values
same_frames bytes flags slots values first second = ap (λ b. frame_of_parts b slots) first ∙ ap (λ s. frame_of_parts flags s) second

frames_commute : (f g : Option Frame) → join_if_live f g ≡ join_if_live g f
frames_commute None None = refl
frames_commute None (Some g) = refl
frames_commute (Some f) None = refl
frames_commute (Some f) (Some g) = same_frames _ _ _ _ (commutes (λ a b. a && b) both_commute f.bytes_set g.bytes_set) (commutes join_of join_commutes f.slots g.slots)

frames_associate : (f g h : Option Frame) → join_if_live (join_if_live f g) h ≡ join_if_live f (join_if_live g h)
frames_associate None g h = refl
frames_associate (Some f) None h = refl
frames_associate (Some f) (Some g) None = refl
frames_associate (Some f) (Some g) (Some h) = same_frames _ _ _ _ (associates (λ a b. a && b) both_associate f.bytes_set g.bytes_set h.bytes_set) (associates join_of join_associates f.slots g.slots h.slots)

abbrev state_of_parts : List AbstractValue → List (Option Frame) → List (List AbstractValue) → AbstractState
state_of_parts registers frames kept = record { registers = registers; frames = frames; kept = kept }

same_parts : (registers others : List AbstractValue) (frames stacks : List (Option Frame)) (kept restored : List (List AbstractValue))
    → registers ≡ others → frames ≡ stacks → kept ≡ restored → state_of_parts registers frames kept ≡ state_of_parts others stacks restored
same_parts registers others frames stacks kept restored first second third =
    ap (λ r. state_of_parts r frames kept) first ∙ ap (λ f. state_of_parts others f kept) second ∙ ap (λ k. state_of_parts others stacks k) third

pub join_is_orderless : JoinIsOrderless
join_is_orderless = (
  λ a b. same_parts _ _ _ _ _ _ (commutes join_of join_commutes a.registers b.registers)
      (commutes join_if_live frames_commute a.frames b.frames)
      (commutes (elementwise join_of) (commutes join_of join_commutes) a.kept b.kept),
  λ a b c. same_parts _ _ _ _ _ _ (associates join_of join_associates a.registers b.registers c.registers)
      (associates join_if_live frames_associate a.frames b.frames c.frames)
      (associates (elementwise join_of) (associates join_of join_associates) a.kept b.kept c.kept),
)

-- A branch goes on by a way whose side describes both compared numbers.
use Rattle.std.proofs.Common.{◌≡◌, ℕ, ◌+◌, [], ◌∷◌, ◌++◌, Bool, true, false, cond, Option, Some, None, refl, sym, ap, subst, ◌∙◌, arith, inl, inr}
use Rattle.std.specs.Prelude.{ℤ, pos, ◌+ℤ◌}
use Rattle.std.proofs.lemmas.Int.{ints}
use Rattle.std.proofs.lemmas.Bool.{cases_Bool}
use Rattle.bpf_isa.specs.declared.register.Register.{Register}
use Rattle.bpf_isa.specs.declared.instruction.Instruction.{Instruction}
use Rattle.bpf_isa.specs.declared.instruction.Width.{Width}
use Rattle.bpf_isa.specs.declared.instruction.Comparison.{Comparison}
use Rattle.bpf_isa.specs.declared.instruction.Operand.{Operand}
use Rattle.bpf_isa.specs.declared.instruction.Operand.TheVariants.{Immediate, Source}
use Rattle.bpf_isa.specs.Encoding.{number_of}
use Rattle.bpf_image.specs.declared.lengths.Lengths.{Lengths}
use Rattle.bpf_model.specs.Arithmetic.{low, comparison_holds, holds}
use Rattle.bpf_model.specs.State.{State}
use Rattle.bpf_model.specs.Step.{jump}
use Rattle.abstract_values.specs.declared.branch.Sides.{Sides}
use Rattle.abstract_values.specs.declared.value.AbstractValue.{AbstractValue}
use Rattle.abstract_values.specs.Narrowing.{narrowing}
use Rattle.abstract_values.specs.Described.{Describes, DescribesSide, side_of}
use Rattle.abstract_values.proofs.Branches.{narrow_describes}
use Rattle.abstract_state.specs.States.{AbstractState, with_register}
use Rattle.abstract_state.specs.Described.{DescribesParts, DescribesKept}
use Rattle.verifier.specs.Rules.{Ways, target, is_same, branch_sides, with_operand, side_way, branch_ways}
use Rattle.verifier.specs.Described.{DescribesState, IsWay, Follows, stays}
use Rattle.verifier.proofs.RuleParts.{ok, bind_ok}
use Rattle.verifier.proofs.KnownValues.{live, Reads, IsNumber, ReadsOperand}
use Rattle.verifier.proofs.RegisterWrites.{narrowed_described}

either : (P : Sides → Type 0) (one : Bool) (s t u : Sides) → cond one s t ≡ u → P s → P t → P u
either P true s t u e p q = subst P e p
either P false s t u e p q = subst P e q

both_sides : (l : Lengths) (t : ℕ) (a b : AbstractValue) (x y : ℕ) (taken : Bool) → Describes l t a (Some x) → Describes l t b (Some y) → DescribesSide l t (side_of (record { taken = Some (a, b); passed = Some (a, b) }) taken) x y
both_sides l t a b x y true p q = (p, q)
both_sides l t a b x y false p q = (p, q)

-- the side that is taken describes both numbers, also where they are of one register
sides_describe : (l : Lengths) (t : ℕ) (w : Width) (c : Comparison) (left : Register) (right : Operand) (a b : AbstractValue) (sides : Sides) (x y : ℕ) → branch_sides w c left right a b ≡ ok sides → Describes l t a (Some x) → Describes l t b (Some y) → DescribesSide l t (side_of sides (holds w c x y)) x y
sides_describe l t w c left right a b sides x y h p q =
    let both : Sides = record { taken = Some (a, b); passed = Some (a, b) } in
    let parts = bind_ok (narrowing w c a b) (λ t. ok (cond (is_same left right) both t)) sides h in
    let chosen : cond (is_same left right) both parts.0 ≡ sides = (let e : ok (cond (is_same left right) both parts.0) ≡ ok sides = parts.2 in cc) in
    either (λ u. DescribesSide l t (side_of u (holds w c x y)) x y) (is_same left right) both parts.0 sides chosen (both_sides l t a b x y (holds w c x y) p q) (narrow_describes w c l t a b parts.0 x y parts.1 p q)

-- the way by a side
record GoesBy (l : Lengths) (s : State) (z : ℤ) (ws : Ways) : Type 0 where
  way : ℤ × AbstractState
  is_way : IsWay way ws
  goes_to : z ≡ way.0
  parts : DescribesParts l (live s) way.1 s.registers s.memory
  kept : DescribesKept l way.1.kept s.callers

operand_narrowed : (l : Lengths) (a : AbstractState) (s : State) (o : Operand) (v : AbstractValue) (y : ℕ) → DescribesParts l (live s) a s.registers s.memory → IsNumber s o y → Describes l (live s) v (Some y) → DescribesParts l (live s) (with_operand a o v) s.registers s.memory
operand_narrowed l a s (Immediate n) v y d is new = d
operand_narrowed l a s (Source r) v y d is new =
    narrowed_described l (live s) a s.registers s.memory r v d (subst (λ x. Describes l (live s) v x) (sym is) new)

operand_keeps : (l : Lengths) (a : AbstractState) (s : State) (o : Operand) (v : AbstractValue) → DescribesKept l a.kept s.callers → DescribesKept l (with_operand a o v).kept s.callers
operand_keeps l a s (Immediate n) v d = d
operand_keeps l a s (Source r) v d = d

side_goes : (l : Lengths) (a : AbstractState) (s : State) (left : Register) (right : Operand) (z : ℤ) (side : Option (AbstractValue × AbstractValue)) (x y : ℕ) → DescribesState l a s → s.registers (number_of left) ≡ Some x → IsNumber s right y → DescribesSide l (live s) side x y → GoesBy l s z (side_way a left right z side)
side_goes l a s left right z None x y described p q d = absurd d
side_goes l a s left right z (Some values) x y described p q d =
    let first = narrowed_described l (live s) a s.registers s.memory left values.0 described.parts (subst (λ n. Describes l (live s) values.0 n) (sym p) d.0) in
    record { way = (z, with_operand (with_register a left values.0) right values.1); is_way = inl refl; goes_to = refl; parts = operand_narrowed l (with_register a left values.0) s right values.1 y first q d.1; kept = operand_keeps l (with_register a left values.0) s right values.1 described.kept }

in_front : (w : ℤ × AbstractState) (xs ys : Ways) → IsWay w xs → IsWay w (xs ++ ys)
in_front w [] ys h = absurd h
in_front w (x ∷ xs) ys (inl e) = inl e
in_front w (x ∷ xs) ys (inr h) = inr (in_front w xs ys h)

behind : (w : ℤ × AbstractState) (xs ys : Ways) → IsWay w ys → IsWay w (xs ++ ys)
behind w [] ys h = h
behind w (x ∷ xs) ys h = inr (behind w xs ys h)

taken_follows : (l : Lengths) (pc : ℕ) (i : Instruction) (z : ℤ) (a : AbstractState) (s : State) (left : Register) (right : Operand) (sides : Sides) (x y : ℕ) → s.pc ≡ pos pc → DescribesState l a s → s.registers (number_of left) ≡ Some x → IsNumber s right y → DescribesSide l (live s) sides.taken x y → Follows l i a s (branch_ways pc z a left right sides) (jump s z)
taken_follows l pc i z a s left right sides x y at described p q d =
    let g = side_goes l a s left right (target pc z) sides.taken x y described p q d in
    let moved : (s.pc +ℤ pos 1) +ℤ z ≡ target pc z = ap (λ n. (n +ℤ pos 1) +ℤ z) at in
    stays g.way (in_front g.way _ _ g.is_way) (moved ∙ g.goes_to) (record { parts = g.parts; frame_register = described.frame_register; few_callers = described.few_callers; kept = g.kept }) refl

passed_follows : (l : Lengths) (pc : ℕ) (i : Instruction) (z : ℤ) (a : AbstractState) (s : State) (left : Register) (right : Operand) (sides : Sides) (x y : ℕ) → s.pc ≡ pos pc → DescribesState l a s → s.registers (number_of left) ≡ Some x → IsNumber s right y → DescribesSide l (live s) sides.passed x y → Follows l i a s (branch_ways pc z a left right sides) (jump s (pos 0))
passed_follows l pc i z a s left right sides x y at described p q d =
    let g = side_goes l a s left right (pos (pc + 1)) sides.passed x y described p q d in
    let same : (pos pc +ℤ pos 1) +ℤ pos 0 ≡ pos (pc + 1) = omega (arith, ints) in
    let moved : (s.pc +ℤ pos 1) +ℤ pos 0 ≡ pos (pc + 1) = ap (λ n. (n +ℤ pos 1) +ℤ pos 0) at ∙ same in
    stays g.way (behind g.way _ _ g.is_way) (moved ∙ g.goes_to) (record { parts = g.parts; frame_register = described.frame_register; few_callers = described.few_callers; kept = g.kept }) refl

-- a branch, by the comparison that the machine makes
pub branch_follows : (l : Lengths) (pc : ℕ) (i : Instruction) (w : Width) (c : Comparison) (left : Register) (right : Operand) (z : ℤ) (a : AbstractState) (s : State) (u v : AbstractValue) (sides : Sides) (ws : Ways) → s.pc ≡ pos pc → DescribesState l a s → (x : Reads l (live s) (s.registers (number_of left)) u) → (y : ReadsOperand l w s right v) → branch_sides w c left right u v ≡ ok sides → branch_ways pc z a left right sides ≡ ws → Follows l i a s ws (jump s (cond (holds w c x.number y.number) z (pos 0)))
branch_follows l pc i w c left right z a s u v sides ws at described x y h ways =
    let test : holds w c x.number y.number ≡ holds w c x.number y.seen = ap (λ n. comparison_holds w c (low w x.number) n) y.same in
    let d = sides_describe l (live s) w c left right u v sides x.number y.seen h x.described y.described in
    elim (cases_Bool (holds w c x.number y.number)) [
      | inl is ↦
          let side : DescribesSide l (live s) sides.taken x.number y.seen = subst (λ t. DescribesSide l (live s) (side_of sides t) x.number y.seen) (sym test ∙ is) d in
          rw is (subst (λ t. Follows l i a s t (jump s z)) ways (taken_follows l pc i z a s left right sides x.number y.seen at described x.there y.is_seen side))
      | inr not_is ↦
          let side : DescribesSide l (live s) sides.passed x.number y.seen = subst (λ t. DescribesSide l (live s) (side_of sides t) x.number y.seen) (sym test ∙ not_is) d in
          rw not_is (subst (λ t. Follows l i a s t (jump s (pos 0))) ways (passed_follows l pc i z a s left right sides x.number y.seen at described x.there y.is_seen side))
    ]

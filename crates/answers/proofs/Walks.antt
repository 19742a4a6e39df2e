-- Labels that pass the test are components.
use Rattle.std.proofs.Common.{◌≡◌, ℕ, zero, suc, ◌<◌, true, List, refl, sym, ap, subst, ◌∙◌, inl, inr, arith}
use Rattle.std.specs.Prelude.{slice_index}
use Rattle.std.proofs.lemmas.Bool.{and_parts, ltb-true}
use Rattle.graph_model.specs.Graph.{Graph}
use Rattle.graph_model.specs.Views.{is_edge}
use Rattle.answers.specs.Components.{Touch, Walk, AreJoined, AreComponents, LabelsAreComponents}

-- both ends of an edge are vertices
pub ends : (g : Graph) (u v : ℕ) → is_edge g u v ≡ true → (u < g.vertex_count) × (v < g.vertex_count)
ends g u v edge =
    let first = and_parts _ _ edge in
    let rest = and_parts _ _ first.1 in
    (ltb-true u g.vertex_count first.0, ltb-true v g.vertex_count rest.0)

turned : (g : Graph) (u v : ℕ) → Touch g u v → Touch g v u
turned g u v (inl edge) = inr edge
turned g u v (inr edge) = inl edge

itself : (g : Graph) (v : ℕ) → AreJoined g v v
unfolding Walk
itself g v = (zero, refl)

one_on : (g : Graph) (u w v : ℕ) → AreJoined g u w → Touch g w v → AreJoined g u v
unfolding Walk
one_on g u w v walk edge = (suc walk.0, (w, walk.1, edge))

-- one walk after another
after : (g : Graph) (u v : ℕ) → AreJoined g u v → (k w : ℕ) → Walk g k v w → AreJoined g u w
unfolding Walk
after g u v first zero w same = subst (AreJoined g u) same first
after g u v first (suc k) w walk = one_on g u walk.0 w (after g u v first k walk.0 walk.1) walk.2

both_after : (g : Graph) (u v w : ℕ) → AreJoined g u v → AreJoined g v w → AreJoined g u w
both_after g u v w first second = after g u v first second.0 w second.1

-- a walk the other way
back : (g : Graph) (u k v : ℕ) → Walk g k u v → AreJoined g v u
unfolding Walk
back g u zero v same = subst (λ (x : ℕ). AreJoined g x u) same (itself g u)
back g u (suc k) v walk = both_after g v walk.0 u (one_on g v v walk.0 (itself g v) (turned g walk.0 v walk.2)) (back g u k walk.0 walk.1)

module _ (g : Graph) (labels parents steps : List ℕ) (are : AreComponents g labels parents steps) where
  abbrev label : ℕ → ℕ
  label v = slice_index labels v

  -- an edge joins vertices with the same label
  same_label : (u v : ℕ) → Touch g u v → label u ≡ label v
  same_label u v (inl edge) = sym (are.keep u (ends g u v edge).0 v edge)
  same_label u v (inr edge) = are.keep v (ends g v u edge).0 u edge

  along : (u k v : ℕ) → Walk g k u v → label u ≡ label v
  unfolding Walk
  along u zero v same = ap label same
  along u (suc k) v walk = along u k walk.0 walk.1 ∙ same_label walk.0 v walk.2

  touches : (u v : ℕ) → Touch g u v → u < g.vertex_count
  touches u v (inl edge) = (ends g u v edge).0
  touches u v (inr edge) = (ends g v u edge).1

  -- each vertex is joined to its label
  to_label : (k v : ℕ) → slice_index steps v ≡ k → v < g.vertex_count → AreJoined g (label v) v
  to_label zero v count inside =
      elim (are.reach v inside) [
        | inl own ↦ subst (λ (x : ℕ). AreJoined g x v) (sym own) (itself g v)
        | inr parent ↦ absurd (omega (arith, count, parent.1))
      ]
  to_label (suc k) v count inside =
      elim (are.reach v inside) [
        | inl own ↦ subst (λ (x : ℕ). AreJoined g x v) (sym own) (itself g v)
        | inr parent ↦
            (let up = slice_index parents v in
            let far = to_label k up (omega (arith, count, parent.1)) (touches up v parent.0) in
            subst (λ (x : ℕ). AreJoined g x v) (same_label up v parent.0) (one_on g (label up) up v far parent.0))
      ]

  joined : (u v : ℕ) → u < g.vertex_count → v < g.vertex_count → label u ≡ label v → AreJoined g u v
  joined u v first second same =
      let near = to_label (slice_index steps u) u refl first in
      let far = to_label (slice_index steps v) v refl second in
      both_after g u (label v) v (subst (AreJoined g u) same (back g (label u) near.0 u near.1)) far

pub components : LabelsAreComponents
components g labels parents steps are u v first second = (
  (joined g labels parents steps are u v first second, λ walk. along g labels parents steps are u walk.0 v walk.1),
  λ walk. (let same = along g labels parents steps are u walk.0 v walk.1 in omega (arith, same, are.least v second)),
)

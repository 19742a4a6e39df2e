-- Bytes stored one after another, as a loop stores them.
use Rattle.std.proofs.Common.{◌≡◌, ℕ, ◌+◌, ◌<◌, List, ◌∷◌, length, get_or, drop, drop-cons, add-one, refl, sym, ap, ◌∙◌, arith}
use Rattle.bpf_model.specs.State.{Partial, with_value, with_values}

-- what is left to store once one byte more is stored
pub stored_more : (old new : Partial) (base place k : ℕ) (value : List ℕ) → k < length value
    → with_value old (base + (place + k)) (get_or value k 0) ≡ new
    → with_values new (base + (place + (k + 1))) (drop (k + 1) value) ≡ with_values old (base + (place + k)) (drop k value)
stored_more old new base place k value within one =
    let next : base + (place + (k + 1)) ≡ (base + (place + k)) + 1 = omega arith in
    let rest : drop k value ≡ get_or value k 0 ∷ drop (k + 1) value = rw (add-one, drop-cons value k 0) refl in
    let first : with_values old (base + (place + k)) (get_or value k 0 ∷ drop (k + 1) value) ≡ with_values new ((base + (place + k)) + 1) (drop (k + 1) value) = ap (λ (m : Partial). with_values m ((base + (place + k)) + 1) (drop (k + 1) value)) one in
    ap (λ (a : ℕ). with_values new a (drop (k + 1) value)) next ∙ sym (ap (with_values old (base + (place + k))) rest ∙ first)

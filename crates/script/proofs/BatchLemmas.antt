-- Lines of a batch.
use Rattle.std.proofs.Common.{◌≡◌, ◌≢◌, ℕ, true, false, List, [], ◌∷◌, refl, sym, subst}
use Rattle.std.specs.Prelude.{Some, None, codes, option_map}
use Rattle.script_model.specs.Lexing.{same_bytes}
use Rattle.script_model.specs.Parsing.{batch_line, is_end, EndBatch, insert_line, remove_line}
use Rattle.script.specs.Reading.{first_number, pair_behind}
use Rattle.script.proofs.NumberLemmas.{first_of}
use Rattle.script.proofs.WordLemmas.{same_bytes-true}

-- a third word after the sign
pair_third : (source target : List ℕ) (rest : List (List ℕ)) → rest ≢ [] → pair_behind (source ∷ target ∷ rest) ≡ None
pair_third source target [] some = absurd (some refl)
pair_third source target (word ∷ rest) some = refl

pub pair_long : (n m : ℕ) (line rest others : List (List ℕ)) → first_number line ≡ Some (n, rest) → first_number rest ≡ Some (m, others) → others ≢ [] → pair_behind line ≡ None
pair_long n m line rest others source target some =
    let s = first_of line n rest source in
    let t = first_of rest m others target in
    rw (s.begins, t.begins) (pair_third s.word t.word others some)

-- what stands after a sign
plus_at : (rest : List (List ℕ)) → batch_line (codes "+" ∷ rest) ≡ option_map insert_line (pair_behind rest)
plus_at [] = refl
plus_at (a ∷ []) = refl
plus_at (a ∷ b ∷ []) = refl
plus_at (a ∷ b ∷ c ∷ rest) = refl

minus_at : (rest : List (List ℕ)) → batch_line (codes "-" ∷ rest) ≡ option_map remove_line (pair_behind rest)
minus_at [] = refl
minus_at (a ∷ []) = refl
minus_at (a ∷ b ∷ []) = refl
minus_at (a ∷ b ∷ c ∷ rest) = refl

pub batch_line-plus : (sign : List ℕ) (rest : List (List ℕ)) → same_bytes sign (codes "+") ≡ true → batch_line (sign ∷ rest) ≡ option_map insert_line (pair_behind rest)
batch_line-plus sign rest plus = subst (λ (word : List ℕ). batch_line (word ∷ rest) ≡ option_map insert_line (pair_behind rest)) (sym (same_bytes-true sign (codes "+") plus)) (plus_at rest)

pub batch_line-minus : (sign : List ℕ) (rest : List (List ℕ)) → same_bytes sign (codes "-") ≡ true → batch_line (sign ∷ rest) ≡ option_map remove_line (pair_behind rest)
batch_line-minus sign rest minus = subst (λ (word : List ℕ). batch_line (word ∷ rest) ≡ option_map remove_line (pair_behind rest)) (sym (same_bytes-true sign (codes "-") minus)) (minus_at rest)

-- an end
pub batch_line-end : (line : List (List ℕ)) → is_end line ≡ true → batch_line line ≡ Some EndBatch
batch_line-end [] end = absurd cc
batch_line-end (word ∷ []) end = simp end
batch_line-end (word ∷ a ∷ line) end = absurd cc

-- neither
pub batch_line-other : (word : List ℕ) (rest : List (List ℕ)) → same_bytes word (codes "+") ≡ false → same_bytes word (codes "-") ≡ false → is_end (word ∷ rest) ≡ false → batch_line (word ∷ rest) ≡ None
batch_line-other word [] plus minus end = simp end
batch_line-other word (a ∷ []) plus minus end = refl
batch_line-other word (a ∷ b ∷ []) plus minus end = simp (plus, minus)
batch_line-other word (a ∷ b ∷ c ∷ rest) plus minus end = refl

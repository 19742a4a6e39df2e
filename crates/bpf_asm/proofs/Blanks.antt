-- Blanks at the end of a text.
use Rattle.std.proofs.Common.{◌≡◌, ◌<◌, ◌+◌, ℕ, Bool, true, false, List, [], ◌∷◌, ◌++◌, take, get_or, refl, ◌∙◌}
use Rattle.std.specs.Prelude.{length, ◌&&◌}
use Rattle.std.specs.List.{list_all}
use Rattle.std.proofs.lemmas.List.{take_more}
use Rattle.std.proofs.lemmas.List.Folds.{list_all-append}
use Rattle.bpf_asm.specs.Lexing.{is_blank, without_end}

and_true : (a b : Bool) → b ≡ true → (a && (b && true)) ≡ a
and_true true true is = refl
and_true false b is = refl
and_true true false is = absurd (cc)

and_false : (a b : Bool) → b ≡ false → (a && (b && true)) ≡ false
and_false true false is = refl
and_false false b is = refl
and_false true true is = absurd (cc)

all_then_blank : (xs : List ℕ) (b : ℕ) → is_blank b ≡ true → list_all is_blank (xs ++ (b ∷ [])) ≡ list_all is_blank xs
all_then_blank xs b blank = list_all-append is_blank xs (b ∷ []) ∙ and_true (list_all is_blank xs) (is_blank b) blank

all_then_other : (xs : List ℕ) (b : ℕ) → is_blank b ≡ false → list_all is_blank (xs ++ (b ∷ [])) ≡ false
all_then_other xs b other = list_all-append is_blank xs (b ∷ []) ∙ and_false (list_all is_blank xs) (is_blank b) other

end_blank : (xs : List ℕ) (b : ℕ) → is_blank b ≡ true → without_end (xs ++ (b ∷ [])) ≡ without_end xs
end_blank [] b blank = simp blank
end_blank (x ∷ xs) b blank =
    let all : list_all is_blank (x ∷ (xs ++ (b ∷ []))) ≡ list_all is_blank (x ∷ xs) = all_then_blank (x ∷ xs) b blank in
    simp (all, end_blank xs b blank)

end_other : (xs : List ℕ) (b : ℕ) → is_blank b ≡ false → without_end (xs ++ (b ∷ [])) ≡ xs ++ (b ∷ [])
end_other [] b other = simp other
end_other (x ∷ xs) b other =
    let all : list_all is_blank (x ∷ (xs ++ (b ∷ []))) ≡ false = all_then_other (x ∷ xs) b other in
    simp (all, end_other xs b other)

pub end_less : (xs : List ℕ) (i : ℕ) → i < length xs → is_blank (get_or xs i 0) ≡ true → without_end (take (i + 1) xs) ≡ without_end (take i xs)
end_less xs i within blank = rw (take_more xs i 0 within) (end_blank (take i xs) (get_or xs i 0) blank)

pub end_stays : (xs : List ℕ) (i : ℕ) → i < length xs → is_blank (get_or xs i 0) ≡ false → without_end (take (i + 1) xs) ≡ take (i + 1) xs
end_stays xs i within other = rw (take_more xs i 0 within) (end_other (take i xs) (get_or xs i 0) other)

-- The registers of functions that begin and that go on, as lists and as maps.
use Rattle.std.proofs.Common.{◌≡◌, ℕ, zero, suc, ◌≤◌, length, nat_le, List, [], ◌∷◌, get_or, Option, Some, None, refl, inl, inr, ap, ◌∙◌, arith}
use Rattle.std.specs.Prelude.{ℤ, ◌&&◌}
use Rattle.std.proofs.lemmas.Bool.{cases_Bool, and_parts, leb-true}
use Rattle.std.proofs.lemmas.List.{get_or_past}
use Rattle.std.proofs.Math.Path.{fun_ext}
use Rattle.bpf_model.specs.State.{Partial, Saved, with_value, without_values, only}
use Rattle.bpf_model.specs.Step.{Goes}
use Rattle.bpf_machine.specs.declared.callers.Kept.{Kept}
use Rattle.bpf_machine.specs.Seen.{values_of, saved_of}

passed_at : (xs : List (Option ℕ)) (top r : ℕ) → values_of (None ∷ get_or xs 1 None ∷ get_or xs 2 None ∷ get_or xs 3 None ∷ get_or xs 4 None ∷ get_or xs 5 None ∷ None ∷ None ∷ None ∷ None ∷ Some top ∷ []) r ≡ with_value (only (values_of xs) 1 5) 10 top r
passed_at xs top zero = refl
passed_at xs top (suc zero) = refl
passed_at xs top (suc (suc zero)) = refl
passed_at xs top (suc (suc (suc zero))) = refl
passed_at xs top (suc (suc (suc (suc zero)))) = refl
passed_at xs top (suc (suc (suc (suc (suc zero))))) = refl
passed_at xs top (suc (suc (suc (suc (suc (suc zero)))))) = refl
passed_at xs top (suc (suc (suc (suc (suc (suc (suc zero))))))) = refl
passed_at xs top (suc (suc (suc (suc (suc (suc (suc (suc zero)))))))) = refl
passed_at xs top (suc (suc (suc (suc (suc (suc (suc (suc (suc zero))))))))) = refl
passed_at xs top (suc (suc (suc (suc (suc (suc (suc (suc (suc (suc zero)))))))))) = refl
passed_at xs top (suc (suc (suc (suc (suc (suc (suc (suc (suc (suc (suc r))))))))))) = grind arith

pub passed_held : (xs : List (Option ℕ)) (top : ℕ) → values_of (None ∷ get_or xs 1 None ∷ get_or xs 2 None ∷ get_or xs 3 None ∷ get_or xs 4 None ∷ get_or xs 5 None ∷ None ∷ None ∷ None ∷ None ∷ Some top ∷ []) ≡ with_value (only (values_of xs) 1 5) 10 top
passed_held xs top = fun_ext (λ r. passed_at xs top r)

returned_at : (kept : Kept) (value top r : ℕ) → values_of (Some value ∷ None ∷ None ∷ None ∷ None ∷ None ∷ get_or kept.registers 0 None ∷ get_or kept.registers 1 None ∷ get_or kept.registers 2 None ∷ get_or kept.registers 3 None ∷ Some top ∷ []) r ≡ with_value (with_value (saved_of kept).registers 0 value) 10 top r
returned_at kept value top zero = refl
returned_at kept value top (suc zero) = refl
returned_at kept value top (suc (suc zero)) = refl
returned_at kept value top (suc (suc (suc zero))) = refl
returned_at kept value top (suc (suc (suc (suc zero)))) = refl
returned_at kept value top (suc (suc (suc (suc (suc zero))))) = refl
returned_at kept value top (suc (suc (suc (suc (suc (suc zero)))))) = refl
returned_at kept value top (suc (suc (suc (suc (suc (suc (suc zero))))))) = refl
returned_at kept value top (suc (suc (suc (suc (suc (suc (suc (suc zero)))))))) = refl
returned_at kept value top (suc (suc (suc (suc (suc (suc (suc (suc (suc zero))))))))) = refl
returned_at kept value top (suc (suc (suc (suc (suc (suc (suc (suc (suc (suc zero)))))))))) = refl
returned_at kept value top (suc (suc (suc (suc (suc (suc (suc (suc (suc (suc (suc r))))))))))) = grind arith

pub returned_held : (kept : Kept) (value top : ℕ) → values_of (Some value ∷ None ∷ None ∷ None ∷ None ∷ None ∷ get_or kept.registers 0 None ∷ get_or kept.registers 1 None ∷ get_or kept.registers 2 None ∷ get_or kept.registers 3 None ∷ Some top ∷ []) ≡ with_value (with_value (saved_of kept).registers 0 value) 10 top
returned_held kept value top = fun_ext (λ r. returned_at kept value top r)

kept_at : (xs : List (Option ℕ)) (pc : ℤ) (r : ℕ) → (saved_of (record { registers = get_or xs 6 None ∷ get_or xs 7 None ∷ get_or xs 8 None ∷ get_or xs 9 None ∷ []; return_pc = pc })).registers r ≡ only (values_of xs) 6 9 r
kept_at xs pc zero = refl
kept_at xs pc (suc zero) = refl
kept_at xs pc (suc (suc zero)) = refl
kept_at xs pc (suc (suc (suc zero))) = refl
kept_at xs pc (suc (suc (suc (suc zero)))) = refl
kept_at xs pc (suc (suc (suc (suc (suc zero))))) = refl
kept_at xs pc (suc (suc (suc (suc (suc (suc zero)))))) = refl
kept_at xs pc (suc (suc (suc (suc (suc (suc (suc zero))))))) = refl
kept_at xs pc (suc (suc (suc (suc (suc (suc (suc (suc zero)))))))) = refl
kept_at xs pc (suc (suc (suc (suc (suc (suc (suc (suc (suc zero))))))))) = refl
kept_at xs pc (suc (suc (suc (suc (suc (suc (suc (suc (suc (suc r)))))))))) =
    elim (cases_Bool (nat_le 6 (suc (suc (suc (suc (suc (suc (suc (suc (suc (suc r)))))))))) && nat_le (suc (suc (suc (suc (suc (suc (suc (suc (suc (suc r)))))))))) 9)) [
      | inl is ↦ absurd (let low = leb-true (suc (suc (suc (suc (suc (suc (suc (suc (suc (suc r)))))))))) 9 ((and_parts (nat_le 6 (suc (suc (suc (suc (suc (suc (suc (suc (suc (suc r))))))))))) (nat_le (suc (suc (suc (suc (suc (suc (suc (suc (suc (suc r)))))))))) 9) is).1) in omega (arith, low))
      | inr not_is ↦ rw not_is refl
    ]

answered_at : (xs : List (Option ℕ)) (value r : ℕ) → length xs ≤ 11 → values_of (Some value ∷ None ∷ None ∷ None ∷ None ∷ None ∷ get_or xs 6 None ∷ get_or xs 7 None ∷ get_or xs 8 None ∷ get_or xs 9 None ∷ get_or xs 10 None ∷ []) r ≡ with_value (without_values (values_of xs) 1 5) 0 value r
answered_at xs value zero few = refl
answered_at xs value (suc zero) few = refl
answered_at xs value (suc (suc zero)) few = refl
answered_at xs value (suc (suc (suc zero))) few = refl
answered_at xs value (suc (suc (suc (suc zero)))) few = refl
answered_at xs value (suc (suc (suc (suc (suc zero))))) few = refl
answered_at xs value (suc (suc (suc (suc (suc (suc zero)))))) few = refl
answered_at xs value (suc (suc (suc (suc (suc (suc (suc zero))))))) few = refl
answered_at xs value (suc (suc (suc (suc (suc (suc (suc (suc zero)))))))) few = refl
answered_at xs value (suc (suc (suc (suc (suc (suc (suc (suc (suc zero))))))))) few = refl
answered_at xs value (suc (suc (suc (suc (suc (suc (suc (suc (suc (suc zero)))))))))) few = refl
answered_at xs value (suc (suc (suc (suc (suc (suc (suc (suc (suc (suc (suc r))))))))))) few =
    let none : get_or xs (suc (suc (suc (suc (suc (suc (suc (suc (suc (suc (suc r))))))))))) None ≡ None = get_or_past xs (suc (suc (suc (suc (suc (suc (suc (suc (suc (suc (suc r))))))))))) None (omega (arith, few)) in
    grind (arith, none)

pub answered_held : (xs : List (Option ℕ)) (value : ℕ) → length xs ≤ 11 → values_of (Some value ∷ None ∷ None ∷ None ∷ None ∷ None ∷ get_or xs 6 None ∷ get_or xs 7 None ∷ get_or xs 8 None ∷ get_or xs 9 None ∷ get_or xs 10 None ∷ []) ≡ with_value (without_values (values_of xs) 1 5) 0 value
answered_held xs value few = fun_ext (λ r. answered_at xs value r few)

abbrev saved_record : Partial → ℤ → Saved
saved_record registers pc = record { registers = registers; return_pc = pc }

pub kept_saved : (xs : List (Option ℕ)) (pc back : ℤ) → pc ≡ back → saved_of (record { registers = get_or xs 6 None ∷ get_or xs 7 None ∷ get_or xs 8 None ∷ get_or xs 9 None ∷ []; return_pc = pc }) ≡ saved_record (only (values_of xs) 6 9) back
kept_saved xs pc back same =
    ap (λ (f : Partial). saved_record f pc) (fun_ext (λ r. kept_at xs pc r)) ∙ ap (λ (z : ℤ). saved_record (only (values_of xs) 6 9) z) same

-- states are the same by their parts
pub goes_same : {pc at : ℤ} {registers others memory other_memory : Partial} {callers other_callers : List Saved} → pc ≡ at → registers ≡ others → memory ≡ other_memory → callers ≡ other_callers
    → Goes (record { pc = pc; registers = registers; memory = memory; callers = callers }) ≡ Goes (record { pc = at; registers = others; memory = other_memory; callers = other_callers })
goes_same a b c d = rw (a, b, c, d) refl

-- A memory with a table in it, when bytes are written beside the table.
use Rattle.std.proofs.Common.{◌≡◌, ℕ, ◌+◌, ◌≤◌, List, [], ◌∷◌, None, true, false, refl, ap, ◌∙◌, sym, arith, inl, inr}
use Rattle.std.specs.Prelude.{◌==◌, ◌&&◌, nat_le, nat_lt}
use Rattle.std.proofs.Math.Path.{fun_ext}
use Rattle.std.proofs.lemmas.Bool.{cases_Bool, cond-false}
use Rattle.std.proofs.lemmas.Bool.Decides.{nat_tests}
use Rattle.bpf_model.specs.State.{Partial, with_value, with_values, without_values, with_table, table_memory, table_base}

byte_written : (table : List ℕ) (m : Partial) (a b : ℕ) → with_value (with_table table m) a b ≡ with_table table (with_value m a b)
byte_written table m a b =
    fun_ext (λ x. elim (cases_Bool (x == a)) [ inl here ↦ rw here refl | inr other ↦ rw other refl ])

pub table_written : (table : List ℕ) (m : Partial) (a : ℕ) (bytes : List ℕ) → with_values (with_table table m) a bytes ≡ with_table table (with_values m a bytes)
table_written table m a [] = refl
table_written table m a (b ∷ bs) =
    ap (λ (n : Partial). with_values n (a + 1) bs) (byte_written table m a b) ∙ table_written table (with_value m a b) (a + 1) bs

none_below : (table : List ℕ) (a : ℕ) → nat_lt a table_base ≡ true → table_memory table a ≡ None
none_below table a below = let test : nat_le table_base a ≡ false = grind (arith, nat_tests) in cond-false _ _ _ test

-- bytes below the table are unset
pub table_beside : (table : List ℕ) (m : Partial) (from count : ℕ) → from + count ≤ table_base → without_values (with_table table m) from count ≡ with_table table (without_values m from count)
table_beside table m from count below =
    fun_ext (λ a. elim (cases_Bool (nat_le from a && nat_lt a (from + count))) [
      | inl unset ↦
          let low : nat_lt a table_base ≡ true = grind (arith, nat_tests) in
          rw unset (sym (none_below table a low))
      | inr other ↦ rw other refl
    ])

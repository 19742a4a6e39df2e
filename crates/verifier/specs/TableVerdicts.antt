-- Worked programs that carry a table of the bytes 10, 0, 0, 0, with records of 16 bytes, and the verdict on each. They
-- follow from the definitions by computing. And what the rules know of a program without a table.
use Rattle.std.specs.Prelude.{◌≡◌, ℕ, List, [], ◌∷◌, ◌++◌, pos, replicate, Some, None}
use Rattle.bpf_image.specs.Program.{Program, lengths_of, record_alone}
use Rattle.bpf_model.specs.CallRows.{code_unit, exit}
use Rattle.bpf_model.specs.HelperRows.{set_register, call_number}
use Rattle.bpf_model.specs.declared.cause.Cause.TheVariants.{UnsetRegister, OutOfRange, ReadOnly}
use Rattle.abstract_values.specs.declared.value.AbstractValue.TheVariants.{Unset, Number, Record, Stack}
use Rattle.abstract_state.specs.States.{AbstractState, most_callers, new_frame, nothing_kept, entry_state}
use Rattle.verifier.specs.Verdict.{Verdict, verdict, Accepted}
use Rattle.verifier.specs.VerdictRows.{of_code, refusal_at}

-- the verdict on code with that table
abbrev pub with_ten : List ℕ → Verdict
with_ten code = verdict (record { code = code; record_length = 16; table = 10 ∷ 0 ∷ 0 ∷ 0 ∷ [] })

-- ldxw r0, [r3+offset]; exit
abbrev pub read_at : ℕ → List ℕ
read_at offset = code_unit 0x61 0x30 offset 0 ++ exit

-- gather of so many bytes into the table: mov r4, room; mov r1, 0; mov r2, 0; call 5; exit
abbrev pub gather_to_table : ℕ → List ℕ
gather_to_table room = set_register 4 room ++ set_register 1 0 ++ set_register 2 0 ++ call_number 5 ++ exit

abbrev pub WorkedTableVerdicts : Type 0
WorkedTableVerdicts =
    (with_ten (read_at 0) ≡ Accepted 2 1)
    × (with_ten (read_at 1) ≡ refusal_at OutOfRange 0)
    × (of_code (read_at 0) ≡ refusal_at UnsetRegister 0)
    × (with_ten (code_unit 0x62 3 0 0 ++ exit) ≡ refusal_at ReadOnly 0)
    × (with_ten (gather_to_table 4) ≡ refusal_at ReadOnly 3)
    × (with_ten (gather_to_table 8) ≡ refusal_at OutOfRange 3)

-- what is known at entry of a record alone
abbrev pub entry_of_record : ℕ → AbstractState
entry_of_record n =
    record { registers = Unset ∷ Record 0 0 ∷ Number n n ∷ Unset ∷ Unset ∷ Unset ∷ Unset ∷ Unset ∷ Unset ∷ Unset ∷ Stack 0 (pos 0) ∷ []; frames = Some new_frame ∷ replicate most_callers None; kept = replicate most_callers nothing_kept }

-- the rules know of a program without a table its record alone
abbrev pub KnowsRecordAlone : Type 0
KnowsRecordAlone =
    (p : Program) → p.table ≡ []
    → (lengths_of p ≡ record_alone p.record_length) × (entry_state (lengths_of p) ≡ entry_of_record p.record_length)

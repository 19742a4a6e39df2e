-- Worked programs that call helpers, with records of 16 bytes, and the verdict on each. They follow from the
-- definitions by computing.
use Rattle.std.specs.Prelude.{◌≡◌, ℕ, List, [], ◌∷◌, ◌++◌}
use Rattle.bpf_model.specs.CallRows.{code_unit, exit}
use Rattle.bpf_model.specs.HelperRows.{set_register, call_number, degree_of_0, question_of_0_and_2, argument_behind_helper, gather_to_stack}
use Rattle.bpf_model.specs.declared.cause.Cause.TheVariants.{UnsetRegister, OutOfRange, HelperArgument, UnknownHelper}
use Rattle.verifier.specs.Verdict.{Accepted}
use Rattle.verifier.specs.VerdictRows.{of_code, refusal_at}

-- gather of so many bytes to a place in the record: mov r3, r1; add r3, place; mov r4, room; mov r1, 0; mov r2, 0;
-- call 5; exit
abbrev pub gather_to_record : ℕ → ℕ → List ℕ
gather_to_record place room =
    code_unit 0xbf 0x13 0 0 ++ code_unit 0x07 3 0 place ++ set_register 4 room ++ set_register 1 0 ++ set_register 2 0
    ++ call_number 5 ++ exit

-- gather's room is 4 or 8, and each would do: ldxb r4, [r1+0]; and r4, 4; add r4, 4; mov r3, r10; add r3, -8;
-- mov r1, 0; mov r2, 0; call 5; exit
abbrev pub room_not_constant : List ℕ
room_not_constant =
    code_unit 0x71 0x14 0 0 ++ code_unit 0x57 4 0 4 ++ code_unit 0x07 4 0 4 ++ code_unit 0xbf 0xa3 0 0
    ++ (0x07 ∷ 3 ∷ 0 ∷ 0 ∷ 0xf8 ∷ 0xff ∷ 0xff ∷ 0xff ∷ []) ++ set_register 1 0 ++ set_register 2 0 ++ call_number 5 ++ exit

abbrev pub WorkedHelperVerdicts : Type 0
WorkedHelperVerdicts =
    (of_code degree_of_0 ≡ Accepted 3 1)
    × (of_code (question_of_0_and_2 2) ≡ Accepted 4 1)
    × (of_code (question_of_0_and_2 3) ≡ Accepted 4 1)
    × (of_code (call_number 4 ++ exit) ≡ Accepted 2 1)
    × (of_code (call_number 6 ++ exit) ≡ refusal_at UnknownHelper 0)
    × (of_code (call_number 1 ++ exit) ≡ refusal_at HelperArgument 0)
    × (of_code (call_number 5 ++ exit) ≡ refusal_at UnsetRegister 0)
    × (of_code argument_behind_helper ≡ refusal_at UnsetRegister 2)
    × (of_code (gather_to_stack 16) ≡ Accepted 8 1)
    × (of_code (gather_to_stack 18) ≡ refusal_at HelperArgument 5)
    × (of_code (gather_to_stack 20) ≡ refusal_at OutOfRange 5)
    × (of_code (gather_to_record 4 12) ≡ Accepted 7 1)
    × (of_code (gather_to_record 8 12) ≡ refusal_at OutOfRange 5)
    × (of_code room_not_constant ≡ refusal_at HelperArgument 7)

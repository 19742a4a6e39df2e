-- Worked programs of several functions, with records of 16 bytes, and the verdict on each. They follow from
-- the definitions by computing.
use Rattle.std.specs.Prelude.{◌≡◌, ℕ, List, [], ◌∷◌, ◌++◌}
use Rattle.bpf_image.specs.Program.{without_table}
use Rattle.bpf_model.specs.CallRows.{code_unit, exit, call_over, set_r0, kept_register, nine_deep}
use Rattle.bpf_model.specs.declared.cause.Cause.{Cause}
use Rattle.bpf_model.specs.declared.cause.Cause.TheVariants.{JumpOut, CallTarget, FallsOff, TooDeep, ResultNotNumber}
use Rattle.verifier.specs.Verdict.{Verdict, Accepted, Refused, verdict}

-- calllocal f; calllocal f; exit; f: mov r0, 7; exit
abbrev pub called_twice : List ℕ
called_twice = call_over 2 ++ call_over 1 ++ exit ++ set_r0 7 ++ exit

-- calllocal f; exit; f: mov r0, 0
abbrev pub falls_off : List ℕ
falls_off = call_over 1 ++ exit ++ set_r0 0

-- f: calllocal f; exit
abbrev pub calls_itself : List ℕ
calls_itself = (0x85 ∷ 0x10 ∷ 0 ∷ 0 ∷ 255 ∷ 255 ∷ 255 ∷ 255 ∷ []) ++ exit

-- calllocal f; ja over; f: mov r0, 7; over: exit
abbrev pub jumps_over_an_entry : List ℕ
jumps_over_an_entry = call_over 1 ++ code_unit 0x05 0 1 0 ++ set_r0 7 ++ exit

-- calllocal f; mov r0, 7; f: mov r0, 7; exit
abbrev pub falls_into_an_entry : List ℕ
falls_into_an_entry = call_over 1 ++ set_r0 7 ++ set_r0 7 ++ exit

-- mov r1, r10; calllocal f; exit; f: mov r0, r1; exit
abbrev pub stack_is_lent : List ℕ
stack_is_lent = code_unit 0xbf 0xa1 0 0 ++ call_over 1 ++ exit ++ code_unit 0xbf 0x10 0 0 ++ exit

abbrev pub of_code : List ℕ → Verdict
of_code code = verdict (without_table code 16)

abbrev pub refusal_at : Cause → ℕ → Verdict
refusal_at cause pc = Refused (record { cause = cause; pc = pc })

abbrev pub WorkedVerdicts : Type 0
WorkedVerdicts =
    (of_code kept_register ≡ Accepted 7 2)
    × (of_code called_twice ≡ Accepted 7 2)
    × (of_code falls_off ≡ refusal_at FallsOff 2)
    × (of_code calls_itself ≡ refusal_at CallTarget 0)
    × (of_code jumps_over_an_entry ≡ refusal_at JumpOut 1)
    × (of_code falls_into_an_entry ≡ refusal_at FallsOff 1)
    × (of_code nine_deep ≡ refusal_at TooDeep 0)
    × (of_code stack_is_lent ≡ refusal_at ResultNotNumber 4)

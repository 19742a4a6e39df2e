-- Worked programs that lend stack bytes to the functions that they call, with records of 16 bytes, and the verdict on
-- each. They follow from the definitions by computing.
use Rattle.std.specs.Prelude.{◌≡◌, ℕ, ◌+◌, ◌-◌, List, [], ◌∷◌, ◌++◌}
use Rattle.bpf_model.specs.CallRows.{code_unit, exit, call_over, set_r0}
use Rattle.bpf_model.specs.HelperRows.{set_register, call_number}
use Rattle.bpf_model.specs.declared.cause.Cause.TheVariants.{UnsetRegister, PointerUse, UnsetStackByte}
use Rattle.verifier.specs.Verdict.{Accepted}
use Rattle.verifier.specs.VerdictRows.{of_code, refusal_at}

-- a unit whose offset is so far below 0
abbrev pub unit_below : ℕ → ℕ → ℕ → ℕ → List ℕ
unit_below opcode registers distance immediate =
    opcode ∷ registers ∷ (256 - distance) ∷ 255 ∷ immediate ∷ 0 ∷ 0 ∷ 0 ∷ []

-- mov rN, r10; add rN, -distance
abbrev pub lend : ℕ → ℕ → List ℕ
lend register distance =
    code_unit 0xbf (0xa0 + register) 0 0 ++ (0x07 ∷ register ∷ 0 ∷ 0 ∷ (256 - distance) ∷ 255 ∷ 255 ∷ 255 ∷ [])

-- mov r1, r10; add r1, -8; calllocal f; ldxdw r0, [r10-8]; exit; f: stdw [r1+0], 9; mov r0, 0; exit
abbrev pub callee_sets_a_slot : List ℕ
callee_sets_a_slot =
    lend 1 8 ++ call_over 2 ++ unit_below 0x79 0xa0 8 0 ++ exit ++ code_unit 0x7a 1 0 9 ++ set_r0 0 ++ exit

-- mov r1, r10; add r1, -8; calllocal f; exit; f: ldxb r0, [r1+0]; exit
abbrev pub callee_reads_an_unset_byte : List ℕ
callee_reads_an_unset_byte = lend 1 8 ++ call_over 1 ++ exit ++ code_unit 0x71 0x10 0 0 ++ exit

-- the function is called with the record, then with the stack:
-- calllocal f; mov r1, r10; add r1, -1; calllocal f; ldxb r0, [r10-1]; exit; f: stb [r1+0], 1; mov r0, 0; exit
abbrev pub one_store_to_both : List ℕ
one_store_to_both =
    call_over 5 ++ lend 1 1 ++ call_over 2 ++ unit_below 0x71 0xa0 1 0 ++ exit ++ code_unit 0x72 1 0 1 ++ set_r0 0 ++ exit

-- mov r1, r10; add r1, -8; calllocal f; ldxdw r1, [r10-8]; ldxb r0, [r1+0]; exit; f: stxdw [r1+0], r10; mov r0, 0; exit
abbrev pub pointer_outlives_its_frame : List ℕ
pointer_outlives_its_frame =
    lend 1 8 ++ call_over 3 ++ unit_below 0x79 0xa1 8 0 ++ code_unit 0x71 0x10 0 0 ++ exit ++ code_unit 0x7b 0xa1 0 0
    ++ set_r0 0 ++ exit

-- mov r1, r10; add r1, -8; calllocal f; ldxdw r0, [r10-8]; exit; f: calllocal g; exit; g: and then one unit;
-- mov r0, 0; exit
abbrev pub callee_of_a_callee : List ℕ → List ℕ
callee_of_a_callee stores =
    lend 1 8 ++ call_over 2 ++ unit_below 0x79 0xa0 8 0 ++ exit ++ call_over 1 ++ exit ++ stores ++ set_r0 0 ++ exit

-- one offset of two frames:
-- mov r2, r10; ldxb r3, [r1+0]; calllocal f; exit; f: jeq r3, 0, a; mov r2, r10; a: stdw [r2-8], 1; mov r0, 0; exit
abbrev pub frames_joined : List ℕ
frames_joined =
    code_unit 0xbf 0xa2 0 0 ++ code_unit 0x71 0x13 0 0 ++ call_over 1 ++ exit ++ code_unit 0x15 3 1 0 ++ code_unit 0xbf 0xa2 0 0
    ++ unit_below 0x7a 2 8 1 ++ set_r0 0 ++ exit

-- mov r3, r10; add r3, -8; calllocal f; ldxw r0, [r10-8]; exit; f: mov r4, 4; mov r1, 0; mov r2, 0; call 5; exit
abbrev pub callee_gathers : List ℕ
callee_gathers =
    lend 3 8 ++ call_over 2 ++ unit_below 0x61 0xa0 8 0 ++ exit ++ set_register 4 4 ++ set_register 1 0 ++ set_register 2 0
    ++ call_number 5 ++ exit

-- the second call is refused where it reads, before the load after it, which is at a lower pc:
-- mov r1, r10; add r1, -1; stb [r1+0], 1; calllocal f; mov r1, r10; add r1, -2; calllocal f; ldxb r0, [r10-9]; exit;
-- f: ldxb r0, [r1+0]; exit
abbrev pub second_call_reads_an_unset_byte : List ℕ
second_call_reads_an_unset_byte =
    lend 1 1 ++ code_unit 0x72 1 0 1 ++ call_over 5 ++ lend 1 2 ++ call_over 2 ++ unit_below 0x71 0xa0 9 0 ++ exit
    ++ code_unit 0x71 0x10 0 0 ++ exit

abbrev pub WorkedLentVerdicts : Type 0
WorkedLentVerdicts =
    (of_code callee_sets_a_slot ≡ Accepted 8 2)
    × (of_code callee_reads_an_unset_byte ≡ refusal_at UnsetStackByte 4)
    × (of_code one_store_to_both ≡ Accepted 12 2)
    × (of_code pointer_outlives_its_frame ≡ refusal_at PointerUse 4)
    -- stdw [r1+0], 9
    × (of_code (callee_of_a_callee (code_unit 0x7a 1 0 9)) ≡ Accepted 10 3)
    -- stxdw [r1+0], r10: what is left of the pointer is a number
    × (of_code (callee_of_a_callee (code_unit 0x7b 0xa1 0 0)) ≡ Accepted 10 3)
    × (of_code frames_joined ≡ refusal_at UnsetRegister 6)
    × (of_code callee_gathers ≡ Accepted 10 2)
    × (of_code second_call_reads_an_unset_byte ≡ refusal_at UnsetStackByte 9)

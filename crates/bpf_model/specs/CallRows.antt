-- Worked programs of several functions, on any record of 16 bytes and any graph: what comes of each after
-- so many steps. Each follows from the definitions by computing. A code is written instruction by
-- instruction, as bytes.
use Rattle.std.specs.Prelude.{◌≡◌, ℕ, ◌*◌, pos, List, [], ◌∷◌, ◌++◌}
use Rattle.bpf_image.specs.Program.{without_table}
use Rattle.graph_model.specs.Graph.{Graph}
use Rattle.bpf_model.specs.declared.trap.TrapKind.TheVariants.{UnsetRegister, UnsetByte, NinthFrame, UnsetResult}
use Rattle.bpf_model.specs.State.{start}
use Rattle.bpf_model.specs.Step.{Next, Exits, Traps}
use Rattle.bpf_model.specs.Run.{after}

-- a unit whose two registers are written in one byte, with an offset and an immediate below 256
abbrev pub code_unit : ℕ → ℕ → ℕ → ℕ → List ℕ
code_unit opcode registers offset immediate =
    opcode ∷ registers ∷ offset ∷ 0 ∷ immediate ∷ 0 ∷ 0 ∷ 0 ∷ []

abbrev pub exit : List ℕ
exit = code_unit 0x95 0 0 0

-- a call of the function so many units after the next instruction
abbrev pub call_over : ℕ → List ℕ
call_over distance = code_unit 0x85 0x10 0 distance

abbrev pub set_r0 : ℕ → List ℕ
set_r0 n = code_unit 0xb7 0 0 n

-- the byte below R10 is set, or read to R0
abbrev pub set_byte : ℕ → List ℕ
set_byte n = (0x72 ∷ 10 ∷ 255 ∷ 255 ∷ n ∷ 0 ∷ 0 ∷ 0 ∷ [])

abbrev pub read_byte_below : ℕ → List ℕ
read_byte_below register = (0x71 ∷ 16 * register ∷ 255 ∷ 255 ∷ 0 ∷ 0 ∷ 0 ∷ 0 ∷ [])

-- the caller has R6 as it was: mov r6, 5; calllocal f; mov r0, r6; exit; f: mov r6, 1; mov r0, 0; exit
abbrev pub kept_register : List ℕ
kept_register =
    code_unit 0xb7 6 0 5 ++ call_over 2 ++ code_unit 0xbf 0x60 0 0 ++ exit
    ++ code_unit 0xb7 6 0 1 ++ set_r0 0 ++ exit

-- nine functions, each of which calls the next
abbrev pub calls_next : List ℕ
calls_next = call_over 1 ++ exit

abbrev pub nine_deep : List ℕ
nine_deep =
    calls_next ++ calls_next ++ calls_next ++ calls_next ++ calls_next ++ calls_next ++ calls_next ++ calls_next
    ++ set_r0 0 ++ exit

-- calllocal f; calllocal g; exit; f: stb [r10-1], 1; mov r0, 0; exit; g: ldxb r0, [r10-1]; exit
abbrev pub reopened_frame : List ℕ
reopened_frame =
    call_over 2 ++ call_over 4 ++ exit ++ set_byte 1 ++ set_r0 0 ++ exit ++ read_byte_below 10 ++ exit

-- stb [r10-1], 7; mov r1, r10; calllocal f; exit; f: ldxb r0, [r1-1]; exit
abbrev pub lent_frame : List ℕ
lent_frame = set_byte 7 ++ code_unit 0xbf 0xa1 0 0 ++ call_over 1 ++ exit ++ read_byte_below 1 ++ exit

-- calllocal f; mov r0, r1; exit; f: mov r0, 0; exit
abbrev pub argument_behind_call : List ℕ
argument_behind_call = call_over 2 ++ code_unit 0xbf 0x10 0 0 ++ exit ++ set_r0 0 ++ exit

-- mov r0, 1; calllocal f; exit; f: exit
abbrev pub result_unset : List ℕ
result_unset = set_r0 1 ++ call_over 1 ++ exit ++ exit

abbrev pub Leads : Graph → List ℕ → List ℕ → ℕ → Next → Type 0
Leads g bytes code steps next = after (without_table code 16) g steps (start (without_table code 16) bytes) ≡ next

abbrev pub WorkedCalls : Type 0
WorkedCalls =
    (g : Graph) (bytes : List ℕ)
    → Leads g bytes kept_register 7 (Exits 5)
    × Leads g bytes nine_deep 8 (Traps NinthFrame (pos 14))
    × Leads g bytes reopened_frame 6 (Traps UnsetByte (pos 6))
    × Leads g bytes lent_frame 6 (Exits 7)
    × Leads g bytes argument_behind_call 4 (Traps UnsetRegister (pos 1))
    × Leads g bytes result_unset 3 (Traps UnsetResult (pos 3))

-- Worked programs that ask the graph: what comes of each after so many steps, on small graphs that are given
-- by their edges. Each follows from the definitions by computing. Codes are instruction by instruction, as
-- bytes.
use Rattle.std.specs.Prelude.{ℕ, ◌==◌, nat_lt, ◌&&◌, pos, List, [], ◌∷◌, ◌++◌}
use Rattle.graph_model.specs.Graph.{Graph}
use Rattle.bpf_model.specs.declared.trap.TrapKind.TheVariants.{UnsetRegister, UnknownHelper, RoomNotAllowed}
use Rattle.bpf_model.specs.Next.{Exits, Traps}
use Rattle.bpf_model.specs.CallRows.{code_unit, exit, Leads}

-- four vertices with the edges 0-1, 0-2 and 1-2
abbrev pub triangle : Graph
triangle = record { vertex_count = 4; has_edge = λ u v. nat_lt u v && nat_lt v 3 }

-- four vertices with the edges 0-1, 0-2 and 0-3
abbrev pub star : Graph
star = record { vertex_count = 4; has_edge = λ u v. (u == 0) && (nat_lt 0 v && nat_lt v 4) }

-- the record of the star's edge 0-1: its source, its target, the target's place and the source's degree
abbrev pub star_record : List ℕ
star_record = 0 ∷ 0 ∷ 0 ∷ 0 ∷ 1 ∷ 0 ∷ 0 ∷ 0 ∷ 0 ∷ 0 ∷ 0 ∷ 0 ∷ 3 ∷ 0 ∷ 0 ∷ 0 ∷ []

-- mov rN, n
abbrev pub set_register : ℕ → ℕ → List ℕ
set_register register n = code_unit 0xb7 register 0 n

abbrev pub call_number : ℕ → List ℕ
call_number helper = code_unit 0x85 0 0 helper

-- mov r1, 0; call 1; exit
abbrev pub degree_of_0 : List ℕ
degree_of_0 = set_register 1 0 ++ call_number 1 ++ exit

-- mov r1, 0; mov r2, 2; call the helper; exit
abbrev pub question_of_0_and_2 : ℕ → List ℕ
question_of_0_and_2 helper = set_register 1 0 ++ set_register 2 2 ++ call_number helper ++ exit

-- mov r1, 0; call 1; mov r0, r1; exit
abbrev pub argument_behind_helper : List ℕ
argument_behind_helper = set_register 1 0 ++ call_number 1 ++ code_unit 0xbf 0x10 0 0 ++ exit

-- the neighbours of the record's source from place 1 on, written to so many bytes from 16 below R10 on, of
-- which the third word is the result: ldxw r1, [r1+0]; mov r2, 1; mov r3, r10; add r3, -16;
-- mov r4, room; call 5; ldxw r0, [r10-8]; exit
abbrev pub gather_to_stack : ℕ → List ℕ
gather_to_stack room =
    code_unit 0x61 0x11 0 0 ++ set_register 2 1 ++ code_unit 0xbf 0xa3 0 0 ++ (0x07 ∷ 3 ∷ 0 ∷ 0 ∷ 0xf0 ∷ 0xff ∷ 0xff ∷ 0xff ∷ [])
    ++ set_register 4 room ++ call_number 5 ++ (0x61 ∷ 0xa0 ∷ 0xf8 ∷ 0xff ∷ 0 ∷ 0 ∷ 0 ∷ 0 ∷ []) ++ exit

abbrev pub WorkedHelpers : Type 0
WorkedHelpers =
    (bytes : List ℕ)
    → Leads triangle bytes degree_of_0 3 (Exits 2)
    × Leads triangle bytes (question_of_0_and_2 2) 4 (Exits 1)
    × Leads triangle bytes (question_of_0_and_2 3) 4 (Exits 18446744073709551615)
    × Leads triangle bytes (call_number 4 ++ exit) 2 (Exits 4)
    × Leads triangle bytes (call_number 6 ++ exit) 1 (Traps UnknownHelper (pos 0))
    × Leads triangle bytes argument_behind_helper 3 (Traps UnsetRegister (pos 2))
    × Leads star star_record (gather_to_stack 16) 8 (Exits 4294967295)
    × Leads star star_record (gather_to_stack 18) 6 (Traps RoomNotAllowed (pos 5))

-- What the two directions make of each other's results.
use Rattle.std.specs.Prelude.{ℕ, ◌+◌, ◌*◌, ◌≡◌, ◌≤◌, true, List, [], ◌∷◌, length, Ok, ⊤}
use Rattle.std.specs.List.{AllByRecursion}
use Rattle.bpf_isa.specs.declared.limits.TheConstants.{MOST_CODE_BYTES}
use Rattle.bpf_isa.specs.Encoding.{IsCodeAt, units_of}
use Rattle.bpf_asm.specs.declared.writing.placed.Placed.{Placed}
use Rattle.bpf_asm.specs.declared.writing.placed.Target.{Target}
use Rattle.bpf_asm.specs.declared.writing.placed.Target.TheVariants.{Nowhere, Before, At}
use Rattle.bpf_asm.specs.Assembly.{assembly}
use Rattle.bpf_asm.specs.Listing.{disassembly, is_start, target}

-- these instructions stand one after another, from a pc to the end of the code
abbrev pub StandFrom : List ℕ → ℕ → List Placed → Type 0
StandFrom code pc [] = length code ≡ 8 * pc
StandFrom code pc (p ∷ placed) =
    (p.pc ≡ pc) × IsCodeAt code pc p.instruction (units_of p.instruction) × StandFrom code (pc + units_of p.instruction) placed

-- a target is the start of one of the instructions
abbrev pub LandsIn : List Placed → Target → Type 0
LandsIn placed Nowhere = ⊤
LandsIn placed Before = ⊥
LandsIn placed (At k) = is_start k placed ≡ true

-- the code is these instructions, in at most 4,096 units, and each jump and local call goes to the start of one of them
pub record IsProgram (code : List ℕ) (placed : List Placed) : Type 0 where
  pub short : length code ≤ MOST_CODE_BYTES
  pub stands : StandFrom code 0 placed
  pub lands : AllByRecursion (λ (p : Placed). LandsIn placed (target p)) placed

-- each program has a text, and that text means the program's code
abbrev pub ProgramHasText : List ℕ → Type 0
ProgramHasText code =
    (placed : List Placed) → IsProgram code placed → (text : List ℕ) × (disassembly code ≡ Ok text) × (assembly text ≡ Ok code)

-- whatever has a text is a program, and its text means that code
abbrev pub TextMeansCode : List ℕ → Type 0
TextMeansCode code =
    (text : List ℕ) → disassembly code ≡ Ok text → (assembly text ≡ Ok code) × ((placed : List Placed) × IsProgram code placed)

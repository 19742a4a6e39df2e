-- Where a run may go; how many instructions a walk counts, from a pc to its function's exit; how many frames are
-- live at once on it; and how many instructions are verified, each function's once for every call of it.
use Rattle.std.specs.Prelude.{◌≡◌, ℕ, zero, suc, ◌+◌, ◌-◌, ◌≤◌, nat_lt, if◌then◌else◌, max, ℤ, pos, unsigned_abs, List, [], ◌∷◌, ◌⊎◌, Bool, true, false, Option, Some, None}
use Rattle.bpf_isa.specs.declared.instruction.Instruction.{Instruction}
use Rattle.bpf_isa.specs.declared.instruction.Instruction.TheVariants.{Jump, Branch, CallLocal, Exit}
use Rattle.bpf_isa.specs.Encoding.{units_of}
use Rattle.bpf_model.specs.Step.{units_over}
use Rattle.bpf_image.specs.Program.{Program, units}
use Rattle.verifier.specs.Rules.{target}
use Rattle.verifier.specs.Listing.{instruction_at}
use Rattle.verifier.specs.Functions.{function_end}

-- where a function goes on after an instruction at a pc: nowhere from an exit
abbrev pub next_pcs : Instruction → ℕ → List ℤ
next_pcs Exit pc = []
next_pcs (Jump distance) pc = target pc (units_over distance) ∷ []
next_pcs (Branch width comparison left right distance) pc = target pc distance ∷ pos (pc + 1) ∷ []
next_pcs i pc = pos (pc + units_of i) ∷ []

-- where the function begins that an instruction at a pc calls
abbrev pub called_pcs : Instruction → ℕ → List ℤ
called_pcs (CallLocal distance) pc = target pc distance ∷ []
called_pcs _ pc = []

-- the next instruction of a function that ends at an end, whether a run goes on there or not
abbrev pub following_below : (end : ℕ) → Instruction → ℕ → List ℤ
following_below end i pc = if nat_lt (pc + units_of i) end then pos (pc + units_of i) ∷ [] else []

abbrev pub following : Program → Instruction → ℕ → List ℤ
following p i pc = following_below (function_end p pc) i pc

abbrev pub is_call : Instruction → Bool
is_call (CallLocal distance) = true
is_call _ = false

abbrev pub IsOneOf : ℤ → List ℤ → Type 0
IsOneOf z [] = ⊥
IsOneOf z (x ∷ xs) = (z ≡ x) ⊎ IsOneOf z xs

-- ---- walks, and the frames on them

-- a walk from a pc to its function's exit that counts m instructions; a call counts a walk of the function
-- and a walk of what comes after the call
pub data IsWalk (p : Program) : ℕ → ℕ → Type 0 where
  at_exit : {pc : ℕ} → instruction_at p pc ≡ Some Exit → IsWalk p pc 1
  onward : {pc q m : ℕ} → (i : Instruction) → instruction_at p pc ≡ Some i → is_call i ≡ false → IsOneOf (pos q) (next_pcs i pc) → IsWalk p q m → IsWalk p pc (1 + m)
  through : {pc entry m n : ℕ} → (distance : ℤ) → instruction_at p pc ≡ Some (CallLocal distance) → target pc distance ≡ pos entry
      → IsWalk p entry m → IsWalk p (pc + 1) n → IsWalk p pc (1 + (m + n))

-- a walk from a pc on which k frames are live at once, its function's own among them
pub data IsNest (p : Program) : ℕ → ℕ → Type 0 where
  ends : {pc : ℕ} → instruction_at p pc ≡ Some Exit → IsNest p pc 1
  past : {pc q k : ℕ} → (i : Instruction) → instruction_at p pc ≡ Some i → IsOneOf (pos q) (next_pcs i pc) → IsNest p q k → IsNest p pc k
  into : {pc entry k : ℕ} → (distance : ℤ) → instruction_at p pc ≡ Some (CallLocal distance) → target pc distance ≡ pos entry
      → IsNest p entry k → IsNest p pc (1 + k)

-- a greatest number of those that are such
pub record IsGreatestOf (IsSuch : ℕ → Type 0) (m : ℕ) : Type 0 where
  pub is_such : IsSuch m
  pub most : (n : ℕ) → IsSuch n → n ≤ m

-- no walk from a pc counts more than m, and one counts m
abbrev pub IsLongest : Program → ℕ → ℕ → Type 0
IsLongest p pc m = IsGreatestOf (IsWalk p pc) m

-- no walk from a pc has more than k frames, and one has k
abbrev pub IsDeepest : Program → ℕ → ℕ → Type 0
IsDeepest p pc k = IsGreatestOf (IsNest p pc) k

-- ---- all of these as numbers, by one recursion over the code

-- the greatest of the weights at some pcs, 0 of none
abbrev pub greatest : (ℕ → ℕ) → List ℤ → ℕ
greatest weight [] = 0
greatest weight (q ∷ qs) = max (weight (unsigned_abs q)) (greatest weight qs)

-- which pcs come after an instruction at a pc
abbrev pub Successors : Type 0
Successors = Instruction → ℕ → List ℤ

-- the weight of an instruction at a pc, by the greatest of what it calls and of what comes after it
abbrev pub weight_by : (ℕ → ℕ → ℕ) → Successors → (ℕ → ℕ) → Option Instruction → ℕ → ℕ
weight_by rule after weight None pc = 0
weight_by rule after weight (Some i) pc = rule (greatest weight (called_pcs i pc)) (greatest weight (after i pc))

-- the greatest weight from a pc on, over at most n instructions in a row
unfoldable pub weight_over : (ℕ → ℕ → ℕ) → Successors → Program → ℕ → ℕ → ℕ
weight_over rule after p zero pc = 0
weight_over rule after p (suc n) pc = weight_by rule after (weight_over rule after p n) (instruction_at p pc) pc

-- all units after a pc are enough
unfoldable pub weight_from : (ℕ → ℕ → ℕ) → Successors → Program → ℕ → ℕ
weight_from rule after p pc = weight_over rule after p (units p - pc) pc

-- an instruction counts one more than what it calls and what comes after it
abbrev pub count_rule : ℕ → ℕ → ℕ
count_rule called next = 1 + (called + next)

-- a call needs one frame more than what it calls; each instruction needs its own
abbrev pub frame_rule : ℕ → ℕ → ℕ
frame_rule called next = max (1 + called) next

abbrev pub count_from : Program → ℕ → ℕ
count_from = weight_from count_rule next_pcs

abbrev pub frames_from : Program → ℕ → ℕ
frames_from = weight_from frame_rule next_pcs

-- the greatest count of a whole run, and the most frames
abbrev pub longest : Program → ℕ
longest p = count_from p 0

abbrev pub deepest : Program → ℕ
deepest p = frames_from p 0

-- how many instructions are verified from a pc to its function's end: each of them, and for each call among them all
-- of the function that is called, also where no run comes
abbrev pub pairs_from : Program → ℕ → ℕ
pairs_from p = weight_from count_rule (following p) p

abbrev pub pairs : Program → ℕ
pairs p = pairs_from p 0

-- How far a jump goes, from where it stands and where it lands.
use Rattle.std.proofs.Common.{◌≡◌, ◌≤◌, ◌<◌, ◌+◌, ◌-◌, ◌^◌, ℕ, suc, true, false, List, refl, ap, ◌∙◌, arith}
use Rattle.std.specs.Prelude.{ℤ, pos, negsuc, ◌+ℤ◌, nat_le, nat_lt, Option, Some, None, Ok, ⊤}
use Rattle.std.proofs.lemmas.Bool.Decides.{nat_tests}
use Rattle.std.proofs.lemmas.Int.{ints}
use Rattle.bpf_isa.specs.declared.limits.TheConstants.{MOST_UNITS}
use Rattle.bpf_isa.specs.declared.instruction.Distance.TheVariants as distances
use Rattle.bpf_isa.specs.declared.instruction.Instruction.{Instruction}
use Rattle.bpf_isa.specs.declared.instruction.Instruction.TheVariants.{Alu, MoveSigned, Negate, Swap, Jump, Branch, CallHelper, CallLocal, Exit, Load, LoadSigned, Store, StoreRegister, Wide}
use Rattle.bpf_isa.specs.Encoding.{spelling}
use Rattle.bpf_asm.specs.declared.reading.item.Jumping.{Jumping}
use Rattle.bpf_asm.specs.declared.reading.item.Jumping.TheVariants as jumpings
use Rattle.bpf_asm.specs.declared.writing.placed.Target.{Target}
use Rattle.bpf_asm.specs.declared.writing.placed.Target.TheVariants.{At}
use Rattle.bpf_asm.specs.Statements.{Item}
use Rattle.bpf_asm.specs.Assembly.{place, distance, jump_to, jump_instruction, spelling_of, item_bytes}
use Rattle.bpf_asm.specs.Writing.{label_text, distance_of, landing, target_of, target_text}
use Rattle.bpf_asm.proofs.Instructions.{item_for}

-- the distance between two units that are near enough
distance_again : (limit next to : ℕ) (n : ℤ) → next ≤ limit → to < limit → pos next +ℤ n ≡ pos to → distance limit next to ≡ Some n
distance_again limit next to (pos n) from within lands =
    let e : next + n ≡ to = omega (arith, ints) in
    let ahead : nat_le next to ≡ true = grind (arith, nat_tests) in
    let same : to - next ≡ n = omega arith in
    let small : nat_lt n limit ≡ true = grind (arith, nat_tests) in
    simp (ahead, same, small)
distance_again limit next to (negsuc n) from within lands =
    let e : to + suc n ≡ next = omega (arith, ints) in
    let back : nat_le next to ≡ false = grind (arith, nat_tests) in
    let same : next - to ≡ suc n = omega arith in
    let small : nat_le (suc n) limit ≡ true = grind (arith, nat_tests) in
    simp (back, same, small)

-- a target that is a unit is what is landed on
landed : (z : ℤ) (k : ℕ) → landing z ≡ At k → z ≡ pos k
landed (pos n) k is = cc
landed (negsuc n) k is = absurd (cc)

-- the target of a jump at a pc is a unit of the program, and its label stands there
pub record IsLabelled (all : List Item) (pc : ℕ) (n : ℤ) : Type 0 where
  pub unit : ℕ
  pub lands : landing (pos (pc + 1) +ℤ n) ≡ At unit
  pub small : unit < MOST_UNITS
  pub stands : place (label_text unit) all ≡ Some unit

abbrev pub IsResolved : List Item → ℕ → Option ℤ → Type 0
IsResolved all pc None = ⊤
IsResolved all pc (Some n) = IsLabelled all pc n

-- the label's place
found : (all : List Item) (pc : ℕ) (n : ℤ) (at : IsLabelled all pc n) → place (target_text (landing (pos (pc + 1) +ℤ n))) all ≡ Some at.unit
found all pc n at = ap (λ (t : Target). place (target_text t) all) at.lands ∙ at.stands

goes_back : (all : List Item) (pc : ℕ) (n : ℤ) (jumping : Jumping) (i : Instruction) (at : IsLabelled all pc n) → jump_to jumping (pc + 1) at.unit ≡ Some i → spelling_of (jump_instruction jumping (pc + 1) (place (target_text (landing (pos (pc + 1) +ℤ n))) all)) ≡ Ok (spelling i)
goes_back all pc n jumping i at jumps =
    let here = found all pc n at in
    ap (λ (o : Option ℕ). spelling_of (jump_instruction jumping (pc + 1) o)) here ∙ simp jumps

near_again : (all : List Item) (pc : ℕ) (n : ℤ) (at : IsLabelled all pc n) → pc < MOST_UNITS → distance (2 ^ 15) (pc + 1) at.unit ≡ Some n
near_again all pc n at small = distance_again (2 ^ 15) (pc + 1) at.unit n (omega arith) (omega (arith, at.small)) (landed (pos (pc + 1) +ℤ n) at.unit at.lands)

far_again : (all : List Item) (pc : ℕ) (n : ℤ) (at : IsLabelled all pc n) → pc < MOST_UNITS → distance (2 ^ 31) (pc + 1) at.unit ≡ Some n
far_again all pc n at small = distance_again (2 ^ 31) (pc + 1) at.unit n (omega arith) (omega (arith, at.small)) (landed (pos (pc + 1) +ℤ n) at.unit at.lands)

-- an instruction's line has the instruction's bytes
pub bytes_again : (all : List Item) (pc : ℕ) (i : Instruction) → pc < MOST_UNITS → IsResolved all pc (distance_of i) → item_bytes all pc (item_for i (target_of pc i)) ≡ Ok (spelling i)
bytes_again all pc (Jump (distances.Near n)) small at = goes_back all pc n jumpings.Near (Jump (distances.Near n)) at (simp (near_again all pc n at small))
bytes_again all pc (Jump (distances.Far n)) small at = goes_back all pc n jumpings.Far (Jump (distances.Far n)) at (simp (far_again all pc n at small))
bytes_again all pc (Branch width comparison left right n) small at = goes_back all pc n (jumpings.Branch width comparison left right) (Branch width comparison left right n) at (simp (near_again all pc n at small))
bytes_again all pc (CallLocal n) small at = goes_back all pc n jumpings.Call (CallLocal n) at (simp (far_again all pc n at small))
bytes_again all pc (Alu width operation destination right) small at = refl
bytes_again all pc (MoveSigned extension destination source) small at = refl
bytes_again all pc (Negate width destination) small at = refl
bytes_again all pc (Swap order bits destination) small at = refl
bytes_again all pc (CallHelper number) small at = refl
bytes_again all pc Exit small at = refl
bytes_again all pc (Load size destination base offset) small at = refl
bytes_again all pc (LoadSigned size destination base offset) small at = refl
bytes_again all pc (Store size base offset immediate) small at = refl
bytes_again all pc (StoreRegister size base offset source) small at = refl
bytes_again all pc (Wide destination value) small at = refl

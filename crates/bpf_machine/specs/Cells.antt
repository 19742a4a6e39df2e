-- The bytes of a machine's stack in a row.
use Rattle.std.specs.Prelude.{ℕ, List, Option}
use Rattle.bpf_model.specs.declared.limits.TheConstants.{MOST_FRAMES}
use Rattle.bpf_machine.specs.declared.stack.Stack.{Stack}
use Rattle.bpf_machine.specs.declared.stack.Stack.TheVariants.{One, All}

abbrev pub cells_of : Stack → List (Option ℕ)
cells_of (One cells) = cells
cells_of (All cells) = cells

-- for how many frames there is room
abbrev pub frames_in : Stack → ℕ
frames_in (One cells) = 1
frames_in (All cells) = MOST_FRAMES

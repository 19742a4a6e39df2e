-- What a call answers by what a handle holds. `same` says that nothing was written.
use Rattle.std.specs.Prelude.{◌≡◌, ℕ, Option, Some, None}
use Rattle.std.specs.Arc.{arc_value}
use Rattle.past_model.specs.Past.{Past}
use Rattle.bpf_image.specs.Program.{Program}
use Rattle.embedding.specs.declared.statuses.TheConstants.{EMPTY, OTHER_KIND}
use Rattle.embedding.specs.declared.held.Held.{Held}
use Rattle.embedding.specs.declared.held.Held.TheVariants as held

-- of a store whose last version has this past, what is reported
abbrev pub OnStore : Option Held → ℕ → Type 0 → (Past → Type 0) → Type 0
OnStore None status same answer = (status ≡ EMPTY) × same
OnStore (Some (held.Store s)) status same answer = answer s
OnStore (Some (held.Version v)) status same answer = (status ≡ OTHER_KIND) × same
OnStore (Some (held.Program c)) status same answer = (status ≡ OTHER_KIND) × same

-- of a version of this past
abbrev pub OnVersion : Option Held → ℕ → Type 0 → (Past → Type 0) → Type 0
OnVersion None status same answer = (status ≡ EMPTY) × same
OnVersion (Some (held.Store s)) status same answer = (status ≡ OTHER_KIND) × same
OnVersion (Some (held.Version v)) status same answer = answer (arc_value v)
OnVersion (Some (held.Program c)) status same answer = (status ≡ OTHER_KIND) × same

-- of a verified program
abbrev pub OnProgram : Option Held → ℕ → Type 0 → (Program → Type 0) → Type 0
OnProgram None status same answer = (status ≡ EMPTY) × same
OnProgram (Some (held.Store s)) status same answer = (status ≡ OTHER_KIND) × same
OnProgram (Some (held.Version v)) status same answer = (status ≡ OTHER_KIND) × same
OnProgram (Some (held.Program c)) status same answer = answer c

-- of a version and a program; an empty handle is reported first
abbrev pub OnBoth : Option Held → Option Held → ℕ → Type 0 → (Past → Program → Type 0) → Type 0
OnBoth None b status same answer = (status ≡ EMPTY) × same
OnBoth (Some x) None status same answer = (status ≡ EMPTY) × same
OnBoth (Some x) (Some y) status same answer = OnVersion (Some x) status same (λ p. OnProgram (Some y) status same (answer p))

-- a handle holds a store whose last version has this past, or a version, or a program
abbrev pub HoldsStore : Option Held → Past → Type 0
HoldsStore None p = ⊥
HoldsStore (Some (held.Store s)) p = s ≡ p
HoldsStore (Some (held.Version v)) p = ⊥
HoldsStore (Some (held.Program c)) p = ⊥

abbrev pub HoldsVersion : Option Held → Past → Type 0
HoldsVersion None p = ⊥
HoldsVersion (Some (held.Store s)) p = ⊥
HoldsVersion (Some (held.Version v)) p = arc_value v ≡ p
HoldsVersion (Some (held.Program c)) p = ⊥

abbrev pub HoldsProgram : Option Held → Program → Type 0
HoldsProgram None p = ⊥
HoldsProgram (Some (held.Store s)) p = ⊥
HoldsProgram (Some (held.Version v)) p = ⊥
HoldsProgram (Some (held.Program c)) p = c ≡ p

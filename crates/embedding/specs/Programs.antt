-- What is reported of a program.
use Rattle.std.specs.Prelude.{◌≡◌, ◌↔◌, ◌⊎◌, ℕ, ◌<◌, min, List, Result, Ok, Err, length}
use Rattle.bpf_isa.specs.declared.limits.TheConstants.{MOST_UNITS}
use Rattle.verifier.specs.Causes.{cause_number}
use Rattle.bpf_image.specs.declared.limits.TheConstants.{MOST_TABLE_LENGTH}
use Rattle.bpf_image.specs.Program.{Program, IsRecordLength, IsCodeLength, IsImage}
use Rattle.verifier.specs.Verdict.{Verdict, Accepted, Refused, verdict}
use Rattle.embedding.specs.declared.statuses.TheConstants.{NO_MEMORY, RECORD_LENGTH, CODE_LENGTH, TABLE_LENGTH}
use Rattle.embedding.specs.declared.programs.Verdict.{Verdict as Reported}

-- the program of this code and this table, which has no byte where there is none
abbrev pub program_of : (record_length : ℕ) → (code table : List ℕ) → Program
program_of n code table = record { code = code; record_length = n; table = table }

-- a status names the first length of a program that no image has, exactly where there is one
pub record NamesLength (p : Program) (status : ℕ) : Type 0 where
  pub record_status : (status ≡ RECORD_LENGTH) ↔ (¬ IsRecordLength p.record_length)
  pub code_status : (status ≡ CODE_LENGTH) ↔ (IsRecordLength p.record_length × (¬ IsCodeLength (length p.code)))
  pub table_status : (status ≡ TABLE_LENGTH)
      ↔ (IsRecordLength p.record_length × IsCodeLength (length p.code) × (MOST_TABLE_LENGTH < length p.table))

-- a status names a length: of the record, of the code or of the table
abbrev pub IsOfLength : ℕ → Type 0
IsOfLength status = (status ≡ RECORD_LENGTH) ⊎ (status ≡ CODE_LENGTH) ⊎ (status ≡ TABLE_LENGTH)

-- the image of a program; or which length is wrong, or that there is no memory
abbrev pub IsImageOf : Program → Result Program ℕ → Type 0
IsImageOf p (Ok image) = (image ≡ p) × IsImage p
IsImageOf p (Err status) = NamesLength p status × (IsOfLength status ⊎ (status ≡ NO_MEMORY))

-- the verifier accepts it with this bound and these frames; there is no cause and no place
abbrev pub IsAccepted : Program → Reported → Type 0
IsAccepted p reported = (verdict p ≡ Accepted reported.bound reported.frames) × (reported.cause ≡ 0) × (reported.pc ≡ 0)

-- it refuses it, by this rule and at this place; there is no bound and there are no frames
abbrev pub reports_refusal : Verdict → Reported → Type 0
reports_refusal (Accepted bound frames) reported = ⊥
reports_refusal (Refused r) reported =
    (reported.cause ≡ cause_number r.cause) × (reported.pc ≡ min r.pc MOST_UNITS) × (reported.bound ≡ 0) × (reported.frames ≡ 0)

abbrev pub IsRefused : Program → Reported → Type 0
IsRefused p reported = reports_refusal (verdict p) reported

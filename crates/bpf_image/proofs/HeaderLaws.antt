-- The front of an image, read: its faults and what it gives.
use Rattle.std.proofs.Common.{◌≡◌, ◌≢◌, ℕ, ◌≤◌, ◌⊎◌, List, length, take, Bool, true, false, Result, Ok, Err, refl, sym, subst, inl, inr}
use Rattle.std.specs.Prelude.{nat_eq, nat_le, ◌&&◌, ◌||◌, not, ◌==◌}
use Rattle.std.specs.List.{starts_with}
use Rattle.std.proofs.lemmas.Bool.{and_parts, and_from, or_cases, or_left, or_right, le-leb, lt-leb, leb-true, leb-false, eqb-true, ne_eqb, eq-eqb}
use Rattle.std.proofs.lemmas.Bool.Decides.{Decides-eqb}
use Rattle.std.proofs.lemmas.Slice.Eq.{slice_eq-Decides}
use Rattle.bpf_image.specs.declared.image_error.ImageError.{ImageError}
use Rattle.bpf_image.specs.declared.image_error.ImageError.TheVariants.{Magic, Length, RecordLength, CodeLength, OutOfMemory, TableLength}
use Rattle.bpf_image.specs.Program.{IsRecordLength}
use Rattle.bpf_image.specs.Format.{magic, table_magic, has_table, front_length, record_field, units_field, table_field, whole_length, IsUnitCount, HasMagic, HasHeader, HasTableLength, HasCounts, IsWhole, IsFault}
use Rattle.bpf_image.specs.Reading.{after_test, is_table_length, from_table, from_code, from_units, from_record_length, from_length, header_of}
use Rattle.bpf_image.proofs.FormatLaws.{table_magic_there}

-- ---- the tests

magic_there : (bytes : List ℕ) → (starts_with nat_eq bytes magic || has_table bytes) ≡ true → HasMagic bytes
magic_there bytes test =
    elim (or_cases (starts_with nat_eq bytes magic) (has_table bytes) test) [
      | inl plain ↦ inl (sym ((slice_eq-Decides Decides-eqb magic (take 4 bytes) (starts_with nat_eq bytes magic) refl).0 plain))
      | inr table ↦ inr (table_magic_there bytes table)
    ]

within : (low high n : ℕ) → (nat_le low n && nat_le n high) ≡ true → (low ≤ n) × (n ≤ high)
within low high n test =
    let parts = and_parts _ _ test in
    (leb-true low n parts.0, leb-true n high parts.1)

not_true : (b : Bool) → not b ≡ true → b ≡ false
not_true true test = absurd cc
not_true false test = refl

table_there : (bytes : List ℕ) → is_table_length bytes ≡ true → HasTableLength bytes
table_there bytes test =
    elim (or_cases (not (has_table bytes)) (nat_le 1 (table_field bytes) && nat_le (table_field bytes) 4096) test) [
      | inl none ↦ inl (not_true (has_table bytes) none)
      | inr fits ↦ inr (within 1 4096 (table_field bytes) fits)
    ]

-- ---- what a tested result says

ok_parts : (test : Bool) (fault : ImageError) (next : Result ℕ ImageError) (n : ℕ) → after_test test fault next ≡ Ok n → (test ≡ true) × (next ≡ Ok n)
ok_parts true fault next n h = (refl, h)
ok_parts false fault next n h = absurd cc

-- ---- the header

-- a record length is given only of bytes that are an image's
pub header_whole : (bytes : List ℕ) (n : ℕ) → header_of bytes ≡ Ok n → IsWhole bytes × (n ≡ record_field bytes)
header_whole bytes n h =
    let first = ok_parts (starts_with nat_eq bytes magic || has_table bytes) Magic (from_length bytes) n h in
    let second = ok_parts (nat_le (front_length bytes) (length bytes)) Length (from_record_length bytes) n first.1 in
    let third = ok_parts (nat_le 16 (record_field bytes) && nat_le (record_field bytes) 256) RecordLength (from_units bytes) n second.1 in
    let fourth = ok_parts (nat_le 1 (units_field bytes) && nat_le (units_field bytes) 4096) CodeLength (from_code bytes) n third.1 in
    let fifth = ok_parts (is_table_length bytes) TableLength (from_table bytes) n fourth.1 in
    let sixth = ok_parts (length bytes == whole_length bytes) Length (Ok (record_field bytes)) n fifth.1 in
    let same : n ≡ record_field bytes = (let both : Ok (record_field bytes) ≡ Ok n = sixth.1 in cc) in
    let counts : HasCounts bytes = (
      (magic_there bytes first.0, leb-true (front_length bytes) (length bytes) second.0),
      within 16 256 (record_field bytes) third.0,
      within 1 4096 (units_field bytes) fourth.0,
      table_there bytes fifth.0,
    ) in
    ((counts, eqb-true (length bytes) (whole_length bytes) sixth.0), same)

-- ---- each test holds of what it tests

abbrev begins : List ℕ → Bool
begins bytes = starts_with nat_eq bytes magic || has_table bytes

abbrev is_long : List ℕ → Bool
is_long bytes = nat_le (front_length bytes) (length bytes)

abbrev fits_record : List ℕ → Bool
fits_record bytes = nat_le 16 (record_field bytes) && nat_le (record_field bytes) 256

abbrev fits_units : List ℕ → Bool
fits_units bytes = nat_le 1 (units_field bytes) && nat_le (units_field bytes) 4096

magic_test : (bytes : List ℕ) → HasMagic bytes → begins bytes ≡ true
magic_test bytes (inl plain) =
    or_left (starts_with nat_eq bytes magic) (has_table bytes) ((slice_eq-Decides Decides-eqb magic (take 4 bytes) (starts_with nat_eq bytes magic) refl).1 (sym plain))
magic_test bytes (inr table) =
    or_right (starts_with nat_eq bytes magic) (has_table bytes) ((slice_eq-Decides Decides-eqb table_magic (take 4 bytes) (has_table bytes) refl).1 (sym table))

record_test : (bytes : List ℕ) → IsRecordLength (record_field bytes) → fits_record bytes ≡ true
record_test bytes fits = and_from (nat_le 16 (record_field bytes)) (nat_le (record_field bytes) 256) (le-leb 16 (record_field bytes) fits.0) (le-leb (record_field bytes) 256 fits.1)

units_test : (bytes : List ℕ) → IsUnitCount (units_field bytes) → fits_units bytes ≡ true
units_test bytes fits = and_from (nat_le 1 (units_field bytes)) (nat_le (units_field bytes) 4096) (le-leb 1 (units_field bytes) fits.0) (le-leb (units_field bytes) 4096 fits.1)

not_false : (b : Bool) → b ≡ false → not b ≡ true
not_false true none = absurd cc
not_false false none = refl

table_test : (bytes : List ℕ) → HasTableLength bytes → is_table_length bytes ≡ true
table_test bytes (inl none) = or_left (not (has_table bytes)) (nat_le 1 (table_field bytes) && nat_le (table_field bytes) 4096) (not_false (has_table bytes) none)
table_test bytes (inr fits) =
    or_right (not (has_table bytes)) (nat_le 1 (table_field bytes) && nat_le (table_field bytes) 4096)
    (and_from (nat_le 1 (table_field bytes)) (nat_le (table_field bytes) 4096) (le-leb 1 (table_field bytes) fits.0) (le-leb (table_field bytes) 4096 fits.1))

fails : (b : Bool) → ((b ≡ true) → ⊥) → b ≡ false
fails true none = absurd (none refl)
fails false none = refl

-- ---- a fault is what the header gives

goes_on : (test : Bool) (fault : ImageError) (next r : Result ℕ ImageError) → test ≡ true → next ≡ r → after_test test fault next ≡ r
goes_on true fault next r is same = same
goes_on false fault next r is same = absurd cc

stops : (test : Bool) (fault : ImageError) (next : Result ℕ ImageError) → test ≡ false → after_test test fault next ≡ Err fault
stops true fault next is = absurd cc
stops false fault next is = refl

after_header : (bytes : List ℕ) (r : Result ℕ ImageError) → HasHeader bytes → from_record_length bytes ≡ r → header_of bytes ≡ r
after_header bytes r header rest =
    goes_on (begins bytes) Magic (from_length bytes) r (magic_test bytes header.0)
    (goes_on (is_long bytes) Length (from_record_length bytes) r (le-leb (front_length bytes) (length bytes) header.1) rest)

after_record : (bytes : List ℕ) (r : Result ℕ ImageError) → HasHeader bytes → IsRecordLength (record_field bytes) → from_units bytes ≡ r → header_of bytes ≡ r
after_record bytes r header fits rest =
    after_header bytes r header (goes_on (fits_record bytes) RecordLength (from_units bytes) r (record_test bytes fits) rest)

after_units : (bytes : List ℕ) (r : Result ℕ ImageError) → HasHeader bytes → IsRecordLength (record_field bytes) → IsUnitCount (units_field bytes) → from_code bytes ≡ r → header_of bytes ≡ r
after_units bytes r header record_fits fits rest =
    after_record bytes r header record_fits (goes_on (fits_units bytes) CodeLength (from_code bytes) r (units_test bytes fits) rest)

pub header_only : (bytes : List ℕ) (error : ImageError) → error ≢ OutOfMemory → IsFault bytes error → header_of bytes ≡ Err error
header_only bytes Magic other fault =
    stops (begins bytes) Magic (from_length bytes) (fails (begins bytes) (λ is. fault (magic_there bytes is)))
header_only bytes Length other (inl (has, short)) =
    goes_on (begins bytes) Magic (from_length bytes) (Err Length) (magic_test bytes has)
    (stops (is_long bytes) Length (from_record_length bytes) (lt-leb (front_length bytes) (length bytes) short))
header_only bytes Length other (inr ((header, record_fits, fits, table), unequal)) =
    after_units bytes (Err Length) header record_fits fits
    (goes_on (is_table_length bytes) TableLength (from_table bytes) (Err Length) (table_test bytes table)
    (stops (length bytes == whole_length bytes) Length (Ok (record_field bytes)) (ne_eqb (length bytes) (whole_length bytes) unequal)))
header_only bytes RecordLength other (header, none) =
    after_header bytes (Err RecordLength) header
    (stops (fits_record bytes) RecordLength (from_units bytes) (fails (fits_record bytes) (λ is. none (within 16 256 (record_field bytes) is))))
header_only bytes CodeLength other (header, record_fits, none) =
    after_record bytes (Err CodeLength) header record_fits
    (stops (fits_units bytes) CodeLength (from_code bytes) (fails (fits_units bytes) (λ is. none (within 1 4096 (units_field bytes) is))))
header_only bytes OutOfMemory other fault = absurd (other refl)
header_only bytes TableLength other (header, record_fits, fits, none) =
    after_units bytes (Err TableLength) header record_fits fits
    (stops (is_table_length bytes) TableLength (from_table bytes) (fails (is_table_length bytes) (λ is. none (table_there bytes is))))

fault_parts : (test : Bool) (fault : ImageError) (next : Result ℕ ImageError) (e : ImageError) → after_test test fault next ≡ Err e → ((test ≡ false) × (fault ≡ e)) ⊎ ((test ≡ true) × (next ≡ Err e))
fault_parts true fault next e h = inr (refl, h)
fault_parts false fault next e h = inl (refl, cc)

not_both : (b : Bool) → b ≡ false → b ≡ true → ⊥
not_both true none is = absurd cc
not_both false none is = absurd cc

pub header_fault : (bytes : List ℕ) (e : ImageError) → header_of bytes ≡ Err e → IsFault bytes e
header_fault bytes e h =
    elim (fault_parts (begins bytes) Magic (from_length bytes) e h) [
      | inl first ↦ subst (IsFault bytes) first.1 (λ has. not_both (begins bytes) first.0 (magic_test bytes has))
      | inr first ↦
          let has = magic_there bytes first.0 in
          elim (fault_parts (is_long bytes) Length (from_record_length bytes) e first.1) [
            | inl second ↦ subst (IsFault bytes) second.1 (inl (has, leb-false (front_length bytes) (length bytes) second.0))
            | inr second ↦
                let header : HasHeader bytes = (has, leb-true (front_length bytes) (length bytes) second.0) in
                elim (fault_parts (fits_record bytes) RecordLength (from_units bytes) e second.1) [
                  | inl third ↦ subst (IsFault bytes) third.1 (header, λ fits. not_both (fits_record bytes) third.0 (record_test bytes fits))
                  | inr third ↦
                      let record_fits = within 16 256 (record_field bytes) third.0 in
                      elim (fault_parts (fits_units bytes) CodeLength (from_code bytes) e third.1) [
                        | inl fourth ↦ subst (IsFault bytes) fourth.1 (header, record_fits, λ fits. not_both (fits_units bytes) fourth.0 (units_test bytes fits))
                        | inr fourth ↦
                            let fits = within 1 4096 (units_field bytes) fourth.0 in
                            elim (fault_parts (is_table_length bytes) TableLength (from_table bytes) e fourth.1) [
                              | inl fifth ↦ subst (IsFault bytes) fifth.1 (header, record_fits, fits, λ table. not_both (is_table_length bytes) fifth.0 (table_test bytes table))
                              | inr fifth ↦
                                  let table = table_there bytes fifth.0 in
                                  elim (fault_parts (length bytes == whole_length bytes) Length (Ok (record_field bytes)) e fifth.1) [
                                    | inl sixth ↦ subst (IsFault bytes) sixth.1 (inr ((header, record_fits, fits, table), λ same. not_both (length bytes == whole_length bytes) sixth.0 (eq-eqb (length bytes) (whole_length bytes) same)))
                                    | inr sixth ↦ absurd (let wrong : Ok (record_field bytes) ≡ Err e = sixth.1 in cc)
                                  ]
                            ]
                      ]
                ]
          ]
    ]

abbrev failing : ImageError → Result ℕ ImageError
failing e = Err e

pub same_fault : (e f : ImageError) → failing e ≡ failing f → e ≡ f
same_fault e f same = cc

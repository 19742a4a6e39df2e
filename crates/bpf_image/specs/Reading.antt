-- The front of an image as a computing function.
use Rattle.std.specs.Prelude.{ℕ, ◌==◌, nat_eq, nat_le, ◌&&◌, ◌||◌, not, Bool, true, false, List, length, Result, Ok, Err}
use Rattle.std.specs.List.{starts_with}
use Rattle.bpf_isa.specs.declared.limits.TheConstants.{MOST_UNITS}
use Rattle.bpf_image.specs.declared.limits.TheConstants.{LEAST_RECORD_LENGTH, MOST_RECORD_LENGTH, MOST_TABLE_LENGTH}
use Rattle.bpf_image.specs.declared.image_error.ImageError.{ImageError}
use Rattle.bpf_image.specs.declared.image_error.ImageError.TheVariants.{Magic, Length, RecordLength, CodeLength, TableLength}
use Rattle.bpf_image.specs.Format.{magic, has_table, front_length, record_field, units_field, table_field, whole_length}

-- goes on where a test holds
abbrev pub after_test : Bool → ImageError → Result ℕ ImageError → Result ℕ ImageError
after_test true error next = next
after_test false error next = Err error

-- the record length of an image's bytes, or the first fault: the tests from the last one to the first
abbrev pub from_table : List ℕ → Result ℕ ImageError
from_table bytes = after_test (length bytes == whole_length bytes) Length (Ok (record_field bytes))

abbrev pub is_table_length : List ℕ → Bool
is_table_length bytes = not (has_table bytes) || (nat_le 1 (table_field bytes) && nat_le (table_field bytes) MOST_TABLE_LENGTH)

abbrev pub from_code : List ℕ → Result ℕ ImageError
from_code bytes = after_test (is_table_length bytes) TableLength (from_table bytes)

abbrev pub from_units : List ℕ → Result ℕ ImageError
from_units bytes = after_test (nat_le 1 (units_field bytes) && nat_le (units_field bytes) MOST_UNITS) CodeLength (from_code bytes)

abbrev pub from_record_length : List ℕ → Result ℕ ImageError
from_record_length bytes =
    after_test (nat_le LEAST_RECORD_LENGTH (record_field bytes) && nat_le (record_field bytes) MOST_RECORD_LENGTH) RecordLength (from_units bytes)

abbrev pub from_length : List ℕ → Result ℕ ImageError
from_length bytes = after_test (nat_le (front_length bytes) (length bytes)) Length (from_record_length bytes)

abbrev pub header_of : List ℕ → Result ℕ ImageError
header_of bytes = after_test (starts_with nat_eq bytes magic || has_table bytes) Magic (from_length bytes)

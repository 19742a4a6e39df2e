-- Images as bytes: the program that they spell, or what is wrong with them.
use Rattle.std.specs.Prelude.{ℕ, ◌+◌, ◌*◌, List, take, drop, Result, Ok, Err}
use Rattle.bpf_image.specs.Program.{Program}
use Rattle.bpf_image.specs.declared.image_error.ImageError.{ImageError}
use Rattle.bpf_image.specs.Format.{front_length, record_field, units_field}
use Rattle.bpf_image.specs.Reading.{header_of}

-- the code and the table that stand after the front of an image's bytes
abbrev pub spelled : List ℕ → Program
spelled bytes = record {
  code = take (8 * units_field bytes) (drop (front_length bytes) bytes);
  record_length = record_field bytes;
  table = drop (front_length bytes + 8 * units_field bytes) bytes;
}

abbrev pub program_after : List ℕ → Result ℕ ImageError → Result Program ImageError
program_after bytes (Ok record_length) = Ok (spelled bytes)
program_after bytes (Err error) = Err error

-- the program of an image's bytes, or the first fault of bytes that are no image's
abbrev pub loaded : List ℕ → Result Program ImageError
loaded bytes = program_after bytes (header_of bytes)

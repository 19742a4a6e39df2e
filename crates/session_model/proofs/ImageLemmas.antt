-- The image that bytes spell, by the contract of loading one.
use Rattle.std.proofs.Common.{◌≡◌, ◌≢◌, ℕ, ◌+◌, ◌*◌, ◌≤◌, Bool, true, false, List, length, take, drop, refl, sym, ap, subst, ◌∙◌, arith, inl, inr, Result, Ok, Err}
use Rattle.std.proofs.lemmas.List.{length-take-le, length-drop}
use Rattle.bpf_image.specs.Program.{Program, IsImage}
use Rattle.bpf_image.specs.declared.image_error.ImageError.{ImageError}
use Rattle.bpf_image.specs.declared.image_error.ImageError.TheVariants.{Magic, Length, RecordLength, CodeLength, OutOfMemory, TableLength}
use Rattle.bpf_image.specs.Format.{image_bytes, front_length, record_field, units_field, table_field, HasTableLength, IsWhole, IsFault}
use Rattle.bpf_image.specs.Reading.{after_test, header_of, from_length, from_record_length, from_units, from_code, from_table}
use Rattle.bpf_image.proofs.FormatLaws.{AreBytes, bytes_again, image_whole, images_load, one_image}
use Rattle.bpf_image.proofs.HeaderLaws.{header_fault, same_fault}
use Rattle.session_model.specs.Images.{spelled, program_after, loaded}

-- ---- a header never wants memory

goes_on : (test : Bool) (fault : ImageError) (next : Result ℕ ImageError) → fault ≢ OutOfMemory → after_test test fault next ≡ Err OutOfMemory → next ≡ Err OutOfMemory
goes_on true fault next other h = h
goes_on false fault next other h = absurd (other (same_fault fault OutOfMemory h))

header_memory : (bytes : List ℕ) → header_of bytes ≡ Err OutOfMemory → ⊥
header_memory bytes h =
    let first : from_length bytes ≡ Err OutOfMemory = goes_on _ Magic (from_length bytes) (λ same. cc) h in
    let second : from_record_length bytes ≡ Err OutOfMemory = goes_on _ Length (from_record_length bytes) (λ same. cc) first in
    let third : from_units bytes ≡ Err OutOfMemory = goes_on _ RecordLength (from_units bytes) (λ same. cc) second in
    let fourth : from_code bytes ≡ Err OutOfMemory = goes_on _ CodeLength (from_code bytes) (λ same. cc) third in
    let fifth : from_table bytes ≡ Err OutOfMemory = goes_on _ TableLength (from_table bytes) (λ same. cc) fourth in
    let last : Ok (record_field bytes) ≡ Err OutOfMemory = goes_on _ Length (Ok (record_field bytes)) (λ same. cc) fifth in
    cc

-- ---- the program that is spelled

table_few : (bytes : List ℕ) → HasTableLength bytes → table_field bytes ≤ 4096
table_few bytes (inl none) = rw none (omega arith)
table_few bytes (inr is) = is.1

spelled_image : (bytes : List ℕ) → IsWhole bytes → IsImage (spelled bytes)
spelled_image bytes whole =
    let count = whole.0.2 in
    let size : length (take (8 * units_field bytes) (drop (front_length bytes) bytes)) ≡ 8 * units_field bytes =
    length-take-le (8 * units_field bytes) (drop (front_length bytes) bytes) (omega (arith, length-drop (front_length bytes) bytes, whole.1)) in
    let few = table_few bytes whole.0.3 in
    record {
      record_length = whole.0.1;
      code = record {
        whole = omega (arith, size);
        some = omega (arith, size, count.0);
        most = omega (arith, size, count.1);
      };
      table = omega (arith, length-drop (front_length bytes + 8 * units_field bytes) bytes, whole.1, few);
    }

spelled_one : (bytes : List ℕ) (p : Program) → AreBytes bytes → IsImage p → image_bytes p ≡ bytes → spelled bytes ≡ p
spelled_one bytes p all image same =
    let whole : IsWhole bytes = subst IsWhole same (image_whole p image) in
    one_image (spelled bytes) p (spelled_image bytes whole) image (bytes_again bytes all whole ∙ sym same)

made_at : (bytes : List ℕ) (p : Program) (r : Result ℕ ImageError) → header_of bytes ≡ r → AreBytes bytes → IsImage p → image_bytes p ≡ bytes → program_after bytes r ≡ Ok p
made_at bytes p (Ok n) h all image same = ap Ok (spelled_one bytes p all image same)
made_at bytes p (Err e) h all image same =
    let fault : IsFault (image_bytes p) e = subst (λ (b : List ℕ). IsFault b e) (sym same) (header_fault bytes e h) in
    absurd (header_memory bytes (h ∙ ap Err (images_load p image e fault)))

-- an image with these bytes is the one that they spell
pub loaded_made : (bytes : List ℕ) (p : Program) → AreBytes bytes → IsImage p → image_bytes p ≡ bytes → loaded bytes ≡ Ok p
loaded_made bytes p all image same = made_at bytes p (header_of bytes) refl all image same

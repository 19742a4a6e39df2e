-- Laws of the format. Each is the contract of a public function.
use Rattle.std.specs.Prelude.{◌≡◌}
use Rattle.bpf_image.specs.Program.{Program, IsImage}
use Rattle.bpf_image.specs.declared.image_error.ImageError.{ImageError}
use Rattle.bpf_image.specs.declared.image_error.ImageError.TheVariants.{OutOfMemory}
use Rattle.bpf_image.specs.Format.{image_bytes, IsFault}

-- no bytes spell two images
abbrev pub OneImage : Type 0
OneImage = (p q : Program) → IsImage p → IsImage q → image_bytes p ≡ image_bytes q → p ≡ q

-- the bytes of an image have no fault
abbrev pub ImagesLoad : Type 0
ImagesLoad = (p : Program) → IsImage p → (error : ImageError) → IsFault (image_bytes p) error → error ≡ OutOfMemory

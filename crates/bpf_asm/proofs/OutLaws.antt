-- Code that a jump leaves is refused for that jump, if there was memory.
use Rattle.std.proofs.Common.{◌≡◌, ◌≢◌, IsErrAnd, MatchResult, ℕ, List, Result, Ok, Err, refl}
use Rattle.bpf_asm.specs.declared.errors.DisassembleError.{DisassembleError}
use Rattle.bpf_asm.specs.declared.errors.DisassembleError.TheVariants.{BadCode, JumpOut, TooLong, OutOfMemory}
use Rattle.bpf_asm.specs.Listing.{disassembly, Refuses}

is_that_error : (e : DisassembleError) (is : Result (List ℕ) DisassembleError) (pc : ℕ) → Refuses e is → is ≡ Err (JumpOut pc) → e ≢ OutOfMemory → e ≡ JumpOut pc
is_that_error OutOfMemory is pc refuses is_out some = absurd (some refl)
is_that_error (BadCode at) is pc refuses is_out some = absurd (cc)
is_that_error (JumpOut at) is pc refuses is_out some = cc
is_that_error TooLong is pc refuses is_out some = absurd (cc)

pub refused_for_its_jump : {A : Type 0} (result : Result A DisassembleError) (text : A → List ℕ) (code : List ℕ) (pc : ℕ) → MatchResult result (λ a. disassembly code ≡ Ok (text a)) (λ e. Refuses e (disassembly code)) → disassembly code ≡ Err (JumpOut pc) → IsErrAnd result (λ e. e ≢ OutOfMemory → e ≡ JumpOut pc)
refused_for_its_jump (Ok a) text code pc says is_out = absurd (cc)
refused_for_its_jump (Err e) text code pc says is_out = is_that_error e (disassembly code) pc says is_out

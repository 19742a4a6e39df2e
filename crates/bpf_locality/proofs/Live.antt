-- Which bytes are live, and that address 0 is not.
use Rattle.std.proofs.Common.{◌≡◌, ℕ, zero, suc, true, false, refl, arith, length}
use Rattle.std.proofs.lemmas.Bool.{or_left, or_right}
use Rattle.std.proofs.lemmas.Bool.Decides.{nat_tests}
use Rattle.bpf_model.specs.State.{in_record, in_frame, in_frames, in_table, live_frames, may_write}
use Rattle.bpf_locality.specs.Live.{SomeBytesAreLive}

-- no frame reaches down to address 0
zero_in_no_frame : (n : ℕ) → in_frames n 0 1 ≡ false
zero_in_no_frame zero = refl
zero_in_no_frame (suc n) =
    let below : in_frame n 0 1 ≡ false = grind (arith, nat_tests) in
    rw below (zero_in_no_frame n)

pub some_live : SomeBytesAreLive
some_live l s = record {
  lent = λ a from to. let inside : in_record l.record_length a 1 ≡ true = grind (arith, nat_tests) in or_left _ _ inside;
  current = λ a from to. let inside : in_frame (length s.callers) a 1 ≡ true = grind (arith, nat_tests) in or_right _ _ (or_left _ _ inside);
  table = λ a from to. let inside : in_table l.table_length a 1 ≡ true = grind (arith, nat_tests) in or_right (may_write l s a 1) _ inside;
  none = rw (zero_in_no_frame (live_frames s)) refl;
}

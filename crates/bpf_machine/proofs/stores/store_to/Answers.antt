use Rattle.std.proofs.Common.{◌≡◌, ℕ, Bool, true, false, length, take, refl, sym, ap, ap₂, ◌∙◌, rules, FitsSigned, w64, to_z, of_z}
use Rattle.std.specs.Prelude.{◌||◌, pos, ◌+ℤ◌}
use Rattle.std.proofs.lemmas.Int.{to_z-of_z}
use Rattle.bpf_isa.specs.declared.instruction.Size.{Size}
use Rattle.bpf_isa.specs.declared.instruction.Size.TheVariants.{Byte, Half, Word, Double}
use Rattle.bpf_isa.specs.Sizes.{size_bytes}
use Rattle.bpf_model.specs.State.{with_values, in_record, in_frames, may_write, write_trap, lent, with_table}
use Rattle.bpf_model.specs.Step.{Traps, low_bytes}
use Rattle.bpf_machine.specs.Cells.{cells_of}
use Rattle.bpf_machine.specs.Seen.{values_of, memory_of, state_of}
use Rattle.bpf_machine.proofs.CallFacts.{goes_same}
use Rattle.bpf_machine.proofs.TableFacts.{table_written}
use Rattle.bpf_machine.proofs.stores.store_to.Goals as goal

low_length : (size : Size) (value : ℕ) → length (low_bytes size value) ≡ size_bytes size
low_length Byte value = refl
low_length Half value = refl
low_length Word value = refl
low_length Double value = refl

-- whether an access of so many bytes is allowed
abbrev allowed : ℕ → ℕ → ℕ → ℕ → Bool
allowed record_length frames a size = in_record record_length a size || in_frames frames a size

pub returns-then-not-store_bytes-clause-step : goal.returns-then-not-store_bytes-clause-step
returns-then-not-store_bytes-clause-step c =
    let count : c.from.result ≡ size_bytes c.args.place.size = c.from.ensures ∙ c.bytes.ensures.value in
    let low : take c.from.result c.to_le_bytes-spelled.result ≡ low_bytes c.args.place.size c.args.value = ap₂ take count c.to_le_bytes-spelled.ensures in
    let size : length (take c.from.result c.to_le_bytes-spelled.result) ≡ size_bytes c.args.place.size = ap length low ∙ low_length c.args.place.size c.args.value in
    let live = c.live_frames-frames.ensures.live c.args.bytes.now c.args.table.now in
    let may : false ≡ may_write (lent c.args.bytes.now c.args.table.now) (state_of c.args.machine.now c.args.bytes.now c.args.table.now) c.args.place.address (size_bytes c.args.place.size) =
    sym c.if-not-store_bytes.true ∙ c.store_bytes.ensures.allowed ∙ ap₂ (λ n m. allowed (length c.args.bytes.now) n c.args.place.address m) live size in
    let kind : write_trap (lent c.args.bytes.now c.args.table.now) c.args.place.address (size_bytes c.args.place.size) ≡ c.write_refusal.result =
    ap (write_trap (lent c.args.bytes.now c.args.table.now) c.args.place.address) (sym size) ∙ sym (c.write_refusal.ensures c.args.bytes.now) in
    rw (← may) (ap (λ k. Traps k c.args.machine.now.pc) kind)

pub returns-clause-step : goal.returns-clause-step
returns-clause-step c =
    let count : c.from.result ≡ size_bytes c.args.place.size = c.from.ensures ∙ c.bytes.ensures.value in
    let low : take c.from.result c.to_le_bytes-spelled.result ≡ low_bytes c.args.place.size c.args.value = ap₂ take count c.to_le_bytes-spelled.ensures in
    let size : length (take c.from.result c.to_le_bytes-spelled.result) ≡ size_bytes c.args.place.size = ap length low ∙ low_length c.args.place.size c.args.value in
    let live = c.live_frames-frames.ensures.live c.args.bytes.now c.args.table.now in
    let may : true ≡ may_write (lent c.args.bytes.now c.args.table.now) (state_of c.args.machine.now c.args.bytes.now c.args.table.now) c.args.place.address (size_bytes c.args.place.size) =
    sym c.if-not-store_bytes.false ∙ c.store_bytes.ensures.allowed ∙ ap₂ (λ n m. allowed (length c.args.bytes.now) n c.args.place.address m) live size in
    let memory : with_values (memory_of c.args.bytes.now (values_of (cells_of c.args.machine.now.stack))) c.args.place.address (low_bytes c.args.place.size c.args.value) ≡ memory_of c.store_bytes.new.bytes (values_of (cells_of c.store_bytes.new.stack)) =
    ap (with_values (memory_of c.args.bytes.now (values_of (cells_of c.args.machine.now.stack))) c.args.place.address) (sym low) ∙ c.store_bytes.ensures.stored c.if-not-store_bytes.false in
    let seen = table_written c.args.table.now (memory_of c.args.bytes.now (values_of (cells_of c.args.machine.now.stack))) c.args.place.address (low_bytes c.args.place.size c.args.value) ∙ ap (with_table c.args.table.now) memory in
    let here : to_z w64 (of_z w64 c.args.machine.now.pc) ≡ c.args.machine.now.pc = to_z-of_z w64 c.args.machine.now.pc (search rules) in
    let fits : FitsSigned w64 (c.args.machine.now.pc +ℤ pos 1) = search rules in
    let pc : to_z w64 (of_z w64 (to_z w64 (of_z w64 c.args.machine.now.pc) +ℤ pos 1)) ≡ c.args.machine.now.pc +ℤ pos 1 = ap (λ z. to_z w64 (of_z w64 (z +ℤ pos 1))) here ∙ to_z-of_z w64 (c.args.machine.now.pc +ℤ pos 1) fits in
    rw (← may) (goes_same (sym pc) refl seen refl)

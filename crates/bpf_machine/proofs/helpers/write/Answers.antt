use Rattle.std.proofs.Common.{◌≡◌, ℕ, ◌/◌, Bool, true, false, length, sym, ap, ap₂, ◌∙◌, rules}
use Rattle.std.specs.Prelude.{◌||◌}
use Rattle.graph_model.specs.Views.{neighbour_words, neighbours_among, word_bytes}
use Rattle.bpf_model.specs.Helpers.{with_answer}
use Rattle.bpf_model.specs.State.{with_values, in_record, in_frames, may_write, write_trap, lent, with_table}
use Rattle.bpf_model.specs.Step.{Goes, Traps}
use Rattle.bpf_machine.specs.Cells.{cells_of}
use Rattle.bpf_machine.specs.Seen.{values_of, memory_of, state_of}
use Rattle.bpf_machine.proofs.TableFacts.{table_written}
use Rattle.bpf_machine.proofs.helpers.write.Goals as goal

-- whether an access of so many bytes is allowed
abbrev allowed : ℕ → ℕ → ℕ → ℕ → Bool
allowed record_length frames a size = in_record record_length a size || in_frames frames a size

pub returns-then-not-store_bytes-clause-step : goal.returns-then-not-store_bytes-clause-step
returns-then-not-store_bytes-clause-step g c =
    let size : length c.fill-count.new.words ≡ c.args.request.now.room = search rules in
    let live = c.live_frames-frames.ensures.live c.args.bytes.now c.args.table.now in
    let may : false ≡ may_write (lent c.args.bytes.now c.args.table.now) (state_of c.args.machine.now c.args.bytes.now c.args.table.now) c.args.request.now.address c.args.request.now.room =
    sym c.if-not-store_bytes.true ∙ c.store_bytes.ensures.allowed ∙ ap₂ (λ n m. allowed (length c.args.bytes.now) n c.args.request.now.address m) live size in
    let kind : write_trap (lent c.args.bytes.now c.args.table.now) c.args.request.now.address c.args.request.now.room ≡ c.write_refusal.result = sym (c.write_refusal.ensures c.args.bytes.now) in
    rw (← may) (ap (λ k. Traps k c.args.machine.now.pc) kind)

pub returns-clause-step : goal.returns-clause-step
returns-clause-step g c =
    let graph = g.G.GraphView.graph c.args.graph.now in
    let size : length c.fill-count.new.words ≡ c.args.request.now.room = search rules in
    let live = c.live_frames-frames.ensures.live c.args.bytes.now c.args.table.now in
    let may : true ≡ may_write (lent c.args.bytes.now c.args.table.now) (state_of c.args.machine.now c.args.bytes.now c.args.table.now) c.args.request.now.address c.args.request.now.room =
    sym c.if-not-store_bytes.false ∙ c.store_bytes.ensures.allowed ∙ ap₂ (λ n m. allowed (length c.args.bytes.now) n c.args.request.now.address m) live size in
    let memory : with_values (memory_of c.args.bytes.now (values_of (cells_of c.args.machine.now.stack))) c.args.request.now.address (word_bytes (neighbour_words graph c.args.request.now.vertex c.args.request.now.first (c.args.request.now.room / 4))) ≡ memory_of c.store_bytes.new.bytes (values_of (cells_of c.store_bytes.new.stack)) =
    ap (with_values (memory_of c.args.bytes.now (values_of (cells_of c.args.machine.now.stack))) c.args.request.now.address) (sym c.fill-count.ensures.words) ∙ c.store_bytes.ensures.stored c.if-not-store_bytes.false in
    let words = word_bytes (neighbour_words graph c.args.request.now.vertex c.args.request.now.first (c.args.request.now.room / 4)) in
    let seen = table_written c.args.table.now (memory_of c.args.bytes.now (values_of (cells_of c.args.machine.now.stack))) c.args.request.now.address words ∙ ap (with_table c.args.table.now) memory in
    let count : neighbours_among graph c.args.request.now.vertex c.args.request.now.first (c.args.request.now.room / 4) ≡ c.from.result = sym (c.from.ensures ∙ c.fill-count.ensures.count) in
    rw (← may) (ap₂ (λ m n. Goes (with_answer (record (state_of c.args.machine.now c.args.bytes.now c.args.table.now) { memory = m }) n)) seen count ∙ c.go_on_with.ensures.step c.store_bytes.new.bytes c.args.table.now)

-- A run's steps, and the record that is seen after them.
use Rattle.std.proofs.Common.{◌≡◌, ℕ, suc, ◌+◌, ◌-◌, ◌≤◌, nat_le, false, true, List, length, arith, ap, sym, ◌∙◌}
use Rattle.std.proofs.lemmas.Bool.{cond-true, cond-false, le-leb, lt-leb}
use Rattle.std.specs.Prelude.{slice_get}
use Rattle.std.specs.Option.{option_or}
use Rattle.std.proofs.lemmas.Option.{slice_get-get_or}
use Rattle.graph_model.specs.Graph.{Graph}
use Rattle.bpf_image.specs.Program.{Program}
use Rattle.bpf_image.specs.declared.limits.TheConstants.{MOST_RECORD_LENGTH}
use Rattle.bpf_model.specs.State.{State, start, HasRecord, record_base, table_memory}
use Rattle.bpf_model.specs.Step.{Next, Goes, step}
use Rattle.bpf_model.specs.Run.{after, then_step, Stops}
use Rattle.bpf_model.specs.declared.limits.TheConstants.{STACK_BASE}
use Rattle.bpf_machine.specs.declared.machine.Machine.{Machine}
use Rattle.bpf_machine.specs.Seen.{state_of}

-- the record is seen at its address, below the frames
pub record_seen : (machine : Machine) (bytes table : List ℕ) → length bytes ≤ MOST_RECORD_LENGTH → HasRecord (state_of machine bytes table) bytes
record_seen machine bytes table short k within =
    let below : nat_le STACK_BASE (record_base + k) ≡ false = lt-leb _ _ (omega arith) in
    let above : nat_le record_base (record_base + k) ≡ true = le-leb _ _ (omega arith) in
    let place : (record_base + k) - record_base ≡ k = omega arith in
    let there = slice_get-get_or bytes k 0 within in
    let here = cond-false _ _ _ below ∙ cond-true _ _ _ above ∙ ap (slice_get bytes) place ∙ there in
    ap (λ o. option_or o (table_memory table (record_base + k))) here ∙ sym there

-- where a run stops at a machine's state
pub stops_at : (p : Program) (g : Graph) (old : List ℕ) (k : ℕ) (machine : Machine) (new : List ℕ) (next : Next)
    → after p g k (start p old) ≡ Goes (state_of machine new p.table) → step p g (state_of machine new p.table) ≡ next → length new ≡ length old → length new ≤ MOST_RECORD_LENGTH
    → Stops p g old k next new
stops_at p g old k machine new next reached stops same short = record {
  last = state_of machine new p.table;
  reached = reached;
  stops = stops;
  same_length = same;
  record_bytes = record_seen machine new p.table short;
}

-- one step more
pub after_more : (p : Program) (g : Graph) (k : ℕ) (s t : State) (next : Next)
    → after p g k s ≡ Goes t → step p g t ≡ next → after p g (suc k) s ≡ next
after_more p g k s t next reached stepped = ap (then_step p g) reached ∙ stepped

-- A run, by whether its frontier's vertices are in the graph, and by what its map gave.
use Rattle.std.proofs.Common.{◌≡◌, ℕ, ◌+◌, true, false, List, length, Some, None, Result, Ok, Err, refl, ap, subst, inl, inr, arith}
use Rattle.std.specs.Prelude.{nat_lt, ◌==◌}
use Rattle.std.specs.List.{list_all}
use Rattle.std.proofs.lemmas.Bool.{cases_Bool, and_parts, and_from}
use Rattle.bpf_image.specs.Program.{Program}
use Rattle.map_model.specs.declared.limits.TheConstants.{EDGE_BYTES}
use Rattle.map_model.specs.declared.reduction.Reduction.{Reduction}
use Rattle.graph_model.specs.Graph.{Graph}
use Rattle.past_model.specs.Past.{Past, graph_of}
use Rattle.past_model.proofs.Pasts.{vertex_count-graph_of}
use Rattle.edge_fold.specs.declared.outcome.MapOutcome.{MapOutcome}
use Rattle.edge_fold.specs.declared.rows.Rows.TheVariants.{OfSources}
use Rattle.edge_map.specs.declared.errors.MapError.{MapError}
use Rattle.edge_map.specs.declared.errors.MapError.TheVariants as map
use Rattle.edge_map.specs.Maps.{IsMap, IsFrontier, IsMapped}
use Rattle.session_model.specs.declared.fault.Fault.TheVariants as faults
use Rattle.session_model.specs.Commands.{Answer, EdgesMapped}
use Rattle.session_model.specs.Faults.{argument_fault, is_frontier}
use Rattle.session_model.specs.Session.{Session, program_named, pin_named}
use Rattle.session_model.specs.Responses.{Answers, Fails, run_response, found_response, map_response, map_answer, frontier_of, list_response, listed_response}
use Rattle.session.specs.declared.answer.Answer.{Answer as GivenAnswer}
use Rattle.session.specs.declared.error.CommandError.{CommandError}
use Rattle.session.specs.Performs.{Performs}
use Rattle.session.specs.Runs.{IsAnswerOf}
use Rattle.session.proofs.Frontiers.{frontier_ascends, frontier_is_below, ascends_back, below_back}

pub run_outside : (program pin : List ℕ) (r : Reduction) (argument frontier : List ℕ) (s : Session) (last : Past) → s.past ≡ Some last → list_all (λ v. nat_lt v last.vertex_count) frontier ≡ false → run_response program pin r argument frontier s ≡ Fails faults.Range
run_outside program pin r argument frontier s last past-is below = rw (past-is, below) refl

pub run_inside : (program pin : List ℕ) (r : Reduction) (argument frontier : List ℕ) (s : Session) (last : Past) → s.past ≡ Some last → list_all (λ v. nat_lt v last.vertex_count) frontier ≡ true → found_response program pin r argument frontier (program_named program s.programs) (pin_named pin s.pins) s ≡ run_response program pin r argument frontier s
run_inside program pin r argument frontier s last past-is below = rw (past-is, below) refl

-- a list of a graph's edges
pub list_inside : (program pin argument : List ℕ) (s : Session) (last : Past) → s.past ≡ Some last → listed_response program pin argument (program_named program s.programs) (pin_named pin s.pins) s ≡ list_response program pin argument s
list_inside program pin argument s last past-is = rw past-is refl

-- an argument that fits, and a frontier
no_fault : (argument frontier : List ℕ) (length_of vertices : ℕ) → length argument + EDGE_BYTES ≡ length_of → is_frontier vertices frontier ≡ true → argument_fault argument length_of vertices frontier ≡ None
no_fault argument frontier length_of vertices fits is =
    let same : (length argument + EDGE_BYTES == length_of) ≡ true = grind arith in
    rw (same, is) refl

wrong_length : (argument frontier : List ℕ) (length_of vertices : ℕ) → (length argument + EDGE_BYTES ≡ length_of → ⊥) → argument_fault argument length_of vertices frontier ≡ Some faults.ArgumentLength
wrong_length argument frontier length_of vertices other =
    let same : (length argument + EDGE_BYTES == length_of) ≡ false = grind arith in
    rw same refl

no_frontier : (argument frontier : List ℕ) (length_of vertices : ℕ) → length argument + EDGE_BYTES ≡ length_of → is_frontier vertices frontier ≡ false → argument_fault argument length_of vertices frontier ≡ Some faults.Frontier
no_frontier argument frontier length_of vertices fits none =
    let same : (length argument + EDGE_BYTES == length_of) ≡ true = grind arith in
    rw (same, none) refl

-- the test of a frontier, for vertices of a graph
frontier_passes : (frontier : List ℕ) (g : Graph) → IsFrontier g.vertex_count (frontier_of frontier g) → is_frontier g.vertex_count frontier ≡ true
frontier_passes frontier g is = and_from _ _ (ascends_back frontier g is.0) (below_back frontier g is.1)

frontier_fails : (frontier : List ℕ) (g : Graph) → (IsFrontier g.vertex_count (frontier_of frontier g) → ⊥) → is_frontier g.vertex_count frontier ≡ false
frontier_fails frontier g none = elim (cases_Bool (is_frontier g.vertex_count frontier)) [
  | inl is ↦ (let parts = and_parts _ _ is in absurd (none (frontier_ascends frontier g parts.0, frontier_is_below frontier g parts.1)))
  | inr down ↦ down
]

mapped_answer : (program pin : List ℕ) (p : Program) (g : Graph) (r : Reduction) (argument frontier : List ℕ) (out : MapOutcome) → IsMap OfSources p g r argument frontier out → map_answer program pin p g r argument frontier ≡ EdgesMapped program pin out.edges out.total out.rows.items
mapped_answer program pin p g r argument frontier out is = rw (is.edges, is.total, is.reported) refl

-- what a map gave is the response to the run
pub run_told : (program pin : List ℕ) (r : Reduction) (argument frontier : List ℕ) (p : Program) (past : Past) (s : Session) (told : Result MapOutcome MapError) (result : Result GivenAnswer CommandError) → IsMapped OfSources p (graph_of past) r argument (frontier_of frontier (graph_of past)) told → IsAnswerOf program pin told result → Performs (map_response program pin r argument frontier p past s) result s s
run_told program pin r argument frontier p past s (Ok out) (Ok answer) is said =
    let g = graph_of past in
    let passes : is_frontier past.vertex_count frontier ≡ true = subst (λ n. is_frontier n frontier ≡ true) (vertex_count-graph_of past) (frontier_passes frontier g is.0.1) in
    let fault = no_fault argument frontier p.record_length past.vertex_count is.0.0 passes in
    let answers = mapped_answer program pin p g r argument (frontier_of frontier g) out is.1 in
    rw (fault, said) (ap (λ (a : Answer). Answers a s) answers)
run_told program pin r argument frontier p past s (Ok out) (Err e) is said = absurd said
run_told program pin r argument frontier p past s (Err want) (Ok answer) is said = absurd said
run_told program pin r argument frontier p past s (Err map.ArgumentLength) (Err e) is said =
    rw said (rw (wrong_length argument frontier p.record_length past.vertex_count is) refl, refl)
run_told program pin r argument frontier p past s (Err map.Frontier) (Err e) is said =
    let fails : is_frontier past.vertex_count frontier ≡ false = subst (λ n. is_frontier n frontier ≡ false) (vertex_count-graph_of past) (frontier_fails frontier (graph_of past) is.1) in
    rw said (rw (no_frontier argument frontier p.record_length past.vertex_count is.0 fails) refl, refl)
run_told program pin r argument frontier p past s (Err map.OutOfMemory) (Err e) is said = rw said (inl refl)
run_told program pin r argument frontier p past s (Err map.WorkerRefused) (Err e) is said = rw said (inl refl)

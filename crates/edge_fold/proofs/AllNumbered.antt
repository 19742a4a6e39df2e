-- Each run of an accepted program has a number, so no edge is left out of a map.
use Rattle.std.proofs.Common.{◌≡◌, ℕ, zero, suc, ◌+◌, ◌*◌, ◌≤◌, true, List, Option, Some, [], ◌∷◌, ◌++◌, length, filter, refl, ap, ◌∙◌, lt-ltb, arith}
use Rattle.std.specs.Prelude.{nat_lt}
use Rattle.std.specs.Int.{w32, to_le_bytes}
use Rattle.std.specs.List.{filter_map, sum_by}
use Rattle.std.proofs.Math.Path.{fun_ext}
use Rattle.std.proofs.lemmas.List.Concat.{length-flat_map}
use Rattle.std.proofs.lemmas.List.Sums.{sum_by-append}
use Rattle.bpf_image.specs.Program.{Program}
use Rattle.bpf_model.specs.Run.{number_for, exit_number}
use Rattle.bpf_model.specs.Helpers.{IsView}
use Rattle.graph_model.specs.Graph.{Graph, neighbours, degree, numbers_below, count_pairs}
use Rattle.map_model.specs.EdgeMap.{Inputs, plain, with_ends, input_record, numbers_with, exits_with, all_with, numbered_from, listed_of}
use Rattle.map_model.specs.declared.limits.TheConstants.{EDGE_BYTES, COLUMN_BYTES}
use Rattle.verifier.specs.Walks.{longest}
use Rattle.verifier.specs.Sound.{IsRecord, AlwaysExits}
use Rattle.edge_fold.specs.Laws.{EveryEdgeHasItsNumber, EveryEdgeIsListed}
use Rattle.edge_fold.proofs.EndBytes.{AreBytes, word_more, input_bytes_are, input_long}

-- the record of an edge has the program's length, and is bytes
record_of_edge : (p : Program) (g : Graph) (inputs : Inputs) (source target place : ℕ)
    → length inputs.argument + EDGE_BYTES + COLUMN_BYTES * length inputs.columns ≡ p.record_length → AreBytes inputs.argument
    → IsRecord p (input_record g source target place inputs)
record_of_edge p g inputs source target place fits bytes =
    let own = with_ends inputs.columns inputs.argument source target in
    let long = input_long inputs.columns inputs.argument source target in
    record {
      same_length = omega (arith, fits, long);
      are_bytes =
          let fourth = word_more (degree g source) own (input_bytes_are inputs.columns inputs.argument source target bytes) in
          let third = word_more place (to_le_bytes w32 (degree g source) ++ own) fourth in
          let second = word_more target (to_le_bytes w32 place ++ to_le_bytes w32 (degree g source) ++ own) third in
          word_more source (to_le_bytes w32 target ++ to_le_bytes w32 place ++ to_le_bytes w32 (degree g source) ++ own) second;
    }

module _ (p : Program) (g : Graph) (inputs : Inputs) (view : IsView g) (exits : AlwaysExits p)
    (fits : length inputs.argument + EDGE_BYTES + COLUMN_BYTES * length inputs.columns ≡ p.record_length) (bytes : AreBytes inputs.argument) where
  has_number : (source target place : ℕ) → (n : ℕ) × (number_for p (longest p) g (input_record g source target place inputs) ≡ Some n)
  has_number source target place =
      let exit = exits g (input_record g source target place inputs) view (record_of_edge p g inputs source target place fits bytes) in
      (exit.0, ap exit_number exit.1)

  none_left_out : (source place : ℕ) (targets : List ℕ)
      → length (filter_map (λ (number : Option ℕ). number) (numbers_with p (longest p) g inputs source place targets)) ≡ length targets
  none_left_out source place [] = refl
  none_left_out source place (target ∷ targets) =
      rw (has_number source target place).1 (ap suc (none_left_out source (place + 1) targets))

  all_numbered : (frontier : List ℕ) → length (all_with p (longest p) g inputs frontier) ≡ sum_by (degree g) frontier
  all_numbered frontier =
      length-flat_map (exits_with p (longest p) g inputs) frontier
      ∙ ap (λ count. sum_by count frontier) (fun_ext (λ v. none_left_out v 0 (neighbours g v)))

  pub every_edge : EveryEdgeHasItsNumber p g inputs
  every_edge = all_numbered

module _ (p : Program) (g : Graph) (argument : List ℕ) (view : IsView g) (exits : AlwaysExits p)
    (fits : length argument + EDGE_BYTES + COLUMN_BYTES * 0 ≡ p.record_length) (bytes : AreBytes argument) where
  none_unlisted : (source place : ℕ) (targets : List ℕ)
      → length (filter_map (λ edge. edge) (numbered_from p (longest p) g argument source place targets)) ≡ length targets
  none_unlisted source place [] = refl
  none_unlisted source place (target ∷ targets) =
      rw (has_number p g (plain argument) view exits fits bytes source target place).1 (ap suc (none_unlisted source (place + 1) targets))

  all_listed : (sources : List ℕ) → sum_by (λ v. length (listed_of p (longest p) g argument v)) sources ≡ sum_by (degree g) sources
  all_listed sources = ap (λ count. sum_by count sources) (fun_ext (λ v. none_unlisted v 0 (neighbours g v)))

  degrees_to : (m : ℕ) → m ≤ g.vertex_count → sum_by (degree g) (numbers_below m) ≡ count_pairs m g.vertex_count g.has_edge
  unfolding count_pairs neighbours
  degrees_to zero below = refl
  degrees_to (suc m) below =
      let inside : nat_lt m g.vertex_count ≡ true = lt-ltb m g.vertex_count (omega (arith, below)) in
      let row : degree g m ≡ length (filter (g.has_edge m) (numbers_below g.vertex_count)) = rw inside refl in
      let before = degrees_to m (omega (arith, below)) in
      let both = sum_by-append (degree g) (numbers_below m) (m ∷ []) in
      omega (arith, both, before, row)

  pub every_edge_listed : EveryEdgeIsListed p g argument
  every_edge_listed =
      length-flat_map (listed_of p (longest p) g argument) (numbers_below g.vertex_count)
      ∙ all_listed (numbers_below g.vertex_count) ∙ degrees_to g.vertex_count (omega arith)
